-- What the finished rows of a step say of it: a refusal, whose number is not 0, or rows that are light enough and fit.
use Prim.Native.Nat.{ℕ, ◌<◌, ◌≤◌}
use native.Mathlib.Omega.{arith}
use mathlib.Core.Path.{◌≡◌, refl}
use mathlib.Core.Bool.{Bool, true, false, cond}
use mathlib.Core.List.{List}
use lib.ListN.{length}
use lib.Dec.{ltb}
use borrow.Author.Tests.{ltb-false}
use Rattle.wcsp.specs.Row.{Row}
use Rattle.wcsp.specs.Resolve.{Pair}
use Rattle.table.specs.Layout.{too_heavy}
use Rattle.stepping.specs.Step.{Stepping, refusing, steps_to, allowed, refusal_of}

pub data Verdict (cap : ℕ) (pr : Pair) (rs : List Row) : Stepping → Type 0 where
  refused : (k : ℕ) → 0 < k → Verdict cap pr rs (refusing k)
  made : too_heavy rs ≡ false → length rs ≤ cap → Verdict cap pr rs (steps_to pr rs)

pub verdict : (cap : ℕ) (pr : Pair) (rs : List Row) → Verdict cap pr rs (allowed cap pr rs)
unfolding allowed
verdict cap pr rs = go (too_heavy rs) refl (ltb cap (length rs)) refl
  where
    go : (a : Bool) → too_heavy rs ≡ a → (b : Bool) → ltb cap (length rs) ≡ b → Verdict cap pr rs (cond a (refusing 11) (cond b (refusing 12) (steps_to pr rs)))
    go true e b f = refused 11 (omega arith)
    go false e true f = refused 12 (omega arith)
    go false e false f = made e (ltb-false cap (length rs) f)

-- the number that the tests give
pub says_all : (cap : ℕ) (pr : Pair) (rs : List Row) → cond (too_heavy rs) 11 (cond (ltb cap (length rs)) 12 0) ≡ refusal_of (allowed cap pr rs)
unfolding allowed refusal_of
says_all cap pr rs = go (too_heavy rs) (ltb cap (length rs))
  where
    go : (a b : Bool) → cond a 11 (cond b 12 0) ≡ refusal_of (cond a (refusing 11) (cond b (refusing 12) (steps_to pr rs)))
    go true b = refl
    go false true = refl
    go false false = refl
