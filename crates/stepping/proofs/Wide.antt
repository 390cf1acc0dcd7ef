-- A step whose finished rows are widened comes to what it comes to, widened: weights and the number of rows stay.
use Prim.Native.Nat.{ℕ}
use mathlib.Core.Path.{◌≡◌, refl}
use mathlib.Core.Bool.{Bool, true, false, cond}
use mathlib.Core.List.{List}
use lib.ListN.{length}
use lib.Dec.{ltb}
use Rattle.wcsp.specs.Row.{Row}
use Rattle.wcsp.specs.Resolve.{Pair}
use Rattle.wcsp.specs.Widening.{wide_rows}
use Rattle.wcsp.proofs.WideningRows.{length-wide, heavy-wide}
use Rattle.rows.specs.Raw.{max_weight}
use Rattle.table.specs.Layout.{too_heavy}
use Rattle.stepping.specs.Step.{Stepping, refusing, steps_to, allowed}

unfoldable pub wide_stepping : ℕ → Stepping → Stepping
wide_stepping k (refusing number) = refusing number
wide_stepping k (steps_to pr rs) = steps_to pr (wide_rows k rs)

pub allowed-wide : (k cap : ℕ) (pr : Pair) (rs : List Row) → allowed cap pr (wide_rows k rs) ≡ wide_stepping k (allowed cap pr rs)
unfolding allowed wide_stepping
allowed-wide k cap pr rs = rw (heavy-wide k max_weight rs, length-wide k rs) (go (too_heavy rs) (ltb cap (length rs)))
  where
    go : (a b : Bool) → cond a (refusing 11) (cond b (refusing 12) (steps_to pr (wide_rows k rs)))
        ≡ wide_stepping k (cond a (refusing 11) (cond b (refusing 12) (steps_to pr rs)))
    go true b = refl
    go false true = refl
    go false false = refl
