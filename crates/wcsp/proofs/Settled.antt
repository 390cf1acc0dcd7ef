-- What a hunt may remember over a step: variables below the step's own that had no pair have none still, since the step leaves their rows as
-- they are. A candidate needs two rows of one bucket, and every conclusion's bucket is at least the step's variable.
use Prim.Native.Nat.{ℕ, zero, suc, ◌-◌, ◌<◌, ◌≤◌}
use native.Mathlib.Omega.{arith}
use mathlib.Core.Path.{◌≡◌, refl}
use mathlib.Core.Bool.{Bool, true, false, cond}
use mathlib.Core.List.{List, [], ◌∷◌, ◌++◌}
use mathlib.Core.Option.{none}
use lib.ListN.{length, set}
use lib.Bits.{bit_or}
use lib.Dec.{eqb}
use Rattle.wcsp.specs.Sign.{present}
use Rattle.wcsp.specs.Clause.{bucket}
use Rattle.wcsp.specs.Row.{Row, ValidRows}
use Rattle.wcsp.specs.Rule.{joined, excluding, conclusions}
use Rattle.wcsp.specs.Resolve.{Pair, candidate, pair_in, lessen, moved_weight, conclusions_of, resolve}
use Rattle.wcsp.specs.Theorems.{CandidatePair}
use Rattle.wcsp.proofs.Buckets.{bucket_absent, bucket_above}
use Rattle.wcsp.proofs.Validity.{Each, nil_each, cons_each, each_append, each_map}
use Rattle.wcsp.proofs.PairSearch.{signs_at, NoPairIn, pair_in-none}
use Rattle.wcsp.proofs.PairFound.{pair_in_is_none}
use Rattle.wcsp.proofs.NextPair.{other_second}
use Rattle.wcsp.proofs.Adding.{has_row, row_of, raised, fresh, kept_each}
use Rattle.wcsp.proofs.AsWritten.{kept_of, lessened, resolve_as_written}

-- ---- rows without a pair, row by row

pub each_weaken : {P Q : List ℕ → Type 0} {cs : List (List ℕ)} → ((c : List ℕ) → P c → Q c) → Each P cs → Each Q cs
each_weaken f nil_each = nil_each
each_weaken f (cons_each {c = c} h t) = cons_each (f c h) (each_weaken f t)

-- no row goes with x
pub data Alone (ds : List ℕ) (s : ℕ) (x : List ℕ) : List Row → Type 0 where
  nil_alone : Alone ds s x []
  cons_alone : {r : Row} {rs : List Row} → candidate ds s x r.signs ≡ false → Alone ds s x rs → Alone ds s x (r ∷ rs)

-- no row goes with a later one
data Quiet (ds : List ℕ) (s : ℕ) : List Row → Type 0 where
  nil_quiet : Quiet ds s []
  cons_quiet : {r : Row} {rs : List Row} → Alone ds s r.signs rs → Quiet ds s rs → Quiet ds s (r ∷ rs)

module _ (ds : List ℕ) (s : ℕ) where
  pub alone : (x : List ℕ) (rs : List Row) → ((k : ℕ) → k < length rs → candidate ds s x (signs_at rs k) ≡ false) → Alone ds s x rs
  alone x [] f = nil_alone
  alone x (r ∷ rs) f = cons_alone (f 0 (omega arith)) (alone x rs (λ k h. f (suc k) (omega arith)))

  quiet : (rs : List Row) → NoPairIn ds s rs → Quiet ds s rs
  quiet [] f = nil_quiet
  quiet (r ∷ rs) f =
      cons_quiet (alone r.signs rs (λ k h. f 0 (suc k) (omega arith) (omega arith)))
      (quiet rs (λ c d l h. f (suc c) (suc d) (omega arith) (omega arith)))

  pub alone_at : (x : List ℕ) {rs : List Row} → Alone ds s x rs → (k : ℕ) → k < length rs → candidate ds s x (signs_at rs k) ≡ false
  alone_at x nil_alone k h = absurd (omega arith)
  alone_at x (cons_alone e a) zero h = e
  alone_at x (cons_alone e a) (suc k) h = alone_at x a k (omega arith)

  quiet_at : {rs : List Row} → Quiet ds s rs → NoPairIn ds s rs
  quiet_at nil_quiet c d l h = absurd (omega arith)
  quiet_at (cons_quiet {r = r} a q) zero zero l h = absurd (omega arith)
  quiet_at (cons_quiet {r = r} a q) zero (suc d) l h = alone_at r.signs a d (omega arith)
  quiet_at (cons_quiet {r = r} a q) (suc c) zero l h = absurd (omega arith)
  quiet_at (cons_quiet {r = r} a q) (suc c) (suc d) l h = quiet_at q c d (omega arith) (omega arith)

  -- taking weight away changes no signs, and a row less changes nothing for the others
  pub alone_lessen : (x : List ℕ) (u i : ℕ) {rs : List Row} → Alone ds s x rs → Alone ds s x (lessen u i rs)
  unfolding lessen
  alone_lessen x u i nil_alone = nil_alone
  alone_lessen x u zero (cons_alone {r = r} {rs = rs} e a) = go (eqb (r.weight - u) 0)
    where
      go : (b : Bool) → Alone ds s x (cond b rs (row_of r.signs (r.weight - u) ∷ rs))
      go true = a
      go false = cons_alone e a
  alone_lessen x u (suc i) (cons_alone e a) = cons_alone e (alone_lessen x u i a)

  quiet_lessen : (u i : ℕ) {rs : List Row} → Quiet ds s rs → Quiet ds s (lessen u i rs)
  unfolding lessen
  quiet_lessen u i nil_quiet = nil_quiet
  quiet_lessen u zero (cons_quiet {r = r} {rs = rs} a q) = go (eqb (r.weight - u) 0)
    where
      go : (b : Bool) → Quiet ds s (cond b rs (row_of r.signs (r.weight - u) ∷ rs))
      go true = q
      go false = cons_quiet a q
  quiet_lessen u (suc i) (cons_quiet {r = r} a q) = cons_quiet (alone_lessen r.signs u i a) (quiet_lessen u i q)

  pub alone_raised : (x : List ℕ) (u : ℕ) (cs : List (List ℕ)) {rs : List Row} → Alone ds s x rs → Alone ds s x (raised u cs rs)
  unfolding raised
  alone_raised x u cs nil_alone = nil_alone
  alone_raised x u cs (cons_alone e a) = cons_alone e (alone_raised x u cs a)

  quiet_raised : (u : ℕ) (cs : List (List ℕ)) {rs : List Row} → Quiet ds s rs → Quiet ds s (raised u cs rs)
  unfolding raised
  quiet_raised u cs nil_quiet = nil_quiet
  quiet_raised u cs (cons_quiet {r = r} a q) = cons_quiet (alone_raised r.signs u cs a) (quiet_raised u cs q)

  pub alone_fresh : (x : List ℕ) (u : ℕ) {cs : List (List ℕ)} (rs : List Row) → Each (λ c. candidate ds s x c ≡ false) cs → Alone ds s x (fresh u cs rs)
  unfolding fresh
  alone_fresh x u rs nil_each = nil_alone
  alone_fresh x u rs (cons_each {c = c} {cs = cs} n ns) = go (has_row c rs) (alone_fresh x u rs ns)
    where
      go : (b : Bool) → Alone ds s x (fresh u cs rs) → Alone ds s x (cond b (fresh u cs rs) (row_of c u ∷ fresh u cs rs))
      go true a = a
      go false a = cons_alone n a

  quiet_fresh : (u : ℕ) {cs : List (List ℕ)} (rs : List Row) → Each (λ c. bucket c ≡ s → ⊥) cs → Quiet ds s (fresh u cs rs)
  unfolding fresh
  quiet_fresh u rs nil_each = nil_quiet
  quiet_fresh u rs (cons_each {c = c} {cs = cs} n ns) = go (has_row c rs) (quiet_fresh u rs ns)
    where
      go : (b : Bool) → Quiet ds s (fresh u cs rs) → Quiet ds s (cond b (fresh u cs rs) (row_of c u ∷ fresh u cs rs))
      go true q = q
      go false q = cons_quiet (alone_fresh c u rs (each_weaken (other_second ds s c) ns)) q

  pub alone_append : (x : List ℕ) {rs ts : List Row} → Alone ds s x rs → Alone ds s x ts → Alone ds s x (rs ++ ts)
  alone_append x nil_alone b = b
  alone_append x (cons_alone e a) b = cons_alone e (alone_append x a b)

  quiet_append : {rs ts : List Row} → Quiet ds s rs → Quiet ds s ts → ((x : List ℕ) → Alone ds s x ts) → Quiet ds s (rs ++ ts)
  quiet_append nil_quiet q f = q
  quiet_append (cons_quiet {r = r} a p) q f = cons_quiet (alone_append r.signs a (f r.signs)) (quiet_append p q f)

-- ---- the buckets of the conclusions

absent_more : (s S T : ℕ) (c : List ℕ) → S ≡ 0 → T ≡ 0 → s ≤ bucket c → suc s ≤ bucket (bit_or S T ∷ c)
absent_more s S T c e f h = rw (e, f) (omega (arith, bucket_absent c))

joined-bucket : (s : ℕ) (x y : List ℕ) → s ≤ bucket x → s ≤ bucket y → s ≤ bucket (joined x y)
unfolding joined
joined-bucket zero x y h k = omega arith
joined-bucket (suc s) [] y h k = h
joined-bucket (suc s) (S ∷ x) [] h k = k
joined-bucket (suc s) (S ∷ x) (T ∷ y) h k =
    let (e, l) = bucket_above s S x h in
    let (f, m) = bucket_above s T y k in
    absent_more s S T (joined x y) e f (joined-bucket s x y l m)

-- the sign at s is not below it
set-bucket : (s U : ℕ) (c : List ℕ) → s ≤ bucket c → s ≤ bucket (set c s U)
set-bucket zero U c h = omega arith
set-bucket (suc s) U [] h = h
set-bucket (suc s) U (S ∷ c) h = let (e, l) = bucket_above s S c h in rw e (omega (arith, bucket_absent (set c s U), set-bucket s U c l))

each_any : (cs : List (List ℕ)) → Each (λ c. 0 ≤ bucket c) cs
each_any [] = nil_each
each_any (c ∷ cs) = let l : 0 ≤ bucket c = omega arith in cons_each l (each_any cs)

excluding-bucket : (s : ℕ) (ds x y : List ℕ) → s ≤ bucket x → s ≤ bucket y → Each (λ c. s ≤ bucket c) (excluding ds x y)
unfolding excluding present
excluding-bucket zero ds x y h k = each_any (excluding ds x y)
excluding-bucket (suc s) [] x y h k = nil_each
excluding-bucket (suc s) (d ∷ ds) [] y h k = nil_each
excluding-bucket (suc s) (d ∷ ds) (S ∷ x) [] h k = nil_each
excluding-bucket (suc s) (d ∷ ds) (S ∷ x) (T ∷ y) h k =
    let (e, l) = bucket_above s S x h in
    let (f, m) = bucket_above s T y k in
    rw f (each_map (λ c. bit_or S 0 ∷ c) (λ c b. absent_more s S 0 c e refl b) (excluding-bucket s ds x y l m))

pub conclusions-bucket : (s : ℕ) (ds x y : List ℕ) → s ≤ bucket x → s ≤ bucket y → Each (λ c. s ≤ bucket c) (conclusions ds s x y)
unfolding conclusions
conclusions-bucket s ds x y h k =
    cons_each (set-bucket s _ (joined x y) (joined-bucket s x y h k)) (cons_each (joined-bucket s x y h k)
    (each_append (excluding-bucket s ds x _ h (set-bucket s 0 y k)) (excluding-bucket s ds y _ k (set-bucket s 0 x h))))

-- ---- over a step

pub settled_kept : {ds : List ℕ} {rs : List Row} {pr : Pair} → ValidRows ds rs → CandidatePair ds rs pr → (t : ℕ) → t < pr.variable
    → pair_in ds t 0 rs ≡ none → pair_in ds t 0 (resolve ds pr rs) ≡ none
unfolding conclusions_of
settled_kept {ds} {rs} {pr} v c t h e = pair_in_is_none ds t 0 (resolve ds pr rs) (quiet_at ds t {rs = resolve ds pr rs} (rw (resolve_as_written v c.pair) after))
  where
    u : ℕ
    u = moved_weight pr rs

    others : Each (λ b. bucket b ≡ t → ⊥) (kept_of ds pr rs)
    others = kept_each ds (each_weaken (λ b l q. omega arith)
        (conclusions-bucket pr.variable ds _ _ (omega (arith, c.first_in)) (omega (arith, c.second_in))))

    after : Quiet ds t (lessened u pr (raised u (kept_of ds pr rs) rs) ++ fresh u (kept_of ds pr rs) rs)
    after = quiet_append ds t
        (quiet_lessen ds t u pr.first (quiet_lessen ds t u pr.second (quiet_raised ds t u (kept_of ds pr rs) (quiet ds t rs (pair_in-none ds t 0 rs e)))))
        (quiet_fresh ds t u rs others)
        (λ x. alone_fresh ds t x u rs (each_weaken (other_second ds t x) others))
