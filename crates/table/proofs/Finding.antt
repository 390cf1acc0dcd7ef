-- Finding a row by its sign words is finding it by its signs: a packed clause and a row of twelve signs have the same four words exactly if they have the same signs.
use Prim.Native.Nat.{ℕ, zero, suc, ◌+◌, ◌<◌}
use native.Mathlib.Nat.{le_of_suc-le-suc}
use native.Mathlib.Omega.{arith}
use mathlib.Core.Path.{◌≡◌, refl, ap, ◌∙◌}
use mathlib.Core.Bool.{Bool, true, false, cond}
use mathlib.Core.List.{List, ◌∷◌, map}
use lib.ListN.{length, get_or}
use Rattle.std.specs.Prelude.{Option, Some, None}
use Rattle.wcsp.specs.Clause.{same}
use Rattle.wcsp.specs.Row.{Row, Absent, nil_absent, cons_absent}
use Rattle.wcsp.specs.Resolve.{no_row}
use Rattle.clause.specs.declared.Clause.{Clause}
use Rattle.clause.specs.Packed.{signs_of}
use Rattle.rows.specs.Raw.{raw_row, same_signs, find_from}
use Rattle.rows.proofs.RowWords.{same_signs_rows}
use Rattle.table.specs.Clauses.{clause_from}
use Rattle.table.specs.Raws.{raw_of}
use Rattle.table.specs.TwelveSigns.{Twelve, signs_clause_from}
use Rattle.table.specs.Carried.{AllCarriedIn, nil_carried, cons_carried}

-- ---- sign words and signs

pub row_words : (r : Row) (x : Clause) (w : ℕ) → Twelve r.signs → same_signs (raw_of r) (raw_row x w) ≡ same r.signs (signs_of x)
row_words r x w t =
    same_signs_rows (clause_from r.signs) x r.weight w ∙ ap (λ c. same c (signs_of x)) (signs_clause_from r.signs t)

-- ---- what is found

-- row k is the first with the signs c
pub record FirstWith (c : List ℕ) (rs : List Row) (k : ℕ) : Type 0 where
  pub within : k < length rs
  pub has : same (get_or rs k no_row).signs c ≡ true
  pub before : (i : ℕ) → i < k → same (get_or rs i no_row).signs c ≡ false

-- what a search that starts to count at j has found
data Finding (c : List ℕ) (rs : List Row) (j : ℕ) : Option ℕ → Type 0 where
  first : (k m : ℕ) → m ≡ j + k → FirstWith c rs k → Finding c rs j (Some m)
  none : Absent c rs → Finding c rs j None

further : {c : List ℕ} {r : Row} {rs : List Row} {j : ℕ} {f : Option ℕ} → same r.signs c ≡ false → Finding c rs (suc j) f → Finding c (r ∷ rs) j f
further e (none a) = none (cons_absent e a)
further {c} {r} {rs} {j} e (first k m q h) =
    first (suc k) m (omega arith) (record { within = omega (arith, h.within); has = h.has; before = before })
  where
    before : (i : ℕ) → i < suc k → same (get_or (r ∷ rs) i no_row).signs c ≡ false
    before zero l = e
    before (suc i) l = h.before i (le_of_suc-le-suc l)

finding : (x : Clause) {limit : ℕ} {rs : List Row} → AllCarriedIn limit rs → (j : ℕ) → Finding (signs_of x) rs j (find_from (raw_row x 0) j (map raw_of rs))
unfolding find_from
finding x nil_carried j = none nil_absent
finding x (cons_carried {r = r} {rs = rs} h t) j =
    rw (row_words r x 0 h.twelve) (go (same r.signs (signs_of x)) refl (finding x t (suc j)))
  where
    go : (b : Bool) → same r.signs (signs_of x) ≡ b → Finding (signs_of x) rs (suc j) (find_from (raw_row x 0) (suc j) (map raw_of rs))
        → Finding (signs_of x) (r ∷ rs) j (cond b (Some j) (find_from (raw_row x 0) (suc j) (map raw_of rs)))
    go true e ih = first 0 j (omega arith) (record { within = omega arith; has = e; before = λ i l. absurd (omega arith) })
    go false e ih = further e ih

at_zero : {c : List ℕ} {rs : List Row} {k : ℕ} → Finding c rs 0 (Some k) → FirstWith c rs k
at_zero {c} {rs} {k} (first i m e h) = let q : i ≡ k = omega arith in rw q at h

missing_zero : {c : List ℕ} {rs : List Row} → Finding c rs 0 None → Absent c rs
missing_zero (none a) = a

module _ (x : Clause) {limit : ℕ} {rs : List Row} (h : AllCarriedIn limit rs) where
  pub found_at : (k : ℕ) → find_from (raw_row x 0) 0 (map raw_of rs) ≡ Some k → FirstWith (signs_of x) rs k
  found_at k e = at_zero (rw e at (finding x h 0))

  pub found_missing : find_from (raw_row x 0) 0 (map raw_of rs) ≡ None → Absent (signs_of x) rs
  found_missing e = missing_zero (rw e at (finding x h 0))
