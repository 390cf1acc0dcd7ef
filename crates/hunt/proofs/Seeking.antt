-- The hunt for a second row, turn by turn, over the rows that the table's words give: each law takes the answers of a turn's calls.
use Prim.Native.Nat.{ℕ, ◌+◌, ◌*◌, ◌<◌, ◌≤◌}
use native.Mathlib.Numerals.{add-one}
use native.Mathlib.Omega.{arith}
use mathlib.Core.Path.{◌≡◌, refl, sym, ap, ap₂, ◌∙◌}
use mathlib.Core.Bool.{Bool, true, false, not}
use mathlib.Core.List.{List}
use lib.ListN.{length, get_or, drop}
use borrow.Author.Tests.{not-true, not-false}
use Rattle.wcsp.specs.Clause.{ValidClause, bucket}
use Rattle.wcsp.specs.Row.{ValidRows}
use Rattle.wcsp.specs.Rule.{others, clashing, nested}
use Rattle.wcsp.specs.Resolve.{candidate, partner}
use Rattle.wcsp.proofs.NextPair.{other_second}
use Rattle.clause.specs.declared.Clause.{Clause}
use Rattle.clause.specs.Packed.{signs_of, FullSigns}
use Rattle.rows.specs.Raw.{row_width, raw_at, clause_in}
use Rattle.std.specs.Prelude.{Some, None}
use Rattle.table.proofs.RawRows.{length-rows_from}
use Rattle.hunt.specs.Hunt.{found_of}
use Rattle.hunt.proofs.TableRows.{rows_in, in_rows, signs_read, valid_read}
use Rattle.hunt.proofs.Hunting.{nested_signs, clashing_signs, goes, partner-at, partner_past, partner_end}

module _ (t : List ℕ) (base count : ℕ) (x : Clause) (v : ℕ) (fulls : Clause) where
  -- P holds of every list of sizes with these full signs over which the rows and x are valid, x being of bucket v
  abbrev pub Over : (List ℕ → Type 0) → Type 0
  Over P = (ds : List ℕ) → FullSigns fulls ds → ValidRows ds (rows_in t base count) → ValidClause ds (signs_of x) → bucket (signs_of x) ≡ v → P ds

  -- the rows from `from` up to j do not go with x
  abbrev pub Sought : ℕ → ℕ → Type 0
  Sought from j = Over
      (λ ds. partner ds v (signs_of x) from (drop from (rows_in t base count)) ≡ partner ds v (signs_of x) j (drop j (rows_in t base count)))

  module _ (from j : ℕ) (h : j < count) (sought : Sought from j) where
    -- the clause of row j
    abbrev at_j : Clause
    at_j = clause_in (raw_at t (base + row_width * j))

    passed : Over (λ ds. candidate ds v (signs_of x) (signs_of at_j) ≡ false) → Sought from (j + 1)
    passed n ds f r g k =
        rw add-one (sought ds f r g k
        ∙ partner_past ds v (signs_of x) (rows_in t base count) j (in_rows t base count j h) (rw (signs_read t base count j h at_j refl) (n ds f r g k)))

    -- the signs at v, and whether they nest
    module _ (sign : ℕ) (p : sign ≡ get_or (signs_of x) v 0) (other : ℕ) (q : other ≡ get_or (signs_of at_j) v 0) (b : Bool) (e : b ≡ nested sign other) where
      nests : nested (get_or (signs_of x) v 0) (get_or (signs_of at_j) v 0) ≡ b
      nests = sym (e ∙ ap₂ nested p q)

      pub nested_passed : not b ≡ false → Sought from (j + 1)
      nested_passed o = passed (λ ds f r g k. nested_signs ds v (signs_of x) (signs_of at_j) (nests ∙ not-false b o))

      module _ (y : Clause) (i : y ≡ at_j) (low : ℕ) (m : low ≡ bucket (signs_of y)) where
        row_bucket : low ≡ bucket (signs_of at_j)
        row_bucket = m ∙ ap (λ c. bucket (signs_of c)) i

        pub other_bucket : (low ≡ v → ⊥) → Sought from (j + 1)
        other_bucket n = passed (λ ds f r g k. other_second ds v (signs_of x) (signs_of at_j) (λ o. n (row_bucket ∙ o)))

        -- what clashes answers of row j
        module _ (c : Bool)
            (a : (ds : List ℕ) → FullSigns fulls ds → ValidClause ds (signs_of x) → ValidClause ds (signs_of y) → c ≡ clashing ds (others v (signs_of x)) (others v (signs_of y))) where
          clashes : Over (λ ds. clashing ds (others v (signs_of x)) (others v (signs_of at_j)) ≡ c)
          clashes ds f r g k = sym (a ds f g (valid_read t base count j h y i ds r) ∙ ap (λ c. clashing ds (others v (signs_of x)) (others v (signs_of c))) i)

          pub clash_passed : not c ≡ false → Sought from (j + 1)
          clash_passed o = passed (λ ds f r g k. clashing_signs ds v (signs_of x) (signs_of at_j) (clashes ds f r g k ∙ not-false c o))

          pub found : not b ≡ true → low ≡ v → not c ≡ true → Over (λ ds. Some j ≡ found_of (partner ds v (signs_of x) from (drop from (rows_in t base count))))
          unfolding found_of
          found o u w ds f r g k =
              sym (ap found_of (sought ds f r g k
              ∙ partner-at ds v (signs_of x) (rows_in t base count) j (in_rows t base count j h)
              (rw (signs_read t base count j h at_j refl)
              (goes ds v (signs_of x) (signs_of at_j) k (sym row_bucket ∙ u) (nests ∙ not-true b o) (clashes ds f r g k ∙ not-true c w)))))

  pub missing : (from j : ℕ) → Sought from j → count ≤ j → Over (λ ds. None ≡ found_of (partner ds v (signs_of x) from (drop from (rows_in t base count))))
  unfolding found_of
  missing from j s h ds f r g k =
      let l : length (rows_in t base count) ≤ j = omega (arith, length-rows_from count (drop base t)) in
      sym (ap found_of (s ds f r g k ∙ partner_end ds v (signs_of x) (rows_in t base count) j l))
