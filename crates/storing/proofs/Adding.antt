-- One clause added to a table's raw rows: what the search found decides, and what each of the two writes needs and leaves.
use Prim.Native.Nat.{ℕ, ◌+◌, ◌*◌, ◌<◌, ◌≤◌}
use native.Mathlib.Omega.{arith}
use mathlib.Core.Path.{◌≡◌, sym, ap, ◌∙◌}
use mathlib.Core.List.{List, [], ◌∷◌, ◌++◌}
use lib.ListN.{length, get_or, drop, length-append}
use borrow.Author.Tests.{eq-eqb, ne_eqb}
use Rattle.std.specs.Prelude.{Option, Some, None}
use Rattle.clause.specs.declared.Clause.{Clause}
use Rattle.clause.specs.Packed.{FitsBlocks}
use Rattle.rows.specs.Raw.{row_width, max_weight, no_raw, raw_at, raws_in, Laid, Left, weight_in, raw_row, find_from, reweighed}
use Rattle.rows.proofs.Flat.{length-raws_from, raw_at_lem}
use Rattle.rows.proofs.Searching.{find_at}
use Rattle.storing.specs.Adding.{added_at, added, Addable}
use Rattle.storing.proofs.Laying.{left_refl}
use Rattle.storing.proofs.Changes.{length-reweighed}

module _ (t : List ℕ) (base count : ℕ) (x : Clause) (w : ℕ) (a : Addable t base count x w) where
  pub rows_fit : base + row_width * count ≤ length t
  rows_fit = let n = length-raws_from count (drop base t) in omega (arith, a.laid.fits)

  pub add_none : w ≡ 0 → Left t base t (added (raws_in t base count) x w) × (count ≡ length (added (raws_in t base count) x w))
  unfolding added
  add_none z = rw (eq-eqb w 0 z) (left_refl a.laid, sym (length-raws_from count (drop base t)))

  module _ (some : w ≡ 0 → ⊥) (f : Option ℕ) (e : f ≡ find_from (raw_row x 0) 0 (raws_in t base count)) where
    added_by : added (raws_in t base count) x w ≡ added_at f (raws_in t base count) x w
    unfolding added
    added_by = rw (ne_eqb w 0 some, ← e)

    added_last : f ≡ None → added (raws_in t base count) x w ≡ raws_in t base count ++ (raw_row x w ∷ [])
    unfolding added_at
    added_last m = rw m at added_by

    length_last : f ≡ None → length (added (raws_in t base count) x w) ≡ count + 1
    length_last m =
        ap length (added_last m) ∙ length-append (raws_in t base count) (raw_row x w ∷ [])
        ∙ ap (λ n. n + 1) (length-raws_from count (drop base t))

    pub append_ready : f ≡ None → Laid t base (raws_in t base count) × (base + row_width * count + row_width ≤ length t) × FitsBlocks x × (w ≤ max_weight)
    append_ready m = (a.laid, omega (arith, length_last m, a.room), a.packed, a.small)

    pub appended : f ≡ None → (t' : List ℕ) → Left t base t' (raws_in t base count ++ (raw_row x w ∷ []))
        → Left t base t' (added (raws_in t base count) x w) × (count + 1 ≡ length (added (raws_in t base count) x w))
    appended m t' l = (rw (added_last m) l, sym (length_last m))

    module _ (k : ℕ) (m : f ≡ Some k) where
      pub found_within : k < count
      found_within =
          let n = length-raws_from count (drop base t) in
          omega (arith, (find_at (raw_row x 0) (raws_in t base count) k (sym e ∙ m)).there)

      pub found_fits : base + row_width * k + row_width ≤ length t
      found_fits = omega (arith, found_within, rows_fit)

      added_found : added (raws_in t base count) x w ≡ reweighed (raws_in t base count) k (weight_in (get_or (raws_in t base count) k no_raw) + w)
      unfolding added_at
      added_found = rw m at added_by

      module _ (s : ℕ) (r : s ≡ weight_in (raw_at t (base + row_width * k))) where
        weight_read : s ≡ weight_in (get_or (raws_in t base count) k no_raw)
        weight_read = r ∙ ap weight_in (sym (raw_at_lem t base count k found_within))

        pub sum_small : s + w ≤ max_weight
        sum_small = omega (arith, weight_read, a.light k found_within)

        pub reweighed_as : (t' : List ℕ) → Left t base t' (reweighed (raws_in t base count) k (s + w))
            → Left t base t' (added (raws_in t base count) x w) × (count ≡ length (added (raws_in t base count) x w))
        reweighed_as t' l =
            let q : added (raws_in t base count) x w ≡ reweighed (raws_in t base count) k (s + w)
            = added_found ∙ ap (λ v. reweighed (raws_in t base count) k (v + w)) (sym weight_read) in
            (rw q l, sym (ap length q ∙ length-reweighed (raws_in t base count) k (s + w) ∙ length-raws_from count (drop base t)))
