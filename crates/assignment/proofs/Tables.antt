-- The rebuilding in a valid table: what its words say of sizes, rows and full signs, and the turns' laws in these terms.
use Prim.Native.Nat.{ℕ, suc, ◌+◌, ◌*◌, ◌%◌, ◌^◌, ◌<◌, ◌≤◌}
use native.Mathlib.Omega.{arith}
use mathlib.Core.Path.{◌≡◌, sym, ap, ap₂, ◌∙◌}
use mathlib.Core.Bool.{true}
use mathlib.Core.List.{List, ◌++◌}
use lib.ListN.{length, get_or, take, drop, set, take-append-drop, length-take, length-drop, get_or-map}
use lib.Seq.{slice, drop-append-le}
use lib.Count.{count_trailing_zeros}
use Rattle.wcsp.specs.Sign.{full}
use Rattle.wcsp.specs.Row.{ValidRows}
use Rattle.wcsp.specs.Rebuild.{narrowed}
use Rattle.wcsp.proofs.Lists.{along_length}
use Rattle.clause.specs.declared.Clause.{Clause}
use Rattle.clause.specs.Packed.{signs_of, FitsBlocks, Holds, FullSigns}
use Rattle.fields.specs.Padding.{padded, lacking}
use Rattle.fields.proofs.Padding.{sizes_padded}
use Rattle.rows.specs.Raw.{row_width}
use Rattle.table.specs.declared.Shape.{Shape}
use Rattle.table.specs.Meaning.{table_rows_in, variables_of, table_sizes, table_rows, rows_from, domains}
use Rattle.table.specs.Valid.{valid_table}
use Rattle.table.specs.Check.{shape_of}
use Rattle.table.proofs.Twelve.{full_signs_padded, full-packed-padded}
use Rattle.table.proofs.Canonical.{passed, twelve_is_canonical}
use Rattle.table.proofs.Own.{own_widens, own_next}
use Rattle.table.proofs.Finishing.{valid_variables, valid_room}
use Rattle.assignment.specs.Calls.{table_completion}
use Rattle.assignment.specs.Chosen.{Carries, Ready}
use Rattle.assignment.proofs.Bit.{shifted}
use Rattle.assignment.proofs.Choosing.{Settled, Chosen, given_chosen, value_small, one_more, all_chosen}

-- ---- what a valid table says

module _ (t : List ℕ) (v : valid_table t ≡ true) where
  pub few_sizes : length (table_sizes t) ≤ 12
  few_sizes = omega (arith, valid_variables t v, (passed t v).few)

  pub rows_valid_lem : ValidRows (domains t) (table_rows t)
  unfolding domains
  rows_valid_lem = (twelve_is_canonical t v).holdable.valid

  module _ (shape : Shape) (e : shape ≡ shape_of t) where
    pub variables_are : shape.variables ≡ variables_of t
    variables_are = ap (λ s. s.variables) e

    pub few_variables : shape.variables ≤ 12
    few_variables = omega (arith, variables_are, (passed t v).few)

    pub rows_within : shape.variables + 2 + row_width * shape.count ≤ length t
    rows_within = omega (arith, variables_are, ap (λ s. s.count) e, valid_room t v)

    pub rows_are : rows_from shape.count (drop (shape.variables + 2) t) ≡ table_rows t
    unfolding table_rows_in
    rows_are = ap (λ s. rows_from s.count (drop (s.variables + 2) t)) e

    pub fulls_are : FullSigns shape.fulls (domains t)
    unfolding domains
    fulls_are = rw e (full_signs_padded (table_sizes t) few_sizes (twelve_is_canonical t v).holdable.sizes)

    pub fulls_packed : FitsBlocks shape.fulls
    unfolding domains
    fulls_packed = rw e (full-packed-padded (table_sizes t) few_sizes (twelve_is_canonical t v).holdable.sizes)

-- ---- the turns

-- the values chosen from variable k on, where those from another on stood in the target
pub record Rebuilding (t : List ℕ) (from : ℕ) (target₀ target : List ℕ) (chosen : Clause) (k : ℕ) : Type 0 where
  pub packed : FitsBlocks chosen
  pub so_far : Chosen (table_sizes t) (lacking (table_sizes t)) (table_rows t) from (slice from (variables_of t) target₀) target₀ k (signs_of chosen) target

-- a target is its first n bytes and the rest, so from k on it is the values there and the rest
values_stand : (n k : ℕ) (target : List ℕ) → n ≤ length target → k ≤ n → drop k target ≡ slice k n target ++ drop n target
values_stand n k target r l =
    ap (drop k) (sym (take-append-drop n target))
    ∙ drop-append-le k (take n target) (drop n target) (omega (arith, length-take n target))

module _ (t : List ℕ) (shape : Shape) (from : ℕ) (given : Clause) (target₀ : List ℕ) (ready : Ready t shape from given target₀) where
  abbrev values : List ℕ
  values = slice from (variables_of t) target₀

  settled : Settled (table_sizes t) (lacking (table_sizes t)) (table_rows t)
  unfolding domains padded
  settled =
      record {
        sizes = sizes_padded (twelve_is_canonical t ready.valid).holdable.sizes;
        valid = rows_valid_lem t ready.valid;
        done = own_next t ready.valid ∙ ready.done;
      }

  start_low : from ≤ length (table_sizes t)
  start_low = omega (arith, valid_variables t ready.valid, ready.low)

  pub start : Rebuilding t from target₀ target₀ given from
  start =
      record {
        packed = ready.carried.packed;
        so_far = given_chosen (table_sizes t) (lacking (table_sizes t)) (table_rows t) settled from values (signs_of given) target₀ start_low ready.in_range
            ready.carried.signs_are
            (values_stand (variables_of t) from target₀ ready.room ready.low
            ∙ ap (λ n. values ++ drop n target₀) (sym (valid_variables t ready.valid)));
      }

  -- the turn at variable k
  module _ (target : List ℕ) (chosen : Clause) (j k : ℕ) (e : j ≡ suc k) (r : Rebuilding t from target₀ target chosen j) where
    before : Chosen (table_sizes t) (lacking (table_sizes t)) (table_rows t) from values target₀ (suc k) (signs_of chosen) target
    before = rw e at r.so_far

    pub variable_low : k < 12
    variable_low = omega (arith, before.counted, few_sizes t ready.valid)

    pub place_within : k < length target
    place_within = omega (arith, before.counted, before.long, valid_variables t ready.valid, ready.room)

    module _ (F S : ℕ) (f : F ≡ get_or (signs_of shape.fulls) k 0)
        (answer : (q : List ℕ) → Carries (signs_of chosen) (suc k) q → S ≡ narrowed k q F (rows_from shape.count (drop (shape.variables + 2) t))) where
      full_here : F ≡ full (get_or (domains t) k 0)
      unfolding full
      full_here =
          f
          ∙ ap (λ l. get_or l k 0) (fulls_are t ready.valid shape ready.shaped)
          ∙ get_or-map full (domains t) k 0

      narrowed_here : (q : List ℕ) → Carries (signs_of chosen) (suc k) q → S ≡ narrowed k q F (table_rows t)
      narrowed_here q c = answer q c ∙ ap (narrowed k q F) (rows_are t ready.valid shape ready.shaped)

      pub value_bound : count_trailing_zeros 32 S < 8
      unfolding domains padded
      value_bound =
          value_small (table_sizes t) (lacking (table_sizes t)) (table_rows t) settled from values target₀ k (signs_of chosen) target before F S full_here
          narrowed_here

      pub again : (next : Clause) → Holds next (set (signs_of chosen) k (1 * 2 ^ count_trailing_zeros 32 S % 4294967296))
          → Rebuilding t from target₀ (set target k (count_trailing_zeros 32 S)) next k
      unfolding domains padded
      again next h =
          record {
            packed = h.packed;
            so_far = rw (h.signs_are, shifted (count_trailing_zeros 32 S) value_bound)
                (one_more (table_sizes t) (lacking (table_sizes t)) (table_rows t) settled from values target₀ k (signs_of chosen) target before F S full_here
                narrowed_here place_within);
          }

  pub finished : (target : List ℕ) (chosen : Clause) (k : ℕ) → k ≡ 0 → Rebuilding t from target₀ target chosen k
      → target ≡ table_completion t from values ++ drop (variables_of t) target₀
  unfolding table_completion domains padded
  finished target chosen k e r =
      all_chosen (table_sizes t) (lacking (table_sizes t)) (table_rows t) from values target₀ (signs_of chosen) target (rw e at r.so_far)
      ∙ ap₂ (λ p n. p ++ drop n target₀) ((own_widens t ready.valid).own_completed from values counted) (valid_variables t ready.valid)
    where
      counted : from + length values ≡ length (table_sizes t)
      counted = omega (arith, start_low, along_length ready.in_range, length-drop from (table_sizes t))
