-- The encoding as it is written: the loop over the words, whose table always carries the rows of the words passed.
use Prim.Native.Nat.{ℕ, zero, suc, ◌+◌, ◌-◌, ◌<◌, ◌≤◌}
use native.Mathlib.Nat.{le_of_suc-le-suc}
use native.Mathlib.Omega.{arith}
use mathlib.Core.Path.{◌≡◌, sym, ap, ◌∙◌}
use mathlib.Core.List.{List, map}
use lib.ListN.{length, get_or, take, drop, replicate, length-map}
use Rattle.wcsp.specs.Row.{Row}
use Rattle.wcsp.specs.Resolve.{no_row}
use Rattle.fields.specs.Entries.{cost_of}
use Rattle.clause.specs.declared.Clause.{Clause}
use Rattle.clause.specs.Packed.{signs_of, Holds}
use Rattle.rows.specs.Raw.{max_weight, no_raw, raws_in, weight_in, Left}
use Rattle.rows.proofs.RowWords.{weight_raw_row}
use Rattle.storing.specs.Adding.{added, Addable}
use Rattle.storing.proofs.FormTables.{left_trans, left_refl}
use Rattle.storing.proofs.Laying.{left_read, left_laid}
use Rattle.table.specs.Clauses.{clause_from}
use Rattle.table.specs.Raws.{raw_of}
use Rattle.table.proofs.Twelve.{Twelve}
use Rattle.table.proofs.Carried.{AllCarried, nil_carried, cons_carried}
use Rattle.encoding.specs.Coding.{costs_in, signs_after, grown, Coded, nothing_coded, coded_to, rows_to, Encodable}
use Rattle.encoding.proofs.Merging.{heft, heft-at, carried_twelve, added-grown}
use Rattle.encoding.proofs.Coding.{coded_start, coded_rest, coded_whole, rows_whole, heft-grown, rows_grow, heft_coded, twelve_to}
use Rattle.encoding.proofs.Looking.{Open, open_start, open_next, rows_next}

-- ---- the words

carried_weight : {rs : List Row} → AllCarried rs → (k : ℕ) → k < length rs → weight_in (get_or (map raw_of rs) k no_raw) ≡ (get_or rs k no_row).weight
carried_weight nil_carried k h = absurd (omega arith)
carried_weight (cons_carried {r = r} q t) zero h = weight_raw_row (clause_from r.signs) r.weight q.light
carried_weight (cons_carried q t) (suc k) h = carried_weight t k (le_of_suc-le-suc h)

-- at word i the table carries the rows of the words passed
pub record Written (fs : List ℕ) (at : ℕ) (ws t₀ : List ℕ) (base : ℕ) (x : Clause) (count : ℕ) (t : List ℕ) (i : ℕ) : Type 0 where
  pub «open» : Open fs at ws x i
  pub left : Left t₀ base t (map raw_of (rows_to fs at i ws))
  pub is : count ≡ length (rows_to fs at i ws)

module _ (fs : List ℕ) (at : ℕ) (ws t₀ : List ℕ) (base : ℕ) (twelve : Twelve fs) (E : Encodable fs at ws t₀ base) where
  pub written_start : (x : Clause) → Holds x (replicate 12 0) → Written fs at ws t₀ base x 0 t₀ at
  written_start x h =
      let none = ap (λ (st : Coded). st.rows) (coded_start fs at ws) in
      record {
        «open» = open_start fs at ws x h;
        left = rw (ap (map raw_of) none) (left_refl E.laid);
        is = sym (ap length none);
      }

  heft-whole : heft (rows_to fs at (length ws) ws) ≡ costs_in (drop at ws)
  unfolding heft
  heft-whole = omega (arith, ap (λ (st : Coded). heft st.rows) (coded_whole fs at ws), heft_coded fs nothing_coded (drop at ws))

  -- no row, and no weight of rows, is lost on the way to the end
  module _ (j : ℕ) (from : at ≤ j) (upto : j ≤ length ws) where
    rows_bounded : length (rows_to fs at j ws) ≤ length (rows_to fs at (length ws) ws)
    rows_bounded =
        omega (arith, ap (λ (st : Coded). length st.rows) (coded_rest fs at ws j (length ws) from upto), rows_grow fs (coded_to fs at j ws) (take (length ws - j) (drop j ws)))

    heft_bounded : heft (rows_to fs at j ws) ≤ max_weight
    heft_bounded =
        omega (arith, ap (λ (st : Coded). heft st.rows) (coded_rest fs at ws j (length ws) from upto), heft_coded fs (coded_to fs at j ws) (take (length ws - j) (drop j ws)), heft-whole, E.costs)

    rows_carried : AllCarried (rows_to fs at j ws)
    rows_carried = carried_twelve (twelve_to fs at j ws twelve) heft_bounded

  module _ (x : Clause) (count : ℕ) (t : List ℕ) (i : ℕ) (W : Written fs at ws t₀ base x count t i) where
    module _ (h : i < length ws) (w : ℕ) (e : w ≡ get_or ws i 0) (c : ℕ) (g : c ≡ cost_of w) where
      raws_read : raws_in t base count ≡ map raw_of (rows_to fs at i ws)
      raws_read = left_read count (length-map (rows_to fs at i ws) raw_of ∙ sym W.is) W.left

      next_rows : rows_to fs at (i + 1) ws ≡ grown c (signs_of x) (rows_to fs at i ws)
      next_rows = rows_next fs at ws x i W.«open» h w e ∙ ap (λ k. grown k (signs_of x) (rows_to fs at i ws)) (sym g)

      here_carried : AllCarried (rows_to fs at i ws)
      here_carried = rows_carried i W.«open».from (omega arith)

      next_raws : added (raws_in t base count) x c ≡ map raw_of (rows_to fs at (i + 1) ws)
      next_raws =
          ap (λ rs. added rs x c) raws_read ∙ added-grown (rows_to fs at i ws) x c here_carried W.«open».holds.packed
          ∙ ap (map raw_of) (sym next_rows)

      next-length : length (added (raws_in t base count) x c) ≡ length (rows_to fs at (i + 1) ws)
      next-length = ap length next_raws ∙ length-map (rows_to fs at (i + 1) ws) raw_of

      next-heft : heft (rows_to fs at i ws) + c ≤ max_weight
      next-heft =
          let from = W.«open».from in
          omega (arith, ap heft next_rows ∙ heft-grown c (signs_of x) (rows_to fs at i ws), heft_bounded (i + 1) (omega arith) (omega arith))

      pub addable : Addable t base count x c
      addable =
          let from = W.«open».from in
          let is = W.is in
          let l : i + 1 ≤ length ws = omega arith in
          record {
            laid = left_laid count (length-map (rows_to fs at i ws) raw_of ∙ sym is) W.left;
            room = omega (arith, next-length, rows_bounded (i + 1) (omega arith) l, E.room, W.left.long);
            packed = W.«open».holds.packed;
            light =
                λ k m.
                rw raws_read
                (omega (arith, carried_weight here_carried k (omega arith), heft-at (rows_to fs at i ws) k, next-heft));
            small = omega (arith, next-heft);
          }

      pub written_next : (t' : List ℕ) (r : ℕ)
          → Left t base t' (added (raws_in t base count) x c) × (r ≡ length (added (raws_in t base count) x c))
          → (y : Clause) → Holds y (signs_after fs (signs_of x) w) → Written fs at ws t₀ base y r t' (i + 1)
      written_next t' r (l, n) y k =
          record {
            «open» = open_next fs at ws x i W.«open» h w e y k;
            left = left_trans W.left (rw next_raws at l);
            is = n ∙ next-length;
          }

    pub written_end : length ws ≤ i
        → Left t₀ base t (map raw_of (rows_to fs at (length ws) ws)) × (count ≡ length (rows_to fs at (length ws) ws))
    written_end h = let e = rows_whole fs at ws i h in rw (← e) (W.left, W.is)
