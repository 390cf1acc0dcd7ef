-- Row k taken out by moving the rows behind it down, one at a time: what holds before each move, and what clearing the last place leaves.
use Prim.Native.Nat.{ℕ, suc, ◌+◌, ◌-◌, ◌*◌, ◌≤◌, ◌<◌}
use native.Mathlib.Omega.{arith}
use mathlib.Core.Path.{◌≡◌, ap, ◌∙◌}
use mathlib.Core.List.{List, ◌++◌}
use lib.ListN.{length, take, drop, replicate, length-set}
use Rattle.rows.specs.Raw.{row_width, no_raw, row_form, raws_in, Laid, Left, without}
use Rattle.rows.proofs.Flat.{row_laws, length-raws_from}
use Rattle.storing.proofs.FormTables.{row_moved, last_cleared}
use Rattle.storing.proofs.Laying.{left_read, left_refl, left_trans}
use Rattle.storing.proofs.Changes.{without_moved, without_last}

-- rows up to place at are settled: without the row there, t has the rows that t₀ has without row k; row j is the next to move
pub record Closing (t₀ : List ℕ) (base count k : ℕ) (t : List ℕ) (j at : ℕ) : Type 0 where
  pub left : Left t₀ base t (raws_in t base count)
  pub same : without (raws_in t base count) (j - 1) ≡ without (raws_in t₀ base count) k
  pub place : at + row_width ≡ base + row_width * j
  pub past : k < j
  pub most : j ≤ count

pub closing_start : (t : List ℕ) (base count k : ℕ) → Laid t base (raws_in t base count) → k < count → Closing t base count k t (k + 1) (base + row_width * k)
closing_start t base count k l h =
    let e : k + 1 - 1 ≡ k = omega arith in
    record {
      left = left_refl l;
      same = ap (without (raws_in t base count)) e;
      place = omega arith;
      past = omega arith;
      most = omega arith;
    }

module _ (t₀ : List ℕ) (base count k : ℕ) (t : List ℕ) (j at : ℕ) (inv : Closing t₀ base count k t j at) (t' : List ℕ) where
  pub closing_next : j < count → t' ≡ take at t ++ (take row_width (drop (at + row_width) t) ++ drop (at + row_width) t) → Closing t₀ base count k t' (j + 1) (at + row_width)
  closing_next h e =
      let rs = raws_in t base count in
      let n = length-raws_from count (drop base t) in
      let here : at ≡ base + row_width * (j - 1) = omega arith in
      let next : j + 1 - 1 ≡ suc (j - 1) = omega arith in
      let moved = row_moved row_form row_laws t t' base rs (j - 1) no_raw inv.left.rows (omega arith) (rw (← here) e) in
      let read = left_read count (length-set rs (j - 1) _ ∙ n) moved in
      record {
        left = rw read (left_trans inv.left moved);
        same = rw (read, next) (without_moved rs (j - 1) (omega arith) ∙ inv.same);
        place = omega arith;
        past = omega arith;
        most = omega arith;
      }

  pub closing_end : count ≤ j → t' ≡ take at t ++ (replicate row_width 0 ++ drop (at + row_width) t) → Left t₀ base t' (without (raws_in t₀ base count) k)
  closing_end h e =
      let rs = raws_in t base count in
      let n = length-raws_from count (drop base t) in
      let here : at ≡ base + row_width * (j - 1) = omega arith in
      let last : suc (j - 1) ≡ length rs = omega arith in
      let cleared = last_cleared row_form row_laws t t' base rs (j - 1) inv.left.rows last (rw (← here) e) in
      rw (← inv.same, without_last rs (j - 1) last) (left_trans inv.left cleared)
