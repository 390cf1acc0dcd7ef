-- The faults of entries' words are numbers up to 5.
use Prim.Native.Nat.{ℕ, suc, ◌≤◌}
use native.Mathlib.Omega.{arith}
use mathlib.Core.Bool.{Bool, true, false, ◌&&◌, cond}
use mathlib.Core.List.{List, [], ◌∷◌}
use lib.ListN.{get_or}
use lib.Dec.{eqb, leb, ltb}
use Rattle.words.specs.Layout.{kind_of, payload_of, variable_in, value_in}
use Rattle.fields.specs.Limits.{max_cost, max_entries}
use Rattle.entries.specs.Entries.{Scanned, goes, stops, scan_binding, scan_closing, scan_cost, scan_forbidden, scan_word, resume, entries_fault}

data ScannedView : Scanned → Type 0 where
  going : {f c : ℕ} → ScannedView (goes f c)
  stopping : {k : ℕ} → k ≤ 5 → ScannedView (stops k)

three : ScannedView (stops 3)
three = let h : 3 ≤ 5 = omega arith in stopping h

binding_view : (sizes : List ℕ) (from count v a : ℕ) → ScannedView (scan_binding sizes from count v a)
unfolding scan_binding
binding_view sizes from count v a = go (leb from v && ltb a (get_or sizes v 0))
  where
    go : (b : Bool) → ScannedView (cond b (goes (suc v) count) (stops 3))
    go true = going
    go false = three

closing_view : (count : ℕ) → ScannedView (scan_closing count)
unfolding scan_closing
closing_view count = go (leb max_entries count)
  where
    go : (b : Bool) → ScannedView (cond b (stops 5) (goes 0 (suc count)))
    go true = let h : 5 ≤ 5 = omega arith in stopping h
    go false = going

cost_view : (count c : ℕ) → ScannedView (scan_cost count c)
unfolding scan_cost
cost_view count c = go (ltb max_cost c)
  where
    go : (b : Bool) → ScannedView (cond b (stops 4) (scan_closing count))
    go true = let h : 4 ≤ 5 = omega arith in stopping h
    go false = closing_view count

forbidden_view : (count p : ℕ) → ScannedView (scan_forbidden count p)
unfolding scan_forbidden
forbidden_view count p = go (eqb p 0)
  where
    go : (b : Bool) → ScannedView (cond b (scan_closing count) (stops 3))
    go true = closing_view count
    go false = three

scan_view : (sizes : List ℕ) (from count w : ℕ) → ScannedView (scan_word sizes from count w)
unfolding scan_word
scan_view sizes from count w = go (eqb (kind_of w) 3) (eqb (kind_of w) 4) (eqb (kind_of w) 11)
  where
    go : (a b c : Bool)
        → ScannedView (cond a (scan_binding sizes from count (variable_in w) (value_in w)) (cond b (scan_cost count (payload_of w)) (cond c (scan_forbidden count (payload_of w)) (stops 3))))
    go true b c = binding_view sizes from count (variable_in w) (value_in w)
    go false true c = cost_view count (payload_of w)
    go false false true = forbidden_view count (payload_of w)
    go false false false = three

pub entries_small : (sizes : List ℕ) (from count : ℕ) (ws : List ℕ) → entries_fault sizes from count ws ≤ 5
unfolding entries_fault resume
entries_small sizes from count [] = go (eqb from 0)
  where
    go : (b : Bool) → cond b 0 3 ≤ 5
    go true = omega arith
    go false = omega arith
entries_small sizes from count (w ∷ ws) =
    go _ (scan_view sizes from count w) (λ f c. entries_small sizes f c ws)
  where
    go : (s : Scanned) → ScannedView s → ((f c : ℕ) → entries_fault sizes f c ws ≤ 5) → resume (λ f c. entries_fault sizes f c ws) s ≤ 5
    go (goes f c) going ih = ih f c
    go (stops k) (stopping h) ih = h
