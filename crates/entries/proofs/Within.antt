-- Entries' words without a fault: the cost of each cost word is within the limit.
use Prim.Native.Nat.{ℕ, ◌≤◌}
use native.Mathlib.Omega.{arith}
use mathlib.Core.Path.{◌≡◌, refl, sym}
use mathlib.Core.Bool.{Bool, true, false, cond}
use mathlib.Core.List.{List, [], ◌∷◌}
use lib.Dec.{ltb}
use borrow.Author.Tests.{eq-eqb, ne_eqb, ltb-false}
use Rattle.words.specs.Layout.{kind_of, payload_of}
use Rattle.fields.specs.Limits.{max_cost}
use Rattle.fields.specs.Entries.{Each, nil_each, cons_each}
use Rattle.fields.proofs.Forbidden.{CostWithin}
use Rattle.entries.specs.Entries.{Scanned, goes, stops, scan_closing, scan_cost, scan_word, resume, entries_fault}
use Rattle.entries.proofs.Scanning.{other_goes, word_stops}

word_within : (ds : List ℕ) (from count f c w : ℕ) → goes f c ≡ scan_word ds from count w → CostWithin w
unfolding scan_word scan_cost
word_within ds from count f c w e k = go (ltb max_cost (payload_of w)) refl (rw (ne_eqb (kind_of w) 3 (omega arith), eq-eqb (kind_of w) 4 k) at e)
  where
    go : (b : Bool) → ltb max_cost (payload_of w) ≡ b → goes f c ≡ cond b (stops 4) (scan_closing count) → payload_of w ≤ max_cost
    go true q e = absurd (other_goes f c 4 e)
    go false q e = ltb-false max_cost (payload_of w) q

pub costs_within : (ds : List ℕ) (from count : ℕ) (ws : List ℕ) → entries_fault ds from count ws ≡ 0 → Each CostWithin ws
unfolding entries_fault resume
costs_within ds from count [] e = nil_each
costs_within ds from count (w ∷ ws) e = go (scan_word ds from count w) refl e (λ f c. costs_within ds f c ws)
  where
    go : (x : Scanned) → scan_word ds from count w ≡ x → resume (λ f c. entries_fault ds f c ws) x ≡ 0
        → ((f c : ℕ) → entries_fault ds f c ws ≡ 0 → Each CostWithin ws) → Each CostWithin (w ∷ ws)
    go (goes f c) q e ih = cons_each (word_within ds from count f c w (sym q)) (ih f c e)
    go (stops k) q e ih = absurd (omega (arith, e, word_stops ds from count k w (sym q)))
