-- Entries' words one after another: what a word does by what it says, and what a step of the scan keeps.
use Prim.Native.Nat.{ℕ, ◌+◌, ◌/◌, ◌%◌}
use native.Mathlib.Omega.{arith}
use mathlib.Core.Path.{◌≡◌, refl, sym, ap}
use mathlib.Core.Bool.{Bool, true, false, cond}
use mathlib.Core.List.{List, [], ◌∷◌}
use lib.ListN.{length}
use lib.Dec.{eqb}
use Rattle.std.specs.Prelude.{Ok, Err, IfOk}
use Rattle.words.specs.declared.Word.{Word}
use Rattle.words.specs.declared.Word.TheVariants.{Binding, Cost, Forbidden}
use Rattle.words.specs.Meaning.{word_of}
use Rattle.words.proofs.Said.{by_word}
use Rattle.fields.specs.declared.refusals.Fault.TheVariants.{BadEntry}
use Rattle.fields.specs.Numbers.{fault_in}
use Rattle.fields.specs.Entries.{entries_from}
use Rattle.entries.specs.declared.Scan.{Scan}
use Rattle.entries.specs.Scans.{scan_end}
use Rattle.entries.specs.Entries.{Scanned, goes, stops, scan_binding, scan_cost, scan_forbidden, scan_word, resume, entries_fault}

abbrev pub scan_said : List ℕ → ℕ → ℕ → Word → Scanned
scan_said ds from count (Binding v a) = scan_binding ds from count v a
scan_said ds from count (Cost c) = scan_cost count c
scan_said ds from count (Forbidden p) = scan_forbidden count p
scan_said ds from count word = stops 3

pub scan_word_said : (ds : List ℕ) (from count w : ℕ) → scan_word ds from count w ≡ scan_said ds from count (word_of w)
unfolding scan_word
scan_word_said ds from count w =
    by_word
    (λ k p. cond (eqb k 3) (scan_binding ds from count (p / 256) (p % 256)) (cond (eqb k 4) (scan_cost count p) (cond (eqb k 11) (scan_forbidden count p) (stops 3))))
    (scan_said ds from count) (λ p. refl) (λ p. refl) (λ p. refl) (λ p. refl) (λ p. refl) (λ p. refl)
    (λ p. refl) (λ p. refl) (λ p. refl) (λ p. refl) (λ p. refl) (λ p. refl)
    (λ k p n. rw (n 3 (omega arith) (omega arith), n 4 (omega arith) (omega arith), n 11 (omega arith) (omega arith))) w

module _ (ds : List ℕ) (from count w : ℕ) (ws : List ℕ) where
  pub fault_behind : (f c : ℕ) → goes f c ≡ scan_word ds from count w → entries_fault ds from count (w ∷ ws) ≡ entries_fault ds f c ws
  unfolding entries_fault resume
  fault_behind f c e = ap (resume (λ f' c'. entries_fault ds f' c' ws)) (sym e)

  pub fault_there : (k : ℕ) → stops k ≡ scan_word ds from count w → entries_fault ds from count (w ∷ ws) ≡ k
  unfolding entries_fault resume
  fault_there k e = ap (resume (λ f' c'. entries_fault ds f' c' ws)) (sym e)

-- ---- where the words end

pub end_fault : (ds : List ℕ) (s : Scan) → fault_in (scan_end s) ≡ entries_fault ds s.from s.count []
unfolding entries_fault
end_fault ds s = go (eqb s.from 0)
  where
    go : (b : Bool) → fault_in (cond b (Ok s.count) (Err BadEntry)) ≡ cond b 0 3
    go true = refl
    go false = refl

pub end_number : (s : Scan) (n : ℕ) → s.count + length (entries_from [] []) ≡ n → IfOk (scan_end s) (λ k. k ≡ n)
unfolding entries_from
end_number s n e = go (eqb s.from 0)
  where
    go : (b : Bool) → IfOk (cond b (Ok s.count) (Err BadEntry)) (λ k. k ≡ n)
    go true = omega (arith, e)
    go false = tt
