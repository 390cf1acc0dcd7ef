-- The entries' words, one after another: what follows from what each does to the scan.
use Prim.Native.Nat.{ℕ, suc, ◌+◌, ◌<◌}
use native.Mathlib.Omega.{arith}
use mathlib.Core.Path.{◌≡◌, refl}
use mathlib.Core.Bool.{Bool, true, false, ◌&&◌, ◌||◌, cond}
use mathlib.Core.List.{List, [], ◌∷◌, ◌++◌}
use lib.ListN.{length, get_or, get_or-eq_default}
use lib.Dec.{eqb, leb, ltb}
use borrow.Author.Tests.{leb-true, leb-false}
use Rattle.wcsp.specs.Entry.{Binding as Bound}
use Rattle.words.specs.Layout.{kind_of, payload_of, variable_in, value_in}
use Rattle.fields.specs.Limits.{max_cost, max_entries}
use Rattle.fields.specs.Entries.{closes_entry, cost_of, entries_from}
use Rattle.entries.specs.Entries.{goes, stops, scan_binding, scan_closing, scan_cost, scan_forbidden, scan_word}

-- a variable with a size is known
pub known : (ds : List ℕ) (v a : ℕ) → a < get_or ds v 0 → v < length ds
known ds v a h = go (leb (length ds) v) refl
  where
    go : (b : Bool) → leb (length ds) v ≡ b → v < length ds
    go true e = let z = get_or-eq_default ds 0 (leb-true (length ds) v e) in absurd (omega arith)
    go false e = leb-false (length ds) v e

-- ---- what follows a word

-- a word that stops the scan has a fault that is no 0
binding_stops : (ds : List ℕ) (from count v a k : ℕ) → stops k ≡ scan_binding ds from count v a → 0 < k
unfolding scan_binding
binding_stops ds from count v a k e = go (leb from v && ltb a (get_or ds v 0)) e
  where
    go : (b : Bool) → stops k ≡ cond b (goes (suc v) count) (stops 3) → 0 < k
    go true e = let z : ◌≡◌ {A = ℕ} 0 1 = cc in absurd (omega arith)
    go false e = let z : k ≡ 3 = cc in omega arith

other_stops : (j k : ℕ) → 0 < j → stops k ≡ stops j → 0 < k
other_stops j k h e = let z : k ≡ j = cc in omega arith

closing_stops : (count k : ℕ) → stops k ≡ scan_closing count → 0 < k
unfolding scan_closing
closing_stops count k e = go (leb max_entries count) e
  where
    go : (b : Bool) → stops k ≡ cond b (stops 5) (goes 0 (suc count)) → 0 < k
    go true e = other_stops 5 k (omega arith) e
    go false e = let z : ◌≡◌ {A = ℕ} 0 1 = cc in absurd (omega arith)

cost-stops : (count c k : ℕ) → stops k ≡ scan_cost count c → 0 < k
unfolding scan_cost
cost-stops count c k e = go (ltb max_cost c) e
  where
    go : (b : Bool) → stops k ≡ cond b (stops 4) (scan_closing count) → 0 < k
    go true e = other_stops 4 k (omega arith) e
    go false e = closing_stops count k e

forbidden_stops : (count p k : ℕ) → stops k ≡ scan_forbidden count p → 0 < k
unfolding scan_forbidden
forbidden_stops count p k e = go (eqb p 0) e
  where
    go : (b : Bool) → stops k ≡ cond b (scan_closing count) (stops 3) → 0 < k
    go true e = closing_stops count k e
    go false e = other_stops 3 k (omega arith) e

pub word_stops : (ds : List ℕ) (from count k w : ℕ) → stops k ≡ scan_word ds from count w → 0 < k
unfolding scan_word
word_stops ds from count k w e = go (eqb (kind_of w) 3) (eqb (kind_of w) 4) (eqb (kind_of w) 11) e
  where
    go : (x y z : Bool)
        → stops k ≡ cond x (scan_binding ds from count (variable_in w) (value_in w)) (cond y (scan_cost count (payload_of w)) (cond z (scan_forbidden count (payload_of w)) (stops 3)))
        → 0 < k
    go true y z e = binding_stops ds from count (variable_in w) (value_in w) k e
    go false true z e = cost-stops count (payload_of w) k e
    go false false true e = forbidden_stops count (payload_of w) k e
    go false false false e = other_stops 3 k (omega arith) e

-- a word that lets the scan go on leaves the count, or closes an entry and counts
binding_goes : (ds : List ℕ) (from count v a f c : ℕ) → goes f c ≡ scan_binding ds from count v a → c ≡ count
unfolding scan_binding
binding_goes ds from count v a f c e = go (leb from v && ltb a (get_or ds v 0)) e
  where
    go : (b : Bool) → goes f c ≡ cond b (goes (suc v) count) (stops 3) → c ≡ count
    go true e = cc
    go false e = let z : ◌≡◌ {A = ℕ} 0 1 = cc in absurd (omega arith)

pub other_goes : (f c k : ℕ) → goes f c ≡ stops k → ⊥
other_goes f c k e = let z : ◌≡◌ {A = ℕ} 0 1 = cc in omega arith

closing_goes : (count f c : ℕ) → goes f c ≡ scan_closing count → c ≡ suc count
unfolding scan_closing
closing_goes count f c e = go (leb max_entries count) e
  where
    go : (b : Bool) → goes f c ≡ cond b (stops 5) (goes 0 (suc count)) → c ≡ suc count
    go true e = absurd (other_goes f c 5 e)
    go false e = cc

cost-goes : (count x f c : ℕ) → goes f c ≡ scan_cost count x → c ≡ suc count
unfolding scan_cost
cost-goes count x f c e = go (ltb max_cost x) e
  where
    go : (b : Bool) → goes f c ≡ cond b (stops 4) (scan_closing count) → c ≡ suc count
    go true e = absurd (other_goes f c 4 e)
    go false e = closing_goes count f c e

forbidden_goes : (count p f c : ℕ) → goes f c ≡ scan_forbidden count p → c ≡ suc count
unfolding scan_forbidden
forbidden_goes count p f c e = go (eqb p 0) e
  where
    go : (b : Bool) → goes f c ≡ cond b (scan_closing count) (stops 3) → c ≡ suc count
    go true e = closing_goes count f c e
    go false e = absurd (other_goes f c 3 e)

-- how many entries there are does not hang on the bindings of an open one
pub count_any : (bs cs : List Bound) (ws : List ℕ) → length (entries_from bs ws) ≡ length (entries_from cs ws)
unfolding entries_from
count_any bs cs [] = refl
count_any bs cs (w ∷ ws) = go (eqb (kind_of w) 3) (closes_entry w) (λ bs cs. count_any bs cs ws)
  where
    bound : List Bound → List Bound
    bound xs = xs ++ (record { variable = variable_in w; value = value_in w } ∷ [])

    found : Bool → Bool → List Bound → ℕ
    found x y xs =
        length
        (cond x (entries_from (bound xs) ws)
        (cond y (record { bindings = xs; cost = cost_of w } ∷ entries_from [] ws) (entries_from xs ws)))

    go : (x y : Bool) → ((bs cs : List Bound) → length (entries_from bs ws) ≡ length (entries_from cs ws)) → found x y bs ≡ found x y cs
    go true y ih = ih (bound bs) (bound cs)
    go false true ih = refl
    go false false ih = ih bs cs

pub count_goes : (ds : List ℕ) (from count f c : ℕ) (ws : List ℕ) (w : ℕ) → goes f c ≡ scan_word ds from count w
    → count + length (entries_from [] (w ∷ ws)) ≡ c + length (entries_from [] ws)
unfolding entries_from scan_word
count_goes ds from count f c ws w e = go (eqb (kind_of w) 3) (eqb (kind_of w) 4) (eqb (kind_of w) 11) e
  where
    b : Bound
    b = record { variable = variable_in w; value = value_in w }

    go : (x y z : Bool)
        → goes f c ≡ cond x (scan_binding ds from count (variable_in w) (value_in w)) (cond y (scan_cost count (payload_of w)) (cond z (scan_forbidden count (payload_of w)) (stops 3)))
        → count + length (cond x (entries_from (b ∷ []) ws) (cond (y || z) (record { bindings = []; cost = cost_of w } ∷ entries_from [] ws) (entries_from [] ws)))
        ≡ c + length (entries_from [] ws)
    go true y z e = omega (arith, binding_goes ds from count (variable_in w) (value_in w) f c e, count_any (b ∷ []) [] ws)
    go false true z e = omega (arith, cost-goes count (payload_of w) f c e)
    go false false true e = omega (arith, forbidden_goes count (payload_of w) f c e)
    go false false false e = absurd (other_goes f c 3 e)
