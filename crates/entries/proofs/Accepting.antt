-- Entries' words without a fault: the entries that they mean are well formed, few enough and each of a cost within the limit or forbidden. The bindings of the open entry rise up to the variable that the scan has come to.
use Prim.Native.Nat.{ℕ, suc, ◌≤◌, ◌<◌}
use native.Mathlib.Omega.{arith}
use mathlib.Core.Path.{◌≡◌, refl}
use mathlib.Core.Logic.{inl, inr}
use mathlib.Core.Bool.{Bool, true, false, ◌&&◌, ◌||◌, cond}
use mathlib.Core.List.{List, [], ◌∷◌, ◌++◌}
use lib.ListN.{length, get_or}
use lib.Dec.{eqb, leb, ltb}
use borrow.Author.Tests.{leb-true, leb-false, ltb-true, ltb-false}
use Rattle.wcsp.specs.Entry.{Binding, Rising, nil_rising, cons_rising, nil_entries, cons_entries}
use Rattle.words.specs.Layout.{kind_of, payload_of, variable_in, value_in}
use Rattle.fields.specs.Limits.{max_cost, max_entries, forbidden_cost}
use Rattle.fields.specs.Entries.{entries_from, nil_each, cons_each, EntryCost, Entries}
use Rattle.entries.specs.Entries.{goes, stops, scan_binding, scan_closing, scan_cost, scan_forbidden, scan_word, resume, entries_fault}
use Rattle.entries.proofs.Scanning.{known}

-- ---- the bindings of an open entry

-- variables strictly rising from k on, up to below f, values in range
data Rises (ds : List ℕ) : ℕ → List Binding → ℕ → Type 0 where
  none : {k : ℕ} → Rises ds k [] k
  one : {k f : ℕ} {b : Binding} {bs : List Binding} → k ≤ b.variable → b.variable < length ds → b.value < get_or ds b.variable 0
      → Rises ds (suc b.variable) bs f → Rises ds k (b ∷ bs) f

rises_further : {ds : List ℕ} {k f : ℕ} {bs : List Binding} (b : Binding) → Rises ds k bs f → f ≤ b.variable → b.variable < length ds
    → b.value < get_or ds b.variable 0 → Rises ds k (bs ++ (b ∷ [])) (suc b.variable)
rises_further b none h l m = one h l m none
rises_further b (one h' l' m' r) h l m = one h' l' m' (rises_further b r h l m)

rising : {ds : List ℕ} {k f : ℕ} {bs : List Binding} → Rises ds k bs f → Rising ds k bs
rising none = nil_rising
rising (one h l m r) = cons_rising h l m (rising r)

-- ---- the words

stopped : ◌≡◌ {A = ℕ} 3 0 → ⊥
stopped e = omega arith

module _ (ds : List ℕ) where
  -- what the words after a state are to be: entries that are good after each open entry that has come so far
  Rest : ℕ → ℕ → List ℕ → Type 0
  Rest from count ws =
      (bs : List Binding) → count ≤ max_entries → Rises ds 0 bs from → entries_fault ds from count ws ≡ 0 → Entries ds count (entries_from bs ws)

  binding_kept : (from count v a : ℕ) (ws : List ℕ) (bs : List Binding) → Rest (suc v) count ws → count ≤ max_entries → Rises ds 0 bs from
      → resume (λ f c. entries_fault ds f c ws) (scan_binding ds from count v a) ≡ 0
      → Entries ds count (entries_from (bs ++ (record { variable = v; value = a } ∷ [])) ws)
  unfolding Rest resume scan_binding
  binding_kept from count v a ws bs ih l r e = go (leb from v) (ltb a (get_or ds v 0)) refl refl e
    where
      go : (x y : Bool) → leb from v ≡ x → ltb a (get_or ds v 0) ≡ y
          → resume (λ f c. entries_fault ds f c ws) (cond (x && y) (goes (suc v) count) (stops 3)) ≡ 0
          → Entries ds count (entries_from (bs ++ (record { variable = v; value = a } ∷ [])) ws)
      go true true f g e =
          let m : a < get_or ds v 0 = ltb-true a (get_or ds v 0) g in
          ih (bs ++ (record { variable = v; value = a } ∷ [])) l
          (rises_further (record { variable = v; value = a }) r (leb-true from v f) (known ds v a m) m) e
      go true false f g e = absurd (omega arith)
      go false y f g e = absurd (omega arith)

  -- a good word that closes an entry of cost c, at most the limit or that of a forbidden one
  closing_kept : (count c : ℕ) (ws : List ℕ) (from : ℕ) (bs : List Binding) → Rest 0 (suc count) ws → Rises ds 0 bs from
      → EntryCost c
      → resume (λ f k. entries_fault ds f k ws) (scan_closing count) ≡ 0 → Entries ds count (record { bindings = bs; cost = c } ∷ entries_from [] ws)
  unfolding Rest resume scan_closing
  closing_kept count c ws from bs ih r h e = go (leb max_entries count) refl e
    where
      go : (x : Bool) → leb max_entries count ≡ x → resume (λ f k. entries_fault ds f k ws) (cond x (stops 5) (goes 0 (suc count))) ≡ 0
          → Entries ds count (record { bindings = bs; cost = c } ∷ entries_from [] ws)
      go true f e = absurd (omega arith)
      go false f e =
          let rest = ih [] (leb-false max_entries count f) none e in
          let n = rest.number in
          record {
            well_formed = cons_entries (rising r) rest.well_formed;
            number = omega arith;
            costs = cons_each h rest.costs;
          }

  cost-kept : (count c : ℕ) (ws : List ℕ) (from : ℕ) (bs : List Binding) → Rest 0 (suc count) ws → Rises ds 0 bs from
      → resume (λ f k. entries_fault ds f k ws) (scan_cost count c) ≡ 0 → Entries ds count (record { bindings = bs; cost = c } ∷ entries_from [] ws)
  unfolding resume scan_cost
  cost-kept count c ws from bs ih r e = go (ltb max_cost c) refl e
    where
      go : (x : Bool) → ltb max_cost c ≡ x → resume (λ f k. entries_fault ds f k ws) (cond x (stops 4) (scan_closing count)) ≡ 0
          → Entries ds count (record { bindings = bs; cost = c } ∷ entries_from [] ws)
      go true f e = absurd (omega arith)
      go false f e = closing_kept count c ws from bs ih r (inl (ltb-false max_cost c f)) e

  forbidden_kept : (count p : ℕ) (ws : List ℕ) (from : ℕ) (bs : List Binding) → Rest 0 (suc count) ws → Rises ds 0 bs from
      → resume (λ f k. entries_fault ds f k ws) (scan_forbidden count p) ≡ 0
      → Entries ds count (record { bindings = bs; cost = forbidden_cost } ∷ entries_from [] ws)
  unfolding resume scan_forbidden
  forbidden_kept count p ws from bs ih r e = go (eqb p 0) e
    where
      go : (x : Bool) → resume (λ f k. entries_fault ds f k ws) (cond x (scan_closing count) (stops 3)) ≡ 0
          → Entries ds count (record { bindings = bs; cost = forbidden_cost } ∷ entries_from [] ws)
      go true e = closing_kept count forbidden_cost ws from bs ih r (inr refl) e
      go false e = absurd (stopped e)

  entries_good : (ws : List ℕ) (from count : ℕ) → Rest from count ws
  unfolding Rest entries_fault entries_from scan_word resume
  entries_good [] from count bs l r e = record { well_formed = nil_entries; number = omega arith; costs = nil_each }
  entries_good (w ∷ ws) from count bs l r e = go (eqb (kind_of w) 3) (eqb (kind_of w) 4) (eqb (kind_of w) 11) (λ f c. entries_good ws f c) e
    where
      b : Binding
      b = record { variable = variable_in w; value = value_in w }

      go : (x y z : Bool) → ((f c : ℕ) → Rest f c ws)
          → resume (λ f c. entries_fault ds f c ws)
          (cond x (scan_binding ds from count (variable_in w) (value_in w)) (cond y (scan_cost count (payload_of w)) (cond z (scan_forbidden count (payload_of w)) (stops 3)))) ≡ 0
          → Entries ds count
          (cond x (entries_from (bs ++ (b ∷ [])) ws)
          (cond (y || z) (record { bindings = bs; cost = cond y (payload_of w) (cond z forbidden_cost 0) } ∷ entries_from [] ws) (entries_from bs ws)))
      go true y z ih e = binding_kept from count (variable_in w) (value_in w) ws bs (ih (suc (variable_in w)) count) l r e
      go false true z ih e = cost-kept count (payload_of w) ws from bs (ih 0 (suc count)) r e
      go false false true ih e = forbidden_kept count (payload_of w) ws from bs (ih 0 (suc count)) r e
      go false false false ih e = absurd (stopped e)

-- from the start
pub entries_accepted : (ds : List ℕ) (before : ℕ) (ws : List ℕ) → before ≤ max_entries → entries_fault ds 0 before ws ≡ 0
    → Entries ds before (entries_from [] ws)
unfolding Rest
entries_accepted ds before ws h e = entries_good ds ws 0 before [] h none e
