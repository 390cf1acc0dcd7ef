-- The words in front of the entries, one after another: what a word gives by what it says, and what a size that was read leaves to read.
use Prim.Native.Nat.{ℕ, suc, ◌+◌, ◌-◌, ◌≤◌, ◌<◌}
use native.Mathlib.Omega.{arith}
use native.Mathlib.Decide.{dec_le}
use mathlib.Core.Path.{◌≡◌, refl, sym, ap}
use mathlib.Core.Bool.{Bool, true, false, not, ◌&&◌, cond}
use mathlib.Core.List.{List, [], ◌∷◌, ◌++◌, map}
use mathlib.Core.Option.{Option, none, some}
use lib.ListN.{length, get_or, take, drop}
use lib.Dec.{eqb, leb, ltb}
use borrow.Author.Tests.{le-leb, lt-leb, lt-ltb, le-ltb, ne_eqb, eqb-false}
use Rattle.std.proofs.lemmas.List.{append_assoc, append-nil, drop-drop}
use Rattle.std.specs.Prelude.{Result, Ok, Err, IfOk}
use Rattle.words.specs.declared.Word.{Word}
use Rattle.words.specs.declared.Word.TheVariants.{Head, Size}
use Rattle.words.specs.Layout.{payload_of}
use Rattle.words.specs.Meaning.{word_of}
use Rattle.words.proofs.Said.{by_word}
use Rattle.fields.specs.declared.refusals.Fault.{Fault}
use Rattle.fields.specs.declared.refusals.Fault.TheVariants.{BadHead, BadVariable, BadEntry, CostTooHigh, TooManyEntries}
use Rattle.fields.specs.Limits.{max_variables, max_values, between}
use Rattle.fields.specs.Numbers.{fault_number, fault_in}
use Rattle.fields.specs.Front.{head_in, headed, size_in, good_sizes}
use Rattle.fields.specs.Entries.{entries_from}
use Rattle.fields.specs.Padding.{padded}
use Rattle.fields.proofs.Fronts.{head_some, size_some, in_range, below, above}
use Rattle.entries.specs.Entries.{entries_fault}
use Rattle.input.specs.declared.Instance.{Instance}
use Rattle.input.specs.Instance.{stations_fault, instance_fault, sizes_of, entries_of}
use Rattle.input.specs.Heads.{head_read, size_read}
use Rattle.input.specs.Calls.{validated_of, validate_call}

-- ---- a word by what it says

abbrev pub head_by : Word → Result ℕ Fault
head_by (Head n) = cond (ltb max_variables n) (Err BadHead) (Ok n)
head_by word = Err BadHead

head_one : (p : ℕ) → headed (Err BadHead) Ok (cond (leb p max_variables) (some p) none) ≡ cond (ltb max_variables p) (Err BadHead) (Ok p)
unfolding headed
head_one p = go (dec_le p max_variables)
  where
    go : Dec (p ≤ max_variables) → headed (Err BadHead) Ok (cond (leb p max_variables) (some p) none) ≡ cond (ltb max_variables p) (Err BadHead) (Ok p)
    go (yes h) = rw (le-leb p max_variables h, le-ltb max_variables p h)
    go (no h) = rw (lt-leb p max_variables (omega arith), lt-ltb max_variables p (omega arith))

pub head_said : (w : ℕ) → headed (Err BadHead) Ok (head_in w) ≡ head_by (word_of w)
unfolding head_in headed
head_said w =
    by_word (λ k p. headed (Err BadHead) Ok (cond (eqb k 1 && leb p max_variables) (some p) none)) head_by head_one (λ p. refl) (λ p. refl) (λ p. refl) (λ p. refl)
    (λ p. refl) (λ p. refl) (λ p. refl) (λ p. refl) (λ p. refl) (λ p. refl) (λ p. refl)
    (λ k p n. rw (n 1 (omega arith) (omega arith))) w

abbrev pub size_by : Word → Result ℕ Fault
size_by (Size d) = cond (ltb d 1) (Err BadVariable) (cond (ltb max_values d) (Err BadVariable) (Ok d))
size_by word = Err BadVariable

-- a size from a test of the word
size_tested : Bool → ℕ → Result ℕ Fault
size_tested b p = cond (eqb (cond b p 0) 0) (Err BadVariable) (Ok (cond b p 0))

size_two : (p : ℕ) → size_tested (between 1 p max_values) p ≡ size_by (Size p)
unfolding size_tested
size_two p = go (dec_le 1 p) (dec_le p max_values)
  where
    go : Dec (1 ≤ p) → Dec (p ≤ max_values) → size_tested (between 1 p max_values) p ≡ size_by (Size p)
    go (yes l) (yes h) = rw (in_range 1 p max_values l h, ne_eqb p 0 (omega arith), le-ltb p 1 l, le-ltb max_values p h)
    go (yes l) (no h) = rw (above 1 p max_values (omega arith), le-ltb p 1 l, lt-ltb max_values p (omega arith))
    go (no l) h = rw (below 1 p max_values (omega arith), lt-ltb p 1 (omega arith))

pub size_said : (w : ℕ) → cond (eqb (size_in w) 0) (Err BadVariable) (Ok (size_in w)) ≡ size_by (word_of w)
unfolding size_in size_tested
size_said w =
    by_word (λ k p. size_tested (eqb k 2 && between 1 p max_values) p) size_by (λ p. refl) size_two (λ p. refl) (λ p. refl) (λ p. refl)
    (λ p. refl) (λ p. refl) (λ p. refl) (λ p. refl) (λ p. refl) (λ p. refl) (λ p. refl)
    (λ k p n. rw (n 2 (omega arith) (omega arith))) w

-- ---- a size that was read

size_was : (w d : ℕ) → cond (eqb (size_in w) 0) (Err BadVariable) (Ok (size_in w)) ≡ Ok d → (eqb (size_in w) 0 ≡ false) × (size_in w ≡ d)
size_was w d e = go (eqb (size_in w) 0) refl e
  where
    go : (b : Bool) → eqb (size_in w) 0 ≡ b → cond b (Err BadVariable) (Ok (size_in w)) ≡ Ok d → (eqb (size_in w) 0 ≡ false) × (size_in w ≡ d)
    go true f g = let z : ◌≡◌ {A = ℕ} 0 1 = cc in absurd (omega arith)
    go false f g = (f, cc)

-- what is left to read behind a size, as the fault of the stations and as the sizes
pub sizes_step : (ds : List ℕ) (n i d : ℕ) (ws : List ℕ) → i < n → size_read ws ≡ Ok d
    → (stations_fault (n - i) ds ws ≡ stations_fault (n - (i + 1)) (ds ++ d ∷ []) (drop 1 ws))
    × (ds ++ map payload_of (take (n - i) ws) ≡ (ds ++ d ∷ []) ++ map payload_of (take (n - (i + 1)) (drop 1 ws)))
unfolding stations_fault
sizes_step ds n i d [] h e = let z : ◌≡◌ {A = ℕ} 0 1 = cc in absurd (omega arith)
sizes_step ds n i d (w ∷ ws) h e =
    let more : n - i ≡ suc (n - (i + 1)) = omega arith in
    let (f, s) = size_was w d e in
    let p : size_in w ≡ payload_of w = (size_some w (eqb-false (size_in w) 0 f)).1 in
    (rw (more, f, s), rw (more, append_assoc ds (d ∷ []) (map payload_of (take (n - (i + 1)) ws)), ← p, s))

pub sizes_stop : (ds : List ℕ) (n i : ℕ) (f : Fault) (ws : List ℕ) → i < n → size_read ws ≡ Err f → stations_fault (n - i) ds ws ≡ fault_number f
unfolding stations_fault
sizes_stop ds n i f [] h e =
    let more : n - i ≡ suc (n - (i + 1)) = omega arith in
    let b : BadVariable ≡ f = cc in
    rw (more, ← b)
sizes_stop ds n i f (w ∷ ws) h e =
    let more : n - i ≡ suc (n - (i + 1)) = omega arith in
    rw more (go (eqb (size_in w) 0) e)
  where
    go : (b : Bool) → cond b (Err BadVariable) (Ok (size_in w)) ≡ Err f → cond b 2 (stations_fault (n - (i + 1)) (ds ++ size_in w ∷ []) ws) ≡ fault_number f
    go true g = let b : BadVariable ≡ f = cc in ap fault_number b
    go false g = let z : ◌≡◌ {A = ℕ} 0 1 = cc in absurd (omega arith)

-- the same of whether the sizes are good
pub good_step : (n i d : ℕ) (ws : List ℕ) → i < n → size_read ws ≡ Ok d → good_sizes (n - i) ws ≡ good_sizes (n - (i + 1)) (drop 1 ws)
unfolding good_sizes
good_step n i d [] h e = let z : ◌≡◌ {A = ℕ} 0 1 = cc in absurd (omega arith)
good_step n i d (w ∷ ws) h e =
    let more : n - i ≡ suc (n - (i + 1)) = omega arith in
    let (f, s) = size_was w d e in
    rw (more, f)

pub good_stop : (n i : ℕ) (f : Fault) (ws : List ℕ) → i < n → size_read ws ≡ Err f → (good_sizes (n - i) ws ≡ false) × (fault_number f ≡ 2)
unfolding good_sizes
good_stop n i f [] h e =
    let more : n - i ≡ suc (n - (i + 1)) = omega arith in
    let b : BadVariable ≡ f = cc in
    (rw more, ap fault_number (sym b))
good_stop n i f (w ∷ ws) h e =
    let more : n - i ≡ suc (n - (i + 1)) = omega arith in
    rw more (go (eqb (size_in w) 0) e)
  where
    go : (b : Bool) → cond b (Err BadVariable) (Ok (size_in w)) ≡ Err f → (not b && good_sizes (n - (i + 1)) ws ≡ false) × (fault_number f ≡ 2)
    go true g = let b : BadVariable ≡ f = cc in (refl, ap fault_number (sym b))
    go false g = let z : ◌≡◌ {A = ℕ} 0 1 = cc in absurd (omega arith)

pub good_done : (n i : ℕ) (ws : List ℕ) → n ≤ i → good_sizes (n - i) ws ≡ true
unfolding good_sizes
good_done n i ws h = let none : n - i ≡ 0 = omega arith in rw none

pub sizes_done : (ds : List ℕ) (n i : ℕ) (ws : List ℕ) → n ≤ i
    → (stations_fault (n - i) ds ws ≡ entries_fault ds 0 0 ws) × (ds ++ map payload_of (take (n - i) ws) ≡ ds)
unfolding stations_fault
sizes_done ds n i ws h =
    let none : n - i ≡ 0 = omega arith in
    (rw none, rw (none, append-nil ds))

-- ---- a head that was read

head_was : (w n : ℕ) → headed (Err BadHead) Ok (head_in w) ≡ Ok n → head_in w ≡ some n
unfolding headed
head_was w n e = go (head_in w) e
  where
    go : (o : Option ℕ) → headed (Err BadHead) Ok o ≡ Ok n → o ≡ some n
    go none g = let z : ◌≡◌ {A = ℕ} 0 1 = cc in absurd (omega arith)
    go (some k) g = let h : k ≡ n = cc in ap some h

pub head_bounds : (ws : List ℕ) (n : ℕ) → head_read ws ≡ Ok n → n ≤ max_variables
head_bounds [] n e = let z : 0 ≡ n = cc in omega (arith, z)
head_bounds (w ∷ ws) n e = (head_some w n (head_was w n e)).2

pub head_payload : (ws : List ℕ) (n : ℕ) → head_read ws ≡ Ok n → payload_of (get_or ws 0 0) ≡ n
head_payload [] n e = let z : 0 ≡ n = cc in z
head_payload (w ∷ ws) n e = (head_some w n (head_was w n e)).1

pub head_good : (ws : List ℕ) (n : ℕ) → head_read ws ≡ Ok n → instance_fault ws ≡ stations_fault n [] (drop 1 ws)
unfolding instance_fault stations_fault entries_fault headed
head_good [] n e = let z : 0 ≡ n = cc in rw (← z)
head_good (w ∷ ws) n e = rw (head_was w n e)

pub head_bad : (ws : List ℕ) (f : Fault) → head_read ws ≡ Err f → instance_fault ws ≡ fault_number f
unfolding instance_fault headed
head_bad [] f e = let z : ◌≡◌ {A = ℕ} 0 1 = cc in absurd (omega arith)
head_bad (w ∷ ws) f e = go (head_in w) e
  where
    go : (o : Option ℕ) → headed (Err BadHead) Ok o ≡ Err f → headed 1 (λ n. stations_fault n [] ws) o ≡ fault_number f
    go none g = let b : BadHead ≡ f = cc in ap fault_number b
    go (some k) g = let z : ◌≡◌ {A = ℕ} 0 1 = cc in absurd (omega arith)

-- ---- the whole

pub fault_positive : (f : Fault) → fault_number f ≡ 0 → ⊥
fault_positive BadHead z = omega arith
fault_positive BadVariable z = omega arith
fault_positive BadEntry z = omega arith
fault_positive CostTooHigh z = omega arith
fault_positive TooManyEntries z = omega arith

-- a refusal of the instance: the first test of a call applies
pub fault_known : (f : Fault) (ws : List ℕ) → fault_number f ≡ instance_fault ws → eqb (instance_fault ws) 0 ≡ false
fault_known f ws e = rw (← e) (ne_eqb (fault_number f) 0 (fault_positive f))

pub validated_is : (r : Result Instance Fault) (ws : List ℕ) → fault_in r ≡ instance_fault ws → IfOk r (λ i. i.sizes.items ≡ sizes_of ws)
    → IfOk r (λ i. i.entries ≡ length (entries_of ws)) → validated_of r ≡ validate_call ws
unfolding validate_call
validated_is (Ok i) ws e s k = rw (← e, s, k)
validated_is (Err f) ws e s k = rw (← e, ne_eqb (fault_number f) 0 (fault_positive f))

-- what an accepted instance's readers have read
module _ (ws ds : List ℕ) (n k : ℕ) (h : head_read ws ≡ Ok n) where
  pub read_sizes_are : ds ≡ map payload_of (take n (drop 1 ws)) → ds ≡ sizes_of ws
  unfolding sizes_of
  read_sizes_are e = rw (head_payload ws n h) e

  pub read_entries_are : k ≡ 0 + length (entries_from [] (drop n (drop 1 ws))) → k ≡ length (entries_of ws)
  unfolding entries_of
  read_entries_are e = rw (head_payload ws n h, ← drop-drop n 1 ws) (omega (arith, e))

pub good_is : (ws ds : List ℕ) (k : ℕ) → 0 ≡ instance_fault ws → ds ≡ sizes_of ws → k ≡ length (entries_of ws)
    → record { number = 0; variables = length ds; entries = k; sizes = padded ds } ≡ validate_call ws
unfolding validate_call
good_is ws ds k e s l = rw (← e, s, l)
