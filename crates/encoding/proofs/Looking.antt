-- The look before the encoding is written: the signs of the open entry at each word, the search for an earlier equal clause, and the two counts of rows.
use Prim.Native.Nat.{ℕ, ◌+◌, ◌-◌, ◌*◌, ◌%◌, ◌^◌, ◌<◌, ◌≤◌}
use native.Mathlib.Omega.{arith}
use native.Mathlib.Numerals.{add-one}
use mathlib.Core.Path.{◌≡◌, refl, sym, ap, ap₂, ◌∙◌}
use mathlib.Core.Bool.{Bool, true, false, not, ◌&&◌, ◌||◌, cond}
use mathlib.Core.List.{List}
use lib.ListN.{length, get_or, set, take, drop, replicate, drop_of_length-le}
use lib.Seq.{drop-cons}
use lib.Dec.{eqb, leb}
use lib.Pow.{pow_mono}
use borrow.Author.Tests.{eq-eqb, ne_eqb, le-leb}
use Rattle.wcsp.specs.Clause.{same}
use Rattle.words.specs.declared.Word.{Word}
use Rattle.words.specs.declared.Word.TheVariants.{Binding}
use Rattle.words.specs.Layout.{kind_of}
use Rattle.words.specs.Meaning.{word_of}
use Rattle.words.proofs.Inverse.{binding_kind}
use Rattle.fields.specs.Limits.{max_variables, max_values}
use Rattle.fields.specs.Entries.{closes_entry, cost_of}
use Rattle.fields.proofs.Closing.{closes_none}
use Rattle.clause.specs.declared.Clause.{Clause}
use Rattle.clause.specs.Packed.{signs_of, FitsBlocks, Holds}
use Rattle.table.specs.Valid.{has_signs}
use Rattle.encoding.specs.Coding.{Proper, AllProper, positives, signs_after, grown, Coded, nothing_coded, coded_after, coded_to, rows_to}
use Rattle.encoding.proofs.Coding.{coded_start, coded_next, coded_rest, coded_whole, rows_whole, length-grown, has-grown, rows_few, has_stays}

-- ---- one word

-- the bit of a value, as it is shifted
pub value_bit : (a : ℕ) → a < 8 → (1 * 2 ^ a) % 4294967296 ≡ 2 ^ a
value_bit a h = omega (arith, pow_mono {i = a} {j = 8} (omega arith))

pub proper_binding : (fs : List ℕ) (w v a : ℕ) (read : Word) → Proper fs w → read ≡ word_of w → read ≡ Binding v a
    → (v < max_variables) × (a < max_values) × (2 ^ a ≤ get_or fs v 0)
proper_binding fs w v a read p e f = let (k, q, u) = binding_kind w v a (sym e ∙ f) in rw (q, u) at (p k)

module _ (x r : Clause) (fs : List ℕ) (w : ℕ) where
  pub binding_signs : (v a s p : ℕ) → word_of w ≡ Binding v a → s ≡ get_or fs v 0 → p ≡ 2 ^ a → Holds r (set (signs_of x) v (s - p))
      → Holds r (signs_after fs (signs_of x) w)
  unfolding signs_after
  binding_signs v a s p e f g h =
      let (k, q, u) = binding_kind w v a e in
      rw (eq-eqb (kind_of w) 3 k, q, u, ← f, ← g) h

  pub closing_signs : (eqb (kind_of w) 3 ≡ false) × (closes_entry w ≡ true) → Holds r (replicate 12 0) → Holds r (signs_after fs (signs_of x) w)
  unfolding signs_after
  closing_signs (a, b) h = rw (a, b) h

pub other_signs : (x : Clause) (fs : List ℕ) (w : ℕ) → FitsBlocks x → (eqb (kind_of w) 3 ≡ false) × (eqb (kind_of w) 4 ≡ false) × (eqb (kind_of w) 11 ≡ false)
    → Holds x (signs_after fs (signs_of x) w)
unfolding signs_after
other_signs x fs w p (a, b, c) = rw (a, closes_none w (b, c)) (record { packed = p; signs_are = refl })

module _ (w k : ℕ) (s : Bool) (e : k ≡ cost_of w) where
  pub adds_none : k ≡ 0 → false ≡ (not (eqb (cost_of w) 0) && s)
  adds_none z = rw (← e, eq-eqb k 0 z)

  pub adds_same : (b : Bool) → (k ≡ 0 → ⊥) → b ≡ s → b ≡ (not (eqb (cost_of w) 0) && s)
  adds_same b z f = rw (← e, ne_eqb k 0 z) f

-- ---- the words of cost above 0

module _ (ws : List ℕ) (whole n i : ℕ) (inv : n + positives (drop i ws) ≡ whole) where
  module _ (c : ℕ) (w : ℕ) (h : i < length ws) (e : w ≡ get_or ws i 0) (f : c ≡ cost_of w) where
    one_word : positives (drop i ws) ≡ cond (eqb c 0) 0 1 + positives (drop (i + 1) ws)
    unfolding positives
    one_word = rw (f, e, drop-cons ws i 0 h, add-one i)

    pub positive_more : (m : ℕ) → (c ≡ 0 → ⊥) → m ≡ n + 1 → m + positives (drop (i + 1) ws) ≡ whole
    positive_more m z k = let q = rw (ne_eqb c 0 z) at one_word in omega arith

    pub positive_same : (m : ℕ) → c ≡ 0 → m ≡ n → m + positives (drop (i + 1) ws) ≡ whole
    positive_same m z k = let q = rw (eq-eqb c 0 z) at one_word in omega arith

  pub positive_end : length ws ≤ i → n ≡ whole
  unfolding positives
  positive_end h = let z : positives (drop i ws) ≡ 0 = rw (drop_of_length-le ws h) in omega arith

-- ---- the open entry

-- at word i the clause has the signs of the open entry
pub record Open (fs : List ℕ) (at : ℕ) (ws : List ℕ) (x : Clause) (i : ℕ) : Type 0 where
  pub from : at ≤ i
  pub holds : Holds x (coded_to fs at i ws).signs

module _ (fs : List ℕ) (at : ℕ) (ws : List ℕ) where
  pub open_start : (x : Clause) → Holds x (replicate 12 0) → Open fs at ws x at
  open_start x h = record { from = omega arith; holds = rw (coded_start fs at ws) h }

  -- the rows behind word i
  module _ (x : Clause) (i : ℕ) (o : Open fs at ws x i) (h : i < length ws) (w : ℕ) (e : w ≡ get_or ws i 0) where
    pub open_next : (y : Clause) → Holds y (signs_after fs (signs_of x) w) → Open fs at ws y (i + 1)
    unfolding coded_after
    open_next y g =
        let from = o.from in
        record { from = omega arith; holds = rw (coded_next fs at ws i from h, ← e, ← o.holds.signs_are) g }

    pub rows_next : rows_to fs at (i + 1) ws ≡ grown (cost_of w) (signs_of x) (rows_to fs at i ws)
    unfolding coded_after
    rows_next =
        ap (λ (st : Coded). st.rows) (coded_next fs at ws i o.from h)
        ∙ ap₂ (λ W s. grown (cost_of W) s (rows_to fs at i ws)) (sym e) (sym o.holds.signs_are)

-- a word that is read is proper as the words are
pub proper_read : {fs : List ℕ} {at : ℕ} {ws : List ℕ} → AllProper fs at ws → (i : ℕ) → at ≤ i → i < length ws → (w : ℕ) → w ≡ get_or ws i 0
    → Proper fs w
proper_read p i h l w e k = rw e (p.each i h l (ap kind_of (sym e) ∙ k))

-- ---- an earlier clause

pub record Unseen (fs : List ℕ) (at : ℕ) (ws : List ℕ) (c : List ℕ) (x : Clause) (i : ℕ) : Type 0 where
  pub «open» : Open fs at ws x i
  pub none : has_signs c (rows_to fs at i ws) ≡ false

pub unseen_start : (fs : List ℕ) (at : ℕ) (ws c : List ℕ) (x : Clause) → Holds x (replicate 12 0) → Unseen fs at ws c x at
unfolding has_signs
unseen_start fs at ws c x h = record { «open» = open_start fs at ws x h; none = ap (λ (st : Coded). has_signs c st.rows) (coded_start fs at ws) }

module _ (fs : List ℕ) (at : ℕ) (ws c : List ℕ) (x : Clause) (i : ℕ) (u : Unseen fs at ws c x i) (h : i < length ws) (w : ℕ) (e : w ≡ get_or ws i 0)
    (b : Bool) (f : b ≡ (not (eqb (cost_of w) 0) && same (signs_of x) c)) where
  behind : has_signs c (rows_to fs at (i + 1) ws) ≡ b
  behind =
      ap (has_signs c) (rows_next fs at ws x i u.«open» h w e) ∙ has-grown (cost_of w) (signs_of x) (rows_to fs at i ws) c
      ∙ ap₂ (λ p q. p || q) u.none (sym f)

  pub unseen_next : (y : Clause) → b ≡ false → Holds y (signs_after fs (signs_of x) w) → Unseen fs at ws c y (i + 1)
  unseen_next y z g = record { «open» = open_next fs at ws x i u.«open» h w e y g; none = behind ∙ z }

  pub seen_here : (end : ℕ) → i < end → b ≡ true → true ≡ has_signs c (rows_to fs at end ws)
  seen_here end l z =
      let from = u.«open».from in
      sym
      (ap (λ (st : Coded). has_signs c st.rows) (coded_rest fs at ws (i + 1) end (omega arith) (omega arith))
      ∙ has_stays fs c (coded_to fs at (i + 1) ws) (take (end - (i + 1)) (drop (i + 1) ws)) (behind ∙ z))

pub seen_not : (fs : List ℕ) (at : ℕ) (ws c : List ℕ) (x : Clause) (i end : ℕ) → Unseen fs at ws c x i → i ≡ end → false ≡ has_signs c (rows_to fs at end ws)
seen_not fs at ws c x i end u e = rw (← e) (sym u.none)

-- ---- how many rows

-- what the word at i adds: one row, unless its cost is 0 or an earlier entry has its clause
pub fresh-none : (w k m : ℕ) → k ≡ cost_of w → k ≡ 0 → (◌≡◌ {A = ℕ} 0 (cond (eqb (cost_of w) 0) 0 m)) × (0 ≤ 1)
fresh-none w k m e z = (rw (← e, eq-eqb k 0 z), omega arith)

module _ (w k : ℕ) (s : Bool) (e : k ≡ cost_of w) where
  pub fresh_seen : (b : Bool) → (k ≡ 0 → ⊥) → b ≡ s → b ≡ true → (◌≡◌ {A = ℕ} 0 (cond (eqb (cost_of w) 0) 0 (cond s 0 1))) × (0 ≤ 1)
  fresh_seen b z f g = (rw (← e, ne_eqb k 0 z, ← f, g), omega arith)

  pub fresh_new : (b : Bool) → (k ≡ 0 → ⊥) → b ≡ s → b ≡ false → (◌≡◌ {A = ℕ} 1 (cond (eqb (cost_of w) 0) 0 (cond s 0 1))) × (1 ≤ 1)
  fresh_new b z f g = (rw (← e, ne_eqb k 0 z, ← f, g), omega arith)

pub record Counted (fs : List ℕ) (at : ℕ) (ws : List ℕ) (x : Clause) (count i : ℕ) : Type 0 where
  pub «open» : Open fs at ws x i
  pub few : count ≤ i
  pub is : count ≡ length (rows_to fs at i ws)

pub counted_start : (fs : List ℕ) (at : ℕ) (ws : List ℕ) (x : Clause) → Holds x (replicate 12 0) → Counted fs at ws x 0 at
counted_start fs at ws x h = record { «open» = open_start fs at ws x h; few = omega arith; is = sym (ap (λ (st : Coded). length st.rows) (coded_start fs at ws)) }

module _ (fs : List ℕ) (at : ℕ) (ws : List ℕ) (x : Clause) (count i : ℕ) (u : Counted fs at ws x count i) where
  pub counted_next : i < length ws → (w : ℕ) → w ≡ get_or ws i 0 → (m : ℕ)
      → (m ≡ cond (eqb (cost_of w) 0) 0 (cond (has_signs (signs_of x) (rows_to fs at i ws)) 0 1)) × (m ≤ 1)
      → (y : Clause) → Holds y (signs_after fs (signs_of x) w) → Counted fs at ws y (count + m) (i + 1)
  counted_next h w e m (f, l) y g =
      let few = u.few in
      let is = u.is in
      record {
        «open» = open_next fs at ws x i u.«open» h w e y g;
        few = omega arith;
        is =
            ap₂ ◌+◌ is f
            ∙ sym (ap length (rows_next fs at ws x i u.«open» h w e) ∙ length-grown (cost_of w) (signs_of x) (rows_to fs at i ws));
      }

  pub counted_end : length ws ≤ i → count ≡ length (rows_to fs at (length ws) ws)
  counted_end h = u.is ∙ ap length (rows_whole fs at ws i h)

-- ---- room for the rows

-- no row without a word of cost above 0
pub rows_positive : (fs : List ℕ) (at : ℕ) (ws : List ℕ) → length (rows_to fs at (length ws) ws) ≤ positives (drop at ws)
rows_positive fs at ws =
    omega (arith, ap (λ (st : Coded). length st.rows) (coded_whole fs at ws), rows_few fs nothing_coded (drop at ws))

pub fits_positive : (fs : List ℕ) (at : ℕ) (ws : List ℕ) (n room : ℕ) → n ≡ positives (drop at ws) → n ≤ room → true ≡ leb (length (rows_to fs at (length ws) ws)) room
fits_positive fs at ws n room e h = sym (le-leb (length (rows_to fs at (length ws) ws)) room (omega (arith, rows_positive fs at ws)))
