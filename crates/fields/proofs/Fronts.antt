-- The front's words: what a head and a station word must be, what comes back from those that are written, and writing them one after another.
use Prim.Native.Nat.{ℕ, zero, suc, ◌+◌, ◌≤◌, ◌<◌, suc-le-suc}
use native.Mathlib.Omega.{arith}
use native.Mathlib.Numerals.{add-one}
use mathlib.Core.Path.{◌≡◌, refl, sym}
use mathlib.Core.Bool.{Bool, true, false, not, ◌&&◌, cond, false≢true}
use mathlib.Core.List.{List, [], ◌∷◌, map}
use mathlib.Core.Option.{none, some}
use lib.ListN.{length, get_or, set, drop, drop_of_length-le}
use lib.Seq.{sets, drop-cons}
use lib.Dec.{eqb, leb}
use borrow.Author.Tests.{eq-eqb, eqb-true, le-leb, lt-leb, leb-true}
use Rattle.wcsp.proofs.Lists.{and_left, and_right}
use Rattle.words.specs.Layout.{kind_of, payload_of, head_word, size_word}
use Rattle.fields.specs.Limits.{max_variables, max_values, between}
use Rattle.fields.specs.Front.{head_in, size_in, good_sizes, front_words}

-- ---- ranges

pub in_range : (low k high : ℕ) → low ≤ k → k ≤ high → between low k high ≡ true
in_range low k high l h = rw (le-leb low k l, le-leb k high h)

pub range_of : (low k high : ℕ) → between low k high ≡ true → (low ≤ k) × (k ≤ high)
range_of low k high e =
    (leb-true low k (and_left (leb low k) (leb k high) e), leb-true k high (and_right (leb low k) (leb k high) e))

pub below : (low k high : ℕ) → k < low → between low k high ≡ false
below low k high h = rw (lt-leb low k h)

pub above : (low k high : ℕ) → high < k → between low k high ≡ false
above low k high h = go (leb low k)
  where
    go : (b : Bool) → (b && leb k high) ≡ false
    go true = lt-leb k high h
    go false = refl

-- ---- a head

pub head_some : (w n : ℕ) → head_in w ≡ some n → (kind_of w ≡ 1) × (payload_of w ≡ n) × (n ≤ max_variables)
unfolding head_in
head_some w n e = go (eqb (kind_of w) 1) (leb (payload_of w) max_variables) refl refl e
  where
    go : (x y : Bool) → eqb (kind_of w) 1 ≡ x → leb (payload_of w) max_variables ≡ y
        → cond (x && y) (some (payload_of w)) none ≡ some n → (kind_of w ≡ 1) × (payload_of w ≡ n) × (n ≤ max_variables)
    go true true f g e =
        let p : payload_of w ≡ n = cc in
        let h = leb-true (payload_of w) max_variables g in
        (eqb-true (kind_of w) 1 f, p, omega arith)
    go true false f g e = let z : ◌≡◌ {A = ℕ} 0 1 = cc in absurd (omega arith)
    go false y f g e = let z : ◌≡◌ {A = ℕ} 0 1 = cc in absurd (omega arith)

pub head_is : (w n : ℕ) → kind_of w ≡ 1 → payload_of w ≡ n → n ≤ max_variables → head_in w ≡ some n
unfolding head_in
head_is w n k p h = rw (eq-eqb (kind_of w) 1 k, p, le-leb n max_variables h)

pub head_none : (w : ℕ) → eqb (kind_of w) 1 ≡ false → head_in w ≡ none
unfolding head_in
head_none w e = rw e

pub head_out : (w n : ℕ) → kind_of w ≡ 1 → payload_of w ≡ n → max_variables < n → head_in w ≡ none
unfolding head_in
head_out w n k p h = rw (eq-eqb (kind_of w) 1 k, p, lt-leb n max_variables h)

-- ---- a station word

pub size_some : (w : ℕ) → (size_in w ≡ 0 → ⊥) → (kind_of w ≡ 2) × (size_in w ≡ payload_of w) × (1 ≤ payload_of w) × (payload_of w ≤ max_values)
unfolding size_in
size_some w n = go (eqb (kind_of w) 2) (between 1 (payload_of w) max_values) refl refl n
  where
    go : (x y : Bool) → eqb (kind_of w) 2 ≡ x → between 1 (payload_of w) max_values ≡ y → (cond (x && y) (payload_of w) 0 ≡ 0 → ⊥)
        → (kind_of w ≡ 2) × (cond (x && y) (payload_of w) 0 ≡ payload_of w) × (1 ≤ payload_of w) × (payload_of w ≤ max_values)
    go true true f g e =
        let (l, h) = range_of 1 (payload_of w) max_values g in
        (eqb-true (kind_of w) 2 f, refl, l, h)
    go true false f g e = absurd (e refl)
    go false y f g e = absurd (e refl)

pub size_is : (w d : ℕ) → kind_of w ≡ 2 → payload_of w ≡ d → 1 ≤ d → d ≤ max_values → size_in w ≡ d
unfolding size_in
size_is w d k p l h = rw (eq-eqb (kind_of w) 2 k, p, in_range 1 d max_values l h)

pub size_none : (w : ℕ) → eqb (kind_of w) 2 ≡ false → size_in w ≡ 0
unfolding size_in
size_none w e = rw e

pub size_out : (w d : ℕ) → kind_of w ≡ 2 → payload_of w ≡ d → between 1 d max_values ≡ false → size_in w ≡ 0
unfolding size_in
size_out w d k p e = rw (eq-eqb (kind_of w) 2 k, p, e)

-- ---- station words in front

pub good_long : (k : ℕ) (ws : List ℕ) → good_sizes k ws ≡ true → k ≤ length ws
unfolding good_sizes
good_long zero ws e = omega arith
good_long (suc k) [] e = absurd (false≢true e)
good_long (suc k) (w ∷ ws) e =
    suc-le-suc (good_long k ws (and_right (not (eqb (size_in w) 0)) (good_sizes k ws) e))

-- ---- written one after another

pub sizes_next : (t sizes : List ℕ) (i : ℕ) → i < length sizes
    → sets t (i + 1) (map size_word (drop i sizes)) ≡ sets (set t (i + 1) (size_word (get_or sizes i 0))) (i + 1 + 1) (map size_word (drop (i + 1) sizes))
sizes_next t sizes i h = rw (add-one (i + 1), add-one i, drop-cons sizes i 0 h)

pub sizes_end : (t sizes : List ℕ) (n : ℕ) → length sizes ≤ n → sets t (n + 1) (map size_word (drop n sizes)) ≡ t
sizes_end t sizes n h = rw (drop_of_length-le sizes h)
