-- The clauses of a buffer: clause m is the four blocks from 4m on, so a clause that is stored behind the first k leaves those alone.
-- And a clause is stored if it is no tautology, and so kept.
use Prim.Native.Nat.{ℕ, zero, suc, ◌+◌, ◌*◌, ◌<◌, ◌≤◌}
use native.Mathlib.Nat.{le_of_suc-le-suc}
use native.Mathlib.Omega.{arith}
use native.Mathlib.Numerals.{add-one}
use mathlib.Core.Path.{◌≡◌, refl, sym, ap, ap₂, ◌∙◌}
use mathlib.Core.Logic.{◌≢◌}
use mathlib.Core.Bool.{Bool, true, false}
use mathlib.Core.List.{List, [], ◌∷◌, ◌++◌, append-nil}
use lib.ListN.{length, get_or, set, take, drop, replicate, length-set, length-replicate}
use lib.Seq.{get_or-drop, get_or-set_same, get_or-set_other, ext_get_or}
use Rattle.wcsp.specs.Clause.{tautology, kept}
use Rattle.clause.specs.declared.Clause.{Clause}
use Rattle.clause.specs.Packed.{signs_in, signs_of, FitsBlocks, Holds, FullSigns}
use Rattle.clause.proofs.Signs12.{holds_blocks}
use Rattle.conclusions.specs.Buffer.{clauses_in, PackedBuffer}

-- ---- reading

-- clause m of the buffer
abbrev pub clause_in : List ℕ → ℕ → List ℕ
clause_in b m = signs_in (get_or b (4 * m) 0) (get_or b (4 * m + 1) 0) (get_or b (4 * m + 2) 0) (get_or b (4 * m + 3) 0)

four_blocks : {a b c d e f g h : ℕ} → a ≡ e → b ≡ f → c ≡ g → d ≡ h → signs_in a b c d ≡ signs_in e f g h
four_blocks p q r s = λ i. signs_in (p i) (q i) (r i) (s i)

clause_in-drop : (b : List ℕ) (m : ℕ) → clause_in (drop 4 b) m ≡ clause_in b (suc m)
clause_in-drop b m =
    four_blocks (shift (4 * m) (4 * suc m) (omega arith)) (shift (4 * m + 1) (4 * suc m + 1) (omega arith))
    (shift (4 * m + 2) (4 * suc m + 2) (omega arith)) (shift (4 * m + 3) (4 * suc m + 3) (omega arith))
  where
    shift : (i n : ℕ) → n ≡ 4 + i → get_or (drop 4 b) i 0 ≡ get_or b n 0
    shift i n e = get_or-drop 4 b i 0 ∙ ap (λ j. get_or b j 0) (sym e)

pub clauses_in-length : (k : ℕ) (b : List ℕ) → length (clauses_in k b) ≡ k
unfolding clauses_in
clauses_in-length zero b = refl
clauses_in-length (suc k) b = ap suc (clauses_in-length k (drop 4 b))

pub clauses_in-at : (k m : ℕ) (b : List ℕ) → m < k → get_or (clauses_in k b) m [] ≡ clause_in b m
unfolding clauses_in
clauses_in-at zero m b h = absurd (omega arith)
clauses_in-at (suc k) zero b h = refl
clauses_in-at (suc k) (suc m) b h = clauses_in-at k m (drop 4 b) (le_of_suc-le-suc h) ∙ clause_in-drop b m

-- the first k clauses of a buffer are the first k of the first n
pub clauses_in_prefix : (k n : ℕ) (b : List ℕ) → k ≤ n → take k (clauses_in n b) ≡ clauses_in k b
unfolding clauses_in
clauses_in_prefix zero n b h = refl
clauses_in_prefix (suc k) zero b h = absurd (omega arith)
clauses_in_prefix (suc k) (suc n) b h = ap (λ l. clause_in b 0 ∷ l) (clauses_in_prefix k n (drop 4 b) (le_of_suc-le-suc h))

-- clause m is the same in the first k clauses and in the first n
pub clauses_in-same-at : (k n m : ℕ) (b : List ℕ) → m < k → m < n → get_or (clauses_in k b) m [] ≡ get_or (clauses_in n b) m []
clauses_in-same-at k n m b h l = clauses_in-at k m b h ∙ sym (clauses_in-at n m b l)

clauses_in_snoc : (k : ℕ) (b : List ℕ) → clauses_in (suc k) b ≡ clauses_in k b ++ (clause_in b k ∷ [])
unfolding clauses_in
clauses_in_snoc zero b = refl
clauses_in_snoc (suc k) b =
    ap (λ l. clause_in b 0 ∷ l) (clauses_in_snoc k (drop 4 b) ∙ ap (λ c. clauses_in k (drop 4 b) ++ (c ∷ [])) (clause_in-drop b k))

-- two buffers with the same blocks in front have the same clauses there
clauses_in_agree : (k : ℕ) (b e : List ℕ) → ((i : ℕ) → i < 4 * k → get_or b i 0 ≡ get_or e i 0) → clauses_in k b ≡ clauses_in k e
clauses_in_agree k b e h =
    ext_get_or [] _ _ (clauses_in-length k b ∙ sym (clauses_in-length k e))
    (λ m l. at m (rw (clauses_in-length k b) at l))
  where
    at : (m : ℕ) → m < k → get_or (clauses_in k b) m [] ≡ get_or (clauses_in k e) m []
    at m l =
        clauses_in-at k m b l
        ∙ four_blocks (h (4 * m) (omega arith)) (h (4 * m + 1) (omega arith)) (h (4 * m + 2) (omega arith)) (h (4 * m + 3) (omega arith))
        ∙ sym (clauses_in-at k m e l)

pub read_holds : (b : List ℕ) (m : ℕ) → m < 26 → PackedBuffer b
    → Holds (record { a = get_or b (4 * m) 0; b = get_or b (4 * m + 1) 0; c = get_or b (4 * m + 2) 0; d = get_or b (4 * m + 3) 0 })
    (get_or (clauses_in 26 b) m [])
read_holds b m h p = rw (clauses_in-at 26 m b h) (holds_blocks _ _ _ _ (p.blocks _) (p.blocks _) (p.blocks _) (p.blocks _))

-- ---- storing

-- four blocks written from p on
abbrev pub stored : List ℕ → ℕ → ℕ → ℕ → ℕ → ℕ → List ℕ
stored b p w x y z = set (set (set (set b p w) (p + 1) x) (p + 2) y) (p + 3) z

module _ (b : List ℕ) (p w x y z : ℕ) where
  stored_before : (i : ℕ) → i < p → get_or (stored b p w x y z) i 0 ≡ get_or b i 0
  stored_before i h =
      let e : i ≢ p = λ q. omega arith in
      let f : i ≢ p + 1 = λ q. omega arith in
      let g : i ≢ p + 2 = λ q. omega arith in
      let k : i ≢ p + 3 = λ q. omega arith in
      rw (get_or-set_other, get_or-set_other, get_or-set_other, get_or-set_other)

  module _ (fits : p + 3 < length b) where
    stored_0 : get_or (stored b p w x y z) p 0 ≡ w
    stored_0 =
        let f : p ≢ p + 1 = λ q. omega arith in
        let g : p ≢ p + 2 = λ q. omega arith in
        let k : p ≢ p + 3 = λ q. omega arith in
        rw (get_or-set_other, get_or-set_other, get_or-set_other) (get_or-set_same b p w 0 (omega arith))

    stored_1 : get_or (stored b p w x y z) (p + 1) 0 ≡ x
    stored_1 =
        let g : p + 1 ≢ p + 2 = λ q. omega arith in
        let k : p + 1 ≢ p + 3 = λ q. omega arith in
        rw (get_or-set_other, get_or-set_other) (get_or-set_same (set b p w) (p + 1) x 0 (simp length-set (omega arith)))

    stored_2 : get_or (stored b p w x y z) (p + 2) 0 ≡ y
    stored_2 =
        let k : p + 2 ≢ p + 3 = λ q. omega arith in
        rw get_or-set_other (get_or-set_same (set (set b p w) (p + 1) x) (p + 2) y 0 (simp length-set (omega arith)))

    stored_3 : get_or (stored b p w x y z) (p + 3) 0 ≡ z
    stored_3 = get_or-set_same (set (set (set b p w) (p + 1) x) (p + 2) y) (p + 3) z 0 (simp length-set (omega arith))

clauses_in-stored : (b : List ℕ) (k : ℕ) (x : Clause) → 4 * k + 3 < length b
    → clauses_in (k + 1) (stored b (4 * k) x.a x.b x.c x.d) ≡ clauses_in k b ++ (signs_of x ∷ [])
unfolding signs_of
clauses_in-stored b k x h =
    ap (λ n. clauses_in n (stored b (4 * k) x.a x.b x.c x.d)) (add-one k)
    ∙ clauses_in_snoc k (stored b (4 * k) x.a x.b x.c x.d)
    ∙ ap₂ (λ cs c. cs ++ (c ∷ []))
    (clauses_in_agree k _ b (stored_before b (4 * k) _ _ _ _))
    (four_blocks (stored_0 b (4 * k) _ _ _ _ h) (stored_1 b (4 * k) _ _ _ _ h)
    (stored_2 b (4 * k) _ _ _ _ h) (stored_3 b (4 * k) _ _ _ _ h))

small_set : (b : List ℕ) (i w : ℕ) → w < 16777216 → ((j : ℕ) → get_or b j 0 < 16777216) → (j : ℕ) → get_or (set b i w) j 0 < 16777216
small_set [] i w h p j = p j
small_set (u ∷ b) zero w h p zero = h
small_set (u ∷ b) zero w h p (suc j) = p (suc j)
small_set (u ∷ b) (suc i) w h p zero = p zero
small_set (u ∷ b) (suc i) w h p (suc j) = small_set b i w h (λ n. p (suc n)) j

packed-set : (b : List ℕ) (i w : ℕ) → w < 16777216 → PackedBuffer b → PackedBuffer (set b i w)
packed-set b i w h p = record { long = length-set b i w ∙ p.long; blocks = small_set b i w h p.blocks }

pub packed-stored : (b : List ℕ) (n : ℕ) (x : Clause) → FitsBlocks x → PackedBuffer b
    → PackedBuffer (stored b n x.a x.b x.c x.d)
packed-stored b n x q p =
    packed-set _ _ _ q.d (packed-set _ _ _ q.c (packed-set _ _ _ q.b (packed-set b n x.a q.a p)))

-- a buffer of zeros, which is what a caller starts with
pub packed_zeros : PackedBuffer (replicate 104 0)
packed_zeros = record { long = length-replicate {A = ℕ} 104 0; blocks = λ i. zeros 104 i }
  where
    zeros : (n i : ℕ) → get_or (replicate n 0) i 0 < 16777216
    zeros zero i = omega arith
    zeros (suc n) zero = omega arith
    zeros (suc n) (suc i) = zeros n i

-- ---- keeping

-- the answer r to the test for a tautology, for every list of sizes whose full signs are f
abbrev Tested : Clause → Clause → Bool → Type 0
Tested x f r = (ds : List ℕ) → FullSigns f ds → r ≡ tautology ds (signs_of x)

pub keep_none : (b : List ℕ) (k : ℕ) (x f : Clause) (r : Bool) → Tested x f r → r ≡ true
    → (ds : List ℕ) → FullSigns f ds → clauses_in k b ≡ clauses_in k b ++ kept ds (signs_of x ∷ [])
unfolding kept
keep_none b k x f r h e ds g = rw (← (h ds g), e) (sym (append-nil (clauses_in k b)))

pub keep_one : (b : List ℕ) (k : ℕ) (x f : Clause) (r : Bool) → Tested x f r → r ≡ false → k < 26 → PackedBuffer b
    → (ds : List ℕ) → FullSigns f ds
    → clauses_in (k + 1) (stored b (4 * k) x.a x.b x.c x.d) ≡ clauses_in k b ++ kept ds (signs_of x ∷ [])
unfolding kept
keep_one b k x f r h e l p ds g = let m = p.long in rw (← (h ds g), e) (clauses_in-stored b k x (omega arith))
