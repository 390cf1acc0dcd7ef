-- The twelve signs of four blocks: what one block gains or shows is gained or shown by the whole clause, at that block's places.
-- Each law is the block's own, carried past the blocks before it.
use Prim.Native.Nat.{ℕ, zero, suc, ◌+◌, ◌<◌, ◌≤◌}
use native.Mathlib.Omega.{arith}
use mathlib.Core.Path.{◌≡◌, refl, sym, ap, ◌∙◌}
use mathlib.Core.Bool.{Bool, true, false}
use mathlib.Core.List.{List, [], ◌++◌}
use lib.ListN.{length, get_or, set, take, drop, replicate, get_or-append}
use lib.Seq.{set-append_left, get_or-append-add}
use lib.Bits.{bit_or}
use lib.Dec.{eqb}
use borrow.Author.Tests.{eqb-true, eqb-false}
use Rattle.wcsp.specs.Clause.{same, bucket}
use Rattle.wcsp.specs.Rule.{joined}
use Rattle.wcsp.proofs.Lists.{same_refl, same-eq, ne_same}
use Rattle.words.specs.Layout.{unpacked}
use Rattle.words.proofs.Packing.{parts_bounded}
use Rattle.clause.specs.declared.Clause.{Clause}
use Rattle.clause.specs.Packed.{signs_in, signs_of, FitsBlocks, Holds}
use Rattle.clause.proofs.Blocks.{unpacked_injective, joined_block, or_small, bucket_block, bucket-zero}

-- the signs from the second, the third and the last block on
abbrev from_b : Clause → List ℕ
from_b x = unpacked x.b ++ (unpacked x.c ++ unpacked x.d)

abbrev from_c : Clause → List ℕ
from_c x = unpacked x.c ++ unpacked x.d

abbrev from_d : Clause → List ℕ
from_d x = unpacked x.d

pub signs_of-length : (x : Clause) → length (signs_of x) ≡ 12
unfolding signs_of
signs_of-length x = refl

pub holds_blocks : (a b c d : ℕ) → a < 16777216 → b < 16777216 → c < 16777216 → d < 16777216
    → Holds (record { a = a; b = b; c = c; d = d }) (signs_in a b c d)
unfolding signs_of
holds_blocks a b c d h k l m = record { packed = record { a = h; b = k; c = l; d = m }; signs_are = refl }

pub empty_holds : Holds (record { a = 0; b = 0; c = 0; d = 0 }) (replicate 12 0)
unfolding signs_of
empty_holds = record { packed = record { a = omega arith; b = omega arith; c = omega arith; d = omega arith }; signs_are = refl }

-- ---- one sign read

here : (x : ℕ) (u : List ℕ) (k r : ℕ) → r ≡ get_or (unpacked x) k 0 → k < 3 → r ≡ get_or (unpacked x ++ u) k 0
here x u k r e h = e ∙ sym (get_or-append (unpacked x) u 0 k h)

past : (x : ℕ) (u : List ℕ) (k r : ℕ) → r ≡ get_or u k 0 → r ≡ get_or (unpacked x ++ u) (3 + k) 0
past x u k r e = e ∙ sym (get_or-append-add (unpacked x) u k 0)

module _ (x : Clause) (v k r : ℕ) where
  pub sign_a : (r ≡ get_or (unpacked x.a) k 0) × (r < 256) → v ≡ k → k < 3 → (r ≡ get_or (signs_of x) v 0) × (r < 256)
  unfolding signs_of
  sign_a (e, l) p h = (rw p (here x.a (from_b x) k r e h), l)

  pub sign_b : (r ≡ get_or (unpacked x.b) k 0) × (r < 256) → v ≡ 3 + k → k < 3 → (r ≡ get_or (signs_of x) v 0) × (r < 256)
  unfolding signs_of
  sign_b (e, l) p h = (rw p (past x.a (from_b x) k r (here x.b (from_c x) k r e h)), l)

  pub sign_c : (r ≡ get_or (unpacked x.c) k 0) × (r < 256) → v ≡ 6 + k → k < 3 → (r ≡ get_or (signs_of x) v 0) × (r < 256)
  unfolding signs_of
  sign_c (e, l) p h =
      let q : v ≡ 3 + (3 + k) = omega arith in
      (rw q (past x.a (from_b x) (3 + k) r (past x.b (from_c x) k r (here x.c (from_d x) k r e h))), l)

  pub sign_d : (r ≡ get_or (unpacked x.d) k 0) × (r < 256) → v ≡ 9 + k → (r ≡ get_or (signs_of x) v 0) × (r < 256)
  unfolding signs_of
  sign_d (e, l) p =
      let q : v ≡ 3 + (3 + (3 + k)) = omega arith in
      (rw q (past x.a (from_b x) (3 + (3 + k)) r (past x.b (from_c x) (3 + k) r (past x.c (from_d x) k r e))), l)

small : (x : ℕ) (u : List ℕ) → x < 16777216 → ((k : ℕ) → get_or u k 0 < 256) → (v : ℕ) → get_or (unpacked x ++ u) v 0 < 256
small x u h f zero = (parts_bounded x h).0
small x u h f (suc zero) = (parts_bounded x h).1
small x u h f (suc (suc zero)) = (parts_bounded x h).2
small x u h f (suc (suc (suc v))) = f v

-- every sign of a packed clause is a byte
pub sign_small : (x : Clause) → FitsBlocks x → (v : ℕ) → get_or (signs_of x) v 0 < 256
unfolding signs_of
sign_small x p =
    small x.a (from_b x) p.a (small x.b (from_c x) p.b
    (small x.c (from_d x) p.c (small x.d [] p.d (λ v. omega arith))))

-- ---- one sign replaced

put_here : (x r : ℕ) (u : List ℕ) (k s : ℕ) → unpacked r ≡ set (unpacked x) k s → k < 3 → unpacked r ++ u ≡ set (unpacked x ++ u) k s
put_here x r u k s e h = ap (λ l. l ++ u) e ∙ sym (set-append_left (unpacked x) u k s h)

put_past : (x : ℕ) (u w : List ℕ) (k s : ℕ) → w ≡ set u k s → unpacked x ++ w ≡ set (unpacked x ++ u) (3 + k) s
put_past x u w k s e = let q : 3 + k ≡ suc (suc (suc k)) = omega arith in rw (q, e)

module _ (x : Clause) (v k s r : ℕ) (p : FitsBlocks x) where
  pub replaced_a : (unpacked r ≡ set (unpacked x.a) k s) × (r < 16777216) → v ≡ k → k < 3
      → Holds (record { a = r; b = x.b; c = x.c; d = x.d }) (set (signs_of x) v s)
  unfolding signs_of
  replaced_a (e, l) q h =
      record {
        packed = record { a = l; b = p.b; c = p.c; d = p.d };
        signs_are = rw q (put_here x.a r (from_b x) k s e h);
      }

  pub replaced_b : (unpacked r ≡ set (unpacked x.b) k s) × (r < 16777216) → v ≡ 3 + k → k < 3
      → Holds (record { a = x.a; b = r; c = x.c; d = x.d }) (set (signs_of x) v s)
  unfolding signs_of
  replaced_b (e, l) q h =
      record {
        packed = record { a = p.a; b = l; c = p.c; d = p.d };
        signs_are = rw q (put_past x.a (from_b x) _ k s (put_here x.b r (from_c x) k s e h));
      }

  pub replaced_c : (unpacked r ≡ set (unpacked x.c) k s) × (r < 16777216) → v ≡ 6 + k → k < 3
      → Holds (record { a = x.a; b = x.b; c = r; d = x.d }) (set (signs_of x) v s)
  unfolding signs_of
  replaced_c (e, l) q h =
      let q' : v ≡ 3 + (3 + k) = omega arith in
      record {
        packed = record { a = p.a; b = p.b; c = l; d = p.d };
        signs_are = rw q' (put_past x.a (from_b x) _ (3 + k) s (put_past x.b (from_c x) _ k s (put_here x.c r (from_d x) k s e h)));
      }

  pub replaced_d : (unpacked r ≡ set (unpacked x.d) k s) × (r < 16777216) → v ≡ 9 + k
      → Holds (record { a = x.a; b = x.b; c = x.c; d = r }) (set (signs_of x) v s)
  unfolding signs_of
  replaced_d (e, l) q =
      let q' : v ≡ 3 + (3 + (3 + k)) = omega arith in
      record {
        packed = record { a = p.a; b = p.b; c = p.c; d = l };
        signs_are = rw q' (put_past x.a (from_b x) _ (3 + (3 + k)) s (put_past x.b (from_c x) _ (3 + k) s (put_past x.c (from_d x) _ k s e)));
      }

-- ---- two clauses joined

pub union_holds : (x y : Clause) → FitsBlocks x → FitsBlocks y
    → Holds (record { a = bit_or x.a y.a; b = bit_or x.b y.b; c = bit_or x.c y.c; d = bit_or x.d y.d })
    (joined (signs_of x) (signs_of y))
unfolding signs_of joined
union_holds x y p q =
    record {
      packed =
          record {
            a = or_small x.a y.a p.a q.a;
            b = or_small x.b y.b p.b q.b;
            c = or_small x.c y.c p.c q.c;
            d = or_small x.d y.d p.d q.d;
          };
      signs_are =
          sym
          (joined_block x.a y.a (from_b x) (from_b y)
          ∙ ap (λ l. unpacked (bit_or x.a y.a) ++ l)
          (joined_block x.b y.b (from_c x) (from_c y)
          ∙ ap (λ l. unpacked (bit_or x.b y.b) ++ l)
          (joined_block x.c y.c (from_d x) (from_d y)
          ∙ ap (λ l. unpacked (bit_or x.c y.c) ++ l) (joined_block x.d y.d [] []))));
    }

-- ---- two clauses compared

module _ (x y : Clause) where
  same_a : signs_of x ≡ signs_of y → x.a ≡ y.a
  unfolding signs_of
  same_a e = unpacked_injective x.a y.a (ap (λ l. take 3 l) e)

  same_b : signs_of x ≡ signs_of y → x.b ≡ y.b
  unfolding signs_of
  same_b e = unpacked_injective x.b y.b (ap (λ l. take 3 (drop 3 l)) e)

  same_c : signs_of x ≡ signs_of y → x.c ≡ y.c
  unfolding signs_of
  same_c e = unpacked_injective x.c y.c (ap (λ l. take 3 (drop 6 l)) e)

  same_d : signs_of x ≡ signs_of y → x.d ≡ y.d
  unfolding signs_of
  same_d e = unpacked_injective x.d y.d (ap (λ l. drop 9 l) e)

  -- clauses with the same signs are the same four blocks
  pub same_blocks : signs_of x ≡ signs_of y → x ≡ y
  same_blocks e =
      let p = same_a e in let q = same_b e in let r = same_c e in let s = same_d e in
      λ i. record { a = p i; b = q i; c = r i; d = s i }

  pub same_clause : same (signs_of x) (signs_of y) ≡ true → x ≡ y
  same_clause e = same_blocks (same-eq (signs_of x) (signs_of y) e)

  pub clause_same : x ≡ y → same (signs_of x) (signs_of y) ≡ true
  clause_same e = ap (λ z. same (signs_of x) (signs_of z)) (sym e) ∙ same_refl (signs_of x)

  pub other_a : (x.a ≡ y.a → ⊥) → false ≡ same (signs_of x) (signs_of y)
  other_a h = sym (ne_same _ _ (λ e. h (same_a e)))

  pub other_b : (x.b ≡ y.b → ⊥) → false ≡ same (signs_of x) (signs_of y)
  other_b h = sym (ne_same _ _ (λ e. h (same_b e)))

  pub other_c : (x.c ≡ y.c → ⊥) → false ≡ same (signs_of x) (signs_of y)
  other_c h = sym (ne_same _ _ (λ e. h (same_c e)))

  pub other_d : x.a ≡ y.a → x.b ≡ y.b → x.c ≡ y.c → eqb x.d y.d ≡ same (signs_of x) (signs_of y)
  other_d p q r = go (eqb x.d y.d) refl
    where
      go : (t : Bool) → eqb x.d y.d ≡ t → t ≡ same (signs_of x) (signs_of y)
      go true e =
          let s = eqb-true x.d y.d e in
          sym (clause_same (λ i. record { a = p i; b = q i; c = r i; d = s i }))
      go false e = sym (ne_same _ _ (λ f. eqb-false x.d y.d e (same_d f)))

-- ---- the lowest variable present

absent : (x : ℕ) (u : List ℕ) (r : ℕ) → x ≡ 0 → r ≡ bucket u → 3 + r ≡ bucket (unpacked x ++ u)
absent x u r h e =
    let q : 3 + r ≡ suc (suc (suc r)) = omega arith in
    q ∙ ap (λ n. suc (suc (suc n))) e ∙ sym (ap (λ n. bucket (unpacked n ++ u)) h ∙ bucket-zero u)

module _ (x : Clause) (r : ℕ) where
  pub lowest_a : (r ≡ bucket (unpacked x.a)) × (r ≤ 3) → (x.a ≡ 0 → ⊥) → (r ≡ bucket (signs_of x)) × (r ≤ 12)
  unfolding signs_of
  lowest_a (e, l) h = (e ∙ sym (bucket_block x.a (from_b x) h), omega arith)

  pub lowest_b : (r ≡ bucket (unpacked x.b)) × (r ≤ 3) → x.a ≡ 0 → (x.b ≡ 0 → ⊥)
      → (3 + r ≡ bucket (signs_of x)) × (3 + r ≤ 12)
  unfolding signs_of
  lowest_b (e, l) p h =
      (absent x.a (from_b x) r p (e ∙ sym (bucket_block x.b (from_c x) h)), omega arith)

  pub lowest_c : (r ≡ bucket (unpacked x.c)) × (r ≤ 3) → x.a ≡ 0 → x.b ≡ 0 → (x.c ≡ 0 → ⊥)
      → (6 + r ≡ bucket (signs_of x)) × (6 + r ≤ 12)
  unfolding signs_of
  lowest_c (e, l) p q h =
      let s : 6 + r ≡ 3 + (3 + r) = omega arith in
      (s ∙ absent x.a (from_b x) (3 + r) p (absent x.b (from_c x) r q (e ∙ sym (bucket_block x.c (from_d x) h))), omega arith)

  pub lowest_d : (r ≡ bucket (unpacked x.d)) × (r ≤ 3) → x.a ≡ 0 → x.b ≡ 0 → x.c ≡ 0
      → (9 + r ≡ bucket (signs_of x)) × (9 + r ≤ 12)
  unfolding signs_of
  lowest_d (e, l) p q h =
      let s : 9 + r ≡ 3 + (3 + (3 + r)) = omega arith in
      (s ∙ absent x.a (from_b x) (3 + (3 + r)) p (absent x.b (from_c x) (3 + r) q (absent x.c (from_d x) r h e)), omega arith)
