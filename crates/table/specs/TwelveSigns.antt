-- Inner: twelve signs in four blocks: a list of twelve bytes packed into a clause unpacks to itself, and the full signs of sizes up to 8 are such a list.
use Prim.Native.Nat.{ℕ, suc, ◌+◌, ◌<◌, ◌≤◌}
use native.Mathlib.Omega.{arith}
use mathlib.Core.Path.{◌≡◌, refl, sym, ap, ◌∙◌}
use mathlib.Core.List.{List, [], ◌∷◌, ◌++◌, map}
use mathlib.Core.Bool.{Bool, true, false}
use lib.ListN.{length, get_or, drop, length-map, drop_of_length-le, get_or-eq_default}
use lib.Seq.{drop-cons}
use lib.Dec.{ltb}
use borrow.Author.Tests.{ltb-true, ltb-false}
use lib.Pow.{pow_mono}
use Rattle.wcsp.specs.Sign.{full}
use Rattle.wcsp.specs.Clause.{ValidClause}
use Rattle.wcsp.proofs.Signs.{full_at}
use Rattle.wcsp.proofs.Lists.{along_length, along_at}
use Rattle.words.specs.Layout.{unpacked}
use Rattle.words.proofs.Packing.{unpacked-packed, packed-unpacked, packed_bounded}
use Rattle.clause.specs.declared.Clause.{Clause}
use Rattle.clause.specs.Packed.{signs_of, FitsBlocks, FullSigns}
use Rattle.clause.proofs.Signs12.{signs_of-length, sign_small}
use Rattle.fields.specs.Entries.{EachSize}
use Rattle.fields.specs.Padding.{padded}
use Rattle.fields.proofs.Padding.{padded-length, sizes_at, sizes_padded}
use Rattle.table.specs.Clauses.{block_at, clause_from}
use Rattle.table.specs.Check.{full_clause}

-- twelve signs, each a byte
pub record Twelve (c : List ℕ) : Type 0 where
  pub long : length c ≡ 12
  pub small : (v : ℕ) → get_or c v 0 < 256

pub twelve_signs_of : (x : Clause) → FitsBlocks x → Twelve (signs_of x)
twelve_signs_of x p = record { long = signs_of-length x; small = sign_small x p }

-- ---- packed and unpacked

module _ (c : List ℕ) (t : Twelve c) where
  block : (v : ℕ) → v + 3 ≤ 12 → unpacked (block_at c v) ++ drop (v + 3) c ≡ drop v c
  block v h =
      let long = t.long in
      let a : v + 1 ≡ suc v = omega arith in
      let b : v + 2 ≡ suc (suc v) = omega arith in
      let d : v + 3 ≡ suc (suc (suc v)) = omega arith in
      ap (λ l. l ++ drop (v + 3) c) (unpacked-packed _ _ _ (t.small v) (t.small (v + 1)) (t.small (v + 2)))
      ∙ rw (a, b, d)
      (sym
      (drop-cons c v 0 (omega arith)
      ∙ ap (λ l. get_or c v 0 ∷ l)
      (drop-cons c (suc v) 0 (omega arith)
      ∙ ap (λ l. get_or c (suc v) 0 ∷ l) (drop-cons c (suc (suc v)) 0 (omega arith)))))

  pub signs_clause_from : signs_of (clause_from c) ≡ c
  unfolding signs_of
  signs_clause_from =
      let end : drop 12 c ≡ [] = let k : length c ≤ 12 = omega (arith, t.long) in drop_of_length-le c k in
      let last : unpacked (block_at c 9) ≡ drop 9 c = ap (λ l. unpacked (block_at c 9) ++ l) (sym end) ∙ block 9 (omega arith) in
      ap (λ l. unpacked (block_at c 0) ++ l)
      (ap (λ l. unpacked (block_at c 3) ++ l)
      (ap (λ l. unpacked (block_at c 6) ++ l) last ∙ block 6 (omega arith))
      ∙ block 3 (omega arith))
      ∙ block 0 (omega arith)

  pub packed-clause_from : FitsBlocks (clause_from c)
  packed-clause_from =
      record {
        a = packed_bounded _ _ _ (t.small 0) (t.small 1) (t.small 2);
        b = packed_bounded _ _ _ (t.small 3) (t.small 4) (t.small 5);
        c = packed_bounded _ _ _ (t.small 6) (t.small 7) (t.small 8);
        d = packed_bounded _ _ _ (t.small 9) (t.small 10) (t.small 11);
      }

-- a clause is the one of its signs
pub clause_from_signs : (x : Clause) → clause_from (signs_of x) ≡ x
unfolding signs_of
clause_from_signs x =
    λ i. record {
      a = packed-unpacked x.a i;
      b = packed-unpacked x.b i;
      c = packed-unpacked x.c i;
      d = packed-unpacked x.d i;
    }

-- ---- full signs

pub full_small : (d : ℕ) → d ≤ 8 → full d < 256
unfolding full
full_small d h = omega (arith, pow_mono {i = d} {j = 8} h)

pub twelve_full : (ds : List ℕ) → length ds ≡ 12 → EachSize ds → Twelve (map full ds)
twelve_full ds h s =
    record {
      long = length-map ds full ∙ h;
      small = λ v. rw (full_at ds v) (full_small (get_or ds v 0) (sizes_at s v));
    }

pub full_signs : (ds : List ℕ) → length ds ≡ 12 → EachSize ds → FullSigns (full_clause ds) ds
full_signs ds h s = signs_clause_from (map full ds) (twelve_full ds h s)

pub full-packed : (ds : List ℕ) → length ds ≡ 12 → EachSize ds → FitsBlocks (full_clause ds)
full-packed ds h s = packed-clause_from (map full ds) (twelve_full ds h s)

-- the same for the sizes of a table
pub full_signs_padded : (ds : List ℕ) → length ds ≤ 12 → EachSize ds → FullSigns (full_clause (padded ds)) (padded ds)
full_signs_padded ds h s = full_signs (padded ds) (padded-length ds h) (sizes_padded s)

pub full-packed-padded : (ds : List ℕ) → length ds ≤ 12 → EachSize ds → FitsBlocks (full_clause (padded ds))
full-packed-padded ds h s = full-packed (padded ds) (padded-length ds h) (sizes_padded s)

-- ---- valid clauses

module _ (ds : List ℕ) (h : length ds ≡ 12) (s : EachSize ds) where
  pub twelve_valid : {c : List ℕ} → ValidClause ds c → Twelve c
  twelve_valid {c} a = record { long = long; small = λ v. go v (ltb v 12) refl }
    where
      long : length c ≡ 12
      long = sym (along_length a) ∙ h

      go : (v : ℕ) (b : Bool) → ltb v 12 ≡ b → get_or c v 0 < 256
      go v true e =
          let k : v < length ds = omega (arith, ltb-true v 12 e) in
          let l : get_or c v 0 < full (get_or ds v 0) = along_at a v k in
          omega (arith, full_small (get_or ds v 0) (sizes_at s v))
      go v false e =
          let k : length c ≤ v = omega (arith, long, ltb-false v 12 e) in
          let z : get_or c v 0 ≡ 0 = get_or-eq_default c 0 k in
          omega arith
