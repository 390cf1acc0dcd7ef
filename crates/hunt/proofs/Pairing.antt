-- The hunt for a bucket's least pair, first row by first row: each law takes the answers of a turn's calls.
use Prim.Native.Nat.{ℕ, suc, max, ◌+◌, ◌-◌, ◌*◌, ◌<◌, ◌≤◌}
use native.Mathlib.Numerals.{add-one}
use native.Mathlib.Omega.{arith}
use mathlib.Core.Path.{◌≡◌, refl, sym, ap, ◌∙◌}
use mathlib.Core.Bool.{Bool, true, false}
use lib.Dec.{eqb, ltb}
use borrow.Author.Tests.{eqb-true, eqb-false, ltb-true, ltb-false}
use mathlib.Core.List.{List}
use mathlib.Core.Option as math
use lib.ListN.{length, get_or, drop}
use Rattle.wcsp.specs.Clause.{bucket}
use Rattle.wcsp.specs.Row.{ValidRows}
use Rattle.wcsp.specs.Resolve.{candidate, partner, pair_in}
use Rattle.wcsp.proofs.Buckets.{bucket_sign}
use Rattle.wcsp.proofs.PairSearch.{signs_at}
use Rattle.wcsp.proofs.Cleared.{partner_skip, pair_in_skip}
use Rattle.clause.specs.declared.Clause.{Clause}
use Rattle.clause.specs.Packed.{signs_of, FullSigns}
use Rattle.clause.proofs.Signs12.{signs_of-length}
use Rattle.rows.specs.Raw.{row_width, raw_at, clause_in}
use Rattle.std.specs.Prelude.{Option, Some, None}
use Rattle.table.proofs.RawRows.{length-rows_from}
use Rattle.hunt.specs.Hunt.{found_of, hunted_of, Cleared}
use Rattle.hunt.proofs.TableRows.{rows_in, in_rows, signs_read, valid_read}
use Rattle.hunt.proofs.Hunting.{partner_other, pair_in-at, pair_in_past, pair_in_end}
use Rattle.hunt.proofs.Seeking as seeking

at_some : (o : math.Option ℕ) (j : ℕ) → found_of o ≡ Some j → o ≡ math.some j
unfolding found_of
at_some math.none j e = cc
at_some (math.some k) j e = cc

missing_none : (o : math.Option ℕ) → found_of o ≡ None → o ≡ math.none
unfolding found_of
missing_none math.none e = refl
missing_none (math.some k) e = cc

module _ (t : List ℕ) (base count v skip from : ℕ) (fulls : Clause) where
  -- P holds of every list of sizes with these full signs over which the rows are valid and those said to be passed go with none
  abbrev pub Over : (List ℕ → Type 0) → Type 0
  Over P = (ds : List ℕ) → FullSigns fulls ds → ValidRows ds (rows_in t base count) → Cleared ds v skip from (rows_in t base count) → P ds

  -- no row before i is the first of a pair, and no row below `least` is the second of row i
  pub record Tried (ds : List ℕ) (i least : ℕ) : Type 0 where
    pub before : pair_in ds v 0 (rows_in t base count) ≡ pair_in ds v i (drop i (rows_in t base count))
    pub in_table : least ≤ length (rows_in t base count)
    pub here : (l : ℕ) → i < l → l < least → candidate ds v (signs_at (rows_in t base count) i) (signs_at (rows_in t base count) l) ≡ false

  pub tried_start : Over (λ ds. Tried ds skip from)
  tried_start ds f r c =
      record { before = pair_in_skip ds v (rows_in t base count) skip c.0 c.2; in_table = c.1; here = c.3 }

  module _ (i least : ℕ) (h : i < count) (tried : Over (λ ds. Tried ds i least)) where
    -- the clause of row i
    abbrev at_i : Clause
    at_i = clause_in (raw_at t (base + row_width * i))

    read : signs_at (rows_in t base count) i ≡ signs_of at_i
    read = signs_read t base count i h at_i refl

    -- the second row of row i
    abbrev second : List ℕ → math.Option ℕ
    second ds = partner ds v (signs_at (rows_in t base count) i) (suc i) (drop (suc i) (rows_in t base count))

    past : Over (λ ds. second ds ≡ math.none) → Over (λ ds. Tried ds (i + 1) 0)
    past n ds f r c =
        record {
          before = rw add-one ((tried ds f r c).before ∙ pair_in_past ds v (rows_in t base count) i (in_rows t base count i h) (n ds f r c));
          in_table = omega arith;
          here = λ l p q. absurd (omega arith);
        }

    other : (bucket (signs_of at_i) ≡ v → ⊥) → Over (λ ds. Tried ds (i + 1) 0)
    other n = past (λ ds f r c. rw read (partner_other ds v (signs_of at_i) (drop (suc i) (rows_in t base count)) (suc i) n))

    -- with no sign at v the row is of another bucket
    pub absent : v < 12 → (sign : ℕ) → sign ≡ get_or (signs_of at_i) v 0 → sign ≡ 0 → Over (λ ds. Tried ds (i + 1) 0)
    absent l sign e z = other
        (λ q. let p : 0 < get_or (signs_of at_i) v 0 = rw q at (bucket_sign (signs_of at_i) (omega (arith, signs_of-length at_i))) in omega arith)

    module _ (x : Clause) (e : x ≡ at_i) (low : ℕ) (l : low ≡ bucket (signs_of x)) where
      pub elsewhere : (low ≡ v → ⊥) → Over (λ ds. Tried ds (i + 1) 0)
      elsewhere n = other (λ q. n (l ∙ ap (λ c. bucket (signs_of c)) e ∙ q))

      module _ (m : low ≡ v) (next : ℕ) (start : next ≡ max least (i + 1)) (found : Option ℕ)
          (answer : seeking.Over t base count x v fulls (λ ds. found ≡ found_of (partner ds v (signs_of x) next (drop next (rows_in t base count))))) where
        started : Over (λ ds. second ds ≡ partner ds v (signs_at (rows_in t base count) i) next (drop next (rows_in t base count)))
        started ds f r c =
            let w = tried ds f r c in
            let d : suc i + (next - suc i) ≡ next = omega (arith, start) in
            partner_skip ds v (signs_at (rows_in t base count) i) (rows_in t base count) (suc i) (next - suc i) (omega (arith, start, w.in_table, in_rows t base count i h))
            (λ k a b. w.here k (omega arith) (omega (arith, start)))
            ∙ ap (λ n. partner ds v (signs_at (rows_in t base count) i) n (drop n (rows_in t base count))) d

        answered : Over (λ ds. found_of (second ds) ≡ found)
        answered ds f r c =
            ap found_of (started ds f r c) ∙ rw (signs_read t base count i h x e) (sym (answer ds f r (valid_read t base count i h x e ds r) (sym l ∙ m)))

        pub paired : (j : ℕ) → found ≡ Some j → Over (λ ds. Some (record { passed = 0; first = i; second = j }) ≡ hunted_of v (pair_in ds v 0 (rows_in t base count)))
        unfolding hunted_of
        paired j k ds f r c =
            let z : 0 ≡ v - v = omega arith in
            ap (λ p. Some (record { passed = p; first = i; second = j })) z ∙ sym (ap (hunted_of v)
            ((tried ds f r c).before ∙ pair_in-at ds v (rows_in t base count) i j (in_rows t base count i h) (at_some (second ds) j (answered ds f r c ∙ k))))

        pub alone : found ≡ None → Over (λ ds. Tried ds (i + 1) 0)
        alone k = past (λ ds f r c. missing_none (second ds) (answered ds f r c ∙ k))

    -- what a turn leaves where no second row is found: what is sought from behind row i, or from `least` if that is later, is missing
    pub turned : v < 12 → (sign : ℕ) → sign ≡ get_or (signs_of at_i) v 0
        → (0 < sign → least ≤ i + 1 → seeking.Over t base count at_i v fulls (λ ds. found_of (partner ds v (signs_of at_i) (i + 1) (drop (i + 1) (rows_in t base count))) ≡ None))
        → (0 < sign → i + 1 < least → seeking.Over t base count at_i v fulls (λ ds. found_of (partner ds v (signs_of at_i) least (drop least (rows_in t base count))) ≡ None))
        → Over (λ ds. Tried ds (i + 1) 0)
    turned l sign e behind later = by_sign (eqb sign 0) refl
      where
        by_start : 0 < sign → bucket (signs_of at_i) ≡ v → (b : Bool) → ltb (i + 1) least ≡ b → Over (λ ds. Tried ds (i + 1) 0)
        by_start p m true q ds f r c =
            let s : i + 1 < least = ltb-true (i + 1) least q in
            alone at_i refl (bucket (signs_of at_i)) refl m least (omega arith) None (λ es g h k n. sym (later p s es g h k n)) refl ds f r c
        by_start p m false q ds f r c =
            let s : least ≤ i + 1 = ltb-false (i + 1) least q in
            alone at_i refl (bucket (signs_of at_i)) refl m (i + 1) (omega arith) None (λ es g h k n. sym (behind p s es g h k n)) refl ds f r c

        by_bucket : 0 < sign → (b : Bool) → eqb (bucket (signs_of at_i)) v ≡ b → Over (λ ds. Tried ds (i + 1) 0)
        by_bucket p true q = by_start p (eqb-true (bucket (signs_of at_i)) v q) (ltb (i + 1) least) refl
        by_bucket p false q = other (eqb-false (bucket (signs_of at_i)) v q)

        by_sign : (b : Bool) → eqb sign 0 ≡ b → Over (λ ds. Tried ds (i + 1) 0)
        by_sign true q = absent l sign e (eqb-true sign 0 q)
        by_sign false q = by_bucket (omega (arith, eqb-false sign 0 q)) (eqb (bucket (signs_of at_i)) v) refl

  pub nothing : (i least : ℕ) → Over (λ ds. Tried ds i least) → count ≤ i → Over (λ ds. None ≡ hunted_of v (pair_in ds v 0 (rows_in t base count)))
  unfolding hunted_of
  nothing i least tried h ds f r c =
      let l : length (rows_in t base count) ≤ i = omega (arith, length-rows_from count (drop base t)) in
      sym (ap (hunted_of v) ((tried ds f r c).before ∙ pair_in_end ds v (rows_in t base count) i l))
