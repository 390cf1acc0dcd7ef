-- The sign narrowed row by row: each law takes the answers of a turn's calls. A row counts if it is of bucket k and has nothing in common with
-- the clause that carries the chosen values.
use Prim.Native.Nat.{ℕ, suc, ◌+◌, ◌*◌, ◌<◌, ◌≤◌}
use native.Mathlib.Numerals.{add-one}
use native.Mathlib.Omega.{arith}
use mathlib.Core.Path.{◌≡◌, refl, sym, ap, ◌∙◌}
use mathlib.Core.Bool.{Bool, true, false, cond}
use mathlib.Core.List.{List, ◌∷◌}
use lib.ListN.{length, get_or, drop, drop_of_length-le}
use lib.Seq.{drop-cons}
use lib.Bits.{bit_and}
use lib.Dec.{eqb}
use borrow.Author.Tests.{eqb-true, eqb-false, eq-eqb, ne_eqb}
use Rattle.wcsp.specs.Clause.{bucket, falsifies}
use Rattle.wcsp.specs.Row.{Row}
use Rattle.wcsp.specs.Resolve.{no_row}
use Rattle.wcsp.specs.Rebuild.{counts, narrowed}
use Rattle.wcsp.proofs.PairSearch.{signs_at}
use Rattle.clause.specs.declared.Clause.{Clause}
use Rattle.clause.specs.Packed.{signs_of}
use Rattle.rows.specs.Raw.{row_width, raw_at, clause_in}
use Rattle.table.proofs.RawRows.{length-rows_from}
use Rattle.hunt.proofs.TableRows.{rows_in, in_rows, signs_read}
use Rattle.assignment.specs.Chosen.{disjoint, Carries}
use Rattle.assignment.proofs.Disjoint.{disjoint-falsifies}

-- ---- the rows from one on

narrowed-cons : (k : ℕ) (q : List ℕ) (S : ℕ) (r : Row) (rs : List Row)
    → narrowed k q S (r ∷ rs) ≡ narrowed k q (cond (counts k q r.signs) (bit_and S (get_or r.signs k 0)) S) rs
unfolding narrowed
narrowed-cons k q S r rs = refl

module _ (k : ℕ) (q : List ℕ) (S : ℕ) (rs : List Row) (i : ℕ) where
  narrowed_at : i < length rs → (b : Bool) → counts k q (signs_at rs i) ≡ b
      → narrowed k q S (drop i rs) ≡ narrowed k q (cond b (bit_and S (get_or (signs_at rs i) k 0)) S) (drop (suc i) rs)
  narrowed_at h b e =
      ap (narrowed k q S) (drop-cons rs i no_row h)
      ∙ narrowed-cons k q S (get_or rs i no_row) (drop (suc i) rs)
      ∙ ap (λ a. narrowed k q (cond a (bit_and S (get_or (signs_at rs i) k 0)) S) (drop (suc i) rs)) e

  narrowed_end : length rs ≤ i → narrowed k q S (drop i rs) ≡ S
  unfolding narrowed
  narrowed_end h = rw (drop_of_length-le rs h)

counts_as : (k : ℕ) (q c : List ℕ) → bucket c ≡ k → counts k q c ≡ falsifies q (drop (suc k) c)
unfolding counts
counts_as k q c e = rw (eq-eqb (bucket c) k e)

counts-not : (k : ℕ) (q c : List ℕ) → (bucket c ≡ k → ⊥) → counts k q c ≡ false
unfolding counts
counts-not k q c h = rw (ne_eqb (bucket c) k h)

-- ---- the turns

module _ (t : List ℕ) (base count k : ℕ) (chosen : Clause) (S : ℕ) where
  -- P holds of all values that the clause carries
  abbrev pub Over : (List ℕ → Type 0) → Type 0
  Over P = (q : List ℕ) → Carries (signs_of chosen) (suc k) q → P q

  -- the rows before i have left this sign of S
  abbrev pub Met : ℕ → ℕ → Type 0
  Met i sign = Over (λ q. narrowed k q S (rows_in t base count) ≡ narrowed k q sign (drop i (rows_in t base count)))

  module _ (i sign : ℕ) (met : Met i sign) (h : i < count) (x : Clause) (e : x ≡ clause_in (raw_at t (base + row_width * i)))
      (low : ℕ) (l : low ≡ bucket (signs_of x)) where
    read : signs_at (rows_in t base count) i ≡ signs_of x
    read = signs_read t base count i h x e

    passed : Over (λ q. counts k q (signs_of x) ≡ false) → Met (i + 1) sign
    passed n q c =
        rw add-one
        (met q c ∙ narrowed_at k q sign (rows_in t base count) i (in_rows t base count i h) false (ap (counts k q) read ∙ n q c))

    pub other_bucket : (low ≡ k → ⊥) → Met (i + 1) sign
    other_bucket n = passed (λ q c. counts-not k q (signs_of x) (λ m. n (l ∙ m)))

    module _ (m : low ≡ k) (b : Bool) (answer : b ≡ disjoint (signs_of x) (signs_of chosen)) where
      answered : Over (λ q. counts k q (signs_of x) ≡ b)
      answered q c =
          counts_as k q (signs_of x) (sym l ∙ m) ∙ sym (disjoint-falsifies (signs_of x) (signs_of chosen) (suc k) q c) ∙ sym answer

      pub satisfied : b ≡ false → Met (i + 1) sign
      satisfied f = passed (λ q c. answered q c ∙ f)

      pub narrows : b ≡ true → (T : ℕ) → T ≡ get_or (signs_of x) k 0 → Met (i + 1) (bit_and sign T)
      narrows f T g q c =
          rw (add-one, g)
          (met q c
          ∙ narrowed_at k q sign (rows_in t base count) i (in_rows t base count i h) true (ap (counts k q) read ∙ answered q c ∙ f)
          ∙ ap (λ y. narrowed k q (bit_and sign (get_or y k 0)) (drop (suc i) (rows_in t base count))) read)

    -- the sign that a turn leaves, by what the row's bucket and its clause say
    pub turned : (T : ℕ) → (low ≡ k → disjoint (signs_of x) (signs_of chosen) ≡ true → T ≡ bit_and sign (get_or (signs_of x) k 0))
        → (low ≡ k → disjoint (signs_of x) (signs_of chosen) ≡ false → T ≡ sign) → ((low ≡ k → ⊥) → T ≡ sign) → Met (i + 1) T
    turned T met_there kept_there kept = by_bucket (eqb low k) refl
      where
        by_clause : (m : low ≡ k) (b : Bool) → b ≡ disjoint (signs_of x) (signs_of chosen) → Met (i + 1) T
        by_clause m true e = rw (met_there m (sym e)) (narrows m true e refl (get_or (signs_of x) k 0) refl)
        by_clause m false e = rw (kept_there m (sym e)) (satisfied m false e refl)

        by_bucket : (b : Bool) → eqb low k ≡ b → Met (i + 1) T
        by_bucket true e = by_clause (eqb-true low k e) (disjoint (signs_of x) (signs_of chosen)) refl
        by_bucket false e = let n : (low ≡ k → ⊥) = eqb-false low k e in rw (kept n) (other_bucket n)

  pub all_met : (i sign : ℕ) → Met i sign → count ≤ i → Over (λ q. sign ≡ narrowed k q S (rows_in t base count))
  all_met i sign met h q c =
      let l : length (rows_in t base count) ≤ i = omega (arith, length-rows_from count (drop base t)) in
      sym (met q c ∙ narrowed_end k q sign (rows_in t base count) i l)
