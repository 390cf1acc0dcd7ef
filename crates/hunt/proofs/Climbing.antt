-- The hunt from bucket to bucket: each law takes the answer of the hunt in one bucket.
use Prim.Native.Nat.{ℕ, suc, ◌+◌, ◌-◌, ◌<◌, ◌≤◌}
use native.Mathlib.Numerals.{add-one}
use native.Mathlib.Omega.{arith}
use mathlib.Core.Path.{◌≡◌, refl, sym, ap, ◌∙◌}
use mathlib.Core.List.{List}
use mathlib.Core.Option as math
use lib.ListN.{length}
use Rattle.wcsp.specs.Row.{ValidRows}
use Rattle.wcsp.specs.Resolve.{Pair, pair_in, pair_from}
use Rattle.wcsp.proofs.PairSearch.{pair_from_here, pair_from_later, pair_in-some}
use Rattle.clause.specs.declared.Clause.{Clause}
use Rattle.clause.specs.Packed.{FullSigns}
use Rattle.std.specs.Prelude.{Option, Some, None}
use Rattle.hunt.specs.declared.Next.{Next}
use Rattle.std.proofs.lemmas.Option.{same_Some}
use Rattle.hunt.specs.Hunt.{hunted_of, Cleared}
use Rattle.hunt.proofs.TableRows.{rows_in, twelve_sizes}
use Rattle.hunt.proofs.Pairing as pairing

pub nothing_none : (v : ℕ) (o : math.Option Pair) → hunted_of v o ≡ None → o ≡ math.none
unfolding hunted_of
nothing_none v math.none e = refl
nothing_none v (math.some pr) e = cc

module _ (t : List ℕ) (base count v skip from : ℕ) (fulls : Clause) where
  -- P holds of every list of sizes for which the caller's word on the rows is good
  abbrev pub Over : (List ℕ → Type 0) → Type 0
  Over P = (ds : List ℕ) → FullSigns fulls ds → ValidRows ds (rows_in t base count) → Cleared ds v skip from (rows_in t base count) → P ds

  -- what the hunt is for
  abbrev wanted : List ℕ → math.Option Pair
  wanted ds = pair_from ds (length ds - v) v (rows_in t base count)

  -- the buckets from v up to s have no pair, and `first` and `second` are what the caller's word comes to in bucket s
  abbrev pub Reached : ℕ → ℕ → ℕ → Type 0
  Reached s first second = Over
      (λ ds. (wanted ds ≡ pair_from ds (12 - s) s (rows_in t base count)) × Cleared ds s first second (rows_in t base count))

  pub start : Reached v skip from
  start ds f r c =
      let n : length ds ≡ 12 = twelve_sizes fulls ds f in
      (ap (λ k. pair_from ds (k - v) v (rows_in t base count)) n, c)

  module _ (s first second : ℕ) (h : s < 12) (reached : Reached s first second) (found : Option Next)
      (answer : pairing.Over t base count s first second fulls (λ ds. found ≡ hunted_of s (pair_in ds s 0 (rows_in t base count)))) where
    arrived : Over (λ ds. wanted ds ≡ pair_from ds (suc (12 - suc s)) s (rows_in t base count))
    arrived ds f r c =
        let e : 12 - s ≡ suc (12 - suc s) = omega arith in
        (reached ds f r c).0 ∙ ap (λ k. pair_from ds k s (rows_in t base count)) e

    pub is_next : (pair : Next) → found ≡ Some pair
        → Over (λ ds. Some (record { passed = s - v; first = pair.first; second = pair.second }) ≡ hunted_of v (wanted ds))
    unfolding hunted_of
    is_next pair k ds f r c = go (pair_in ds s 0 (rows_in t base count)) refl (answer ds f r (reached ds f r c).1)
      where
        go : (o : math.Option Pair) → pair_in ds s 0 (rows_in t base count) ≡ o → found ≡ hunted_of s o
            → Some (record { passed = s - v; first = pair.first; second = pair.second }) ≡ hunted_of v (wanted ds)
        go math.none p q = cc
        go (math.some pr) p q =
            let on : s - v ≡ pr.variable - v = ap (λ k. k - v) (sym (pair_in-some ds s 0 (rows_in t base count) pr p).on_variable) in
            let m : pair ≡ record { passed = pr.variable - s; first = pr.first; second = pr.second } = same_Some _ _ (sym k ∙ q) in
            ap (λ n. Some (record { passed = n; first = pair.first; second = pair.second })) on
            ∙ ap (λ n. Some (record { passed = pr.variable - v; first = n.first; second = n.second })) m
            ∙ sym (ap (hunted_of v) (arrived ds f r c ∙ pair_from_here ds (rows_in t base count) (12 - suc s) s pr p))

    pub no_pair_lem : found ≡ None → Reached (s + 1) 0 0
    no_pair_lem k ds f r c =
        let z = nothing_none s (pair_in ds s 0 (rows_in t base count)) (sym (answer ds f r (reached ds f r c).1) ∙ k) in (
          rw add-one (arrived ds f r c ∙ pair_from_later ds (rows_in t base count) (12 - suc s) s z),
          (omega arith, omega arith, λ a b l. absurd (omega arith), λ b l m. absurd (omega arith)),
        )

  pub nothing_left : (s first second : ℕ) → Reached s first second → 12 ≤ s → Over (λ ds. None ≡ hunted_of v (wanted ds))
  unfolding hunted_of pair_from
  nothing_left s first second reached h ds f r c =
      let z : 12 - s ≡ 0 = omega arith in
      sym (ap (hunted_of v) ((reached ds f r c).0 ∙ ap (λ k. pair_from ds k s (rows_in t base count)) z))
