-- The full signs of twelve variables, filled in station word by station word, and the zeros behind the rows.
use Prim.Native.Nat.{ℕ, suc, ◌+◌, ◌-◌, ◌<◌, ◌≤◌}
use native.Mathlib.Omega.{arith}
use native.Mathlib.Numerals.{add-one}
use mathlib.Core.Path.{◌≡◌, refl, sym, ap, ap₂, ◌∙◌}
use mathlib.Core.Bool.{Bool, true, false, not, ◌&&◌}
use mathlib.Core.List.{List, [], ◌∷◌, ◌++◌, map, append_assoc, map-append}
use lib.ListN.{length, get_or, take, drop, set, replicate, length-append, length-map}
use lib.Seq.{drop-cons, get_or-drop, take-suc, set_at, length-take-le, take-length}
use Rattle.std.proofs.lemmas.List.{length-drop}
use lib.Dec.{eqb}
use borrow.Author.Tests.{eq-eqb, ne_eqb}
use Rattle.std.specs.Prelude.{Some, None, ◌==◌}
use Rattle.std.specs.List.{list_all}
use Rattle.wcsp.specs.Sign.{full}
use Rattle.words.specs.Layout.{payload_of}
use Rattle.clause.specs.declared.Clause.{Clause}
use Rattle.clause.specs.Packed.{signs_of, FitsBlocks, Holds}
use Rattle.fields.specs.Front.{size_in, good_sizes}
use Rattle.fields.specs.Padding.{padded}
use Rattle.fields.proofs.Fronts.{size_some}
use Rattle.table.specs.Clauses.{clause_from}
use Rattle.table.specs.Valid.{all_zero}
use Rattle.table.specs.Check.{full_clause, fulls_from}
use Rattle.table.specs.TwelveSigns.{clause_from_signs}

-- ---- zeros

zeros_all : (ws : List ℕ) → list_all (λ w. w == 0) ws ≡ all_zero ws
unfolding all_zero
zeros_all [] = refl
zeros_all (w ∷ ws) = ap (λ b. eqb w 0 && b) (zeros_all ws)

-- what is told of the words from a place up to the end of the slice
pub zeros_told : (told : Bool) (t : List ℕ) (at end : ℕ)
    → told ≡ list_all (λ w. w == 0) (take (end - at) (drop at t)) → end ≡ length t → told ≡ all_zero (drop at t)
zeros_told told t at end e h =
    let whole : take (end - at) (drop at t) ≡ drop at t = rw (h, ← length-drop at t) (take-length (drop at t)) in
    e ∙ ap (list_all (λ w. w == 0)) whole ∙ zeros_all (drop at t)

-- ---- the sizes of twelve variables, one more given

more_full : (xs : List ℕ) (d m : ℕ) → 12 - length xs ≡ suc m
    → set (map full (padded xs)) (length xs) (full d) ≡ map full (padded (xs ++ (d ∷ [])))
unfolding padded
more_full xs d m e =
    let e' : 12 - length (xs ++ (d ∷ [])) ≡ m = rw (length-append xs (d ∷ [])) (omega arith) in
    rw (e, e', append_assoc xs (d ∷ []) (replicate m 1), map-append full xs (1 ∷ replicate m 1), map-append full xs (d ∷ replicate m 1))
    (set_at (map full xs) (full 1) (map full (replicate m 1)) (full d) (length xs) (length-map xs full))

-- ---- the loop

-- the full signs of the first i sizes, with those of one value behind
pub record Filled (ws : List ℕ) (n i : ℕ) (f : Clause) : Type 0 where
  pub packed : FitsBlocks f
  pub signs : signs_of f ≡ map full (padded (map payload_of (take i ws)))
  pub tested : good_sizes n ws ≡ good_sizes (n - i) (drop i ws)

pub none_filled : (ws : List ℕ) (n : ℕ) → Filled ws n 0 (record { a = 65793; b = 65793; c = 65793; d = 65793 })
unfolding signs_of padded full
none_filled ws n =
    record {
      packed = record { a = omega arith; b = omega arith; c = omega arith; d = omega arith };
      signs = refl;
      tested = let e : n - 0 ≡ n = omega arith in rw e;
    }

-- the station word at i stands behind the head
pub behind_head_lem : (t : List ℕ) (i d : ℕ) → d ≡ size_in (get_or t (i + 1) 0) → d ≡ size_in (get_or (drop 1 t) i 0)
behind_head_lem t i d e = let q : 1 + i ≡ i + 1 = omega arith in rw (get_or-drop 1 t i 0, q) e

module _ (ws : List ℕ) (n i d : ℕ) (f : Clause) (p : Filled ws n i f) (e : d ≡ size_in (get_or ws i 0)) (h : i < n) (long : n ≤ length ws) where
  size_here : good_sizes n ws ≡ (not (eqb d 0) && good_sizes (n - (i + 1)) (drop (i + 1) ws))
  unfolding good_sizes
  size_here =
      let q : n - i ≡ suc (n - (i + 1)) = omega arith in
      p.tested ∙ rw (q, drop-cons ws i 0 (omega arith), ← e, add-one i)

  pub size_bad : d ≡ 0 → None ≡ fulls_from n ws
  unfolding fulls_from
  size_bad z = let g : good_sizes n ws ≡ false = size_here ∙ rw (eq-eqb d 0 z) in rw g

  pub filled_more : (d ≡ 0 → ⊥) → n ≤ 12 → (s : ℕ) (g : Clause) → s ≡ full d → Holds g (set (signs_of f) i s) → Filled ws n (i + 1) g
  filled_more z small s g q k =
      let w = get_or ws i 0 in
      let xs = map payload_of (take i ws) in
      let l : length xs ≡ i = length-map (take i ws) payload_of ∙ length-take-le i ws (omega arith) in
      let m = size_some w (λ o. z (e ∙ o)) in
      let r : 12 - length xs ≡ suc (11 - i) = rw l (omega arith) in
      let more : take (i + 1) ws ≡ take i ws ++ (w ∷ []) = let b : i + 1 ≡ suc i = omega arith in rw b (take-suc ws i 0 (omega arith)) in
      let known : d ≡ payload_of w = e ∙ m.1 in
      record {
        packed = k.packed;
        signs =
            k.signs_are
            ∙ ap₂ (λ c u. set c i u) p.signs q
            ∙ ap (λ j. set (map full (padded xs)) j (full d)) (sym l)
            ∙ more_full xs d (11 - i) r
            ∙ ap (λ u. map full (padded (xs ++ (u ∷ [])))) known
            ∙ ap (λ us. map full (padded us)) (sym (ap (map payload_of) more ∙ map-append payload_of (take i ws) (w ∷ [])));
        tested = size_here ∙ rw (ne_eqb d 0 z);
      }

pub all_filled : (ws : List ℕ) (n i : ℕ) (f : Clause) → Filled ws n i f → i ≡ n → Some f ≡ fulls_from n ws
unfolding fulls_from good_sizes
all_filled ws n i f p e =
    let z : n - i ≡ 0 = omega arith in
    let v : good_sizes n ws ≡ true = p.tested ∙ rw z in
    let s : signs_of f ≡ map full (padded (map payload_of (take n ws))) = rw e at p.signs in
    let c : f ≡ full_clause (padded (map payload_of (take n ws))) = sym (clause_from_signs f) ∙ ap clause_from s in
    rw v (ap Some c)
