-- The writes, turn by turn: rows raised, weight taken from a row, rows appended. Each turn adds its change to those before it.
use Prim.Native.Nat.{ℕ, zero, suc, ◌+◌, ◌-◌, ◌*◌, ◌<◌, ◌≤◌}
use native.Mathlib.Omega.{arith}
use native.Mathlib.Numerals.{add-one}
use mathlib.Core.Path.{◌≡◌, refl, sym, ap, ◌∙◌}
use mathlib.Core.Bool.{Bool, true, false}
use mathlib.Core.List.{List, [], ◌∷◌, ◌++◌, append-nil}
use lib.ListN.{length, get_or, drop, length-append}
use lib.Dec.{eqb}
use borrow.Author.Tests.{eqb-true, eqb-false, eq-eqb, ne_eqb}
use Rattle.clause.specs.declared.Clause.{Clause}
use Rattle.clause.specs.Packed.{signs_of, Holds}
use Rattle.conclusions.specs.Buffer.{clauses_in}
use Rattle.conclusions.proofs.Filling.{clauses_in-same-at}
use Rattle.rows.specs.Raw.{row_width, Raw, raw_at, raws_in, Laid, Left, weight_in, raw_row, reweighed, without}
use Rattle.rows.proofs.Flat.{length-raws_from}
use Rattle.storing.proofs.Laying.{left_read, left_laid, left_trans, left_refl}
use Rattle.storing.proofs.Changes.{length-reweighed, reweighed_past, length_without}
use Rattle.table.specs.Clauses.{clause_from}
use Rattle.table.proofs.Twelve.{clause_from_signs}
use Rattle.stepping.specs.Turns.{weight_at, raised_to, taken_from, appended_to}
use Rattle.stepping.proofs.Places.{weight_read}

-- ---- raw rows in a laid table

-- rows that are read from a laid table end within it
pub laid_room : (t : List ℕ) (base count : ℕ) → Laid t base (raws_in t base count) → base + row_width * count ≤ length t
laid_room t base count l = omega (arith, l.fits, ap (λ n. row_width * n) (length-raws_from count (drop base t)))

-- ---- the turns of raising

raised_long : (u : ℕ) (places : List ℕ) (qs : List Raw) (m : ℕ) → length (raised_to u places qs m) ≡ length qs
unfolding raised_to
raised_long u places qs zero = refl
raised_long u places qs (suc m) = length-reweighed (raised_to u places qs m) _ _ ∙ raised_long u places qs m

-- the places before m are raised
pub record Raising (t₀ : List ℕ) (base count : ℕ) (places : List ℕ) (kept moved : ℕ) (t : List ℕ) (m : ℕ) : Type 0 where
  pub bound : m ≤ kept
  pub left : Left t₀ base t (raised_to moved places (raws_in t₀ base count) m)

module _ (t₀ : List ℕ) (base count : ℕ) (places : List ℕ) (kept moved : ℕ) where
  pub raising_start : Laid t₀ base (raws_in t₀ base count) → Raising t₀ base count places kept moved t₀ 0
  unfolding raised_to
  raising_start l = record { bound = omega arith; left = left_refl l }

  module _ (t : List ℕ) (m : ℕ) (inv : Raising t₀ base count places kept moved t m) where
    many : length (raised_to moved places (raws_in t₀ base count) m) ≡ count
    many = raised_long moved places (raws_in t₀ base count) m ∙ length-raws_from count (drop base t₀)

    pub raising_laid : Laid t base (raws_in t base count)
    raising_laid = left_laid count many inv.left

    pub raising_room : base + row_width * count ≤ length t
    raising_room = omega (arith, inv.left.rows.fits, ap (λ n. row_width * n) many)

    raising_read : raws_in t base count ≡ raised_to moved places (raws_in t₀ base count) m
    raising_read = left_read count many inv.left

    -- the weight read is the one that the contract bounds
    pub raising_weight : (w : ℕ) → get_or places m 0 < count → w ≡ weight_in (raw_at t (base + row_width * get_or places m 0))
        → w ≡ weight_at (raised_to moved places (raws_in t₀ base count) m) (get_or places m 0)
    raising_weight w h e =
        weight_read t base count (get_or places m 0) w h e ∙ ap (λ qs. weight_at qs (get_or places m 0)) raising_read

    pub raising_next : m < kept → (w : ℕ) → get_or places m 0 < count → w ≡ weight_in (raw_at t (base + row_width * get_or places m 0))
        → (t' : List ℕ) → Left t base t' (reweighed (raws_in t base count) (get_or places m 0) (w + moved))
        → (t'' : List ℕ) → t'' ≡ t' → Raising t₀ base count places kept moved t'' (m + 1)
    unfolding raised_to
    raising_next h w l e t' q t'' f =
        let i = raising_weight w l e in
        let r = raising_read in
        record { bound = omega arith; left = rw (add-one m, f) (left_trans inv.left (rw (i, r) at q)) }

    pub raising_skip : m < kept → count ≤ get_or places m 0 → (t' : List ℕ) → t' ≡ t → Raising t₀ base count places kept moved t' (m + 1)
    unfolding raised_to
    raising_skip h l t' e =
        let n = many in
        let same = reweighed_past (raised_to moved places (raws_in t₀ base count) m) (get_or places m 0)
        (weight_at (raised_to moved places (raws_in t₀ base count) m) (get_or places m 0) + moved) (omega arith) in
        record { bound = omega arith; left = rw (add-one m, same, e) inv.left }

    pub raising_end : kept ≤ m → Left t₀ base t (raised_to moved places (raws_in t₀ base count) kept)
    raising_end h = let b = inv.bound in let e : m ≡ kept = omega arith in rw e at inv.left

-- ---- taking weight from a row

module _ (t : List ℕ) (base count k u w : ℕ) (h : k < count) (e : w ≡ weight_in (raw_at t (base + row_width * k))) where
  pub taken_all : w ≡ u → (t' : List ℕ) → Left t base t' (without (raws_in t base count) k)
      → Left t base t' (taken_from u k (raws_in t base count)) × (count - 1 ≡ length (taken_from u k (raws_in t base count)))
  unfolding taken_from
  taken_all g t' l =
      let qs = raws_in t base count in
      let n = length-raws_from count (drop base t) in
      let b : eqb (weight_at qs k) u ≡ true = eq-eqb (weight_at qs k) u (sym (weight_read t base count k w h e) ∙ g) in
      let m : count - 1 ≡ length (without qs k) = omega (arith, length_without qs k (omega arith)) in
      (rw b l, rw b m)

  pub taken_some : (w ≡ u → ⊥) → (t' : List ℕ) → Left t base t' (reweighed (raws_in t base count) k (w - u))
      → Left t base t' (taken_from u k (raws_in t base count)) × (count ≡ length (taken_from u k (raws_in t base count)))
  unfolding taken_from
  taken_some g t' l =
      let qs = raws_in t base count in
      let n = length-raws_from count (drop base t) in
      let f = weight_read t base count k w h e in
      let b : eqb (weight_at qs k) u ≡ false = ne_eqb (weight_at qs k) u (λ q. g (f ∙ q)) in
      let m : count ≡ length (reweighed qs k (weight_at qs k - u)) = sym (length-reweighed qs k _ ∙ n) in
      (rw b (rw f at l), rw b m)

-- ---- the turns of appending

module _ (u n : ℕ) (places : List ℕ) (cs : List (List ℕ)) (qs : List Raw) where
  appended_step : (m : ℕ) → length (appended_to u n places cs qs m) ≤ length (appended_to u n places cs qs (suc m))
  unfolding appended_to
  appended_step m = simp length-append (omega arith)

  pub appended_grows : (m k : ℕ) → m ≤ k → length (appended_to u n places cs qs m) ≤ length (appended_to u n places cs qs k)
  appended_grows m zero h = let z : m ≡ 0 = omega arith in rw z (omega arith)
  appended_grows m (suc k) h = go (eqb m (suc k)) refl (appended_grows m k)
    where
      go : (b : Bool) → eqb m (suc k) ≡ b → (m ≤ k → length (appended_to u n places cs qs m) ≤ length (appended_to u n places cs qs k))
          → length (appended_to u n places cs qs m) ≤ length (appended_to u n places cs qs (suc k))
      go true e ih = let z = eqb-true m (suc k) e in rw z (omega arith)
      go false e ih = let z = eqb-false m (suc k) e in omega (arith, ih (omega arith), appended_step k)

-- the missing rows of the clauses before m are appended
pub record Appending (t₀ : List ℕ) (base count old : ℕ) (buffer places : List ℕ) (kept moved : ℕ) (t : List ℕ) (now m : ℕ) : Type 0 where
  pub bound : m ≤ kept
  pub left : Left t₀ base t (appended_to moved old places (clauses_in kept buffer) (raws_in t₀ base count) m)
  pub counted : now ≡ length (appended_to moved old places (clauses_in kept buffer) (raws_in t₀ base count) m)

module _ (t₀ : List ℕ) (base count old : ℕ) (buffer places : List ℕ) (kept moved : ℕ) where
  rows_to : ℕ → List Raw
  rows_to m = appended_to moved old places (clauses_in kept buffer) (raws_in t₀ base count) m

  pub appending_start : Laid t₀ base (raws_in t₀ base count) → Appending t₀ base count old buffer places kept moved t₀ count 0
  unfolding appended_to
  appending_start l =
      record { bound = omega arith; left = left_refl l; counted = sym (length-raws_from count (drop base t₀)) }

  module _ (t : List ℕ) (now m : ℕ) (inv : Appending t₀ base count old buffer places kept moved t now m) where
    pub appending_laid : Laid t base (raws_in t base now)
    appending_laid = left_laid now (sym inv.counted) inv.left

    pub appending_room : m < kept → get_or places m 0 ≡ old → base + row_width * length (appended_to moved old places (clauses_in kept buffer) (raws_in t₀ base count) kept) ≤ length t₀
        → base + row_width * now + row_width ≤ length t
    unfolding rows_to appended_to
    appending_room h e room =
        let n = inv.counted in
        let long = inv.left.long in
        let one : length (rows_to (suc m)) ≡ length (rows_to m) + 1
        = rw (eq-eqb (get_or places m 0) old e) (length-append (rows_to m) _) in
        let more = appended_grows moved old places (clauses_in kept buffer) (raws_in t₀ base count) (suc m) kept h in
        omega arith

    pub appending_next : m < kept → kept ≤ 26 → get_or places m 0 ≡ old → (x : Clause) → Holds x (get_or (clauses_in 26 buffer) m []) → (t' : List ℕ)
        → Left t base t' (raws_in t base now ++ (raw_row x moved ∷ [])) → (t'' : List ℕ) → t'' ≡ t' → (now' : ℕ) → now' ≡ now + 1
        → Appending t₀ base count old buffer places kept moved t'' now' (m + 1)
    unfolding appended_to
    appending_next h l e x held t' q t'' g now' f =
        let cs = clauses_in kept buffer in
        let c : get_or cs m [] ≡ signs_of x = clauses_in-same-at kept 26 m buffer h (omega arith) ∙ sym held.signs_are in
        let r : raw_row x moved ≡ raw_row (clause_from (get_or cs m [])) moved
        = ap (λ y. raw_row y moved) (sym (ap (λ d. clause_from d) c ∙ clause_from_signs x)) in
        let b = eq-eqb (get_or places m 0) old e in
        let n = inv.counted in
        record {
          bound = omega arith;
          left = rw (add-one m, b, g) (left_trans inv.left (rw (left_read now (sym n) inv.left, r) at q));
          counted = rw (add-one m, b) (f ∙ simp length-append (omega arith));
        }

    pub appending_skip : m < kept → (get_or places m 0 ≡ old → ⊥) → (t' : List ℕ) → t' ≡ t → (now' : ℕ) → now' ≡ now
        → Appending t₀ base count old buffer places kept moved t' now' (m + 1)
    unfolding appended_to
    appending_skip h e t' q now' f =
        let b = ne_eqb (get_or places m 0) old e in
        record {
          bound = omega arith;
          left = rw (add-one m, b, append-nil, q) inv.left;
          counted = rw (add-one m, b, append-nil) (f ∙ inv.counted);
        }

    pub appending_end : kept ≤ m → Left t₀ base t (appended_to moved old places (clauses_in kept buffer) (raws_in t₀ base count) kept)
        × (now ≡ length (appended_to moved old places (clauses_in kept buffer) (raws_in t₀ base count) kept))
    appending_end h = let b = inv.bound in let e : m ≡ kept = omega arith in (rw e at inv.left, rw e at inv.counted)
