-- A station, value by value: what a coordinate that was read tells, and that the positions of the values still to come are as good as all.
use Rattle.std.proofs.Common.{ℕ, suc, ◌+◌, ◌-◌, ◌*◌, ◌≤◌, ◌<◌, ◌≡◌, Bool, true, false, cond, List, [], ◌∷◌, drop, refl, sym, ap, ◌∙◌, arith, Ok, Err, Option, Some, None}
use Rattle.std.proofs.lemmas.List.{drop-drop}
use lib.Dec.{eqb}
use Rattle.fields.specs.Front.{size_in}
use Rattle.fields.specs.declared.refusals.Fault.{Fault}
use Rattle.fields.specs.declared.refusals.Fault.TheVariants.{BadVariable}
use Rattle.input.specs.Heads.{size_read}
use Rattle.sheet.specs.Sheet.{is_place, coordinate_in}
use Rattle.sheet.specs.Phases.{place_next, good_positions, coordinate_got, coordinate_next, station_next}

pub coordinate_good : (k o : ℕ) (ws : List ℕ) → Ok o ≡ coordinate_next k ws → place_next k ws ≡ true
unfolding is_place
coordinate_good k o [] e = let z : ◌≡◌ {A = ℕ} 0 1 = cc in absurd (omega arith)
coordinate_good k o (w ∷ ws) e = go (coordinate_in k w) e
  where
    go : (q : Option ℕ) → Ok o ≡ coordinate_got q → is_place q ≡ true
    go (Some x) h = refl
    go None h = let z : ◌≡◌ {A = ℕ} 0 1 = cc in absurd (omega arith)

pub coordinate_broken : (k : ℕ) (f : Fault) (ws : List ℕ) → Err f ≡ coordinate_next k ws → (f ≡ BadVariable) × (place_next k ws ≡ false)
unfolding is_place
coordinate_broken k f [] e = let o : f ≡ BadVariable = cc in (o, refl)
coordinate_broken k f (w ∷ ws) e = go (coordinate_in k w) e
  where
    go : (q : Option ℕ) → Err f ≡ coordinate_got q → (f ≡ BadVariable) × (is_place q ≡ false)
    go (Some x) h = let z : ◌≡◌ {A = ℕ} 0 1 = cc in absurd (omega arith)
    go None h = let o : f ≡ BadVariable = cc in (o, refl)

-- what the station comes to from its size on
pub station_by : (ws : List ℕ) (d : ℕ) → Ok d ≡ size_read ws → station_next ws ≡ cond (good_positions d (drop 1 ws)) (Ok d) (Err BadVariable)
unfolding station_next
station_by [] d e = let z : ◌≡◌ {A = ℕ} 0 1 = cc in absurd (omega arith)
station_by (w ∷ ws) d e = go (eqb (size_in w) 0) e
  where
    go : (a : Bool) → Ok d ≡ cond a (Err BadVariable) (Ok (size_in w))
        → cond a (Err BadVariable) (cond (good_positions (size_in w) ws) (Ok (size_in w)) (Err BadVariable)) ≡ cond (good_positions d ws) (Ok d) (Err BadVariable)
    go true h = let z : ◌≡◌ {A = ℕ} 0 1 = cc in absurd (omega arith)
    go false h = let o : size_in w ≡ d = cc in rw o

-- the fault of a position, and all positions good
module _ (ws : List ℕ) (d : ℕ) (size : Ok d ≡ size_read ws) (rest : List ℕ) (left : rest ≡ drop 1 ws) where
  pub station_ended : (f : Fault) → (f ≡ BadVariable) × (good_positions d rest ≡ false) → Err f ≡ station_next ws
  station_ended f b =
      ap Err b.0 ∙ sym (station_by ws d size ∙ ap (λ x. cond x (Ok d) (Err BadVariable)) (ap (good_positions d) (sym left) ∙ b.1))

  pub station_whole : good_positions d rest ≡ true → Ok d ≡ station_next ws
  station_whole g = sym (station_by ws d size ∙ ap (λ x. cond x (Ok d) (Err BadVariable)) (ap (good_positions d) (sym left) ∙ g))

pub station_none : (ws : List ℕ) (f : Fault) → Err f ≡ size_read ws → Err f ≡ station_next ws
unfolding station_next
station_none [] f e = e
station_none (w ∷ ws) f e = go (eqb (size_in w) 0) e
  where
    go : (a : Bool) → Err f ≡ cond a (Err BadVariable) (Ok (size_in w))
        → Err f ≡ cond a (Err BadVariable) (cond (good_positions (size_in w) ws) (Ok (size_in w)) (Err BadVariable))
    go true h = h
    go false h = let z : ◌≡◌ {A = ℕ} 0 1 = cc in absurd (omega arith)

-- ---- i of d positions are read, and these words are left

pub record PositionsSoFar (whole ws : List ℕ) (d i : ℕ) : Type 0 where
  pub left : ws ≡ drop (2 * i) whole
  pub good : good_positions d whole ≡ good_positions (d - i) ws

pub positions_start : (ws : List ℕ) (d : ℕ) → PositionsSoFar ws ws d 0
positions_start ws d = let e : d - 0 ≡ d = omega arith in record { left = refl; good = rw e }

module _ (whole ws : List ℕ) (d i : ℕ) (inv : PositionsSoFar whole ws d i) where
  pub no_easting : (f : Fault) → i < d → Err f ≡ coordinate_next 8 ws → (f ≡ BadVariable) × (good_positions d whole ≡ false)
  unfolding good_positions
  no_easting f h e =
      let more : d - i ≡ suc (d - (i + 1)) = omega arith in
      let b = coordinate_broken 8 f ws e in
      (b.0, inv.good ∙ ap (λ k. good_positions k ws) more ∙ rw b.1)

  -- an easting is read, and these words are left
  module _ (h : i < d) (o : ℕ) (east : Ok o ≡ coordinate_next 8 ws) (mid : List ℕ) (passed : mid ≡ drop 1 ws) where
    pub no_northing : (f : Fault) → Err f ≡ coordinate_next 9 mid → (f ≡ BadVariable) × (good_positions d whole ≡ false)
    unfolding good_positions
    no_northing f e =
        let more : d - i ≡ suc (d - (i + 1)) = omega arith in
        let b = coordinate_broken 9 f (drop 1 ws) (e ∙ ap (coordinate_next 9) passed) in
        (b.0, inv.good ∙ ap (λ k. good_positions k ws) more ∙ rw (coordinate_good 8 o ws east, b.1))

    pub positions_more : (n : ℕ) → Ok n ≡ coordinate_next 9 mid → (last : List ℕ) → last ≡ drop 1 mid → PositionsSoFar whole last d (i + 1)
    unfolding good_positions
    positions_more n north last passed_too =
        let more : d - i ≡ suc (d - (i + 1)) = omega arith in
        let two : 2 * i + 2 ≡ 2 * (i + 1) = omega arith in
        let behind : last ≡ drop 2 ws = passed_too ∙ ap (drop 1) passed ∙ drop-drop 1 1 ws in
        let turn : good_positions (suc (d - (i + 1))) ws ≡ good_positions (d - (i + 1)) (drop 2 ws) =
        rw (coordinate_good 8 o ws east, coordinate_good 9 n (drop 1 ws) (north ∙ ap (coordinate_next 9) passed)) in
        record {
          left = behind ∙ ap (drop 2) inv.left ∙ drop-drop 2 (2 * i) whole ∙ ap (λ k. drop k whole) two;
          good = inv.good ∙ ap (λ k. good_positions k ws) more ∙ turn ∙ ap (good_positions (d - (i + 1))) (sym behind);
        }

  pub positions_end : d ≤ i → i ≤ d → (good_positions d whole ≡ true) × (ws ≡ drop (2 * d) whole)
  unfolding good_positions
  positions_end h l =
      let z : d - i ≡ 0 = omega arith in
      let e : i ≡ d = omega arith in
      (inv.good ∙ ap (λ k. good_positions k ws) z, rw e at inv.left)
