-- The legs of an accepted sheet: how many there are, and that each one's bindings and cost are within their ranges.
use Prim.Native.Nat.{ℕ, suc, ◌+◌, ◌*◌, ◌≤◌, ◌<◌}
use native.Mathlib.Nat.{suc-mul}
use native.Mathlib.Omega.{arith}
use mathlib.Core.Path.{◌≡◌, refl, sym, ap, ◌∙◌}
use mathlib.Core.List.{List, [], ◌∷◌, ◌++◌, map, append_assoc}
use lib.ListN.{length, get_or, length-append, length-map}
use lib.Seq.{get_or-append_seam, get_or-append-add}
use Rattle.distance.proofs.Largest.{between_bound}
use Rattle.fields.specs.Limits.{max_values}
use Rattle.fields.specs.Entries.{Each, nil_each, cons_each, EachSize}
use Rattle.sheet.specs.Sheet.{Point, leg_count, positions_of, sheet_sizes}
use Rattle.sheet.specs.Accepted.{PlacedPoint, AcceptedSheet}
use Rattle.sheet.specs.Calls.{travel}
use Rattle.making.specs.Made.{Leg, legs_to, legs_between, legs_from}

-- ---- how many

pub legs_to-length : (i a : ℕ) (p : Point) (b : ℕ) (qs : List Point) → length (legs_to i a p b qs) ≡ length qs
unfolding legs_to
legs_to-length i a p b [] = refl
legs_to-length i a p b (q ∷ qs) = ap suc (legs_to-length i a p (suc b) qs)

pub legs_between-length : (i a : ℕ) (ps qs : List Point) → length (legs_between i a ps qs) ≡ length ps * length qs
unfolding legs_between
legs_between-length i a [] qs = omega arith
legs_between-length i a (p ∷ ps) qs =
    rw (length-append (legs_to i a p 0 qs) (legs_between i (suc a) ps qs), legs_to-length i a p 0 qs, legs_between-length i (suc a) ps qs) (omega (arith, suc-mul (length ps) (length qs)))

pub legs_length : (i : ℕ) (stations : List (List Point)) → length (legs_from i stations) ≡ leg_count (map length stations)
unfolding legs_from leg_count
legs_length i [] = refl
legs_length i (ps ∷ []) = refl
legs_length i (ps ∷ (qs ∷ rest)) =
    rw (length-append (legs_between i 0 ps qs) (legs_from (suc i) (qs ∷ rest)), legs_between-length i 0 ps qs, legs_length (suc i) (qs ∷ rest))

-- ---- good legs over these sizes

pub record GoodLeg (sizes : List ℕ) (l : Leg) : Type 0 where
  pub known : l.variable < 16
  pub from : l.value < get_or sizes l.variable 0
  pub from_small : l.value < max_values
  pub to : l.next_value < get_or sizes (suc l.variable) 0
  pub to_small : l.next_value < max_values
  pub near : l.metres ≤ 28284

pub data GoodLegs (sizes : List ℕ) : List Leg → Type 0 where
  nil_legs : GoodLegs sizes []
  cons_legs : {l : Leg} {ls : List Leg} → GoodLeg sizes l → GoodLegs sizes ls → GoodLegs sizes (l ∷ ls)

good-append : {sizes : List ℕ} {xs ys : List Leg} → GoodLegs sizes xs → GoodLegs sizes ys → GoodLegs sizes (xs ++ ys)
good-append nil_legs h = h
good-append (cons_legs g gs) h = cons_legs g (good-append gs h)

module _ (sizes : List ℕ) (i : ℕ) (known : i < 16) where
  good_to : (a : ℕ) (p : Point) (b : ℕ) (qs : List Point) → a < get_or sizes i 0 → a < max_values → PlacedPoint p → Each PlacedPoint qs
      → b + length qs ≤ get_or sizes (suc i) 0 → b + length qs ≤ max_values → GoodLegs sizes (legs_to i a p b qs)
  unfolding legs_to
  good_to a p b [] ha sa hp nil_each hb sb = nil_legs
  good_to a p b (q ∷ qs) ha sa hp (cons_each hq hqs) hb sb =
      let leg : GoodLeg sizes (record { variable = i; value = a; next_value = b; metres = travel p q }) =
      record {
        known = known;
        from = ha;
        from_small = sa;
        to = omega arith;
        to_small = omega arith;
        near = between_bound p.easting p.northing q.easting q.northing hp.easting hp.northing hq.easting hq.northing;
      } in
      cons_legs leg (good_to a p (suc b) qs ha sa hp hqs (omega arith) (omega arith))

  good-between : (a : ℕ) (ps qs : List Point) → Each PlacedPoint ps → Each PlacedPoint qs → a + length ps ≤ get_or sizes i 0 → a + length ps ≤ max_values
      → length qs ≤ get_or sizes (suc i) 0 → length qs ≤ max_values → GoodLegs sizes (legs_between i a ps qs)
  unfolding legs_between
  good-between a [] qs nil_each hqs ha sa hb sb = nil_legs
  good-between a (p ∷ ps) qs (cons_each hp hps) hqs ha sa hb sb =
      good-append (good_to a p 0 qs (omega arith) (omega arith) hp hqs (omega arith) (omega arith))
      (good-between (suc a) ps qs hps hqs (omega arith) (omega arith) hb sb)

-- the sizes at the seam and behind it
seam : (done : List ℕ) (d : ℕ) (rest : List ℕ) → get_or (done ++ (d ∷ rest)) (length done) 0 ≡ d
seam done d rest = get_or-append_seam done d rest 0

seam_next : (done : List ℕ) (d e : ℕ) (rest : List ℕ) → get_or (done ++ (d ∷ (e ∷ rest))) (suc (length done)) 0 ≡ e
seam_next done d e rest =
    let s : suc (length done) ≡ length done + 1 = omega arith in
    rw s (get_or-append-add done (d ∷ (e ∷ rest)) 1 0)

good_from : (done : List ℕ) (i : ℕ) (stations : List (List Point)) (sizes : List ℕ) → i ≡ length done → sizes ≡ done ++ map length stations
    → i + length stations ≤ 16 → Each (λ ps. Each PlacedPoint ps) stations → EachSize (map length stations) → GoodLegs sizes (legs_from i stations)
unfolding legs_from
good_from done i [] sizes at whole room bs small = nil_legs
good_from done i (ps ∷ []) sizes at whole room bs small = nil_legs
good_from done i (ps ∷ (qs ∷ rest)) sizes at whole room (cons_each hps (cons_each hqs hrest)) (cons_each p (cons_each q small)) =
    let first : get_or sizes i 0 ≡ length ps = rw (whole, at) (seam done (length ps) (map length (qs ∷ rest))) in
    let second : get_or sizes (suc i) 0 ≡ length qs = rw (whole, at) (seam_next done (length ps) (length qs) (map length rest)) in
    let done' : List ℕ = done ++ (length ps ∷ []) in
    let at' : suc i ≡ length done' = omega (arith, length-append done (length ps ∷ [])) in
    let whole' : sizes ≡ done' ++ map length (qs ∷ rest) = whole ∙ sym (append_assoc done (length ps ∷ []) (map length (qs ∷ rest))) in
    good-append (good-between sizes i (omega arith) 0 ps qs hps hqs (omega arith) (omega arith) (omega arith) (omega arith))
    (good_from done' (suc i) (qs ∷ rest) sizes at' whole' (omega arith) (cons_each hqs hrest) (cons_each q small))

pub good_legs : (ws : List ℕ) → AcceptedSheet ws → GoodLegs (sheet_sizes ws) (legs_from 0 (positions_of ws))
unfolding sheet_sizes
good_legs ws a =
    good_from [] 0 (positions_of ws) (sheet_sizes ws) refl refl (omega (arith, a.sizes.most, length-map (positions_of ws) length)) a.positions a.sizes.each
