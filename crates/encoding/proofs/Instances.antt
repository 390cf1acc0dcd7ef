-- An accepted instance can be encoded: its bindings name values that there are, its costs together fit a weight, and the fold over its words is its encoding.
use Prim.Native.Nat.{ℕ, zero, suc, ◌+◌, ◌-◌, ◌*◌, ◌^◌, ◌<◌, ◌≤◌}
use native.Mathlib.Nat.{le_of_suc-le-suc}
use native.Mathlib.Omega.{arith}
use mathlib.Core.Path.{◌≡◌, refl, sym, ap, ◌∙◌}
use mathlib.Core.Bool.{Bool, true, false, ◌&&◌, cond}
use mathlib.Core.List.{List, [], ◌∷◌, map}
use lib.ListN.{length, get_or, drop, replicate, length-drop, get_or-append, get_or-eq_default}
use lib.Seq.{get_or-drop}
use lib.Dec.{leb, ltb}
use borrow.Author.Tests.{eq-eqb, leb-true, leb-false, ltb-true}
use Rattle.wcsp.specs.Sign.{full}
use Rattle.wcsp.specs.Entry.{Entry, encoded}
use Rattle.wcsp.specs.Widening.{wide_rows}
use Rattle.wcsp.proofs.Signs.{full_at, single_le-full}
use Rattle.wcsp.proofs.WideningTables.{wide_encoded}
use Rattle.words.specs.Layout.{kind_of, variable_in, value_in}
use Rattle.fields.specs.Limits.{forbidden_cost}
use Rattle.fields.specs.Front.{good_sizes}
use Rattle.fields.specs.Entries.{EachSize, Priced, nil_each, cons_each, entries_from}
use Rattle.fields.specs.Padding.{padded, lacking}
use Rattle.fields.proofs.Sizes.{each_positive}
use Rattle.fields.proofs.Costs.{priced_bounded}
use Rattle.fields.proofs.Padding.{padded-length, sizes_at, sizes_padded}
use Rattle.entries.specs.Entries.{Scanned, goes, stops, scan_binding, scan_word, resume, entries_fault}
use Rattle.entries.proofs.Scanning.{word_stops}
use Rattle.input.specs.Instance.{instance_fault, sizes_of, entries_of}
use Rattle.input.proofs.Validating.{headed_bounds, sizes_number, entries_are, instance_apart}
use Rattle.input.proofs.Acceptance.{instance_headed, faultless_is_accepted, passed}
use Rattle.rows.specs.Raw.{max_weight}
use Rattle.encoding.specs.Calls.{encoded_rows}
use Rattle.encoding.specs.Coding.{AllProper, costs_in, rows_to}
use Rattle.encoding.proofs.Coding.{coded_whole}
use Rattle.encoding.proofs.Entries.{coded_encoded, total, costs_total}

-- ---- words without a fault

stopped : (k : ℕ) → suc k ≡ 0 → ⊥
stopped k e = omega arith

-- behind a word without a fault the rest has none
rest_fault : (ds : List ℕ) (from count : ℕ) (R : ℕ → ℕ → ℕ) (w : ℕ) → resume R (scan_word ds from count w) ≡ 0 → (f : ℕ) × (c : ℕ) × (R f c ≡ 0)
unfolding resume
rest_fault ds from count R w e = go (scan_word ds from count w) refl e
  where
    go : (x : Scanned) → scan_word ds from count w ≡ x → resume R x ≡ 0 → (f : ℕ) × (c : ℕ) × (R f c ≡ 0)
    go (goes f c) q e = (f, c, e)
    go (stops k) q e = absurd (omega (arith, word_stops ds from count k w (sym q)))

binding_known : (ds : List ℕ) (from count v a : ℕ) (R : ℕ → ℕ → ℕ) → resume R (scan_binding ds from count v a) ≡ 0 → a < get_or ds v 0
unfolding scan_binding resume
binding_known ds from count v a R e = go (leb from v) (ltb a (get_or ds v 0)) refl e
  where
    go : (x y : Bool) → ltb a (get_or ds v 0) ≡ y → resume R (cond (x && y) (goes (suc v) count) (stops 3)) ≡ 0 → a < get_or ds v 0
    go x true f e = ltb-true a (get_or ds v 0) f
    go true false f e = absurd (stopped 2 e)
    go false false f e = absurd (stopped 2 e)

known_words : (ds : List ℕ) (from count : ℕ) (us : List ℕ) → entries_fault ds from count us ≡ 0 → (k : ℕ) → k < length us
    → kind_of (get_or us k 0) ≡ 3 → value_in (get_or us k 0) < get_or ds (variable_in (get_or us k 0)) 0
unfolding entries_fault scan_word
known_words ds from count [] e k h w = absurd (omega arith)
known_words ds from count (u ∷ us) e zero h w =
    binding_known ds from count (variable_in u) (value_in u) (λ f c. entries_fault ds f c us) (rw (eq-eqb (kind_of u) 3 w) at e)
known_words ds from count (u ∷ us) e (suc k) h w =
    let (f, c, q) = rest_fault ds from count (λ f c. entries_fault ds f c us) u e in
    known_words ds f c us q k (le_of_suc-le-suc h) w

-- ---- sizes

padded-at : (ds : List ℕ) (v : ℕ) → v < length ds → get_or (padded ds) v 0 ≡ get_or ds v 0
unfolding padded
padded-at ds v h = get_or-append ds (replicate (12 - length ds) 1) 0 v h

named : (ds : List ℕ) (v a : ℕ) → a < get_or ds v 0 → v < length ds
named ds v a h = go (leb (length ds) v) refl
  where
    go : (b : Bool) → leb (length ds) v ≡ b → v < length ds
    go true e = let z = get_or-eq_default ds 0 (leb-true (length ds) v e) in absurd (omega arith)
    go false e = leb-false (length ds) v e

proper_at : (ds : List ℕ) → length ds ≤ 12 → EachSize ds → (v a : ℕ) → a < get_or ds v 0
    → (v < 12) × (a < 8) × (2 ^ a ≤ get_or (map full (padded ds)) v 0)
proper_at ds l s v a h =
    let k = named ds v a h in
    let m = sizes_at s v in
    let p : a < get_or (padded ds) v 0 = rw (padded-at ds v k) h in
    (omega arith, omega arith, rw (full_at (padded ds) v) (single_le-full (get_or (padded ds) v 0) a p))

-- ---- costs

total_bounded : (es : List Entry) → Priced es → total es ≤ forbidden_cost * length es
unfolding total
total_bounded [] nil_each = omega arith
total_bounded (e ∷ es) (cons_each h r) = omega (arith, total_bounded es r, priced_bounded e.cost h)

-- ---- the instance

-- what is known of an accepted instance over n variables
pub record Known (ws : List ℕ) (n : ℕ) : Type 0 where
  pub variables : length (sizes_of ws) ≡ n
  pub few : n ≤ 12
  pub sizes : EachSize (sizes_of ws)
  pub proper : AllProper (map full (padded (sizes_of ws))) (n + 1) ws
  pub costs : costs_in (drop (n + 1) ws) ≤ max_weight
  pub rows : rows_to (map full (padded (sizes_of ws))) (n + 1) (length ws) ws ≡ wide_rows (lacking (sizes_of ws)) (encoded_rows ws)

pub known : (ws : List ℕ) → instance_fault ws ≡ 0 → Known ws (length (sizes_of ws))
unfolding encoded padded
known ws e =
    let (n, h) = instance_headed ws e in
    let b = headed_bounds ws n h in
    let (g, f) = passed (good_sizes n (drop 1 ws)) (instance_fault ws) (entries_fault (sizes_of ws) 0 0 (drop (n + 1) ws)) (instance_apart ws n h) e in
    let acc = faultless_is_accepted ws e in
    let v : length (sizes_of ws) ≡ n = sizes_number ws n h g in
    let s : EachSize (sizes_of ws) = acc.sizes.each in
    let few : length (sizes_of ws) ≤ 12 = omega (arith, v, b.0) in
    let es = entries_are ws n h in
    let made = rw (es) at acc.entries in
    rw v
    (record {
      variables = v;
      few = b.0;
      sizes = s;
      proper =
          record {
            each =
                λ k l m w.
                let same = shifted ws (n + 1) k l in
                proper_at (sizes_of ws) few s (variable_in (get_or ws k 0)) (value_in (get_or ws k 0))
                (rw same at (known_words (sizes_of ws) 0 0 (drop (n + 1) ws) f (k - (n + 1)) (behind ws (n + 1) k l m) (ap kind_of same ∙ w)));
          };
      costs = rw (costs_total [] (drop (n + 1) ws)) (omega (arith, total_bounded (entries_from [] (drop (n + 1) ws)) made.costs, made.number));
      rows =
          ap (λ c. c.rows) (coded_whole (map full (padded (sizes_of ws))) (n + 1) ws)
          ∙ coded_encoded (sizes_of ws) (padded (sizes_of ws)) (padded-length (sizes_of ws) few) (each_positive (sizes_padded s)) (padded-at (sizes_of ws)) (drop (n + 1) ws) made.well_formed
          ∙ ap (λ q. encoded (padded (sizes_of ws)) q) (sym es)
          ∙ wide_encoded (lacking (sizes_of ws)) (sizes_of ws) (entries_of ws) acc.entries.well_formed;
    })
  where
    behind : (ws : List ℕ) (at k : ℕ) → at ≤ k → k < length ws → k - at < length (drop at ws)
    behind ws at k l m = simp length-drop (omega arith)

    shifted : (ws : List ℕ) (at k : ℕ) → at ≤ k → get_or (drop at ws) (k - at) 0 ≡ get_or ws k 0
    shifted ws at k l = let p : at + (k - at) ≡ k = omega arith in rw (get_or-drop at ws (k - at) 0, p)
