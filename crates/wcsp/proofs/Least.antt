-- From an encoding to the least cost: permitted steps conserve every assignment's cost, and once no pair is left the empty row's weight is attained,
-- and over given higher values the weight of the rows without lower variables.
use Prim.Native.Nat.{ℕ, ◌≤◌}
use native.Mathlib.Omega.{arith}
use mathlib.Core.Path.{◌≡◌, sym, subst, ◌∙◌}
use mathlib.Core.List.{List}
use mathlib.Core.Option.{none}
use lib.ListN.{length, drop}
use Rattle.wcsp.specs.Clause.{InRange, AllPositive}
use Rattle.wcsp.specs.Row.{Row, falsified, empty_weight, ValidRows}
use Rattle.wcsp.specs.Entry.{Entry, cost, encoded}
use Rattle.wcsp.specs.Resolve.{next_pair}
use Rattle.wcsp.specs.Rebuild.{rebuilt, rebuilt_over, tail_weight}
use Rattle.wcsp.specs.Theorems.{Completes, SaturatedIsLeast, BestFrom, SaturatedCompletes}
use Rattle.wcsp.proofs.Encoding.{encoding_valid, encoding_exact}
use Rattle.wcsp.proofs.Conservation.{replay_conserves}
use Rattle.wcsp.proofs.Completeness.{completeness, optimality}

pub saturated_is_least : SaturatedIsLeast
saturated_is_least ds es prs rs positive formed replays done =
    let kept = replay_conserves ds (encoded ds es) rs prs (encoding_valid ds es positive formed) replays in
    let best = optimality ds rs positive kept.valid done in
    record {
      assignment = rebuilt ds rs;
      in_range = best.in_range;
      attained =
          sym (encoding_exact ds es (rebuilt ds rs) formed best.in_range) ∙ sym (kept.weights (rebuilt ds rs) best.in_range)
          ∙ best.attained;
      least =
          λ p h.
          subst (λ (n : ℕ). empty_weight (length ds) rs ≤ n) (kept.weights p h ∙ encoding_exact ds es p formed h) (best.least p h);
    }

-- rows with no pair left that carry the costs of the entries
module _ (ds : List ℕ) (es : List Entry) (rs : List Row) (positive : AllPositive ds) (valid : ValidRows ds rs) (done : next_pair ds rs ≡ none)
    (weights : (p : List ℕ) → InRange ds p → falsified p rs ≡ cost es p) where
  pub best_from : (k : ℕ) (q : List ℕ) → k ≤ length ds → InRange (drop k ds) q → BestFrom ds es k q (rebuilt_over ds rs k q) (tail_weight k q rs)
  best_from k q l h =
      let over : Completes ds rs k q = completeness ds rs k q positive valid done l h in
      record {
        in_range = over.in_range;
        agrees = over.agrees;
        attained = sym (weights (rebuilt_over ds rs k q) over.in_range) ∙ over.exact;
        least = λ p r a. omega (arith, over.cheapest p r a, over.exact, weights p r);
      }

pub saturated_completes : SaturatedCompletes
saturated_completes ds es prs rs k q positive formed replays done =
    let kept = replay_conserves ds (encoded ds es) rs prs (encoding_valid ds es positive formed) replays in
    best_from ds es rs positive kept.valid done (λ p h. kept.weights p h ∙ encoding_exact ds es p formed h) k q
