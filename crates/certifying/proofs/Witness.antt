-- Sheets with no variables by what they come to in every room, that of one variable by what its run is, and three bytes by computation.
use Prim.Native.Nat.{ℕ, ◌≤◌, ◌<◌}
use native.Mathlib.Omega.{arith}
use mathlib.Core.Path.{◌≡◌, refl, ap}
use mathlib.Core.Logic.{◌≢◌}
use mathlib.Core.List.{List, [], ◌∷◌, append-nil}
use lib.ListN.{length}
use Rattle.wcsp.specs.Bound.{total}
use Rattle.wcsp.specs.Empty.{all_costs}
use Rattle.words.specs.Layout.{step_word}
use Rattle.fields.specs.Limits.{forbidden_cost}
use Rattle.fields.specs.Entries.{closes_entry, cost_of, entries_from}
use Rattle.input.specs.Instance.{entries_of}
use Rattle.littleendian.specs.Words.{words_in, bytes_of}
use Rattle.planning.specs.Solving.{solve_bytes}
use Rattle.planning.specs.Empty.{EmptySheet, EmptySolved, constant_bytes, forbidden_bytes}
use Rattle.planning.proofs.Empty.{bytes_solve, empty_bytes}
use Rattle.text.specs.Text.{refused_line, plan_head}
use Rattle.listing.specs.Listed.{variable_lines}
use Rattle.printing.specs.Printed.{ending_text, solved_text}
use Rattle.verifying.specs.Witness.{claim_bytes}
use Rattle.certifying.specs.Certified.{ample_room, amply_solved, certified_text, ending_certificate, solved_certificate, certificate_of}
use Rattle.certifying.specs.Witness.{Witnesses}
use Rattle.certifying.proofs.Planned.{amply_means}
use Rattle.certifying.proofs.TwoValues.{two_certificate, two_text}

module _ (bytes : List ℕ) (e : EmptySheet bytes) where
  abbrev costs : ℕ
  costs = all_costs (entries_of (words_in bytes))

  solved : EmptySolved (entries_of (words_in bytes)) (amply_solved bytes).answer
  solved = bytes_solve ample_room (omega arith) (omega arith) bytes e (amply_solved bytes).answer (amply_means bytes)

  certificate_is : costs < forbidden_cost → certificate_of bytes ≡ claim_bytes [] costs []
  unfolding ending_certificate
  certificate_is l = let (ends, steps, bound) = solved.planned l in rw (ends, steps, bound, e.empty)

  text_is : costs < forbidden_cost → certified_text bytes ≡ plan_head costs 0
  unfolding ending_text variable_lines
  text_is l = let (ends, steps, bound) = solved.planned l in rw (ends, steps, bound, e.empty) (append-nil (plan_head costs 0))

  certificate_none : forbidden_cost ≤ costs → certificate_of bytes ≡ []
  unfolding ending_certificate bytes_of
  certificate_none l = ap (λ s. bytes_of (solved_certificate (words_in bytes) s (amply_solved bytes).steps)) (solved.refused l)

  text_refused : forbidden_cost ≤ costs → certified_text bytes ≡ refused_line 15
  unfolding ending_text
  text_refused l = ap (solved_text (words_in bytes)) (solved.refused l)

-- a certificate has bytes
made : (plan : List ℕ) (cost : ℕ) (derivation : List ℕ) → claim_bytes plan cost derivation ≢ []
unfolding bytes_of
made plan cost derivation e = let z = ap (λ (l : List ℕ). length l) e in omega (arith, z)

pub witnesses : Witnesses
unfolding words_in entries_of entries_from closes_entry cost_of total solve_bytes ending_certificate bytes_of ending_text
witnesses =
    let none = empty_bytes.nothing in
    let twelve = empty_bytes.constants in
    let forbids = empty_bytes.forbidden in
    record {
      nothing = certificate_is [] none (omega arith);
      nothing_made = rw (certificate_is [] none (omega arith)) (made [] 0 []);
      nothing_text = text_is [] none (omega arith);
      constants = certificate_is constant_bytes twelve (omega arith);
      constants_made = rw (certificate_is constant_bytes twelve (omega arith)) (made [] 12 []);
      constants_text = text_is constant_bytes twelve (omega arith);
      two = two_certificate;
      two_made = rw two_certificate (made (1 ∷ []) 1 (step_word 0 0 1 ∷ []));
      two_text = two_text;
      forbidden = certificate_none forbidden_bytes forbids (omega arith);
      forbidden_text = text_refused forbidden_bytes forbids (omega arith);
      odd = refl;
      odd_text = refl;
    }
