-- Bytes that came to a plan: what the checker accepts of them, and that a certificate takes it.
use Prim.Native.Nat.{ℕ, ◌*◌, ◌%◌, ◌≤◌, ◌<◌}
use native.Mathlib.Omega.{arith}
use mathlib.Core.Path.{◌≡◌, refl, ap, ◌∙◌}
use mathlib.Core.List.{List, [], ◌∷◌}
use lib.ListN.{length, get_or, take, replicate, length-take, length-replicate}
use Rattle.wcsp.specs.Clause.{InRange, nil, cons}
use Rattle.wcsp.proofs.Lists.{along_length}
use Rattle.words.specs.Layout.{payload_of}
use Rattle.fields.specs.Limits.{max_values}
use Rattle.fields.specs.Entries.{Each, nil_each, cons_each, EachSize}
use Rattle.sheet.specs.Sheet.{sheet_sizes}
use Rattle.sheet.proofs.Acceptance.{accepted_sheet}
use Rattle.littleendian.specs.Words.{words_in, bytes_of}
use Rattle.making.specs.Made.{made_words}
use Rattle.making.proofs.Reading.{made_accepted}
use Rattle.planning.specs.Values.{Ending, Solved}
use Rattle.planning.specs.Solving.{buffer_words, SolveReturned}
use Rattle.planning.specs.Theorems.{ClaimAccepted, MeansIn}
use Rattle.planning.proofs.Meaning.{bytes_mean}
use Rattle.planning.proofs.Claimed.{planned_is_accepted}
use Rattle.listing.proofs.Plans.{variables_read}
use Rattle.printing.specs.Printed.{solved_text}
use Rattle.printing.specs.Listable.{Listable}
use Rattle.printing.proofs.Plans.{means_listable}
use Rattle.certificate.specs.Theorems.{Claimable}
use Rattle.certificate.specs.Certificate.{certificate_words}
use Rattle.verifying.specs.Verified.{most_derivation, work_words}
use Rattle.certifying.specs.Certified.{ample_room, amply_solved, certified_text, ending_certificate, solved_certificate, certificate_of}
use Rattle.certifying.specs.Certifiable.{CertifiablePlan, Certifiable}

-- values below sizes are below eight
below_eight : (ds p : List ℕ) → EachSize ds → InRange ds p → Each (λ a. a < max_values) p
below_eight [] (v ∷ p) e x4 = elim x4 [ ]
below_eight (d ∷ ds) [] e x4 = elim x4 [ ]
below_eight [] [] e nil = nil_each
below_eight (d ∷ ds) (v ∷ p) (cons_each (low, high) e) (cons h r) = let small : v < max_values = omega arith in cons_each small (below_eight ds p e r)

-- the claim of a plan is one that a certificate takes
pub claim_taken : (limit : ℕ) (sheet work : List ℕ) (s : Solved) (steps : List ℕ) → ClaimAccepted limit sheet work s steps → CertifiablePlan sheet s steps
claim_taken limit sheet work s steps c =
    let sizes = (made_accepted sheet c.fine).sizes in
    let field = (accepted_sheet sheet c.fine).sizes in
    let n = length (sheet_sizes sheet) in
    let within : InRange (sheet_sizes sheet) (take n s.plan) = rw sizes at c.best.in_range in
    let many = along_length within in
    let l = length-take n s.plan in
    record {
      fine = c.fine;
      long = omega (arith, many, l);
      claim = record { few = omega (arith, many, field.most); values = below_eight (sheet_sizes sheet) (take n s.plan) field.each within; small = omega (arith, c.cheap) };
      made = omega (arith, length-take s.steps steps, c.written);
    }

-- what is planned in the ample room: a value that means one of its cases
module _ (bytes : List ℕ) where
  pub amply_means : MeansIn ample_room bytes (amply_solved bytes).answer
  amply_means =
      bytes_mean ample_room most_derivation bytes (replicate buffer_words 0) (replicate work_words 0) (replicate most_derivation 0)
      (record {
        instance_long = length-replicate {A = ℕ} buffer_words 0;
        table_long = length-replicate {A = ℕ} work_words 0;
        front = omega arith;
        ending = rw (length-replicate {A = ℕ} most_derivation 0) (omega arith);
      })

  pub planned_claim : (amply_solved bytes).answer.ending ≡ Ending.Planned
      → (length bytes ≤ 4 * buffer_words) × (length bytes % 4 ≡ 0) × (length (made_words (words_in bytes)) ≤ length (replicate {A = ℕ} buffer_words 0))
      × ClaimAccepted most_derivation (words_in bytes) (replicate work_words 0) (amply_solved bytes).answer (amply_solved bytes).steps
  planned_claim e = planned_is_accepted most_derivation bytes (replicate buffer_words 0) (replicate work_words 0) (replicate most_derivation 0) (replicate work_words 0) refl e

  -- what `certify` needs of the value that its call answered
  module _ (r : SolveReturned) (e : r ≡ amply_solved bytes) where
    pub certifiable : Certifiable bytes r.answer r.steps
    certifiable p = rw e (claim_taken most_derivation (words_in bytes) (replicate work_words 0) (amply_solved bytes).answer (amply_solved bytes).steps (planned_claim (rw e at p)).3)

    pub listable : Listable bytes r.answer
    listable p = means_listable ample_room bytes r.answer (rw e amply_means) p

    -- what is written of it
    pub text_is : solved_text (words_in bytes) r.answer ≡ certified_text bytes
    text_is = ap (λ (x : SolveReturned). solved_text (words_in bytes) x.answer) e

    pub certificate_is : bytes_of (solved_certificate (words_in bytes) r.answer r.steps) ≡ certificate_of bytes
    certificate_is = ap (λ (x : SolveReturned). bytes_of (solved_certificate (words_in bytes) x.answer x.steps)) e

-- ---- what is put of a value

-- the parts that a certificate is put of, by as many variables as the head says
pub parts : (bytes : List ℕ) (s : Solved) (words : List ℕ) (n : ℕ) → n ≡ payload_of (get_or (words_in bytes) 0 0) → CertifiablePlan (words_in bytes) s words
    → (n ≡ length (sheet_sizes (words_in bytes))) × (n ≤ length s.plan) × (n ≤ 12) × (s.steps ≤ length words) × Claimable (take n s.plan) s.bound
parts bytes s words n e p =
    let r = variables_read (words_in bytes) p.fine in
    let many : n ≡ length (sheet_sizes (words_in bytes)) = e ∙ r.0 in
    (many, omega (arith, p.long, many), omega (arith, r.1, many), p.made, rw many p.claim)

module _ (bytes : List ℕ) (s : Solved) (words : List ℕ) where
  pub planned_put : (out : List ℕ) (r n : ℕ) → s.ending ≡ Ending.Planned → n ≡ length (sheet_sizes (words_in bytes))
      → take r out ≡ bytes_of (certificate_words (take n s.plan) s.bound (take s.steps words)) → take r out ≡ bytes_of (solved_certificate (words_in bytes) s words)
  unfolding ending_certificate
  planned_put out r n e f p = rw (e, ← f) p
