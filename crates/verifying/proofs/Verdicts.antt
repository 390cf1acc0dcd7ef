-- The verdict by its tests: a number that is not 0 ends it, and its text is then that number's line.
use Prim.Native.Nat.{ℕ, ◌*◌, ◌%◌, ◌≤◌, ◌<◌}
use native.Mathlib.Omega.{arith}
use mathlib.Core.Path.{◌≡◌, refl, sym, ◌∙◌}
use mathlib.Core.Bool.{Bool, true, false, cond}
use mathlib.Core.List.{List}
use lib.ListN.{length, take, replicate}
use lib.Seq.{take_all}
use lib.Dec.{eqb, ltb}
use borrow.Author.Tests.{eq-eqb, ne_eqb, eqb-true, eqb-false, le-leb, lt-ltb, le-ltb, ltb-false}
use Rattle.fields.specs.Numbers.{number_of}
use Rattle.fields.specs.declared.refusals.Refusal.{Refusal}
use Rattle.littleendian.specs.Words.{words_in}
use Rattle.sheet.specs.Sheet.{sheet_fault}
use Rattle.making.specs.Made.{made_words}
use Rattle.making.specs.Calls.{make_call}
use Rattle.checker.specs.Answer.{CheckAnswer}
use Rattle.checker.specs.Calls.{CheckReturned, check_call}
use Rattle.certificate.specs.declared.Claim.{Claim}
use Rattle.certificate.specs.Certificate.{stated_variables, stated_plan, stated_cost, stated_derivation, has_claim}
use Rattle.certificate.specs.Claim.{claim_of}
use Rattle.text.specs.Text.{refused_line}
use Rattle.verifying.specs.Verified.{sheet_words, certificate_room, work_words, length_fault, unless, checked_words, sheet_verdict, verdict_of, accepted_text, outcome_text, answer_text}

-- ---- lengths

module _ (most odd : ℕ) (bytes : List ℕ) where
  pub over : 4 * most < length bytes → 10 ≡ length_fault most odd bytes
  unfolding length_fault
  over h = rw (lt-ltb (4 * most) (length bytes) h)

  module _ (short : length bytes ≤ 4 * most) where
    pub uneven : (length bytes % 4 ≡ 0 → ⊥) → odd ≡ length_fault most odd bytes
    unfolding length_fault
    uneven h = rw (le-ltb (4 * most) (length bytes) short, ne_eqb (length bytes % 4) 0 h)

    pub even : length bytes % 4 ≡ 0 → 0 ≡ length_fault most odd bytes
    unfolding length_fault
    even h = rw (le-ltb (4 * most) (length bytes) short, eq-eqb (length bytes % 4) 0 h)

  pub no_longer : length_fault most odd bytes ≡ 0 → length bytes ≤ 4 * most
  unfolding length_fault
  no_longer = go (ltb (4 * most) (length bytes)) refl
    where
      go : (b : Bool) → ltb (4 * most) (length bytes) ≡ b → cond b 10 (cond (eqb (length bytes % 4) 0) 0 odd) ≡ 0 → length bytes ≤ 4 * most
      go true e z = absurd (omega arith)
      go false e z = ltb-false (4 * most) (length bytes) e

  -- nothing is wrong with the length: whole words, and not too many
  pub whole_length : (odd ≡ 0 → ⊥) → length_fault most odd bytes ≡ 0 → (length bytes ≤ 4 * most) × (length bytes % 4 ≡ 0)
  unfolding length_fault
  whole_length n = go (ltb (4 * most) (length bytes)) (eqb (length bytes % 4) 0) refl refl
    where
      go : (b c : Bool) → ltb (4 * most) (length bytes) ≡ b → eqb (length bytes % 4) 0 ≡ c → cond b 10 (cond c 0 odd) ≡ 0
          → (length bytes ≤ 4 * most) × (length bytes % 4 ≡ 0)
      go true c e f z = absurd (omega arith)
      go false true e f z = (ltb-false (4 * most) (length bytes) e, eqb-true (length bytes % 4) 0 f)
      go false false e f z = absurd (n z)

-- ---- numbers

-- a refusal has a number
pub refused_more : (r : Refusal) → 1 ≤ number_of r
refused_more r = grind arith

pub refusal_counts : (r : Refusal) → number_of r ≡ 0 → ⊥
refusal_counts r z = omega (arith, refused_more r)

pub goes_on : (k : ℕ) (a : CheckAnswer) → k ≡ 0 → unless k a ≡ a
unfolding unless
goes_on k a z = rw (eq-eqb k 0 z)

-- only where neither stops is the number 0
pub unless-zero : (k : ℕ) (a : CheckAnswer) → (unless k a).number ≡ 0 → (k ≡ 0) × (a.number ≡ 0)
unfolding unless
unless-zero k a = go (eqb k 0) refl
  where
    go : (b : Bool) → eqb k 0 ≡ b → (cond b a (record { number = k; steps = 0 })).number ≡ 0 → (k ≡ 0) × (a.number ≡ 0)
    go true e z = (eqb-true k 0 e, z)
    go false e z = absurd (eqb-false k 0 e z)

-- ---- texts

-- a plan's whole front is the plan
pub whole_plan : (n : ℕ) (plan : List ℕ) → n ≡ length plan → take n plan ≡ plan
whole_plan n plan e = take_all n plan (omega (arith, e))

module _ (sheet plan : List ℕ) (cost : ℕ) (a : CheckAnswer) where
  -- the text of a check that accepts, and of one that does not
  pub passed_text : a.number ≡ 0 → outcome_text sheet plan cost a ≡ accepted_text sheet plan a.steps cost
  unfolding outcome_text
  passed_text z = rw (eq-eqb a.number 0 z)

  pub failed_text : (a.number ≡ 0 → ⊥) → outcome_text sheet plan cost a ≡ refused_line a.number
  unfolding outcome_text
  failed_text n = rw (ne_eqb a.number 0 n)

module _ (sheet ws : List ℕ) where
  pub refused_text : (a : CheckAnswer) (k : ℕ) → a.number ≡ k → (k ≡ 0 → ⊥) → answer_text sheet ws a ≡ refused_line k
  unfolding answer_text
  refused_text a k e n = rw (e, ne_eqb k 0 n)

  pub accepted_text_lem : (a : CheckAnswer) → a.number ≡ 0 → answer_text sheet ws a ≡ accepted_text sheet (stated_plan ws) a.steps (stated_cost ws)
  unfolding answer_text
  accepted_text_lem a z = rw (eq-eqb a.number 0 z)

  pub stopped_text : (k : ℕ) (a : CheckAnswer) → (k ≡ 0 → ⊥) → answer_text sheet ws (unless k a) ≡ refused_line k
  unfolding unless
  stopped_text k a n = rw (ne_eqb k 0 n) (refused_text (record { number = k; steps = 0 }) k refl n)

  module _ (text : List ℕ) (k : ℕ) (a : CheckAnswer) where
    -- the line of a number that ended it
    pub stopped_put : (k ≡ 0 → ⊥) → text ≡ refused_line k → text ≡ answer_text sheet ws (unless k a)
    stopped_put n p = rw (stopped_text k a n) p

    -- the text of what comes behind a test that passed
    pub goes_put : k ≡ 0 → text ≡ answer_text sheet ws a → text ≡ answer_text sheet ws (unless k a)
    goes_put z p = rw (goes_on k a z) p

-- ---- the claim

module _ (ws : List ℕ) where
  pub claim_missing : Claim.Nothing ≡ claim_of ws → has_claim ws ≡ false
  unfolding claim_of
  claim_missing = go (has_claim ws) refl
    where
      go : (b : Bool) → has_claim ws ≡ b → Claim.Nothing ≡ cond b (Claim.Stated (stated_variables ws) (stated_cost ws)) Claim.Nothing → has_claim ws ≡ false
      go true e f = absurd (let z : ◌≡◌ {A = ℕ} 0 1 = cc in omega arith)
      go false e f = e

  -- a claim that was read: there is one, with these variables and this cost
  pub claim_stated : (n cost : ℕ) → Claim.Stated n cost ≡ claim_of ws → (has_claim ws ≡ true) × (n ≡ stated_variables ws) × (cost ≡ stated_cost ws)
  unfolding claim_of
  claim_stated n cost = go (has_claim ws) refl
    where
      go : (b : Bool) → has_claim ws ≡ b → Claim.Stated n cost ≡ cond b (Claim.Stated (stated_variables ws) (stated_cost ws)) Claim.Nothing
          → (has_claim ws ≡ true) × (n ≡ stated_variables ws) × (cost ≡ stated_cost ws)
      go true e f = (e, cc, cc)
      go false e f = absurd (let z : ◌≡◌ {A = ℕ} 0 1 = cc in omega arith)

-- the check that is made of a claim
module _ (inst ws : List ℕ) where
  abbrev pub claim_check : CheckReturned
  claim_check = check_call inst (stated_derivation ws) (stated_plan ws) (stated_cost ws) (replicate work_words 0)

  pub checked_none : has_claim ws ≡ false → checked_words inst ws ≡ record { number = 7; steps = 0 }
  unfolding checked_words
  checked_none e = rw e

  pub checked_claim : has_claim ws ≡ true → checked_words inst ws ≡ claim_check.answer
  unfolding checked_words
  checked_claim e = rw e

  pub checked_answer : (checked_words inst ws).number ≡ 0 → checked_words inst ws ≡ claim_check.answer
  unfolding checked_words
  checked_answer = go (has_claim ws)
    where
      go : (b : Bool) → (cond b claim_check.answer (record { number = 7; steps = 0 })).number ≡ 0
          → ◌≡◌ {A = CheckAnswer} (cond b claim_check.answer (record { number = 7; steps = 0 })) claim_check.answer
      go true z = refl
      go false z = absurd (omega arith)

  -- a good answer is that of a claim's check
  pub checked_good : (checked_words inst ws).number ≡ 0 → claim_check.answer.number ≡ 0
  unfolding checked_words
  checked_good = go (has_claim ws)
    where
      go : (b : Bool) → (cond b claim_check.answer (record { number = 7; steps = 0 })).number ≡ 0 → claim_check.answer.number ≡ 0
      go true z = z
      go false z = absurd (omega arith)

-- ---- the verdict for an accepted sheet whose instance fits

module _ (sheet certificate : List ℕ) (short : length sheet ≤ 4 * sheet_words) (whole : length sheet % 4 ≡ 0) (fine : sheet_fault (words_in sheet) ≡ 0)
    (fits : length (made_words (words_in sheet)) ≤ length (replicate {A = ℕ} sheet_words 0)) where
  made_number : (make_call (words_in sheet) (replicate sheet_words 0)).answer.number ≡ 0
  unfolding make_call
  made_number = rw (eq-eqb (sheet_fault (words_in sheet)) 0 fine, le-leb (length (made_words (words_in sheet))) (length (replicate {A = ℕ} sheet_words 0)) fits)

  pub behind_sheet_lem : verdict_of sheet certificate ≡ unless (length_fault certificate_room 7 certificate) (checked_words (made_words (words_in sheet)) (words_in certificate))
  unfolding verdict_of sheet_verdict
  behind_sheet_lem =
      goes_on (length_fault sheet_words 1 sheet) _ (sym (even sheet_words 1 sheet short whole))
      ∙ goes_on (make_call (words_in sheet) (replicate sheet_words 0)).answer.number _ made_number

  -- and a certificate of whole words that fits
  pub behind_both : length certificate ≤ 4 * certificate_room → length certificate % 4 ≡ 0
      → verdict_of sheet certificate ≡ checked_words (made_words (words_in sheet)) (words_in certificate)
  behind_both few words =
      behind_sheet_lem ∙ goes_on (length_fault certificate_room 7 certificate) _ (sym (even certificate_room 7 certificate few words))
