-- What each stage puts is the verdict's text: the line of the number that ends it, or the text of the stage behind it.
use Prim.Native.Nat.{ℕ, ◌+◌, ◌-◌, ◌≤◌, ◌<◌}
use native.Mathlib.Omega.{arith}
use mathlib.Core.Path.{◌≡◌, refl, sym, ap, ◌∙◌}
use mathlib.Core.Bool.{true}
use mathlib.Core.List.{List, [], ◌++◌}
use lib.ListN.{length, take, drop, replicate, drop_of_length-le, length-drop, length-map}
use lib.Seq.{take_all, take_at, length-take-le}
use Rattle.wcsp.specs.Clause.{InRange}
use Rattle.wcsp.proofs.Lists.{along_length}
use Rattle.words.specs.Layout.{value_in}
use Rattle.fields.specs.Answers.{Answer}
use Rattle.sheet.specs.Sheet.{sheet_fault, sheet_sizes}
use Rattle.littleendian.specs.Words.{words_in, word_at}
use Rattle.making.specs.Made.{made_words}
use Rattle.making.specs.Calls.{Made, make_call}
use Rattle.making.proofs.Reading.{made_accepted}
use Rattle.making.proofs.MakeTests.{MadeIn, making, made_in}
use Rattle.checker.specs.Answer.{CheckAnswer}
use Rattle.checker.specs.Calls.{CheckReturned, check_call}
use Rattle.checker.proofs.Claims.{accepted_is_least}
use Rattle.certificate.specs.declared.Claim.{Claim}
use Rattle.certificate.specs.Certificate.{stated_variables, stated_bindings, stated_plan, has_claim}
use Rattle.certificate.specs.Claim.{claim_of}
use Rattle.certificate.proofs.Claims.{Front, front_of}
use Rattle.listing.specs.Plans.{HoldsPlan}
use Rattle.listing.proofs.Plans.{range_holds}
use Rattle.text.specs.Text.{refused_line}
use Rattle.verifying.specs.Verified.{sheet_words, certificate_room, work_words, length_fault, checked_words, sheet_verdict, verdict_of, outcome_text, answer_text, verified_text, verified}
use Rattle.verifying.proofs.Verdicts.{claim_missing, claim_stated, stopped_put, goes_put, refused_text, checked_none, checked_claim}

-- ---- the claim

module _ (sheet inst ws text : List ℕ) where
  pub unclaimed_put : Claim.Nothing ≡ claim_of ws → text ≡ refused_line 7 → text ≡ answer_text sheet ws (checked_words inst ws)
  unclaimed_put e p =
      let n : ◌≡◌ {A = ℕ} 7 0 → ⊥ = λ z. omega (arith, z) in
      rw (checked_none inst ws (claim_missing ws e), refused_text sheet ws (record { number = 7; steps = 0 }) 7 refl n) p

-- the derivation is what stands behind the claim
behind : (ws : List ℕ) (n : ℕ) → take (length ws - (n + 3)) (drop (n + 3) ws) ≡ drop (n + 3) ws
behind ws n = take_all (length ws - (n + 3)) (drop (n + 3) ws) (omega (arith, length-drop (n + 3) ws))

-- a claim that was read, and its assignment copied to the front of a buffer
module _ (ws : List ℕ) (n cost : ℕ) (stated : Claim.Stated n cost ≡ claim_of ws) where
  pub front : Front ws
  front = front_of ws (claim_stated ws n cost stated).0

  pub few : n ≤ 12
  few = omega (arith, front.few, (claim_stated ws n cost stated).1)

  pub claim_long : n + 3 ≤ length ws
  claim_long = omega (arith, front.long, (claim_stated ws n cost stated).1)

  pub plan_asks : (has_claim ws ≡ true) × (stated_variables ws ≤ 12)
  plan_asks = ((claim_stated ws n cost stated).0, front.few)

  module _ (zeros plan : List ℕ) (copied : plan ≡ stated_plan ws ++ drop (stated_variables ws) zeros) where
    pub plan_is : take n plan ≡ stated_plan ws
    plan_is =
        let (h, e, f) = claim_stated ws n cost stated in
        let many : length (stated_plan ws) ≡ n = length-map (stated_bindings ws) value_in ∙ length-take-le (stated_variables ws) (drop 1 ws) (omega (arith, front.long, length-drop 1 ws)) ∙ sym e in
        rw copied (take_at (stated_plan ws) (drop (stated_variables ws) zeros) n many)

    module _ (inst table : List ℕ) (answer : CheckAnswer)
        (called : ◌≡◌ {A = CheckReturned} (record { answer = answer; table = table })
        (check_call inst (take (length ws - (n + 3)) (drop (n + 3) ws)) (take n plan) cost (replicate work_words 0))) where
      pub answer_is : answer ≡ checked_words inst ws
      answer_is =
          let (h, e, f) = claim_stated ws n cost stated in
          ap (λ c. c.answer) called ∙ rw (behind ws n, plan_is, f, e, checked_claim inst ws h)

      module _ (sheet text : List ℕ) where
        pub outcome_put : text ≡ outcome_text sheet (take n plan) cost answer → text ≡ answer_text sheet ws (checked_words inst ws)
        unfolding outcome_text answer_text
        outcome_put p =
            let e = (claim_stated ws n cost stated).2 in
            rw (← answer_is, ← e, ← plan_is) p

      -- an accepted assignment holds a value of every variable
      pub accepted_holds : (sheet : List ℕ) → sheet_fault sheet ≡ 0 → inst ≡ made_words sheet → answer.number ≡ 0 → HoldsPlan sheet (take n plan)
      accepted_holds sheet fine made z =
          let m = made_accepted sheet fine in
          let best = accepted_is_least inst (take (length ws - (n + 3)) (drop (n + 3) ws)) (take n plan) cost (replicate work_words 0) (sym (ap (λ c. c.answer.number) called) ∙ z) in
          let within : InRange (sheet_sizes sheet) (take n plan) = rw (made, m.sizes) at best.in_range in
          let many = along_length within in
          range_holds sheet (take n plan) fine (rw (take_all (length (sheet_sizes sheet)) (take n plan) (omega (arith, many))) within)

-- ---- the certificate's words

pub read_put : (sheet inst bytes ws text : List ℕ) → ws ≡ words_in bytes → text ≡ answer_text sheet ws (checked_words inst ws)
    → text ≡ answer_text sheet (words_in bytes) (checked_words inst (words_in bytes))
read_put sheet inst bytes ws text e p = rw (← e) p

-- ---- the instance, and the certificate's length

module _ (sheet certificate text : List ℕ) (answer : Answer) (target : List ℕ)
    (called : ◌≡◌ {A = Made} (record { answer = answer; target = target }) (make_call sheet (replicate sheet_words 0))) where
  number_is : answer.number ≡ (make_call sheet (replicate sheet_words 0)).answer.number
  number_is = ap (λ m. m.answer.number) called

  pub unmade_put : (answer.number ≡ 0 → ⊥) → text ≡ refused_line answer.number
      → text ≡ answer_text sheet (words_in certificate) (sheet_verdict sheet certificate)
  unfolding sheet_verdict
  unmade_put n p = rw (← number_is) (stopped_put sheet (words_in certificate) text answer.number _ n p)

  module _ (good : answer.number ≡ 0) where
    pub stands : MadeIn sheet (replicate sheet_words 0) answer.value target
    stands =
        let e : answer ≡ (make_call sheet (replicate sheet_words 0)).answer = ap (λ m. m.answer) called in
        let f : target ≡ (make_call sheet (replicate sheet_words 0)).target = ap (λ m. m.target) called in
        rw (e, f) (made_in sheet (replicate sheet_words 0) (make_call sheet (replicate sheet_words 0)) (making sheet (replicate sheet_words 0)) (sym number_is ∙ good))

    pub long_put : (fault : ℕ) → fault ≡ length_fault certificate_room 7 certificate → (fault ≡ 0 → ⊥) → text ≡ refused_line fault
        → text ≡ answer_text sheet (words_in certificate) (sheet_verdict sheet certificate)
    unfolding sheet_verdict
    long_put fault e n p =
        rw (← number_is, ← e)
        (goes_put sheet (words_in certificate) text answer.number _ good (stopped_put sheet (words_in certificate) text fault _ n p))

    pub made_put : (fault : ℕ) → fault ≡ length_fault certificate_room 7 certificate → fault ≡ 0
        → text ≡ answer_text sheet (words_in certificate) (checked_words (take answer.value target) (words_in certificate))
        → text ≡ answer_text sheet (words_in certificate) (sheet_verdict sheet certificate)
    unfolding sheet_verdict
    made_put fault e z p =
        rw (← number_is, ← e)
        (goes_put sheet (words_in certificate) text answer.number _ good
        (goes_put sheet (words_in certificate) text fault _ z (rw stands.made at p)))

-- ---- the sheet's length

module _ (sheet certificate text : List ℕ) (fault : ℕ) (e : fault ≡ length_fault sheet_words 1 sheet) where
  pub unread_put : (fault ≡ 0 → ⊥) → text ≡ refused_line fault → text ≡ verified_text sheet certificate
  unfolding verdict_of
  unread_put n p = rw (← e) (stopped_put (words_in sheet) (words_in certificate) text fault _ n p)

  pub sheet_put : fault ≡ 0 → (ws : List ℕ) → ws ≡ words_in sheet → text ≡ answer_text ws (words_in certificate) (sheet_verdict ws certificate)
      → text ≡ verified_text sheet certificate
  unfolding verdict_of
  sheet_put z ws f p = rw (← e, ← f) (goes_put ws (words_in certificate) text fault _ z p)

-- ---- the program's input

module _ (bytes : List ℕ) where
  rest_is : take (length bytes - 4) (drop 4 bytes) ≡ drop 4 bytes
  rest_is = take_all (length bytes - 4) (drop 4 bytes) (omega (arith, length-drop 4 bytes))

  pub no_length : length bytes < 4 → verified_text (take 0 bytes) (take 0 bytes) ≡ verified bytes
  no_length h =
      let none : drop 4 bytes ≡ [] = drop_of_length-le bytes {i = 4} (omega arith) in
      rw (none, take_all {A = ℕ} (word_at bytes 0) [] (omega arith), drop_of_length-le {A = ℕ} [] {i = word_at bytes 0} (omega arith))

  module _ (said : ℕ) (e : said ≡ word_at bytes 0) where
    pub cut_sheet : length (take (length bytes - 4) (drop 4 bytes)) < said → verified_text (take (length bytes - 4) (drop 4 bytes)) (take 0 bytes) ≡ verified bytes
    cut_sheet h =
        let few : length (drop 4 bytes) ≤ said = omega (arith, rw rest_is at h) in
        rw (rest_is, ← e, take_all said (drop 4 bytes) few, drop_of_length-le (drop 4 bytes) {i = said} few)

    pub both_whole : let rest = take (length bytes - 4) (drop 4 bytes) in
        verified_text (take said rest) (take (length rest - said) (drop said rest)) ≡ verified bytes
    both_whole = rw (rest_is, ← e, take_all (length (drop 4 bytes) - said) (drop said (drop 4 bytes)) (omega (arith, length-drop said (drop 4 bytes))))
