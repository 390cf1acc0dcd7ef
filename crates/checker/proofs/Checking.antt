-- What the check comes to, stage by stage: refused by its encoding, stopped at a step word, or judged. The encoding leaves a valid table,
-- and the replay another.
use Prim.Native.Nat.{ℕ}
use native.Mathlib.Omega.{arith}
use mathlib.Core.Path.{◌≡◌, refl, sym, ap, ap₂, ◌∙◌}
use mathlib.Core.Bool.{true, cond}
use mathlib.Core.List.{List}
use lib.ListN.{length}
use borrow.Author.Tests.{eq-eqb, ne_eqb}
use Rattle.fields.specs.Answers.{Answer}
use Rattle.fields.specs.declared.refusals.Fault.TheVariants.{BadHead, BadVariable, BadEntry, CostTooHigh, TooManyEntries}
use Rattle.fields.specs.declared.refusals.Refusal.{Refusal}
use Rattle.fields.specs.declared.refusals.Refusal.TheVariants.{Input, BadStep, BadClaim, BadReadout, BadTable, TargetTooShort, WeightTooHigh, TableFull, PairLeft, BadFixed, Forbidden, WeightTooWide}
use Rattle.fields.specs.Numbers.{number_of}
use Rattle.wcsp.specs.Row.{empty_weight}
use Rattle.wcsp.specs.Widening.{wide_rows}
use Rattle.fields.specs.Limits.{max_variables}
use Rattle.fields.specs.Padding.{padded, lacking}
use Rattle.input.specs.Instance.{instance_fault, sizes_of}
use Rattle.table.specs.Layout.{capacity, table_words}
use Rattle.table.specs.Meaning.{table_rows, domains, capacity_of}
use Rattle.table.specs.Valid.{valid_table}
use Rattle.table.proofs.Own.{Held, words_wide, no_sign_behind, own_empty}
use Rattle.encoding.specs.Calls.{EncodeReturned, encoded_rows, encode_call}
use Rattle.checker.specs.Answer.{CheckAnswer}
use Rattle.checker.specs.Replay.{Replayed, replay}
use Rattle.checker.specs.Calls.{claim_holds, judged, check_call}
use Rattle.checker.specs.Twelve.{replay_call}
use Rattle.checker.proofs.Encoded.{GoodEncoding, coded, coded_table, encode_refused}
use Rattle.checker.proofs.Replaying.{left_held}
use Rattle.checker.proofs.Claims.{replayed, coded_takes, encoded_left, replayed_ended, check_judged}
use Rattle.checker.proofs.Going.{Replays}
use Rattle.checker.proofs.Own.{wide_replayed, replay-wide}

-- a refusal has a number
pub refused_some : (r : Refusal) → number_of r ≡ 0 → ⊥
refused_some (Input BadHead) e = omega arith
refused_some (Input BadVariable) e = omega arith
refused_some (Input BadEntry) e = omega arith
refused_some (Input CostTooHigh) e = omega arith
refused_some (Input TooManyEntries) e = omega arith
refused_some BadStep e = omega arith
refused_some BadClaim e = omega arith
refused_some BadReadout e = omega arith
refused_some BadTable e = omega arith
refused_some TargetTooShort e = omega arith
refused_some WeightTooHigh e = omega arith
refused_some TableFull e = omega arith
refused_some PairLeft e = omega arith
refused_some BadFixed e = omega arith
refused_some Forbidden e = omega arith
refused_some WeightTooWide e = omega arith

module _ (inst derivation plan : List ℕ) (claimed : ℕ) (t : List ℕ) where
  -- what the check must give back
  abbrev pub Checks : CheckAnswer → List ℕ → Type 0
  Checks r t' = record { answer = r; table = t' } ≡ check_call inst derivation plan claimed t

  -- the variables that the instance lacks
  abbrev lacks : ℕ
  lacks = lacking (sizes_of inst)

  -- the replay of the words on the encoding's rows
  abbrev whole : Replayed
  whole = replayed inst t derivation

  module _ {coding : Answer} {t₁ : List ℕ} (c : ◌≡◌ {A = EncodeReturned} (record { answer = coding; table = t₁ }) (encode_call inst t)) where
    e : coding ≡ (encode_call inst t).answer
    e = ap (λ r. r.answer) c

    f : t₁ ≡ (encode_call inst t).table
    f = ap (λ r. r.table) c

    pub check_refused : (coding.number ≡ 0 → ⊥) → Checks (record { number = coding.number; steps = 0 }) t₁
    unfolding check_call
    check_refused n =
        let h : (encode_call inst t).answer.number ≡ 0 → ⊥ = λ q. n (ap (λ a. a.number) e ∙ q) in
        let b = ne_eqb (encode_call inst t).answer.number 0 h in
        let l = f ∙ encode_refused inst t h in
        rw b (λ i. record { answer = record { number = (e i).number; steps = 0 }; table = l i })

    module _ (n : coding.number ≡ 0) where
      good_number : (encode_call inst t).answer.number ≡ 0
      good_number = sym (ap (λ a. a.number) e) ∙ n

      found : GoodEncoding inst t
      found = coded inst t good_number

      first : Held t₁ (length t) (sizes_of inst) (encoded_rows inst)
      first = left_held (coded_takes inst t found) (encoded_left inst t found) (f ∙ coded_table inst t found)

      pub encoded_valid : valid_table t₁ ≡ true
      encoded_valid = first.valid

      module _ {done : CheckAnswer} {t₂ : List ℕ} (r : Replays t₁ derivation done t₂) where
        -- what the code replays on twelve signs
        same : replay (domains t₁) (capacity_of t₁) (table_rows t₁) 0 derivation ≡ wide_replayed lacks whole
        unfolding domains padded
        same =
            let rows : table_rows t₁ ≡ wide_rows lacks (encoded_rows inst)
            = no_sign_behind t₁ first.valid ∙ ap₂ (λ ds rs. wide_rows (lacking ds) rs) first.sizes first.rows in
            rw (rows, first.sizes, first.capacious)
            (replay-wide lacks (capacity (length t) (length (sizes_of inst))) (sizes_of inst) derivation (encoded_rows inst) 0
            (encoded_left inst t found).keeps.valid)

        done_is : done ≡ record { number = whole.number; steps = whole.steps }
        done_is = rw same at (ap (λ x. x.answer) r)

        table_is : t₂ ≡ table_words (length t) (sizes_of inst) whole.rows
        table_is =
            rw same at (ap (λ x. x.table) r) ∙ ap₂ (λ n s. table_words n s (wide_rows lacks whole.rows)) first.long first.sizes
            ∙ words_wide (length t) lacks (sizes_of inst) whole.rows

        second : Held t₂ (length t) (sizes_of inst) whole.rows
        second = left_held (coded_takes inst t found) (replayed_ended inst t found derivation).left table_is

        stops_at : (done.number ≡ 0 → ⊥) → Checks (record { number = done.number; steps = done.steps }) t₂
        unfolding judged
        stops_at m =
            let b = ne_eqb whole.number 0 (λ z. m (ap (λ d. d.number) done_is ∙ z)) in
            let j = check_judged inst derivation plan claimed t good_number in
            rw (j, b) (λ k. record { answer = record { number = (done_is k).number; steps = (done_is k).steps }; table = table_is k })

        pub judge_asks : (instance_fault inst ≡ 0) × (valid_table t₂ ≡ true)
        judge_asks = (found.accepted, second.valid)

        -- the empty row's weight among twelve signs
        empty_is : empty_weight max_variables (table_rows t₂) ≡ empty_weight (length (sizes_of inst)) whole.rows
        empty_is = own_empty t₂ second.valid ∙ ap₂ empty_weight second.variables second.rows

        pub check_judges : (steps : ℕ) → done ≡ record { number = 0; steps = steps } → {number : ℕ} → number ≡ cond (claim_holds inst plan claimed (empty_weight max_variables (table_rows t₂))) 0 7
            → Checks (record { number = number; steps = steps }) t₂
        unfolding judged
        check_judges steps d {number} p =
            let b = eq-eqb whole.number 0 (ap (λ x. x.number) (sym done_is ∙ d)) in
            let j = check_judged inst derivation plan claimed t good_number in
            let a : number ≡ cond (claim_holds inst plan claimed (empty_weight (length (sizes_of inst)) whole.rows)) 0 7 = p ∙ ap (λ n. cond (claim_holds inst plan claimed n) 0 7) empty_is in
            let w : steps ≡ whole.steps = ap (λ x. x.steps) (sym d ∙ done_is) in
            rw (j, b) (λ k. record { answer = record { number = a k; steps = w k }; table = table_is k })

  -- a check stopped at a step word, by what the encoding and the replay return
  pub stopped_at : (encode_call inst t).answer.number ≡ 0 → ((replay_call (encode_call inst t).table derivation).answer.number ≡ 0 → ⊥)
      → check_call inst derivation plan claimed t
      ≡ record {
        answer =
            record {
              number = (replay_call (encode_call inst t).table derivation).answer.number;
              steps = (replay_call (encode_call inst t).table derivation).answer.steps;
            };
        table = (replay_call (encode_call inst t).table derivation).table;
      }
  stopped_at n m = sym (stops_at {coding = (encode_call inst t).answer} {t₁ = (encode_call inst t).table} refl n {done = (replay_call (encode_call inst t).table derivation).answer} {t₂ = (replay_call (encode_call inst t).table derivation).table} refl m)

  -- a check whose words were all good, by what the encoding and the replay return: the claim decides
  pub judged_at : (encode_call inst t).answer.number ≡ 0 → (replay_call (encode_call inst t).table derivation).answer.number ≡ 0
      → check_call inst derivation plan claimed t
      ≡ record {
        answer =
            record {
              number =
                  cond (claim_holds inst plan claimed (empty_weight max_variables (table_rows (replay_call (encode_call inst t).table derivation).table))) 0 7;
              steps = (replay_call (encode_call inst t).table derivation).answer.steps;
            };
        table = (replay_call (encode_call inst t).table derivation).table;
      }
  judged_at n m =
      sym (check_judges {coding = (encode_call inst t).answer} {t₁ = (encode_call inst t).table} refl n {done = (replay_call (encode_call inst t).table derivation).answer} {t₂ = (replay_call (encode_call inst t).table derivation).table} refl
      (replay_call (encode_call inst t).table derivation).answer.steps
      (λ k. record { number = m k; steps = (replay_call (encode_call inst t).table derivation).answer.steps })
      {number = cond (claim_holds inst plan claimed (empty_weight max_variables (table_rows (replay_call (encode_call inst t).table derivation).table))) 0 7} refl)
