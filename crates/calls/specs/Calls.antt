-- A list of step calls, runs, plan calls and conversions on a table: each call gets it as the call before left it.
use Rattle.std.specs.Prelude.{ℕ, ◌≡◌, Bool, true, false, cond, List, [], ◌∷◌, ◌++◌, take, eqb}
use Rattle.std.proofs.Math.Option.{some}
use Rattle.wcsp.specs.Row.{Row}
use Rattle.wcsp.specs.Resolve.{Pair, next_pair, resolve}
use Rattle.encoding.specs.Calls.{encode_call}
use Rattle.stepping.specs.Step.{pair_word}
use Rattle.resolution.specs.Answers.{StepAnswer, Refused, Done, Stepped}
use Rattle.resolution.specs.Calls.{step_call, run_call}
use Rattle.conversion.specs.Calls.{ConvertReturned, to_six_call, to_five_call}

-- a call: a step; a run with its limit and its slice's content; a plan with its target's content; a conversion to six-word rows, or back to
-- five-word ones, with its target's content
pub data Call : Type 0 where
  step_asked : Call
  run_asked : ℕ → List ℕ → Call
  plan_asked : List ℕ → Call
  six_asked : List ℕ → Call
  five_asked : List ℕ → Call

-- the table, and the derivation: every step word since the encoding, whichever call made the step
pub record State : Type 0 where
  pub table : List ℕ
  pub derivation : List ℕ

unfoldable pub words_of_step : StepAnswer → List ℕ
words_of_step (Refused k) = []
words_of_step Done = []
words_of_step (Stepped w) = w ∷ []

-- a good conversion hands its target on as the table, a refused one nothing
unfoldable pub handed_on : List ℕ → ConvertReturned → List ℕ
handed_on t r = cond (eqb r.answer.number 0) r.target t

-- a plan call writes to its target alone
unfoldable pub after_call : State → Call → State
unfolding words_of_step handed_on
after_call st step_asked =
    let r = step_call st.table in
    record { table = r.table; derivation = st.derivation ++ words_of_step r.answer }
after_call st (run_asked limit slice) =
    let r = run_call st.table limit slice in
    record { table = r.table; derivation = st.derivation ++ take r.answer.steps r.slice }
after_call st (plan_asked target) = st
after_call st (six_asked target) = record { table = handed_on st.table (to_six_call st.table target); derivation = st.derivation }
after_call st (five_asked target) = record { table = handed_on st.table (to_five_call st.table target); derivation = st.derivation }

unfoldable pub after_calls : State → List Call → State
unfolding after_call
after_calls st [] = st
after_calls st (c ∷ cs) = after_calls (after_call st c) cs

-- no call is a conversion, so that the table stays in its slice
unfoldable pub in_place : List Call → Bool
in_place [] = true
in_place (step_asked ∷ cs) = in_place cs
in_place (run_asked limit slice ∷ cs) = in_place cs
in_place (plan_asked target ∷ cs) = in_place cs
in_place (six_asked target ∷ cs) = false
in_place (five_asked target ∷ cs) = false

-- the table that a good encoding wrote, and no step yet
abbrev pub started : List ℕ → List ℕ → State
started inst t = record { table = (encode_call inst t).table; derivation = [] }

-- rs becomes rs' by steps with these step words, each the step on the next pair
pub data Derives (ds : List ℕ) : List Row → List ℕ → List Row → Type 0 where
  stop : {rs : List Row} → Derives ds rs [] rs
  step : {rs rs' : List Row} {ws : List ℕ} (pr : Pair) → next_pair ds rs ≡ some pr → Derives ds (resolve ds pr rs) ws rs'
      → Derives ds rs (pair_word pr ∷ ws) rs'
