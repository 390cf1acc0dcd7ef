-- The cost call: the answer for good and refused calls alike.
use Rattle.std.specs.Prelude.{cond, List, ℕ, eqb}
use Rattle.wcsp.specs.Entry.{cost}
use Rattle.fields.specs.Answers.{Answer}
use Rattle.fields.specs.Answers.{refused, good}
use Rattle.fields.specs.Assignment.{is_assignment}
use Rattle.input.specs.Instance.{instance_fault, sizes_of, entries_of}

-- the cost of an assignment: 1 to 5, then 7 for bytes that are none
unfoldable pub cost_call : List ℕ → List ℕ → Answer
unfolding is_assignment
cost_call ws plan =
    let f = instance_fault ws in
    cond (eqb f 0) (cond (is_assignment (sizes_of ws) plan) (good (cost (entries_of ws) plan)) (refused 7)) (refused f)
