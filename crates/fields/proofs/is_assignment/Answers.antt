-- `is_assignment` compares the lengths, then each value with its size.
use Rattle.std.proofs.Common.{rules, tests, ◌<◌, nat_lt, ◌∙◌}
use Rattle.std.proofs.lemmas.Iterator.{YieldsList-from_slice, YieldsList-from_zip}
use Rattle.std.proofs.lemmas.Iterator.Search.{all_from_yields_List}
use Rattle.fields.proofs.Assigning.{assignment_all}
use Rattle.fields.proofs.is_assignment.Goals as goal

pub returns-then-plan-sizes : goal.returns-then-plan-sizes
returns-then-plan-sizes c =
    all_from_yields_List (λ x. nat_lt x.0 x.1) c.all.new.self _ _ c.all.ensures.ran
    (YieldsList-from_zip (YieldsList-from_slice c.args.plan.now cc) (YieldsList-from_slice c.args.sizes.now cc)) (λ x b q k. search (rules, tests))
    ∙ assignment_all c.args.sizes.now c.args.plan.now c.if-plan-sizes.true
