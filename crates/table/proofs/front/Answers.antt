-- `front` meets its contract: each test that fails is one of the definition's, and past them all the words give the shape answered.
use native.Mathlib.Omega.{arith}
use mathlib.Core.Path.{◌≡◌, sym, ◌∙◌}
use mathlib.Core.Option.{some}
use lib.ListN.{get_or}
use Rattle.fields.specs.Front.{head_in}
use Rattle.table.proofs.Checking.{head_there, head_missing, few_variables, no_head, no_place, no_sizes, no_count, fronted}
use Rattle.table.proofs.front.Goals as goal
use Rattle.table.proofs.front.Goals.{In-Some}

-- and what is known there
head : (k : In-Some) → head_in (get_or k.args.t.now 0 0) ≡ some k.in-Some.n
head k = head_there _ _ k.head_in.ensures _ k.in-Some.is

pub returns-in_default : goal.returns-in_default
returns-in_default c =
    no_head c.args.t.now (head_missing _ _ c.head_in.ensures c.in_default.is)

pub overflow_add-n : goal.overflow_add-n
overflow_add-n c = let few = few_variables _ _ (head c) in omega arith

pub returns-then-t-n : goal.returns-then-t-n
returns-then-t-n c = no_place c.args.t.now _ (head (goal.at.returns-then-t-n c).In-Some) (omega arith)

pub read_fulls-requires : goal.read_fulls-requires
read_fulls-requires c = let few = few_variables _ _ (head (goal.at.read_fulls-requires c).In-Some) in omega arith

pub returns-in_default-read_fulls : goal.returns-in_default-read_fulls
returns-in_default-read_fulls c =
    no_sizes c.args.t.now _ (head (goal.at.returns-in_default-read_fulls c).In-Some) (sym c.in_default-read_fulls.is ∙ c.read_fulls.ensures)

pub returns-then-kind-ne10 : goal.returns-then-kind-ne10
returns-then-kind-ne10 c =
    no_count c.args.t.now _ (head (goal.at.returns-then-kind-ne10 c).In-Some) (λ e. c.if-kind-ne10.true (c.kind.ensures.0 ∙ e))

pub returns : goal.returns
returns c =
    fronted c.args.t.now _ (head (goal.at.returns c).In-Some) _ (sym c.in-Some-read_fulls.is ∙ c.read_fulls.ensures) (omega arith)
    (omega (arith, c.kind.ensures.0)) _ c.payload.ensures.0
