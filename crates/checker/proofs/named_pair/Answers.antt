-- `named_pair` meets its contract: each test that fails says that the word names no permitted pair, and with all passed it names this one.
use native.Mathlib.Omega.{arith}
use Rattle.checker.proofs.Naming.{few_variables, fulls_packed, row_room, names_other, names_unknown, names_unordered, names_outside, names_pair}
use borrow.Enum.Refused.{opened}
use Rattle.checker.proofs.named_pair.Goals as goal

pub returns-in_default : goal.returns-in_default
returns-in_default c =
    names_other c.args.t.now c.requires.0 c.requires.1 c.args.w c.from.ensures (opened c.in_default.in_default-own.keys2)

pub returns-then-v-ge12 : goal.returns-then-v-ge12
returns-then-v-ge12 c =
    names_unknown c.args.t.now c.requires.0 c.requires.1 c.args.w c.from.ensures c.in-Step.is c.if-v-ge12.true

pub returns-then-j-i : goal.returns-then-j-i
returns-then-j-i c =
    names_unordered c.args.t.now c.requires.0 c.requires.1 c.args.w c.from.ensures c.in-Step.is (omega arith) (omega arith)

pub returns-then-shape-j : goal.returns-then-shape-j
returns-then-shape-j c =
    names_outside c.args.t.now c.requires.0 c.requires.1 c.args.w c.from.ensures c.in-Step.is
    (omega arith) c.if-shape-j.true

pub overflow_add-base : goal.overflow_add-base
overflow_add-base c =
    let h = few_variables c.args.t.now c.requires.0 c.requires.1 in
    omega (arith, h)

pub clause_of-x-requires : goal.clause_of-x-requires
clause_of-x-requires c =
    row_room c.args.t.now c.requires.0 c.requires.1 _ (omega arith)

pub clause_of-y-requires : goal.clause_of-y-requires
clause_of-y-requires c =
    row_room c.args.t.now c.requires.0 c.requires.1 _ c.if-shape-j.false

pub may_resolve-requires : goal.may_resolve-requires
may_resolve-requires c = (
  c.clause_of-x.ensures.1,
  c.clause_of-y.ensures.1,
  fulls_packed c.args.t.now c.requires.0 c.requires.1,
  omega arith,
)

pub returns : goal.returns
returns c =
    names_pair c.args.t.now c.requires.0 c.requires.1 c.args.w c.from.ensures c.in-Step.is
    (omega arith) (omega arith) c.if-shape-j.false
    c.clause_of-x.ensures.0 c.clause_of-y.ensures.0 c.may_resolve.ensures (grind arith)
