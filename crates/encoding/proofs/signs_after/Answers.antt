-- `signs_after` answers the signs of the open entry behind a word: by the word's kind.
use native.Mathlib.Omega.{arith}
use mathlib.Core.Path.{sym, ◌∙◌}
use Rattle.words.proofs.Others.{no_entry}
use Rattle.fields.proofs.Closing.{closes_cost, closes_forbidden}
use Rattle.clause.specs.Packed.{signs_of}
use Rattle.encoding.proofs.Looking.{value_bit, proper_binding, binding_signs, closing_signs, other_signs}
use borrow.Enum.Refused.{opened}
use Rattle.encoding.proofs.signs_after.Goals as goal

-- the word is read as a binding, so its fields are the ones that are proper
pub overflow_shl-value : goal.overflow_shl-value
overflow_shl-value c = let h = proper_binding (signs_of c.args.fulls) c.args.w c.in-Binding.v c.in-Binding.a _ c.requires.2 c.from.ensures c.in-Binding.is in omega arith

pub sign-requires : goal.sign-requires
sign-requires c =
    let h = proper_binding (signs_of c.args.fulls) c.args.w c.in-Binding.v c.in-Binding.a _ c.requires.2 c.from.ensures c.in-Binding.is in
    (c.requires.1, h.0)

pub overflow_sub-sign : goal.overflow_sub-sign
overflow_sub-sign c =
    let h = proper_binding (signs_of c.args.fulls) c.args.w c.in-Binding.v c.in-Binding.a _ c.requires.2 c.from.ensures c.in-Binding.is in
    let e = value_bit c.in-Binding.a h.1 in
    omega (arith, c.sign.ensures.0)

pub replaced-requires : goal.replaced-requires
replaced-requires c =
    let h = proper_binding (signs_of c.args.fulls) c.args.w c.in-Binding.v c.in-Binding.a _ c.requires.2 c.from.ensures c.in-Binding.is in
    (c.requires.0, h.0, omega (arith, c.sign.ensures.1))

pub returns-in-Binding : goal.returns-in-Binding
returns-in-Binding c =
    let r = c.from.ensures in
    let q = c.in-Binding.is in
    let h = proper_binding (signs_of c.args.fulls) c.args.w c.in-Binding.v c.in-Binding.a _ c.requires.2 r q in
    binding_signs _ _ _ _ _ _ _ _ (sym r ∙ q) c.sign.ensures.0
    (value_bit c.in-Binding.a h.1)
    c.replaced.ensures

pub returns-in-Cost : goal.returns-in-Cost
returns-in-Cost c =
    closing_signs _ _ _ _ (closes_cost _ _ (sym c.from.ensures ∙ c.in-Cost.is)) c.empty.ensures

pub returns-in-Forbidden : goal.returns-in-Forbidden
returns-in-Forbidden c =
    closing_signs _ _ _ _ (closes_forbidden _ _ (sym c.from.ensures ∙ c.in-Forbidden.is)) c.empty-in-Forbidden.ensures

pub returns-in_default : goal.returns-in_default
returns-in_default c = other_signs _ _ _ c.requires.0 (no_entry _ _ c.from.ensures (opened c.in_default.in_default-own.keys4))
