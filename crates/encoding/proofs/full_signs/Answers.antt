-- `full_signs` fills the signs one after another.
use Rattle.std.proofs.Common.{◌≡◌, arith, rules, sym, ap, ◌∙◌, get_or}
use Rattle.wcsp.specs.Sign.{full}
use Rattle.fields.proofs.Padding.{padded-length, sizes_at}
use Rattle.encoding.proofs.Filling.{padded_at, filled_start, filled_next, filled_end}
use Rattle.encoding.proofs.full_signs.Goals as goal

pub loop-i-init : goal.loop-i-init
loop-i-init c = filled_start _ (padded-length _ c.requires.0) _ c.empty-fulls.ensures

pub full_sign-requires : goal.full_sign-requires
full_sign-requires c =
    let size : c.unwrap_or-size.result ≡ get_or c.args.sizes.now c.loop-i.i 1 = search rules in
    omega (arith, c.from.ensures, size, padded_at c.args.sizes.now c.loop-i.i c.requires.0 (omega arith), sizes_at c.requires.1 c.loop-i.i)

pub replaced-fulls-requires : goal.replaced-fulls-requires
replaced-fulls-requires c = (c.loop-i.invariant.packed, omega arith, c.full_sign.ensures.1)

pub loop-i-preserved : goal.loop-i-preserved
loop-i-preserved c =
    let size : c.unwrap_or-size.result ≡ get_or c.args.sizes.now c.loop-i.i 1 = search rules in
    filled_next _ (padded-length _ c.requires.0) _ _ c.loop-i.invariant _ _
    (omega arith)
    (c.full_sign.ensures.0 ∙ ap full (c.from.ensures ∙ size ∙ sym (padded_at c.args.sizes.now c.loop-i.i c.requires.0 (omega arith))))
    c.replaced-fulls.ensures

pub returns : goal.returns
returns c = filled_end _ (padded-length _ c.requires.0) _ _ c.loop-i.invariant (omega arith)
