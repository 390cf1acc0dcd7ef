-- `cut_body` keeps the bytes that it fills in, up to the sheet's end.
use mathlib.Core.Path.{refl}
use Rattle.cutting.specs.declared.Phase.{Phase}
use Rattle.cutting.proofs.Pieces.{body_full, fills_body, body_found, filled_on, filled_up}
use Rattle.cutting.proofs.cut_body.Goals as goal

pub returns-then-at-n : goal.returns-then-at-n
returns-then-at-n c =
    let a = c.args in
    let p = c.requires in
    filled_on (λ at. Phase.Body at a.end) a.end (body_full a.end) (fills_body a.end) a.at a.body.now a.bytes.now p.0 p.1
    _ _ c.fill-n.ensures p.2 c.if-at-n.true

pub returns : goal.returns
returns c =
    let a = c.args in
    let p = c.requires in
    filled_up (λ at. Phase.Body at a.end) a.end (body_full a.end) (fills_body a.end) a.at a.body.now a.bytes.now p.0 p.1
    _ _ c.fill-n.ensures p.2 (body_found a.end) c.if-at-n.false _ refl refl
