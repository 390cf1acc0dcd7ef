-- `cut_length` keeps the bytes that it fills in, and opens what the length says when it has all four.
use mathlib.Core.Path.{ap, ◌∙◌}
use Rattle.cutting.specs.declared.Phase.{Phase}
use Rattle.cutting.specs.Cutting.{opened}
use Rattle.cutting.proofs.Pieces.{length_full, fills_length, length_found, filled_on, filled_up}
use Rattle.cutting.proofs.cut_length.Goals as goal

pub returns-then-at-n-lt-LENGTH_BYTES : goal.returns-then-at-n-lt-LENGTH_BYTES
returns-then-at-n-lt-LENGTH_BYTES c =
    let a = c.args in
    let p = c.requires in
    filled_on Phase.Length 4 length_full fills_length a.at a.body.now a.bytes.now p.0 p.1
    _ _ c.fill-n.ensures p.2 c.if-at-n-lt-LENGTH_BYTES.true

pub returns : goal.returns
returns c =
    let a = c.args in
    let p = c.requires in
    filled_up Phase.Length 4 length_full fills_length a.at a.body.now a.bytes.now p.0 p.1
    _ _ c.fill-n.ensures p.2 length_found c.if-at-n-lt-LENGTH_BYTES.false _
    (c.«open».ensures.0 c.fill-n.new.body ∙ ap (λ w. opened w c.fill-n.new.body) c.word_at.ensures) c.«open».ensures.1
