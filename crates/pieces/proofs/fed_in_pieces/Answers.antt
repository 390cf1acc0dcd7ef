-- `fed_in_pieces` feeds every byte once, so its line is that of all bytes.
use Prim.Native.Nat.{◌+◌}
use native.Mathlib.Omega.{arith}
use mathlib.Core.Path.{refl, sym, ◌∙◌, ap}
use Rattle.batch.specs.declared.Season.{Season}
use Rattle.batch.specs.Feeding.{fed}
use Rattle.batch.proofs.Feeding.{fed_piece, fed_all}
use Rattle.batch.proofs.Meaning.{line_of}
use Rattle.pieces.proofs.fed_in_pieces.Goals as goal

pub loop-at-init : goal.loop-at-init
loop-at-init c =
    let a = c.args in
    (ap (λ (s : Season). fed (record { season = s; body = a.body.now }) a.bytes.now) (sym c.start-season.ensures.returned), refl, omega arith)

pub loop-at-preserved : goal.loop-at-preserved
loop-at-preserved c =
    let l = c.loop-at in
    let bytes = c.args.bytes.now in (
      fed_piece _ (record { season = l.season; body = l.body }) _ bytes l.at (l.at + c.min.result) l.invariant.0 (omega arith) c.feed-season.ensures.returned,
      c.feed-season.auto.body ∙ l.invariant.1,
      omega arith,
    )

pub returns : goal.returns
returns c =
    let l = c.loop-at in
    line_of c.args.body.now l.body c.args.bytes.now l.season c.requires.1
    (fed_all _ (record { season = l.season; body = l.body }) c.args.bytes.now l.at l.invariant.0 (omega arith))
