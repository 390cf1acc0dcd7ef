-- `cut` takes the bytes as its phase does.
use lib.ListN.{length}
use Rattle.cutting.proofs.Phases.{length_taken, body_taken, passing_taken, over_taken}
use Rattle.cutting.proofs.Pieces.{cuts_as}
use Rattle.cutting.proofs.cut.Goals as goal

pub cut_length-requires : goal.cut_length-requires
cut_length-requires c =
    let t = length_taken _ _ c.requires.0 _ c.in-Length.is in
    (t.0, t.1, c.requires.1)

pub cut_body-requires : goal.cut_body-requires
cut_body-requires c =
    let t = body_taken _ _ c.requires.0 _ _ c.in-Body.is in
    (t.0, t.1, c.requires.1)

pub cut_passing-requires : goal.cut_passing-requires
cut_passing-requires c =
    (passing_taken _ (length c.args.body.now) c.requires.0 _ c.in-Passing.is, c.requires.1)

pub returns-in-Length : goal.returns-in-Length
returns-in-Length c = cuts_as _ _ _ _ _ _ c.in-Length.is c.cut_length.ensures

pub returns-in-Body : goal.returns-in-Body
returns-in-Body c = cuts_as _ _ _ _ _ _ c.in-Body.is c.cut_body.ensures

pub returns-in-Passing : goal.returns-in-Passing
returns-in-Passing c = cuts_as _ _ _ _ _ _ c.in-Passing.is (c.cut_passing.ensures _)

pub returns-in-Over : goal.returns-in-Over
returns-in-Over c =
    absurd (over_taken _ (length c.args.body.now) c.requires.0 c.in-Over.is)
