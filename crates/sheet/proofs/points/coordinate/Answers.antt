-- `coordinate` answers the coordinate of its word: by the word's kind, then by its payload.
use Rattle.sheet.proofs.Coordinates.{other_word, own_word}
use Rattle.sheet.proofs.points.coordinate.Goals as goal

pub returns-then-kind : goal.returns-then-kind
returns-then-kind c = other_word _ _ _ c.kind.ensures.0 c.if-kind.true

pub returns : goal.returns
returns c = own_word _ _ _ c.kind.ensures.0 _ _ c.if-kind.false c.payload.ensures.0 c.place.ensures
