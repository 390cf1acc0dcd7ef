-- `offset` answers the offset of its word's coordinate, which is bounded whatever the word is.
use native.Mathlib.Omega.{arith}
use Rattle.sheet.proofs.Coordinates.{place_found, place_missed}
use Rattle.sheet.proofs.points.offset.Goals as goal

pub returns-in-Some : goal.returns-in-Some
returns-in-Some c = let f = place_found _ _ _ c.coordinate-c.ensures _ c.in-Some.is in (f.1, f.2)

pub returns-in-None : goal.returns-in-None
returns-in-None c = ((place_missed _ _ _ c.coordinate-c.ensures c.in-None.is).1, omega arith)
