-- `place` meets its contract: what the search answers is the place, or that there is none.
use Rattle.stepping.proofs.Places.{place_found, place_none}
use Rattle.stepping.proofs.place.Goals as goal

pub returns-in-Some : goal.returns-in-Some
returns-in-Some c =
    let g = c.args in
    place_found g.t.now g.base g.count g.x _ _ c.find-found.ensures c.in-Some.is

pub returns-in-None : goal.returns-in-None
returns-in-None c =
    let g = c.args in
    place_none g.t.now g.base g.count g.x _ c.find-found.ensures c.in-None.is
