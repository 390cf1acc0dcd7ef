-- `read_station` answers the size of its station word where the positions of all values follow.
use Rattle.std.proofs.Common.{◌≡◌, ◌∙◌, ◌*◌, ap, drop, Err, rules}
use Rattle.std.proofs.lemmas.List.{drop-drop}
use Rattle.reader.specs.Left.{words_left}
use Rattle.sheet.proofs.OneStation.{station_none, station_ended, station_whole, no_easting, no_northing, positions_more, positions_end}
use Rattle.sheet.proofs.stations.read_station.Goals as goal

pub returns-in_err-size-clause-size : goal.returns-in_err-size-clause-size
returns-in_err-size-clause-size c =
    let is : c.from_residual.result ≡ Err c.in_err-size.field-0.0 = search rules in
    is ∙ station_none _ _ c.in_err-size.ensures.size

pub returns-in_err-read_coordinate-clause-size : goal.returns-in_err-read_coordinate-clause-size
returns-in_err-read_coordinate-clause-size c =
    let is : c.from_residual-in_err-read_coordinate.result ≡ Err c.in_err-read_coordinate.field-0.0 = search rules in
    let b = no_easting _ _ _ _ c.loop.invariant.0 _ c.loop-test.true c.in_err-read_coordinate.ensures.coordinate in
    is ∙ station_ended _ _ c.in_ok-size.ensures.size _ c.in_ok-size.ensures.left _ b

pub returns-in_err-read_coordinate-2-clause-size : goal.returns-in_err-read_coordinate-2-clause-size
returns-in_err-read_coordinate-2-clause-size c =
    let is : c.from_residual-in_err-read_coordinate-2.result ≡ Err c.in_err-read_coordinate-2.field-0.0 = search rules in
    let first = c.in_ok-read_coordinate.ensures in
    let b = no_northing _ _ _ _ c.loop.invariant.0 c.loop-test.true _ first.coordinate _ first.left _ c.in_err-read_coordinate-2.ensures.coordinate in
    is ∙ station_ended _ _ c.in_ok-size.ensures.size _ c.in_ok-size.ensures.left _ b

pub loop-preserved : goal.loop-preserved
loop-preserved c =
    let first = c.in_ok-read_coordinate.ensures in
    let second = c.in_ok-read_coordinate-2.ensures in (
      positions_more _ _ _ _ c.loop.invariant.0 c.loop-test.true _ first.coordinate _ first.left _ second.coordinate _ second.left,
      λ within. second.within (first.within (c.loop.invariant.1 within)),
    )

pub returns-clause-size : goal.returns-clause-size
returns-clause-size c =
    let good = positions_end _ _ _ _ c.loop.invariant.0 c.loop-test.false c.loop.auto.counter-end in
    station_whole _ _ c.in_ok-size.ensures.size _ c.in_ok-size.ensures.left good.0

pub returns-clause-left : goal.returns-clause-left
returns-clause-left c =
    let good = positions_end _ _ _ _ c.loop.invariant.0 c.loop-test.false c.loop.auto.counter-end in
    good.1 ∙ ap (drop (2 * c.in_ok-size.size)) c.in_ok-size.ensures.left ∙ drop-drop (2 * c.in_ok-size.size) 1 (words_left c.args.reader.now)
