-- `read_stations` answers the sizes of all stations where each of them is good.
use Rattle.std.proofs.Common.{◌≡◌, Err, arith, rules}
use Rattle.sheet.proofs.Located.{station_sized, sized_bounds, stations_fault, stations_more, stations_end}
use Rattle.sheet.proofs.stations.read_stations.Goals as goal

pub returns-in_err-read_station-clause-fault : goal.returns-in_err-read_station-clause-fault
returns-in_err-read_station-clause-fault c =
    let b = stations_fault _ _ _ _ _ c.loop.invariant.0 _ c.loop-test.true c.in_err-read_station.ensures.size in
    let is : c.from_residual.result ≡ Err c.in_err-read_station.field-0.0 = search rules in
    rw (is, b.0, b.1)

pub overflow_cast-branch : goal.overflow_cast-branch
overflow_cast-branch c =
    let b = sized_bounds _ _ (station_sized _ _ c.in_ok-read_station.ensures.size).0 in
    record { fits = omega (arith, b.1) }

pub loop-preserved : goal.loop-preserved
loop-preserved c =
    let more = stations_more _ _ _ _ _ c.loop.invariant.0 _ c.loop-test.true c.in_ok-read_station.ensures.size in (
      rw (c.push.ensures.items, c.in_ok-read_station.ensures.left) more,
      λ within. c.in_ok-read_station.ensures.within (c.loop.invariant.1 within),
    )

pub returns-clause-fault : goal.returns-clause-fault
returns-clause-fault c = rw (stations_end _ _ _ _ _ c.loop.invariant.0 c.loop-test.false c.loop.auto.counter-end).0

pub returns-clause-sizes : goal.returns-clause-sizes
returns-clause-sizes c = (stations_end _ _ _ _ _ c.loop.invariant.0 c.loop-test.false c.loop.auto.counter-end).1

pub returns-clause-left : goal.returns-clause-left
returns-clause-left c = (stations_end _ _ _ _ _ c.loop.invariant.0 c.loop-test.false c.loop.auto.counter-end).2
