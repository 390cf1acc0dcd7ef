-- `write_legs` walks over the stations: each turn writes the legs between one and the next, and the rest is still to come.
use Rattle.std.proofs.Common.{◌≡◌, ◌∙◌, ◌+◌, ◌*◌, ◌<◌, ◌≤◌, ℕ, refl, arith}
use Rattle.sheet.proofs.Acceptance.{accepted_sheet}
use Rattle.making.proofs.Writing.{left_starts, legs_start, first_fits, second_fits, turn_of, turn_legs, left_ends, left_legs}
use Rattle.making.proofs.legs.write_legs.Goals as goal

pub loop-i-init : goal.loop-i-init
loop-i-init c =
    let a = c.args in
    let p = c.requires in
    (left_starts a.sheet.now a.n a.at p.sheet_value p.n_value.0, refl, legs_start a.sheet.now a.n a.at a.target.now p.sheet_value p.n_value.0)

pub values_at-these-requires : goal.values_at-these-requires
values_at-these-requires c =
    let a = c.args in
    let l = c.loop-i in
    let taken : l.i + 1 < a.n = omega (arith, c.loop-i-test.true, c.saturating_sub-i-end.ensures) in
    let f = first_fits a.sheet.now a.n l.i l.from l.o _ l.invariant.0 taken in
    omega arith

pub values_at-next-requires : goal.values_at-next-requires
values_at-next-requires c =
    let a = c.args in
    let l = c.loop-i in
    let r = c.values_at-these in
    let taken : l.i + 1 < a.n = omega (arith, c.loop-i-test.true, c.saturating_sub-i-end.ensures) in
    let g = second_fits a.sheet.now a.n l.i l.from l.o _ l.invariant.0 taken r.result.size (r.result.at + 2 * r.result.size) r.ensures.1 (omega arith) in
    omega arith

pub overflow_cast-i : goal.overflow_cast-i
overflow_cast-i c =
    let few = (accepted_sheet c.args.sheet.now c.requires.sheet_value).sizes.most in
    omega arith

pub write_legs_between-o-requires : goal.write_legs_between-o-requires
write_legs_between-o-requires c =
    let a = c.args in
    let l = c.loop-i in
    let r = c.values_at-these in
    let q = c.values_at-next in
    let taken : l.i + 1 < a.n = omega (arith, c.loop-i-test.true, c.saturating_sub-i-end.ensures) in
    let few = (accepted_sheet a.sheet.now c.requires.sheet_value).sizes.most in
    let t =
    turn_of a.sheet.now a.n l.i l.from l.o _ l.invariant.0 taken r.result.size (r.result.at + 2 * r.result.size)
    r.ensures.1 (omega arith) q.result.size q.ensures.1 in
    (omega (arith, t.first_whole), t.first, omega (arith, t.second_whole), t.second, omega arith, omega (arith, t.room))

pub loop-i-preserved : goal.loop-i-preserved
loop-i-preserved c =
    let a = c.args in
    let l = c.loop-i in
    let r = c.values_at-these in
    let q = c.values_at-next in
    let call = c.write_legs_between-o in
    let g : ℕ = r.result.at + 2 * r.result.size in
    let taken : l.i + 1 < a.n = omega (arith, c.loop-i-test.true, c.saturating_sub-i-end.ensures) in
    let behind : g ≡ l.from + 1 + 2 * r.result.size = omega arith in
    let t = turn_of a.sheet.now a.n l.i l.from l.o _ l.invariant.0 taken r.result.size g r.ensures.1 behind q.result.size q.ensures.1 in (
      rw call.ensures.value t.next,
      call.auto.target ∙ l.invariant.1,
      rw call.ensures.value
          (turn_legs a.sheet.now a.n l.i l.from l.o _ l.invariant.0 taken r.result.size g r.ensures.1 behind q.result.size q.ensures.1 _ l.target _
          l.invariant.2 (rw (r.ensures.0, q.ensures.0) at call.ensures.target_after)),
    )

pub returns-clause-value : goal.returns-clause-value
returns-clause-value c =
    let a = c.args in
    let l = c.loop-i in
    let done : a.n ≤ l.i + 1 = omega (arith, c.loop-i-test.false, c.saturating_sub-i-end.ensures) in
    left_ends a.sheet.now a.n l.i l.from l.o _ l.invariant.0 done

pub returns-clause-target_after : goal.returns-clause-target_after
returns-clause-target_after c =
    let a = c.args in
    let l = c.loop-i in
    let done : a.n ≤ l.i + 1 = omega (arith, c.loop-i-test.false, c.saturating_sub-i-end.ensures) in
    left_legs a.sheet.now a.n l.i l.from l.o _ l.invariant.0 done _ l.target l.invariant.2
