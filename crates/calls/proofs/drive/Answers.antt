-- `drive` meets its contract. The loop's invariant: the words from `w` on do to what the slices hold what all the words do to the encoding.
use native.Mathlib.Omega.{arith}
use mathlib.Core.Path.{refl, ◌∙◌}
use Rattle.std.proofs.lemmas.Result.{err_from_is_err_and}
use Rattle.checker.proofs.Checking.{refused_some}
use Rattle.calls.proofs.Driving.{going_start, going_on, drive_refused, drive_made}
use Rattle.calls.proofs.drive.Goals as goal

pub loop-w-init : goal.loop-w-init
loop-w-init c =
    let g = c.args in
    (refl, refl, refl, going_start c.encode.new.t g.out.now g.target.now g.calls.now)

pub loop-w-preserved : goal.loop-w-preserved
loop-w-preserved c =
    let g = c.args in
    let l = c.loop-w in
    let kept = c.make_call-made.auto in (
      kept.t ∙ l.invariant.0,
      kept.out ∙ l.invariant.1,
      kept.target ∙ l.invariant.2,
      going_on c.encode.new.t g.out.now g.target.now g.calls.now l.t l.out l.made l.target l.w-index l.invariant.3 c.loop-w-test.true _ _ _ _
          c.make_call-made.ensures,
    )

pub returns-in_err-encode : goal.returns-in_err-encode
returns-in_err-encode c =
    record {
      driven = let g = c.args in
          let p = err_from_is_err_and c.from_residual.result c.from_residual.ensures.1 in
          rw (p.1, p.2)
          (drive_refused g.instance.now g.t.now g.calls.now g.out.now g.target.now _ c.encode.new.t (rw c.in_err-encode.was at c.encode.ensures.returned)
          (refused_some _));
    }

pub returns : goal.returns
returns c =
    record {
      driven = let g = c.args in
          let l = c.loop-w in
          drive_made g.instance.now g.t.now g.calls.now g.out.now g.target.now _ c.encode.new.t
          (rw c.in_ok-encode.was at c.encode.ensures.returned) refl l.t l.out l.made l.target l.w-index (omega arith) l.invariant.3;
    }
