-- `feed` leads where its bytes do, each turn with those up to the first that brings something to its end.
use native.Mathlib.Omega.{arith}
use mathlib.Core.Path.{refl, sym, ◌∙◌}
use lib.ListN.{length}
use Rattle.wcsp.proofs.Lists.{and_left, and_right}
use Rattle.cutting.specs.Cutting.{takes_byte}
use Rattle.figures.specs.Counting.{takes_sheet}
use Rattle.batch.proofs.Feeding.{piece_long, fed_again, fed_all, fed_stopped, cut_fits}
use Rattle.batch.proofs.Season.feed.Goals as goal

pub loop-at-init : goal.loop-at-init
loop-at-init c = (refl, refl, omega arith)

pub returns-then-not-takes : goal.returns-then-not-takes
returns-then-not-takes c =
    record {
      returned = let l = c.loop-at in
          fed_stopped _ (record { season = l.season; body = l.body }) _ l.at l.invariant.0 (sym c.takes.ensures ∙ c.if-not-takes.true);
    }

pub cut-taken-requires : goal.cut-taken-requires
cut-taken-requires c =
    let l = c.loop-at in
    let t = sym c.takes.ensures ∙ c.if-not-takes.false in
    (and_left (takes_byte l.season.phase (length l.body)) (takes_sheet l.season.figures) t, omega (arith, piece_long c.args.bytes.now l.at))

pub after-season-requires : goal.after-season-requires
after-season-requires c =
    let l = c.loop-at in
    let t = sym c.takes.ensures ∙ c.if-not-takes.false in
    record { figures_value = and_right (takes_byte l.season.phase (length l.body)) (takes_sheet l.season.figures) t; found_in_bounds = cut_fits l.season l.body _ _ _ t c.cut-taken.ensures }

pub loop-at-preserved : goal.loop-at-preserved
loop-at-preserved c =
    let l = c.loop-at in
    let t = sym c.takes.ensures ∙ c.if-not-takes.false in
    (fed_again _ l.season _ l.body _ _ _ _ l.invariant.0 (omega arith) t c.cut-taken.ensures c.after-season.ensures, c.cut-taken.auto.body ∙ l.invariant.1, omega (arith, c.cut-taken.ensures.2, piece_long c.args.bytes.now l.at))

pub returns : goal.returns
returns c =
    record {
      returned = let l = c.loop-at in
          fed_all _ (record { season = l.season; body = l.body }) c.args.bytes.now l.at l.invariant.0 (omega arith);
    }
