-- `read_season` feeds what it reads, so that the season is what the bytes read lead to; every turn reads at least one of those that a season can have.
use mathlib.Core.Path.{refl, ◌∙◌}
use Rattle.batch.proofs.Meaning.{led_start, led_on, read_as}
use Rattle.season.proofs.read_season.Goals as goal

pub loop-done-init : goal.loop-done-init
loop-done-init c =
    let led = led_start c.args.body.now _ c.start-season.ensures.returned in
    (led, read_as _ _ _ c.requires.0 led, refl, refl, c.most_bytes-most.ensures)

pub loop-done-preserved : goal.loop-done-preserved
loop-done-preserved c =
    let held = c.loop-done.invariant in
    let led = led_on _ _ held.0 c.feed-season.ensures.returned in
    (led, read_as _ _ _ c.requires.0 led, c.feed-season.auto.body ∙ held.2, c.read_wanted.auto.piece ∙ held.3, held.4)
