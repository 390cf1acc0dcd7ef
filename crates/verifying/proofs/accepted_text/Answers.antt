-- `accepted_text` puts the head and then the lines of the assignment, and hands back the front of its buffer.
use native.Mathlib.Omega.{arith}
use mathlib.Core.Path.{◌∙◌}
use lib.ListN.{replicate}
use Rattle.text.proofs.Putting.{put_put}
use Rattle.verifying.proofs.accepted_text.Goals as goal

pub put_assignment-length-requires : goal.put_assignment-length-requires
put_assignment-length-requires c = record { holds_plan = c.requires; at_in_bounds = omega arith }

pub returns : goal.returns
returns c = c.front.ensures ∙ (put_put (replicate 1024 0) _ _ _ _ _ _ _ c.put_head-head.ensures.0 c.put_assignment-length.ensures.0).0
