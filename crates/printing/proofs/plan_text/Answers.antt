-- `plan_text` puts the text of the value of its bytes into a buffer, all zero, and hands back the front of it, of the length put there.
use native.Mathlib.Omega.{arith}
use Rattle.printing.proofs.Plans.{solved_listable}
use Rattle.printing.proofs.Texts.{printed_front}
use Rattle.printing.proofs.plan_text.Goals as goal

pub put_solved-length-requires : goal.put_solved-length-requires
put_solved-length-requires c =
    record { listable = solved_listable _ _ c.solve-solved.ensures.returned; in_bounds = omega arith }

pub returns : goal.returns
returns c =
    record {
      returned = let p = c.put_solved-length.ensures in
          printed_front _ _ _ _ _ c.solve-solved.ensures.returned (grind (arith, c.front.ensures)) p.0 p.1;
    }
