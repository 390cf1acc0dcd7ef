-- The text of a sheet with no variables, from what its value is.
use native.Mathlib.Omega.{arith}
use mathlib.Core.Path.{ap}
use mathlib.Core.List.{[], append-nil}
use Rattle.wcsp.specs.Bound.{total}
use Rattle.wcsp.specs.Empty.{all_costs}
use Rattle.fields.specs.Entries.{closes_entry, cost_of, entries_from}
use Rattle.input.specs.Instance.{entries_of}
use Rattle.text.specs.Text.{digits_in, line, plan_head}
use Rattle.littleendian.specs.Words.{words_in}
use Rattle.planning.specs.Empty.{constant_bytes, forbidden_bytes}
use Rattle.planning.proofs.Empty.{empty_solves, empty_bytes}
use Rattle.listing.specs.Listed.{variable_lines}
use Rattle.printing.specs.Printed.{ending_text, solved_text}
use Rattle.printing.specs.Empty.{EmptyPrints, EmptyTexts}

pub empty_prints : EmptyPrints
unfolding ending_text variable_lines
empty_prints bytes e =
    record {
      planned =
          λ l.
          let (ends, steps, bound) = (empty_solves bytes e).planned l in
          rw (ends, steps, bound, e.empty) (append-nil (plan_head (all_costs (entries_of (words_in bytes))) 0));
      refused = λ l. ap (solved_text (words_in bytes)) ((empty_solves bytes e).refused l);
    }

pub empty_texts : EmptyTexts
unfolding words_in entries_of entries_from closes_entry cost_of total line digits_in
empty_texts =
    record {
      nothing = (empty_prints [] empty_bytes.nothing).planned (omega arith);
      constants = (empty_prints constant_bytes empty_bytes.constants).planned (omega arith);
      forbidden = (empty_prints forbidden_bytes empty_bytes.forbidden).refused (omega arith);
    }
