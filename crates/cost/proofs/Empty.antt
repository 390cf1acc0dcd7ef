-- The cost call on instances with no variables, by computation.
use mathlib.Core.Path.{refl}
use Rattle.wcsp.specs.Entry.{matches, cost}
use Rattle.fields.specs.Front.{head_in, headed}
use Rattle.fields.specs.Entries.{closes_entry, cost_of, entries_from}
use Rattle.fields.specs.Assignment.{is_assignment}
use Rattle.entries.specs.Entries.{entries_fault, scan_word, scan_cost, scan_forbidden, scan_closing, resume}
use Rattle.input.specs.Instance.{stations_fault, instance_fault, sizes_of, entries_of}
use Rattle.cost.specs.Calls.{cost_call}
use Rattle.cost.specs.Empty.{EmptyCosts}

pub empty_costs : EmptyCosts
unfolding cost_call is_assignment cost matches instance_fault head_in headed stations_fault entries_fault scan_word scan_cost scan_forbidden scan_closing resume sizes_of entries_of entries_from closes_entry cost_of
empty_costs =
    record {
      nothing = refl;
      head = refl;
      constants = refl;
      forbidden = refl;
      byte = refl;
    }
