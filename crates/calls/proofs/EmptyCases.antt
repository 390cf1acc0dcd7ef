-- Both forms of an instance with no variables through every call on tables, by computation.
use mathlib.Core.Path.{refl}
use Rattle.wcsp.specs.Sign.{full, present}
use Rattle.wcsp.specs.Clause.{falsifies, tautology, same, bucket}
use Rattle.wcsp.specs.Row.{empty_weight, add_all, weight_of, heavy}
use Rattle.wcsp.specs.Entry.{encoded, cost, matches}
use Rattle.wcsp.specs.Resolve.{next_pair}
use Rattle.wcsp.specs.Rebuild.{rebuilt, rebuilt_over, tail_weight}
use Rattle.wcsp.specs.Widening.{trimmed}
use Rattle.fields.specs.Padding.{padded}
use Rattle.fields.specs.Front.{head_in, headed, size_in, good_sizes}
use Rattle.fields.specs.Entries.{entries_from}
use Rattle.fields.specs.Assignment.{is_assignment}
use Rattle.entries.specs.Entries.{scan_closing, scan_word, scan_binding, scan_cost, scan_forbidden}
use Rattle.input.specs.Instance.{instance_fault, sizes_of, entries_of}
use Rattle.rows.specs.Form.{flat_in, raws_from_in}
use Rattle.rows.specs.Raw.{raw_at, weight_in, row_weighs}
use Rattle.table.specs.Raws.{row_of}
use Rattle.table.specs.Layout.{table_words_in, capacity_in}
use Rattle.table.specs.Meaning.{table_rows_in, own_rows_in, table_sizes, domains}
use Rattle.table.specs.Valid.{valid_table_in, valid_signs, sign_kinds, has_signs}
use Rattle.encoding.specs.Calls.{encode_call}
use Rattle.table.specs.Five.{five_at, five_weighs, five_row_of}
use Rattle.conversion.specs.Calls.{convert_call}
use Rattle.stepping.specs.Step.{allowed}
use Rattle.resolution.specs.Step.{one_step}
use Rattle.resolution.specs.Run.{run_rows}
use Rattle.resolution.specs.Calls.{step_call, run_call}
use Rattle.resolution.specs.Numbers.{outcome_number, outcome_field}
use Rattle.assignment.specs.Calls.{plan_call, table_assignment, table_completion}
use Rattle.completion.specs.Calls.{fixed_fit, completion_cost, complete_call}
use Rattle.checker.specs.Replay.{replay, named_pair, permitted_pair}
use Rattle.checker.specs.Calls.{check_call, claim_holds, judged}
use Rattle.calls.specs.Calls.{after_call, after_calls}
use Rattle.calls.specs.Driver.{drive_all}
use Rattle.calls.specs.Empty.{EmptyFields}

pub empty_fields : EmptyFields
unfolding convert_call five_at five_weighs five_row_of complete_call fixed_fit completion_cost table_completion rebuilt_over tail_weight scan_closing scan_forbidden outcome_number outcome_field drive_all after_call after_calls step_call run_call plan_call check_call judged claim_holds is_assignment cost matches replay named_pair permitted_pair run_rows one_step allowed table_assignment rebuilt valid_table_in row_weighs valid_signs sign_kinds has_signs table_rows_in own_rows_in trimmed raws_from_in row_of weight_in raw_at table_sizes domains table_words_in flat_in encode_call instance_fault scan_word scan_binding scan_cost head_in headed size_in good_sizes entries_from sizes_of entries_of padded encoded add_all tautology same full capacity_in next_pair present heavy empty_weight weight_of falsifies bucket
empty_fields =
    record {
      accepts = (refl, refl, refl);
      binding = refl;
      station = refl;
      dear = refl;
      thirteen = refl;
      codes_nothing = refl;
      codes_head = refl;
      codes_constants = refl;
      codes_forbidden = refl;
      two_words = refl;
      one_word = refl;
      no_room = refl;
      valid = (refl, refl);
      valid_five = (refl, refl);
      short = (refl, refl);
      short_five = (refl, refl);
      zeros = (refl, refl);
      steps_nothing = refl;
      steps_constants = refl;
      ran_nothing = (refl, refl);
      ran_constants = (refl, refl);
      plans_nothing = refl;
      plans_constants = refl;
      plans_none = refl;
      completes_nothing = refl;
      completes_constants = refl;
      from_one = refl;
      fixed_one = refl;
      checks_nothing = refl;
      checks_constants = refl;
      checks_forbidden = refl;
      cheaper = refl;
      byte = refl;
      step = refl;
      back_nothing = refl;
      there_nothing = refl;
      back_constants = refl;
      there_constants = refl;
      no_place = refl;
      driven_nothing = refl;
      driven_constants = refl;
    }
