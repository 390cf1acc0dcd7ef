-- The small fields on words, by computation.
use native.Mathlib.Omega.{arith}
use mathlib.Core.Path.{refl}
use Rattle.wcsp.specs.Sign.{has, full, complement, within, present, lowest}
use Rattle.wcsp.specs.Clause.{falsifies, tautology, same, bucket}
use Rattle.wcsp.specs.Row.{empty_weight, add_all, weight_of, heavy}
use Rattle.wcsp.specs.Entry.{encoded, cost, matches}
use Rattle.wcsp.specs.Rule.{conclusions, permitted}
use Rattle.wcsp.specs.Resolve.{next_pair, resolve}
use Rattle.wcsp.specs.Rebuild.{rebuilt, rebuilt_over, tail_weight}
use Rattle.wcsp.specs.Widening.{trimmed}
use Rattle.fields.specs.Padding.{padded}
use Rattle.fields.specs.Front.{head_in, headed, size_in, good_sizes}
use Rattle.fields.specs.Entries.{entries_from}
use Rattle.fields.specs.Forbidden.{has_forbidden}
use Rattle.fields.specs.Assignment.{is_assignment}
use Rattle.entries.specs.Entries.{scan_closing, scan_word, scan_binding, scan_cost, scan_forbidden}
use Rattle.input.specs.Instance.{instance_fault, sizes_of, entries_of}
use Rattle.rows.specs.Form.{flat_in, raws_from_in}
use Rattle.rows.specs.Raw.{raw_at, weight_in, row_weighs}
use Rattle.table.specs.Raws.{row_of}
use Rattle.table.specs.Layout.{table_words_in, capacity_in}
use Rattle.table.specs.Meaning.{table_rows_in, own_rows_in, table_sizes, domains}
use Rattle.table.specs.Valid.{valid_table_in, valid_signs, sign_kinds, has_signs}
use Rattle.encoding.specs.Calls.{encode_call}
use Rattle.table.specs.Five.{five_at, five_weighs, five_row_of}
use Rattle.conversion.specs.Calls.{convert_call}
use Rattle.stepping.specs.Step.{allowed}
use Rattle.resolution.specs.Step.{one_step}
use Rattle.resolution.specs.Run.{run_rows}
use Rattle.resolution.specs.Calls.{step_call, run_call}
use Rattle.resolution.specs.Numbers.{outcome_number, outcome_field}
use Rattle.assignment.specs.Calls.{plan_call, table_assignment, table_completion}
use Rattle.assignment.specs.Order.{is_left}
use Rattle.completion.specs.Calls.{fixed_fit, completion_cost, complete_call}
use Rattle.checker.specs.Replay.{replay, named_pair, permitted_pair}
use Rattle.checker.specs.Calls.{check_call, claim_holds, judged}
use Rattle.calls.specs.Calls.{handed_on, after_call, after_calls}
use Rattle.calls.specs.Derivation.{most_rows}
use Rattle.calls.specs.Driver.{drive_all}
use Rattle.calls.specs.Witness.{Witnesses}

pub witnesses : Witnesses
unfolding is_left handed_on convert_call five_at five_weighs five_row_of most_rows has_forbidden complete_call fixed_fit completion_cost table_completion rebuilt_over tail_weight scan_closing scan_forbidden outcome_number outcome_field drive_all after_call after_calls step_call run_call plan_call check_call judged claim_holds is_assignment cost matches replay named_pair permitted_pair run_rows one_step allowed table_assignment rebuilt lowest valid_table_in row_weighs valid_signs sign_kinds has_signs table_rows_in own_rows_in trimmed raws_from_in row_of weight_in raw_at table_sizes domains table_words_in flat_in encode_call instance_fault scan_word scan_binding scan_cost head_in headed size_in good_sizes entries_from sizes_of entries_of padded encoded add_all tautology same full capacity_in next_pair permitted conclusions resolve within present complement heavy empty_weight weight_of has falsifies bucket
witnesses =
    record {
      encodes = refl;
      left = refl;
      ends = refl;
      derives = refl;
      paused = (refl, refl);
      full = (refl, refl);
      early = refl;
      short = refl;
      refused = refl;
      driven = refl;
      driven_ends = refl;
      driven_words = refl;
      driven_plan = refl;
      allowed_plan = refl;
      allowed_free = refl;
      first_forbidden = refl;
      second_forbidden = refl;
      forbidden_ends = refl;
      forbidden_plan = refl;
      forbidden_completed = refl;
      forbidden_checked = refl;
      checked_ends = refl;
      converted_five = refl;
      converted_only = refl;
      converted_rows = omega arith;
      converted_stays = refl;
      converted_six = refl;
      converted_length = refl;
      converted_ends = refl;
      converted_derives = refl;
      halfway_five = refl;
      halfway_sizes = refl;
      halfway_rows = omega arith;
      halfway_steps = refl;
      halfway_left = refl;
      roomy_rows = omega arith;
      roomy_most = refl;
      roomy_ends = refl;
      roomy_accepted = refl;
      roomy_short = refl;
    }
