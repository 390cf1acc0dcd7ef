-- P1 to P7 of document 01 on words: both sides of the claim are computed from the definitions, and are the same.
use mathlib.Core.Path.{refl}
use Rattle.wcsp.specs.Sign.{has, full, complement, within, present, lowest}
use Rattle.wcsp.specs.Clause.{falsifies, tautology, same, bucket}
use Rattle.wcsp.specs.Row.{empty_weight, add_all, weight_of, heavy}
use Rattle.wcsp.specs.Entry.{encoded, cost, matches}
use Rattle.wcsp.specs.Rule.{conclusions, permitted}
use Rattle.wcsp.specs.Resolve.{next_pair, resolve}
use Rattle.wcsp.specs.Rebuild.{rebuilt}
use Rattle.wcsp.specs.Widening.{trimmed}
use Rattle.fields.specs.Padding.{padded}
use Rattle.fields.specs.Front.{head_in, headed, size_in, good_sizes}
use Rattle.fields.specs.Entries.{entries_from}
use Rattle.fields.specs.Assignment.{is_assignment}
use Rattle.entries.specs.Entries.{scan_closing, scan_word, scan_binding, scan_cost}
use Rattle.input.specs.Instance.{instance_fault, sizes_of, entries_of}
use Rattle.rows.specs.Form.{flat_in, raws_from_in}
use Rattle.rows.specs.Raw.{raw_at, weight_in, row_weighs}
use Rattle.table.specs.Raws.{row_of}
use Rattle.table.specs.Layout.{table_words_in, capacity_in}
use Rattle.table.specs.Meaning.{table_rows_in, own_rows_in, table_sizes, domains}
use Rattle.table.specs.Valid.{valid_table_in, valid_signs, sign_kinds, has_signs}
use Rattle.encoding.specs.Calls.{encode_call}
use Rattle.stepping.specs.Step.{allowed}
use Rattle.resolution.specs.Step.{one_step}
use Rattle.resolution.specs.Run.{run_rows}
use Rattle.resolution.specs.Calls.{run_call}
use Rattle.resolution.specs.Numbers.{outcome_number, outcome_field}
use Rattle.assignment.specs.Calls.{plan_call, table_assignment}
use Rattle.checker.specs.Replay.{replay, named_pair, permitted_pair}
use Rattle.checker.specs.Calls.{check_call, claim_holds, judged}
use Rattle.calls.specs.WordCases.{SmallFieldsOnWords, word_cases, words_stated, words_computed}

pub small_fields_on_words : SmallFieldsOnWords
unfolding word_cases words_stated words_computed run_call plan_call check_call judged claim_holds is_assignment cost matches replay named_pair permitted_pair run_rows one_step allowed table_assignment rebuilt lowest valid_table_in row_weighs valid_signs sign_kinds has_signs table_rows_in own_rows_in trimmed raws_from_in row_of weight_in raw_at table_sizes domains table_words_in flat_in encode_call instance_fault scan_closing scan_word scan_binding scan_cost head_in headed size_in good_sizes entries_from sizes_of entries_of padded encoded add_all tautology same full capacity_in next_pair permitted conclusions resolve within present complement heavy empty_weight weight_of has falsifies bucket outcome_number outcome_field
small_fields_on_words = refl
