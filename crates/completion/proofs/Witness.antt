-- The completions worked by hand, computed from the definitions.
use mathlib.Core.Path.{refl}
use Rattle.wcsp.specs.Sign.{full, has, within, present, complement, lowest}
use Rattle.wcsp.specs.Clause.{falsifies, same, bucket}
use Rattle.wcsp.specs.Row.{empty_weight}
use Rattle.wcsp.specs.Rule.{permitted}
use Rattle.wcsp.specs.Resolve.{next_pair}
use Rattle.wcsp.specs.Rebuild.{rebuilt, rebuilt_over, tail_weight}
use Rattle.wcsp.specs.Widening.{trimmed}
use Rattle.fields.specs.Front.{head_in, headed, size_in, good_sizes}
use Rattle.fields.specs.Order.{first_of}
use Rattle.fields.specs.Padding.{padded}
use Rattle.fields.specs.Assignment.{is_assignment}
use Rattle.rows.specs.Form.{raws_from_in, flat_in}
use Rattle.rows.specs.Raw.{raw_at, weight_in, row_weighs}
use Rattle.table.specs.Raws.{row_of}
use Rattle.table.specs.Layout.{capacity_in, table_words_in}
use Rattle.table.specs.Meaning.{table_sizes, domains, table_rows_in, own_rows_in}
use Rattle.table.specs.Valid.{sign_kinds, valid_signs, has_signs, valid_table_in}
use Rattle.assignment.specs.Calls.{table_completion, plan_call}
use Rattle.assignment.specs.Order.{is_left}
use Rattle.completion.specs.Calls.{fixed_fit, completion_cost, complete_call}
use Rattle.completion.specs.Witness.{Completions}

pub completions : Completions
unfolding plan_call empty_weight rebuilt complete_call fixed_fit completion_cost table_completion rebuilt_over tail_weight lowest is_assignment valid_table_in row_weighs valid_signs sign_kinds has_signs table_rows_in own_rows_in trimmed raws_from_in row_of weight_in raw_at table_sizes domains table_words_in flat_in head_in headed size_in good_sizes padded same full capacity_in next_pair permitted is_left first_of within present complement has falsifies bucket
completions =
    record {
      free = refl;
      last_at0 = refl;
      last_at1 = refl;
      all_at0 = refl;
      all_at1 = refl;
      at_greatest = refl;
      above_greatest = refl;
      not_planned = refl;
      completed_yet = refl;
      short_first = refl;
      above_n = refl;
      one_too_few = refl;
      out_of_range = refl;
      pair_left = refl;
      pair_left_first = refl;
      tested_short = refl;
      tested_unfit = refl;
      tested_early = refl;
    }
