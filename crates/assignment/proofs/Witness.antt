-- The plan calls worked by hand, computed from the definitions.
use mathlib.Core.Path.{refl}
use Rattle.wcsp.specs.Sign.{full, has, within, present, complement, lowest}
use Rattle.wcsp.specs.Clause.{falsifies, same, bucket}
use Rattle.wcsp.specs.Row.{empty_weight}
use Rattle.wcsp.specs.Rule.{permitted}
use Rattle.wcsp.specs.Resolve.{next_pair}
use Rattle.wcsp.specs.Rebuild.{rebuilt, rebuilt_over}
use Rattle.wcsp.specs.Widening.{trimmed}
use Rattle.fields.specs.Front.{head_in, headed, size_in, good_sizes}
use Rattle.fields.specs.Order.{first_of}
use Rattle.fields.specs.Padding.{padded}
use Rattle.rows.specs.Form.{raws_from_in, flat_in}
use Rattle.rows.specs.Raw.{raw_at, weight_in, row_weighs}
use Rattle.table.specs.Raws.{row_of}
use Rattle.table.specs.Layout.{capacity_in, table_words_in}
use Rattle.table.specs.Meaning.{table_sizes, domains, table_rows_in, own_rows_in}
use Rattle.table.specs.Valid.{sign_kinds, valid_signs, has_signs, valid_table_in}
use Rattle.assignment.specs.Calls.{plan_call}
use Rattle.assignment.specs.Order.{is_left}
use Rattle.assignment.specs.Witness.{Plans}

pub plans : Plans
unfolding plan_call empty_weight rebuilt rebuilt_over lowest valid_table_in row_weighs valid_signs sign_kinds has_signs table_rows_in own_rows_in trimmed raws_from_in row_of weight_in raw_at table_sizes domains table_words_in flat_in head_in headed size_in good_sizes padded same full capacity_in next_pair permitted is_left first_of within present complement has falsifies bucket
plans =
    record {
      below = refl;
      at = refl;
      high_word_alone = refl;
      other_row = refl;
      early = refl;
      short = refl;
      tested_at = refl;
      tested_early = refl;
    }
