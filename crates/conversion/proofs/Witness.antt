-- The worked tables, by computation.
use mathlib.Core.Path.{refl}
use Rattle.wcsp.specs.Sign.{full}
use Rattle.wcsp.specs.Clause.{same}
use Rattle.wcsp.specs.Row.{heavy}
use Rattle.wcsp.specs.Widening.{trimmed}
use Rattle.fields.specs.Padding.{padded}
use Rattle.fields.specs.Front.{head_in, headed, size_in, good_sizes}
use Rattle.rows.specs.Form.{flat_in, raws_from_in}
use Rattle.rows.specs.Raw.{raw_at, weight_in, row_weighs}
use Rattle.table.specs.Raws.{row_of}
use Rattle.table.specs.Layout.{table_words_in, capacity_in}
use Rattle.table.specs.Meaning.{table_rows_in, own_rows_in, table_sizes, domains}
use Rattle.table.specs.Valid.{valid_table_in, valid_signs, sign_kinds, has_signs}
use Rattle.table.specs.Five.{five_at, five_weighs, five_row_of}
use Rattle.conversion.specs.Calls.{convert_call}
use Rattle.conversion.specs.Witness.{Worked}

pub worked : Worked
unfolding convert_call valid_table_in valid_signs sign_kinds has_signs row_weighs weight_in raw_at row_of five_at five_weighs five_row_of table_rows_in own_rows_in trimmed raws_from_in table_sizes domains table_words_in flat_in capacity_in head_in headed size_in good_sizes padded heavy same full
worked =
    record {
      six = refl;
      six_longer = refl;
      six_full = refl;
      six_no_room = refl;
      six_short = refl;
      six_of_new = refl;
      six_of_twins = refl;
      five = refl;
      five_full = refl;
      five_short = refl;
      five_of_old = refl;
      too_wide = refl;
      wide_before_full = refl;
      short_before_wide = refl;
      bare_to_six = refl;
      bare_to_five = refl;
    }
