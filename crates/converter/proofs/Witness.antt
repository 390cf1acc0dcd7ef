-- The requests, by computation.
use native.Mathlib.Omega.{arith}
use mathlib.Core.Path.{refl}
use Rattle.wcsp.specs.Row.{heavy}
use Rattle.wcsp.specs.Widening.{trimmed}
use Rattle.fields.specs.Padding.{padded}
use Rattle.fields.specs.Order.{first_of}
use Rattle.fields.specs.Front.{head_in, headed, size_in, good_sizes}
use Rattle.littleendian.specs.Words.{words_in, bytes_of}
use Rattle.rows.specs.Form.{flat_in, raws_from_in}
use Rattle.table.specs.Layout.{table_words_in, capacity_in}
use Rattle.table.specs.Meaning.{table_rows_in, own_rows_in, table_sizes, domains}
use Rattle.table.specs.Valid.{valid_table_in}
use Rattle.conversion.specs.Calls.{convert_call}
use Rattle.converter.specs.Converted.{request_fault, converted_in, answer_bytes, converted_bytes}
use Rattle.converter.specs.Witness.{Requests}

pub requests : Requests
unfolding converted_bytes request_fault converted_in answer_bytes convert_call valid_table_in table_rows_in own_rows_in trimmed raws_from_in table_sizes domains table_words_in flat_in capacity_in head_in headed size_in good_sizes padded heavy first_of words_in bytes_of
requests =
    record {
      six = refl;
      six_made = λ e. omega arith;
      five = refl;
      five_made = λ e. omega arith;
      no_form = refl;
      short = refl;
    }
