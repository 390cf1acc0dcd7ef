-- Requests on which the converter's promises say something: a table without rows, which is the same in either form, there and back; refusals.
use Rattle.std.specs.Prelude.{◌≡◌, ◌≢◌, [], get_or}
use Rattle.littleendian.specs.Words.{bytes_of}
use Rattle.text.specs.Text.{refused_line}
use Rattle.conversion.specs.Witness.{front}
use Rattle.converter.specs.Converted.{converted_bytes}
use Rattle.converter.specs.Theorems.{letter_r, request}

pub record Requests : Type 0 where
  pub six : converted_bytes (request 6 3 (bytes_of (front 0))) ≡ bytes_of (front 0)
  pub six_made : get_or (converted_bytes (request 6 3 (bytes_of (front 0)))) 0 0 ≢ letter_r
  pub five : converted_bytes (request 5 3 (bytes_of (front 0))) ≡ bytes_of (front 0)
  pub five_made : get_or (converted_bytes (request 5 3 (bytes_of (front 0)))) 0 0 ≢ letter_r
  pub no_form : converted_bytes (request 7 3 []) ≡ refused_line 9
  pub short : converted_bytes (request 6 2 (bytes_of (front 0))) ≡ refused_line 10
