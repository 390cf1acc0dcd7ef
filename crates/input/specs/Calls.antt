-- The call on instances: the answer for good and refused calls alike. A refusal has its number, its other fields 0.
use Rattle.std.specs.Prelude.{ℕ, cond, List, length, replicate, Result, Ok, Err, eqb}
use Rattle.fields.specs.Limits.{max_variables}
use Rattle.fields.specs.Padding.{padded}
use Rattle.fields.specs.declared.refusals.Fault.{Fault}
use Rattle.fields.specs.Numbers.{fault_number}
use Rattle.input.specs.declared.Instance.{Instance}
use Rattle.input.specs.Instance.{instance_fault, sizes_of, entries_of}

-- the answer: its number (0: accepted), its variables, its entries, and the sizes of twelve variables, those it lacks being 1
pub record Validated : Type 0 where
  pub number : ℕ
  pub variables : ℕ
  pub entries : ℕ
  pub sizes : List ℕ

abbrev pub refused_instance : ℕ → Validated
refused_instance k = record { number = k; variables = 0; entries = 0; sizes = replicate max_variables 0 }

-- validate an instance: its number of variables, of entries, and the sizes of twelve variables
unfoldable pub validate_call : List ℕ → Validated
validate_call ws =
    let f = instance_fault ws in
    cond (eqb f 0)
    (record { number = 0; variables = length (sizes_of ws); entries = length (entries_of ws); sizes = padded (sizes_of ws) })
    (refused_instance f)

-- the answer that a result stands for
abbrev pub validated_of : Result Instance Fault → Validated
validated_of (Ok i) = record { number = 0; variables = length i.sizes.items; entries = i.entries; sizes = padded i.sizes.items }
validated_of (Err f) = refused_instance (fault_number f)
