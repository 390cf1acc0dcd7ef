-- Sizes and entries of a field as the theory asks for them over twelve variables: positive sizes and well-formed entries. An accepted instance has such.
use Prim.Native.Nat.{ℕ}
use native.Mathlib.Omega.{arith}
use mathlib.Core.Path.{◌≡◌}
use mathlib.Core.List.{List}
use mathlib.Core.Option.{some}
use lib.ListN.{length}
use Rattle.words.specs.Layout.{head_word}
use Rattle.fields.specs.Front.{head_in}
use Rattle.fields.specs.Entries.{FieldSizes, Entries}
use Rattle.fields.proofs.Fronts.{head_is}
use Rattle.input.specs.Instance.{instance_fault, sizes_of, entries_of}
use Rattle.input.proofs.Acceptance.{faultless_is_accepted}

module _ (inst : List ℕ) (e : instance_fault inst ≡ 0) where
  pub accepted_sizes : FieldSizes (sizes_of inst)
  accepted_sizes = (faultless_is_accepted inst e).sizes

  pub accepted_entries : Entries (sizes_of inst) 0 (entries_of inst)
  accepted_entries = (faultless_is_accepted inst e).entries

-- a head with the number of these sizes is one
pub head_given : {ds : List ℕ} → FieldSizes ds → head_in (head_word (length ds)) ≡ some (length ds)
head_given {ds} s = head_is (head_word (length ds)) (length ds) (omega (arith, s.most)) (omega (arith, s.most)) s.most
