-- Demand 3 for every list of calls, conversions among them, from a table of either form.
use Prim.Native.Nat.{ℕ, ◌<◌, ◌≤◌}
use native.Mathlib.Omega.{arith}
use mathlib.Core.Path.{◌≡◌, sym, ◌∙◌}
use mathlib.Core.Logic.{◌⊎◌, inl, inr}
use mathlib.Core.Bool.{Bool, true, false}
use mathlib.Core.List.{List}
use lib.ListN.{length}
use lib.Dec.{ltb}
use borrow.Author.Tests.{lt-ltb, le-ltb}
use Rattle.fields.specs.Answers.{refused, good}
use Rattle.input.specs.Instance.{sizes_of, entries_of}
use Rattle.table.specs.Raws.{standard_form}
use Rattle.table.specs.Layout.{rows_at, table_words}
use Rattle.table.specs.Meaning.{variables_of, own_rows_in}
use Rattle.table.specs.Valid.{valid_table_in, valid_table}
use Rattle.table.proofs.FormTables.{passed, length_sizes}
use Rattle.table.proofs.RawRows.{table_laws}
use Rattle.encoding.specs.Calls.{encoded_rows}
use Rattle.table.specs.Five.{five_form}
use Rattle.table.proofs.FiveLaws.{five_laws}
use Rattle.conversion.specs.Calls.{to_six_call}
use Rattle.conversion.proofs.Theorems.{converts_by, by_tests, five_light}
use Rattle.calls.specs.Calls.{State, after_calls}
use Rattle.calls.specs.Demand.{room, UpheldFive, ComesIn, Comes, UpheldOf, Demand3}
use Rattle.calls.proofs.Upholding.{kept_rows, upheld}
use Rattle.calls.proofs.Going.{first_keeps, comes_words, comes_takes, comes_left, comes_held, comes_six, comes_five, calls_come}

-- ---- a table of five-word rows, converted

module _ (inst : List ℕ) (st : State) (c : ComesIn five_form inst st) (target : List ℕ) where
  numbered : variables_of st.table ≡ length (sizes_of inst)
  numbered = rw c.sizes at (sym (length_sizes five_form five_laws st.table (passed five_form st.table c.valid)))

  six_short : length target < rows_at (length (sizes_of inst)) → to_six_call st.table target ≡ record { answer = refused 10; target = target }
  unfolding converts_by
  six_short h =
      by_tests five_form standard_form st.table target
      ∙ rw (c.valid, numbered, lt-ltb (length target) (rows_at (length (sizes_of inst))) h)

  module _ (place : rows_at (length (sizes_of inst)) ≤ length target) where
    -- only the room is asked for
    six_by : (b : Bool) → ltb (room (sizes_of inst) target) (length (own_rows_in five_form st.table)) ≡ b
        → to_six_call st.table target ≡ converts_by five_form standard_form st.table target true false false b
    six_by b e =
        by_tests five_form standard_form st.table target
        ∙ rw (c.valid, numbered, le-ltb (length target) (rows_at (length (sizes_of inst))) place, five_light st.table c.valid, e)

    six_full : room (sizes_of inst) target < length (own_rows_in five_form st.table)
        → to_six_call st.table target ≡ record { answer = refused 12; target = target }
    unfolding converts_by
    six_full h = six_by true (lt-ltb (room (sizes_of inst) target) (length (own_rows_in five_form st.table)) h)

    six_made : length (own_rows_in five_form st.table) ≤ room (sizes_of inst) target
        → to_six_call st.table target
        ≡ record {
          answer = good (length (own_rows_in five_form st.table));
          target = table_words (length target) (sizes_of inst) (own_rows_in five_form st.table);
        }
    unfolding converts_by
    six_made h = rw (← c.sizes) (six_by false (le-ltb (room (sizes_of inst) target) (length (own_rows_in five_form st.table)) h))

-- by what the comparisons say and not by how they are spelt
upheld_five : (inst : List ℕ) (st : State) → ComesIn five_form inst st
    → UpheldFive (sizes_of inst) (entries_of inst) (encoded_rows inst) st.table st.derivation
upheld_five inst st c =
    record {
      kept = kept_rows five_form (first_keeps inst c) c.valid (comes_words inst c five_laws) c.derived;
      six_short = λ target h. six_short inst st c target (omega (arith, h));
      six_full = λ target place h. six_full inst st c target place (omega (arith, h));
      six_made = λ target place h. six_made inst st c target place (omega (arith, h));
    }

-- ---- what comes from the encoding upholds demand 3

either_form : (inst : List ℕ) (st : State) → Comes inst st → (valid_table st.table ≡ true) ⊎ (valid_table_in five_form st.table ≡ true)
either_form inst st (inl c) = inl c.valid
either_form inst st (inr c) = inr c.valid

comes_upheld : (inst : List ℕ) (st : State) → Comes inst st → UpheldOf inst st
comes_upheld inst st c =
    record {
      either = either_form inst st c;
      six = λ v.
          let s = comes_six inst st c v in
          upheld (comes_takes inst s table_laws) (comes_left inst s) (comes_held inst s) (first_keeps inst s) s.derived;
      five = λ v. upheld_five inst st (comes_five inst st c v);
    }

pub demand3 : Demand3
demand3 inst st calls c = comes_upheld inst (after_calls st calls) (calls_come inst st calls c)
