-- The invariant of every list of calls: the table is valid in one form or the other, and its rows are what the derivation makes of the encoding's.
-- A step call and a run go on in six-word rows and refuse five-word ones; a good conversion has the same rows in the other form.
use Prim.Native.Nat.{ℕ}
use mathlib.Core.Path.{◌≡◌, refl, ◌∙◌}
use mathlib.Core.Logic.{inl, inr}
use mathlib.Core.Bool.{Bool, true, false, cond}
use mathlib.Core.List.{List, [], ◌∷◌, ◌++◌, append-nil}
use lib.ListN.{length, take}
use lib.Dec.{eqb}
use borrow.Author.Tests.{eqb-true}
use Rattle.input.specs.Instance.{sizes_of, entries_of}
use Rattle.table.specs.Form.{TableForm}
use Rattle.table.specs.Raws.{standard_form}
use Rattle.table.specs.Layout.{capacity, table_words_in}
use Rattle.table.specs.Meaning.{own_rows_in, own_rows}
use Rattle.table.specs.Valid.{valid_table_in, valid_table}
use Rattle.table.specs.TableLaws.{TableLaws}
use Rattle.table.proofs.RawRows.{table_laws}
use Rattle.table.proofs.Own.{Held, valid_is_canonical_in}
use Rattle.encoding.specs.Calls.{encoded_rows}
use Rattle.table.specs.Five.{five_form}
use Rattle.conversion.specs.Calls.{ConvertReturned, to_six_call, to_five_call}
use Rattle.conversion.specs.Theorems.{Same}
use Rattle.conversion.proofs.Theorems.{good_of, conversions}
use Rattle.conversion.proofs.Forms.{same_rows}
use Rattle.resolution.specs.Calls.{step_call, run_call}
use Rattle.checker.proofs.Instances.{accepted_sizes, accepted_entries}
use Rattle.checker.proofs.Encoded.{coded, coded_table}
use Rattle.checker.proofs.Claims.{coded_takes, encoded_left}
use Rattle.checker.proofs.Kept.{Takes, Keeps, encoded_keeps}
use Rattle.checker.proofs.Replaying.{Left, left_held}
use Rattle.calls.specs.Calls.{Call, step_asked, run_asked, plan_asked, six_asked, five_asked, State, words_of_step, handed_on, after_call, after_calls, Derives}
use Rattle.calls.specs.Demand.{ComesIn, Comes, EncodedComes}
use Rattle.calls.proofs.Reaching.{derives_append, derives_keeps, reaches_derives}
use Rattle.calls.proofs.Moving.{Moved, step_moved, run_moved, moved_held}
use Rattle.calls.proofs.LastYear.{first_only}

module _ (inst : List ℕ) where
  abbrev ds : List ℕ
  ds = sizes_of inst

  -- ---- what such a table is

  module _ {f : TableForm} {st : State} (c : ComesIn f inst st) where
    pub first_keeps : Keeps ds (entries_of inst) (encoded_rows inst)
    first_keeps = encoded_keeps (accepted_sizes inst c.accepted) (accepted_entries inst c.accepted)

    pub comes_keeps : Keeps ds (entries_of inst) (own_rows_in f st.table)
    comes_keeps = derives_keeps first_keeps c.derived

    pub comes_words : TableLaws f → st.table ≡ table_words_in f (length st.table) ds (own_rows_in f st.table)
    comes_words law = rw c.sizes at (valid_is_canonical_in f law st.table c.valid).words

    pub comes_takes : TableLaws f → Takes (length st.table) ds (entries_of inst)
    comes_takes law =
        record {
          sizes = accepted_sizes inst c.accepted;
          entries = accepted_entries inst c.accepted;
          room = rw c.sizes at (valid_is_canonical_in f law st.table c.valid).holdable.room;
        }

  -- of six-word rows
  module _ {st : State} (c : ComesIn standard_form inst st) where
    pub comes_left : Left ds (entries_of inst) (capacity (length st.table) (length ds)) (own_rows st.table)
    comes_left = record { keeps = comes_keeps c; fits = rw c.sizes at (valid_is_canonical_in standard_form table_laws st.table c.valid).holdable.fits }

    pub comes_held : Held st.table (length st.table) ds (own_rows st.table)
    comes_held = left_held (comes_takes c table_laws) comes_left (comes_words c table_laws)

  -- ---- a table that is valid in both forms has no rows, and comes from the encoding in both

  pub comes_six : (st : State) → Comes inst st → valid_table st.table ≡ true → ComesIn standard_form inst st
  comes_six st (inl c) v = c
  comes_six st (inr c) v = record { accepted = c.accepted; valid = v; sizes = c.sizes; derived = rw (same_rows st.table c.valid v) at c.derived }

  pub comes_five : (st : State) → Comes inst st → valid_table_in five_form st.table ≡ true → ComesIn five_form inst st
  comes_five st (inl c) v = record { accepted = c.accepted; valid = v; sizes = c.sizes; derived = rw (← same_rows st.table v c.valid) at c.derived }
  comes_five st (inr c) v = c

  -- ---- steps in six-word rows

  moved_comes : (st : State) (c : ComesIn standard_form inst st) (t'' vs : List ℕ) → Moved (length st.table) ds (own_rows st.table) t'' vs
      → Comes inst (record { table = t''; derivation = st.derivation ++ vs })
  moved_comes st c t'' vs m =
      let h = moved_held (comes_takes c table_laws) (comes_left c) m in
      inl
      (record {
        accepted = c.accepted;
        valid = h.valid;
        sizes = h.sizes;
        derived = rw h.rows (derives_append c.derived (reaches_derives m.reaches));
      })

  -- ---- each call

  -- five-word rows are refused, and nothing is changed
  step_comes : (st : State) → Comes inst st → Comes inst (after_call st step_asked)
  unfolding after_call words_of_step
  step_comes st c = go (valid_table st.table) refl
    where
      go : (b : Bool) → valid_table st.table ≡ b
          → Comes inst (record { table = (step_call st.table).table; derivation = st.derivation ++ words_of_step (step_call st.table).answer })
      go true v = let s = comes_six st c v in moved_comes st s _ _ (step_moved (comes_takes s table_laws) (comes_left s) (comes_held s))
      go false v = rw ((first_only st.table v).step, append-nil st.derivation) c

  run_comes : (st : State) (limit : ℕ) (slice : List ℕ) → Comes inst st → Comes inst (after_call st (run_asked limit slice))
  unfolding after_call
  run_comes st limit slice c = go (valid_table st.table) refl
    where
      go : (b : Bool) → valid_table st.table ≡ b
          → let r = run_call st.table limit slice in
          Comes inst (record { table = r.table; derivation = st.derivation ++ take r.answer.steps r.slice })
      go true v = let s = comes_six st c v in moved_comes st s _ _ (run_moved (comes_takes s table_laws) (comes_left s) (comes_held s) limit slice)
      go false v = rw ((first_only st.table v).run limit slice, append-nil st.derivation) c

  -- a conversion: the same rows, if it is good
  module _ {f g : TableForm} {st : State} {target : List ℕ} (c : ComesIn f inst st) (s : Same f g st.table target) where
    same_comes : ComesIn g inst (record { table = target; derivation = st.derivation })
    same_comes = record { accepted = c.accepted; valid = s.valid; sizes = s.sizes ∙ c.sizes; derived = rw s.rows c.derived }

  handed_comes : (st : State) (r : ConvertReturned) → Comes inst st
      → (r.answer.number ≡ 0 → Comes inst (record { table = r.target; derivation = st.derivation }))
      → Comes inst (record { table = handed_on st.table r; derivation = st.derivation })
  unfolding handed_on
  handed_comes st r c good = go (eqb r.answer.number 0) refl
    where
      go : (b : Bool) → eqb r.answer.number 0 ≡ b → Comes inst (record { table = cond b r.target st.table; derivation = st.derivation })
      go true e = good (eqb-true r.answer.number 0 e)
      go false e = c

  call_comes : (st : State) (call : Call) → Comes inst st → Comes inst (after_call st call)
  unfolding after_call
  call_comes st step_asked c = step_comes st c
  call_comes st (run_asked limit slice) c = run_comes st limit slice c
  call_comes st (plan_asked target) c = c
  call_comes st (six_asked target) c =
      handed_comes st (to_six_call st.table target) c (λ e.
      let old = comes_five st c (good_of five_form standard_form st.table target e).valid in
      inl (same_comes old (conversions.six_keeps st.table target e)))
  call_comes st (five_asked target) c =
      handed_comes st (to_five_call st.table target) c (λ e.
      let new = comes_six st c (good_of standard_form five_form st.table target e).valid in
      inr (same_comes new (conversions.five_keeps st.table target e)))

  pub calls_come : (st : State) (calls : List Call) → Comes inst st → Comes inst (after_calls st calls)
  unfolding after_calls
  calls_come st [] c = c
  calls_come st (call ∷ calls) c = calls_come (after_call st call) calls (call_comes st call c)

-- ---- an encoding

pub encoded_comes : EncodedComes
encoded_comes inst t e =
    let c = coded inst t e in
    let h = left_held (coded_takes inst t c) (encoded_left inst t c) (coded_table inst t c) in
    inl (record { accepted = c.accepted; valid = h.valid; sizes = h.sizes; derived = rw h.rows Derives.stop })
