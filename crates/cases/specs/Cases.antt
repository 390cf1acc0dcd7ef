-- The joint table of document 01's small fields P1 to P8: what is given, what document 01 (of P8 document 02) says comes of it, and the claim that the definitions give just that. P1 to P7 are fields, P8 is a root: one table holds both.
use Rattle.std.specs.Prelude.{ℕ, zero, suc, ◌≡◌, List, [], ◌∷◌, map, length}
use Rattle.std.proofs.Math.Option.{Option, none, some}
use Rattle.wcsp.specs.Row.{Row, empty_weight, ◌weighted◌}
use Rattle.wcsp.specs.Entry.{Entry, Binding, encoded}
use Rattle.wcsp.specs.Resolve.{Pair, next_pair, resolve}
use Rattle.wcsp.specs.Rebuild.{rebuilt}
use Rattle.wcsp.specs.Bound.{row_bound}
use Rattle.distance.specs.Metres.{metres}

infix 80 ◌is◌
-- where a field starts: entries to encode, or rows as they stand
pub data Given : Type 0 where
  from_entries : List Entry → Given
  from_rows : List Row → Given

-- a field with what has to come of it
pub record FieldLine : Type 0 where
  pub sizes : List ℕ
  pub start : Given
  pub before : List Row
  pub steps : ℕ
  pub after : List Row
  pub assignment : List ℕ
  pub least : ℕ

-- a squared distance in square centimetres with its nearest whole metre
pub record RootLine : Type 0 where
  pub square : ℕ
  pub whole : ℕ

-- a line of the table
pub data Case : Type 0 where
  of_field : FieldLine → Case
  of_root : RootLine → Case

-- what comes of a field: the rows at the start, the steps made, the rows after them, the pair left then, the rebuilt assignment,
-- and the weight of the empty row, which with no pair left is the least cost
pub record FieldResult : Type 0 where
  pub before : List Row
  pub steps : ℕ
  pub after : List Row
  pub left : Option Pair
  pub assignment : List ℕ
  pub least : ℕ

-- what comes of a line
pub data CaseResult : Type 0 where
  field_gives : FieldResult → CaseResult
  root_gives : ℕ → CaseResult

-- what the line states: a field's steps leave no pair
unfoldable pub stated : Case → CaseResult
stated (of_field l) =
    field_gives
    (record { before = l.before; steps = l.steps; after = l.after; left = none; assignment = l.assignment; least = l.least })
stated (of_root l) = root_gives l.whole

unfoldable pub rows_of : List ℕ → Given → List Row
rows_of ds (from_entries es) = encoded ds es
rows_of ds (from_rows rs) = rs

-- what a run has made: the number of steps and the rows that they leave
pub record AfterSteps : Type 0 where
  pub steps : ℕ
  pub rows : List Row

-- k steps are made; at most so many more are made, each on the next pair, until none is left
unfoldable pub run_to_end : List ℕ → ℕ → ℕ → List Row → AfterSteps
run_to_end ds zero k rs = record { steps = k; rows = rs }
run_to_end ds (suc more) k rs =
    elim (next_pair ds rs) [ none ↦ record { steps = k; rows = rs } | some pr ↦ run_to_end ds more (suc k) (resolve ds pr rs) ]

unfoldable pub result_of : List ℕ → List Row → AfterSteps → FieldResult
result_of ds rs r =
    record {
      before = rs;
      steps = r.steps;
      after = r.rows;
      left = next_pair ds r.rows;
      assignment = rebuilt ds r.rows;
      least = empty_weight (length ds) r.rows;
    }

-- what comes of the line by the definitions; no sequence of steps is longer than the rows' bound
unfoldable pub computed : Case → CaseResult
unfolding rows_of run_to_end result_of
computed (of_field l) =
    let rs = rows_of l.sizes l.start in
    field_gives (result_of l.sizes rs (run_to_end l.sizes (row_bound l.sizes rs) 0 rs))
computed (of_root l) = root_gives (metres l.square)

-- how the table writes a binding, an entry and a row
abbrev pub ◌is◌ : ℕ → ℕ → Binding
v is a = record { variable = v; value = a }

abbrev pub entry_with : List Binding → ℕ → Entry
entry_with bs n = record { bindings = bs; cost = n }

-- The values are document 01's, of P8 document 02's; those that 01 leaves out are worked out by hand from its rules.
unfoldable pub cases : List Case
cases =
    -- P1: two values, costs 3 and 1
    of_field (record {
      sizes = 2 ∷ [];
      start = from_entries (entry_with (0 is 0 ∷ []) 3 ∷ entry_with (0 is 1 ∷ []) 1 ∷ []);
      before = (2 ∷ []) weighted 3 ∷ (1 ∷ []) weighted 1 ∷ [];
      steps = 1;
      after = (2 ∷ []) weighted 2 ∷ (0 ∷ []) weighted 1 ∷ [];
      assignment = 1 ∷ [];
      least = 1;
    })
    -- P2: three values, costs 2, 1 and 4
    ∷ of_field (record {
      sizes = 3 ∷ [];
      start = from_entries (entry_with (0 is 0 ∷ []) 2 ∷ entry_with (0 is 1 ∷ []) 1 ∷ entry_with (0 is 2 ∷ []) 4 ∷ []);
      before = (6 ∷ []) weighted 2 ∷ (5 ∷ []) weighted 1 ∷ (3 ∷ []) weighted 4 ∷ [];
      steps = 3;
      after = (3 ∷ []) weighted 2 ∷ (2 ∷ []) weighted 1 ∷ (0 ∷ []) weighted 1 ∷ [];
      assignment = 1 ∷ [];
      least = 1;
    })
    -- P3: values 0, 0 cost 2 and values 1, 0 cost 1
    ∷ of_field (record {
      sizes = 2 ∷ 2 ∷ [];
      start = from_entries (entry_with (0 is 0 ∷ 1 is 0 ∷ []) 2 ∷ entry_with (0 is 1 ∷ 1 is 0 ∷ []) 1 ∷ []);
      before = (2 ∷ 2 ∷ []) weighted 2 ∷ (1 ∷ 2 ∷ []) weighted 1 ∷ [];
      steps = 1;
      after = (2 ∷ 2 ∷ []) weighted 1 ∷ (0 ∷ 2 ∷ []) weighted 1 ∷ [];
      assignment = 0 ∷ 1 ∷ [];
      least = 0;
    })
    -- P4: value 0 of variable 0 costs 1, values 1, 0 cost 1
    ∷ of_field (record {
      sizes = 2 ∷ 2 ∷ [];
      start = from_entries (entry_with (0 is 0 ∷ []) 1 ∷ entry_with (0 is 1 ∷ 1 is 0 ∷ []) 1 ∷ []);
      before = (2 ∷ 0 ∷ []) weighted 1 ∷ (1 ∷ 2 ∷ []) weighted 1 ∷ [];
      steps = 1;
      after = (0 ∷ 2 ∷ []) weighted 1 ∷ (2 ∷ 1 ∷ []) weighted 1 ∷ [];
      assignment = 1 ∷ 1 ∷ [];
      least = 0;
    })
    -- P5: one value, cost 7
    ∷ of_field (record {
      sizes = 1 ∷ [];
      start = from_entries (entry_with (0 is 0 ∷ []) 7 ∷ []);
      before = (0 ∷ []) weighted 7 ∷ [];
      steps = 0;
      after = (0 ∷ []) weighted 7 ∷ [];
      assignment = 0 ∷ [];
      least = 7;
    })
    -- P6: the constant cost 0
    ∷ of_field (record { sizes = 1 ∷ []; start = from_entries (entry_with [] 0 ∷ []); before = []; steps = 0; after = []; assignment = 0 ∷ []; least = 0 })
    -- P7: signs 3 and 2 of one variable, with three values so that neither is full: the first contains the second
    ∷ of_field (record {
      sizes = 3 ∷ [];
      start = from_rows ((3 ∷ []) weighted 1 ∷ (2 ∷ []) weighted 1 ∷ []);
      before = (3 ∷ []) weighted 1 ∷ (2 ∷ []) weighted 1 ∷ [];
      steps = 0;
      after = (3 ∷ []) weighted 1 ∷ (2 ∷ []) weighted 1 ∷ [];
      assignment = 1 ∷ [];
      least = 0;
    })
    -- P8, by document 02's wish 2: just below half a metre, and at it
    ∷ of_root (record { square = 2499; whole = 0 })
    ∷ of_root (record { square = 2500; whole = 1 })
    ∷ []

-- the claim: by the definitions every line comes out as stated
abbrev pub AllCases : Type 0
AllCases = map computed cases ≡ map stated cases
