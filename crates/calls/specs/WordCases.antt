-- The small fields P1 to P7 of document 01 on words: what is given, what the public calls have to make of it, and the claim that they do just that.
use Rattle.std.specs.Prelude.{ℕ, ◌+◌, ◌*◌, ◌≡◌, List, [], ◌∷◌, ◌++◌, map, length, replicate, take, drop}
use Rattle.std.proofs.Math.Option.{Option, none, some}
use Rattle.wcsp.specs.Row.{Row, ◌weighted◌}
use Rattle.words.specs.Layout.{head_word, size_word, binding_word, cost_word}
use Rattle.fields.specs.Answers.{Answer}
use Rattle.fields.specs.Answers.{good}
use Rattle.input.specs.Instance.{sizes_of}
use Rattle.rows.specs.Raw.{row_width}
use Rattle.table.specs.Layout.{rows_at, table_words}
use Rattle.table.specs.Meaning.{own_rows}
use Rattle.encoding.specs.Calls.{encode_call}
use Rattle.resolution.specs.Calls.{RunReturned, run_call}
use Rattle.resolution.specs.Numbers.{run_number, run_fields}
use Rattle.assignment.specs.Calls.{PlanReturned, plan_call}
use Rattle.checker.specs.Answer.{CheckAnswer}
use Rattle.checker.specs.Calls.{check_call}

-- what a case gives: the words of an instance, encoded in a slice of so many words, or a table's words as they stand
pub data CaseWords : Type 0 where
  instance_in : ℕ → List ℕ → CaseWords
  table_of : List ℕ → CaseWords

-- what comes of a case: the encode call's answer, the rows that it wrote, the run's number and fields, the rows that it left,
-- the plan call on them, and the check call's answer; a table as it stands has no instance, so no encoding and no claim to check
pub record WordResult : Type 0 where
  pub encoding : Option Answer
  pub before : List Row
  pub number : ℕ
  pub fields : List ℕ
  pub after : List Row
  pub planned : PlanReturned
  pub checked : Option CheckAnswer

-- a line of the table: what is given, and what has to come of it
pub record WordCase : Type 0 where
  pub given : CaseWords
  pub before : List Row
  pub steps : ℕ
  pub after : List Row
  pub bound : ℕ
  pub assignment : List ℕ

-- the lent slices hold other content before the calls: a table of so many words, the run's slice, the plan's target
abbrev pub lent_words : ℕ → List ℕ
lent_words len = replicate len 7

abbrev pub lent_slice : List ℕ
lent_slice = replicate 4 6

abbrev pub lent_target : List ℕ
lent_target = replicate 3 9

unfoldable pub if_instance : {A : Type 0} → CaseWords → (ℕ → List ℕ → A) → Option A
if_instance (instance_in len inst) f = some (f len inst)
if_instance (table_of t) f = none

-- the result that the line states: the run is done, the assignment is planned, and the claim accepted
unfoldable pub words_stated : WordCase → WordResult
unfolding if_instance
words_stated c =
    record {
      encoding = if_instance c.given (λ len inst. good (length c.before));
      before = c.before;
      number = 0;
      fields = 0 ∷ c.steps ∷ c.bound ∷ [];
      after = c.after;
      planned = record { number = 0; target = c.assignment ++ drop (length c.assignment) lent_target };
      checked = if_instance c.given (λ len inst. record { number = 0; steps = c.steps });
    }

unfoldable pub table_given : CaseWords → List ℕ
table_given (instance_in len inst) = (encode_call inst (lent_words len)).table
table_given (table_of t) = t

-- the check call on the words that a run wrote, the bytes that a plan call wrote, and the run's bound
abbrev pub check_of : ℕ → List ℕ → RunReturned → PlanReturned → CheckAnswer
check_of len inst r p =
    (check_call inst (take r.answer.steps r.slice) (take (length (sizes_of inst)) p.target) r.answer.bound (lent_words len)).answer

-- the result by the calls: encode, run, plan, check
unfoldable pub words_computed : WordCase → WordResult
unfolding if_instance table_given
words_computed c =
    let t = table_given c.given in
    let r = run_call t 10 lent_slice in
    let p = plan_call r.table lent_target in
    record {
      encoding = if_instance c.given (λ len inst. (encode_call inst (lent_words len)).answer);
      before = own_rows t;
      number = run_number r.answer;
      fields = run_fields r.answer;
      after = own_rows r.table;
      planned = p;
      checked = if_instance c.given (λ len inst. check_of len inst r p);
    }

abbrev pub p1 : List ℕ
p1 = head_word 1 ∷ size_word 2 ∷ binding_word 0 0 ∷ cost_word 3 ∷ binding_word 0 1 ∷ cost_word 1 ∷ []

abbrev pub p2 : List ℕ
p2 = head_word 1 ∷ size_word 3 ∷ binding_word 0 0 ∷ cost_word 2 ∷ binding_word 0 1 ∷ cost_word 1 ∷ binding_word 0 2 ∷ cost_word 4 ∷ []

-- The values are document 01's; those that it leaves out are worked out by hand from its rules.
unfoldable pub word_cases : List WordCase
word_cases =
    -- P1: two values, costs 3 and 1
    record {
      given = instance_in (rows_at 1 + 2 * row_width) p1;
      before = (2 ∷ []) weighted 3 ∷ (1 ∷ []) weighted 1 ∷ [];
      steps = 1;
      after = (2 ∷ []) weighted 2 ∷ (0 ∷ []) weighted 1 ∷ [];
      bound = 1;
      assignment = 1 ∷ [];
    }
    -- P2: three values, costs 2, 1 and 4
    ∷ record {
      given = instance_in (rows_at 1 + 3 * row_width) p2;
      before = (6 ∷ []) weighted 2 ∷ (5 ∷ []) weighted 1 ∷ (3 ∷ []) weighted 4 ∷ [];
      steps = 3;
      after = (3 ∷ []) weighted 2 ∷ (2 ∷ []) weighted 1 ∷ (0 ∷ []) weighted 1 ∷ [];
      bound = 1;
      assignment = 1 ∷ [];
    }
    -- P3: values 0, 0 cost 2 and values 1, 0 cost 1
    ∷ record {
      given =
          instance_in (rows_at 2 + 2 * row_width)
          (head_word 2 ∷ size_word 2 ∷ size_word 2
          ∷ binding_word 0 0 ∷ binding_word 1 0 ∷ cost_word 2 ∷ binding_word 0 1 ∷ binding_word 1 0 ∷ cost_word 1 ∷ []);
      before = (2 ∷ 2 ∷ []) weighted 2 ∷ (1 ∷ 2 ∷ []) weighted 1 ∷ [];
      steps = 1;
      after = (2 ∷ 2 ∷ []) weighted 1 ∷ (0 ∷ 2 ∷ []) weighted 1 ∷ [];
      bound = 0;
      assignment = 0 ∷ 1 ∷ [];
    }
    -- P4: value 0 of variable 0 costs 1, values 1, 0 cost 1
    ∷ record {
      given =
          instance_in (rows_at 2 + 2 * row_width)
          (head_word 2 ∷ size_word 2 ∷ size_word 2 ∷ binding_word 0 0 ∷ cost_word 1 ∷ binding_word 0 1 ∷ binding_word 1 0 ∷ cost_word 1 ∷ []);
      before = (2 ∷ 0 ∷ []) weighted 1 ∷ (1 ∷ 2 ∷ []) weighted 1 ∷ [];
      steps = 1;
      after = (0 ∷ 2 ∷ []) weighted 1 ∷ (2 ∷ 1 ∷ []) weighted 1 ∷ [];
      bound = 0;
      assignment = 1 ∷ 1 ∷ [];
    }
    -- P5: one value, cost 7
    ∷ record {
      given = instance_in (rows_at 1 + row_width) (head_word 1 ∷ size_word 1 ∷ binding_word 0 0 ∷ cost_word 7 ∷ []);
      before = (0 ∷ []) weighted 7 ∷ [];
      steps = 0;
      after = (0 ∷ []) weighted 7 ∷ [];
      bound = 7;
      assignment = 0 ∷ [];
    }
    -- P6: the constant cost 0
    ∷ record {
      given = instance_in (rows_at 1) (head_word 1 ∷ size_word 1 ∷ cost_word 0 ∷ []);
      before = [];
      steps = 0;
      after = [];
      bound = 0;
      assignment = 0 ∷ [];
    }
    -- P7: signs 3 and 2 of one variable, with three values so that neither is full: the first contains the second
    ∷ record {
      given = table_of (table_words (rows_at 1 + 2 * row_width) (3 ∷ []) ((3 ∷ []) weighted 1 ∷ (2 ∷ []) weighted 1 ∷ []));
      before = (3 ∷ []) weighted 1 ∷ (2 ∷ []) weighted 1 ∷ [];
      steps = 0;
      after = (3 ∷ []) weighted 1 ∷ (2 ∷ []) weighted 1 ∷ [];
      bound = 0;
      assignment = 1 ∷ [];
    }
    ∷ []

-- the claim: by the calls every line comes out as stated
abbrev pub SmallFieldsOnWords : Type 0
SmallFieldsOnWords = map words_computed word_cases ≡ map words_stated word_cases
