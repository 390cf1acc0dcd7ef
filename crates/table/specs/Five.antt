-- Last year's form of tables: rows of five words, four sign words and one with the whole weight. Its width, its greatest weight, and how a
-- weight lies in a row's words and is told from other words stand here alone; the sign words are those of six-word rows.
use Rattle.std.specs.Prelude.{ℕ, ◌+◌, Bool, not, ◌&&◌, List, [], ◌∷◌, get_or, eqb}
use Rattle.wcsp.specs.Row.{Row}
use Rattle.words.specs.Layout.{kind_of, payload_of, weight_word}
use Rattle.clause.specs.declared.Clause.{Clause}
use Rattle.clause.specs.Packed.{signs_of}
use Rattle.rows.specs.Form.{Form}
use Rattle.rows.specs.Raw.{sign_words, raw_row, clause_in}
use Rattle.table.specs.Clauses.{clause_from}
use Rattle.table.specs.Form.{TableForm}

-- words to a row, and the greatest weight: what one word holds
abbrev pub five_width : ℕ
five_width = 5

abbrev pub five_max_weight : ℕ
five_max_weight = 268435455

-- four sign words and the word of the weight
pub record FiveRaw : Type 0 where
  pub a : ℕ
  pub b : ℕ
  pub c : ℕ
  pub d : ℕ
  pub weight : ℕ

-- the words of a raw row, and the raw row whose words start at a place
abbrev pub five_words : FiveRaw → List ℕ
five_words r = r.a ∷ r.b ∷ r.c ∷ r.d ∷ r.weight ∷ []

unfoldable pub five_at : List ℕ → ℕ → FiveRaw
five_at t at =
    record {
      a = get_or t at 0;
      b = get_or t (at + 1) 0;
      c = get_or t (at + 2) 0;
      d = get_or t (at + 3) 0;
      weight = get_or t (at + 4) 0;
    }

abbrev pub five_rows : Form
five_rows = record { Raw = FiveRaw; width = five_width; words = five_words; read = five_at }

-- the word of a weight of at least 1
abbrev pub is_five_weight : ℕ → Bool
is_five_weight w = eqb (kind_of w) 6 && not (eqb (payload_of w) 0)

-- the row in front of the words has a weight of at least 1 behind its sign words
unfoldable pub five_weighs : List ℕ → Bool
five_weighs ws = is_five_weight (get_or ws 4 0)

-- what a raw row says: the twelve signs of the sign words and the weight, whatever the words' kinds
unfoldable pub five_row_of : FiveRaw → Row
unfolding signs_of
five_row_of r = record { signs = signs_of (clause_in (sign_words r.a r.b r.c r.d)); weight = payload_of r.weight }

-- the raw row of a clause and a weight, and that of a row
abbrev pub five_row : Clause → ℕ → FiveRaw
five_row x weight = let r = raw_row x 0 in record { a = r.a; b = r.b; c = r.c; d = r.d; weight = weight_word weight }

abbrev pub five_raw_of : Row → FiveRaw
five_raw_of r = five_row (clause_from r.signs) r.weight

abbrev pub five_form : TableForm
five_form = record { rows = five_rows; limit = five_max_weight; row_of = five_row_of; raw_of = five_raw_of; weighs = five_weighs }
