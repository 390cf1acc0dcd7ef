-- Raw rows of six words, the form that all calls but one take: four sign words and the weight's two words, of any content. The width, the
-- greatest weight, and how a weight lies in a row's words and is told from other words stand here alone.
use Rattle.std.specs.Prelude.{ℕ, zero, suc, ◌+◌, ◌*◌, ◌/◌, ◌%◌, Bool, not, ◌&&◌, cond, List, [], ◌∷◌, get_or, set, drop, eqb, Option, Some, None}
use Rattle.words.specs.Layout.{kind_of, payload_of, signs_word, weight_word, high_word}
use Rattle.clause.specs.declared.Clause.{Clause}
use Rattle.rows.specs.Form.{Form, raws_from_in, LaidIn, LeftIn}

-- words to a row, and the greatest weight
abbrev pub row_width : ℕ
row_width = 6

abbrev pub max_weight : ℕ
max_weight = 72057594037927935

-- a weight's low word has the 28 bits below this, its high word the 28 from it on
abbrev pub high_unit : ℕ
high_unit = 268435456

-- four sign words, the low and the high word of the weight
pub record Raw : Type 0 where
  pub a : ℕ
  pub b : ℕ
  pub c : ℕ
  pub d : ℕ
  pub low : ℕ
  pub high : ℕ

-- the words of a raw row, and the raw row whose words start at a place
abbrev pub raw_words : Raw → List ℕ
raw_words r = r.a ∷ r.b ∷ r.c ∷ r.d ∷ r.low ∷ r.high ∷ []

unfoldable pub raw_at : List ℕ → ℕ → Raw
raw_at t at =
    record {
      a = get_or t at 0;
      b = get_or t (at + 1) 0;
      c = get_or t (at + 2) 0;
      d = get_or t (at + 3) 0;
      low = get_or t (at + 4) 0;
      high = get_or t (at + 5) 0;
    }

abbrev pub row_form : Form
row_form = record { Raw = Raw; width = row_width; words = raw_words; read = raw_at }

-- ---- the weight and the clause of a raw row

-- the weight that a raw row's words give, whatever their kinds
unfoldable pub weight_in : Raw → ℕ
weight_in r = payload_of r.low + payload_of r.high * high_unit

-- the two words of a weight of at least 1 (document 02: "not both 0")
abbrev pub is_weight : ℕ → ℕ → Bool
is_weight low high = eqb (kind_of low) 6 && eqb (kind_of high) 12 && not (eqb (payload_of low) 0 && eqb (payload_of high) 0)

-- the row in front of the words has a weight of at least 1 behind its sign words
unfoldable pub row_weighs : List ℕ → Bool
row_weighs ws = is_weight (get_or ws 4 0) (get_or ws 5 0)

-- the raw row with this weight in place of its own
abbrev pub weighing : Raw → ℕ → Raw
weighing r weight =
    record { a = r.a; b = r.b; c = r.c; d = r.d; low = weight_word (weight % high_unit); high = high_word (weight / high_unit) }

-- four sign words, with no weight yet
abbrev pub sign_words : ℕ → ℕ → ℕ → ℕ → Raw
sign_words a b c d = record { a = a; b = b; c = c; d = d; low = 0; high = 0 }

-- the raw row of a clause and a weight
abbrev pub raw_row : Clause → ℕ → Raw
raw_row x weight = weighing (sign_words (signs_word 0 x.a) (signs_word 1 x.b) (signs_word 2 x.c) (signs_word 3 x.d)) weight

-- the sign words and the clause of a raw row
abbrev pub sign_words_in : Raw → List ℕ
sign_words_in r = r.a ∷ r.b ∷ r.c ∷ r.d ∷ []

abbrev pub clause_in : Raw → Clause
clause_in r = record { a = r.a % 16777216; b = r.b % 16777216; c = r.c % 16777216; d = r.d % 16777216 }

-- ---- for inner contracts

abbrev pub no_raw : Raw
no_raw = record { a = 0; b = 0; c = 0; d = 0; low = 0; high = 0 }

abbrev pub raws_from : ℕ → List ℕ → List Raw
raws_from k ws = raws_from_in row_form k ws

-- the raw rows of a table whose rows start at base
abbrev pub raws_in : List ℕ → ℕ → ℕ → List Raw
raws_in t base count = raws_from count (drop base t)

abbrev pub Laid : List ℕ → ℕ → List Raw → Type 0
Laid t base rs = LaidIn row_form t base rs

abbrev pub Left : List ℕ → ℕ → List ℕ → List Raw → Type 0
Left t base t' rs = LeftIn row_form t base t' rs

-- two raw rows have the same sign words
unfoldable pub same_signs : Raw → Raw → Bool
same_signs r q = eqb r.a q.a && eqb r.b q.b && eqb r.c q.c && eqb r.d q.d

-- the first raw row, counted from k, with the sign words of q
unfoldable pub find_from : Raw → ℕ → List Raw → Option ℕ
find_from q k [] = None
find_from q k (r ∷ rs) = cond (same_signs r q) (Some k) (find_from q (suc k) rs)

-- the same of so many rows that start width words behind one another, whatever stands behind their sign words
unfoldable pub find_spaced : ℕ → Raw → ℕ → ℕ → List ℕ → Option ℕ
find_spaced width q k zero ws = None
find_spaced width q k (suc n) ws = cond (same_signs (raw_at ws 0) q) (Some k) (find_spaced width q (suc k) n (drop width ws))

-- raw row k with another weight
unfoldable pub reweighed : List Raw → ℕ → ℕ → List Raw
reweighed rs k weight = set rs k (weighing (get_or rs k no_raw) weight)

-- raw row k taken out, the rest closing up
unfoldable pub without : List Raw → ℕ → List Raw
without [] k = []
without (r ∷ rs) zero = rs
without (r ∷ rs) (suc k) = r ∷ without rs k
