-- Rows and the raw rows that carry them, in the form of six-word rows: what a raw row says, and the raw row that says it.
use Rattle.wcsp.specs.Row.{Row}
use Rattle.clause.specs.Packed.{signs_of}
use Rattle.rows.specs.Raw.{max_weight, Raw, row_form, weight_in, raw_row, clause_in, row_weighs}
use Rattle.table.specs.Clauses.{clause_from}
use Rattle.table.specs.Form.{TableForm}

-- the twelve signs of the sign words and the weight, whatever the words' kinds
unfoldable pub row_of : Raw → Row
unfolding signs_of weight_in
row_of r = record { signs = signs_of (clause_in r); weight = weight_in r }

-- four sign words with the row's signs, three to a word, and its weight
abbrev pub raw_of : Row → Raw
raw_of r = raw_row (clause_from r.signs) r.weight

abbrev pub standard_form : TableForm
standard_form = record { rows = row_form; limit = max_weight; row_of = row_of; raw_of = raw_of; weighs = row_weighs }
