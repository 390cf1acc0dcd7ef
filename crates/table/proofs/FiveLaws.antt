-- Last year's form keeps the laws of a form of tables: the weight of one word is at most the limit.
use Rattle.table.specs.TableLaws.{TableLaws}
use Rattle.table.specs.Five.{five_form}
use Rattle.table.specs.FiveLaws.{word_weight, laws_by}
pub use Rattle.table.specs.FiveLaws.{five_row_laws, five_signs}

pub five_laws : TableLaws five_form
five_laws = laws_by word_weight
