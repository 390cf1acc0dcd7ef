-- The twelve signs of a clause: their laws stand in specs/TwelveSigns, under the laws of the forms.
pub use Rattle.table.specs.TwelveSigns.{Twelve, twelve_signs_of, clause_from_signs, full_small, twelve_full, full_signs, full-packed, full_signs_padded, full-packed-padded, signs_clause_from, packed-clause_from, twelve_valid}
