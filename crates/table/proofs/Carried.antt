-- Rows that raw rows can carry: their laws stand in specs/Carried, under the laws of the forms.
pub use Rattle.table.specs.Carried.{CarriedIn, AllCarriedIn, nil_carried, cons_carried, Carried, AllCarried, carried_weight, carried_valid, carried_light}
