-- Tables of six-word rows: what Laid and Left give, and how one call's result meets the next one's demand.
use Prim.Native.Nat.{ℕ}
use mathlib.Core.Path.{◌≡◌}
use mathlib.Core.List.{List}
use lib.ListN.{length}
use Rattle.rows.specs.Raw.{Raw, raws_in, Laid, Left}
use Rattle.rows.proofs.Flat.{row_laws}
use Rattle.storing.proofs.FormTables as forms
pub use Rattle.storing.proofs.FormTables.{left_trans, left_refl}

pub left_read : {t : List ℕ} {base : ℕ} {t' : List ℕ} {rs : List Raw} (count : ℕ) → length rs ≡ count → Left t base t' rs → raws_in t' base count ≡ rs
left_read count e l = forms.left_read row_laws count e l

pub left_laid : {t : List ℕ} {base : ℕ} {t' : List ℕ} {rs : List Raw} (count : ℕ) → length rs ≡ count → Left t base t' rs → Laid t' base (raws_in t' base count)
left_laid count e l = forms.left_laid row_laws count e l
