-- Sizes of a field: each from 1 to 8, as the station words in front have it.
use Prim.Native.Nat.{ℕ, zero, suc, ◌≤◌}
use mathlib.Core.Path.{◌≡◌, refl}
use mathlib.Core.Bool.{Bool, true, false, not, ◌&&◌, false≢true}
use mathlib.Core.List.{List, [], ◌∷◌, map}
use lib.ListN.{length, take}
use lib.Dec.{eqb}
use borrow.Author.Tests.{eqb-false}
use Rattle.wcsp.specs.Clause.{AllPositive, nil_positive, cons_positive}
use Rattle.words.specs.Layout.{payload_of}
use Rattle.fields.specs.Limits.{max_variables}
use Rattle.fields.specs.Front.{size_in, good_sizes}
use Rattle.fields.specs.Entries.{EachSize, nil_each, cons_each, FieldSizes}
use Rattle.fields.proofs.Fronts.{size_some}

pub each_positive : {ds : List ℕ} → EachSize ds → AllPositive ds
each_positive nil_each = nil_positive
each_positive (cons_each h r) = cons_positive h.0 (each_positive r)

pub field_sizes : (ds : List ℕ) → length ds ≤ max_variables → EachSize ds → FieldSizes ds
field_sizes ds l r = record { most = l; each = r; positive = each_positive r }

pub sizes_each : (k : ℕ) (ws : List ℕ) → good_sizes k ws ≡ true → EachSize (map payload_of (take k ws))
unfolding good_sizes
sizes_each zero ws e = nil_each
sizes_each (suc k) [] e = nil_each
sizes_each (suc k) (w ∷ ws) e = go (eqb (size_in w) 0) refl e (λ h. sizes_each k ws h)
  where
    go : (b : Bool) → eqb (size_in w) 0 ≡ b → (not b && good_sizes k ws) ≡ true
        → (good_sizes k ws ≡ true → EachSize (map payload_of (take k ws))) → EachSize (payload_of w ∷ map payload_of (take k ws))
    go true f e ih = absurd (false≢true e)
    go false f e ih =
        let (k, p, l, m) = size_some w (eqb-false (size_in w) 0 f) in
        cons_each {x = payload_of w} (l, m) (ih e)
