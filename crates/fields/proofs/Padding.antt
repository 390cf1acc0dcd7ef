-- Twelve variables in place of n: there are twelve sizes, each from 1 to 8, the field's own in front.
use Prim.Native.Nat.{ℕ, zero, suc, ◌-◌, ◌≤◌}
use native.Mathlib.Omega.{arith}
use mathlib.Core.Path.{◌≡◌, sym, ap, ◌∙◌}
use mathlib.Core.List.{List, ◌++◌}
use lib.ListN.{length, get_or, take, replicate, length-append, length-replicate}
use lib.Seq.{take-append_seam}
use Rattle.fields.specs.Limits.{max_variables}
use Rattle.fields.specs.Entries.{EachSize, nil_each, cons_each}
use Rattle.fields.specs.Padding.{padded}

-- ---- lengths

pub padded-length : (ds : List ℕ) → length ds ≤ 12 → length (padded ds) ≡ 12
unfolding padded
padded-length ds h = omega (arith, length-append ds (replicate (12 - length ds) 1), length-replicate {A = ℕ} (12 - length ds) 1)

pub padded-front : (ds : List ℕ) (n : ℕ) → length ds ≡ n → take n (padded ds) ≡ ds
unfolding padded
padded-front ds n e = rw (← e) (take-append_seam ds (replicate (12 - length ds) 1))

-- the sizes of the variables are the first of twelve
pub sizes_taken : (ds sizes : List ℕ) (n : ℕ) → sizes ≡ padded ds → n ≡ length ds → take n sizes ≡ ds
sizes_taken ds sizes n e f = rw e (padded-front ds n (sym f))

pub sizes_twelve : (ds sizes : List ℕ) → sizes ≡ padded ds → length ds ≤ max_variables → length sizes ≡ max_variables
sizes_twelve ds sizes e few = ap length e ∙ padded-length ds few

-- ---- sizes

-- every size is at most 8, past the last too
pub sizes_at : {ds : List ℕ} → EachSize ds → (v : ℕ) → get_or ds v 0 ≤ 8
sizes_at nil_each v = omega arith
sizes_at (cons_each h s) zero = h.1
sizes_at (cons_each h s) (suc v) = sizes_at s v

sizes_ones : {ds : List ℕ} (n : ℕ) → EachSize ds → EachSize (ds ++ replicate n 1)
sizes_ones zero nil_each = nil_each
sizes_ones (suc n) nil_each = cons_each {x = 1} (omega arith) (sizes_ones n nil_each)
sizes_ones n (cons_each h s) = cons_each h (sizes_ones n s)

pub sizes_padded : {ds : List ℕ} → EachSize ds → EachSize (padded ds)
unfolding padded
sizes_padded {ds} s = sizes_ones (12 - length ds) s
