-- Lists of raw rows with one row reweighed or taken out: lengths and elements.
use Prim.Native.Nat.{ℕ, zero, suc, ◌-◌, ◌≤◌, ◌<◌}
use native.Mathlib.Nat.{le_of_suc-le-suc}
use native.Mathlib.Omega.{arith}
use mathlib.Core.Path.{◌≡◌, refl, ap}
use mathlib.Core.List.{List, [], ◌∷◌, ◌++◌}
use lib.ListN.{length, get_or, take, drop, set, length-set}
use lib.Seq.{set_out}
use Rattle.rows.specs.Raw.{Raw, no_raw, reweighed, without}

-- ---- a row reweighed

pub length-reweighed : (rs : List Raw) (k w : ℕ) → length (reweighed rs k w) ≡ length rs
unfolding reweighed
length-reweighed rs k w = length-set rs k _

-- past the last row there is nothing to reweigh
pub reweighed_past : (rs : List Raw) (k w : ℕ) → length rs ≤ k → reweighed rs k w ≡ rs
unfolding reweighed
reweighed_past rs k w h = set_out rs k _ h

-- ---- a row taken out

pub length_without : (rs : List Raw) (k : ℕ) → k < length rs → length (without rs k) ≡ length rs - 1
unfolding without
length_without [] k h = absurd (omega arith)
length_without (r ∷ rs) zero h = omega arith
length_without (r ∷ rs) (suc k) h =
    let e = length_without rs k (le_of_suc-le-suc h) in
    let some : k < length rs = le_of_suc-le-suc h in
    omega arith

pub without_below : (rs : List Raw) (k j : ℕ) → j < k → get_or (without rs k) j no_raw ≡ get_or rs j no_raw
unfolding without
without_below [] k j h = refl
without_below (r ∷ rs) zero j h = absurd (omega arith)
without_below (r ∷ rs) (suc k) zero h = refl
without_below (r ∷ rs) (suc k) (suc j) h = without_below rs k j (le_of_suc-le-suc h)

pub without_from : (rs : List Raw) (k j : ℕ) → k ≤ j → get_or (without rs k) j no_raw ≡ get_or rs (suc j) no_raw
unfolding without
without_from [] k j h = refl
without_from (r ∷ rs) zero j h = refl
without_from (r ∷ rs) (suc k) zero h = absurd (omega arith)
without_from (r ∷ rs) (suc k) (suc j) h = without_from rs k j (le_of_suc-le-suc h)

pub without_split : (rs : List Raw) (k : ℕ) → without rs k ≡ take k rs ++ drop (suc k) rs
unfolding without
without_split [] zero = refl
without_split [] (suc k) = refl
without_split (r ∷ rs) zero = refl
without_split (r ∷ rs) (suc k) = ap (λ qs. r ∷ qs) (without_split rs k)

-- the last row taken out
pub without_last : (rs : List Raw) (k : ℕ) → suc k ≡ length rs → without rs k ≡ take k rs
unfolding without
without_last [] k e = absurd (omega arith)
without_last (r ∷ []) zero e = refl
without_last (r ∷ q ∷ rs) zero e = absurd (omega arith)
without_last (r ∷ []) (suc k) e = absurd (omega arith)
without_last (r ∷ q ∷ rs) (suc k) e =
    let shorter : suc k ≡ length (q ∷ rs) = omega arith in
    ap (λ qs. r ∷ qs) (without_last (q ∷ rs) k shorter)

-- row k + 1 moved down onto row k: taking out row k + 1 then gives what taking out row k gave
pub without_moved : (rs : List Raw) (k : ℕ) → suc k < length rs → without (set rs k (get_or rs (suc k) no_raw)) (suc k) ≡ without rs k
unfolding without
without_moved [] k h = absurd (omega arith)
without_moved (r ∷ []) zero h = absurd (omega arith)
without_moved (r ∷ q ∷ rs) zero h = refl
without_moved (r ∷ []) (suc k) h = absurd (omega arith)
without_moved (r ∷ q ∷ rs) (suc k) h = ap (λ qs. r ∷ qs) (without_moved (q ∷ rs) k (le_of_suc-le-suc h))
