-- Counting the legs from the front: those of the sizes passed, and those still to come.
use Prim.Native.Nat.{ℕ, suc, ◌+◌, ◌-◌, ◌*◌, ◌≤◌, ◌<◌}
use native.Mathlib.Omega.{arith}
use native.Mathlib.Nat.{mul-le-mul}
use mathlib.Core.Path.{◌≡◌, refl}
use mathlib.Core.List.{List, [], ◌∷◌}
use lib.ListN.{length, get_or, drop, length-drop}
use lib.Seq.{drop-cons}
use Rattle.sheet.specs.Sheet.{leg_count}

pub product_small : (a b : ℕ) → a < 256 → b < 256 → a * b ≤ 65025
product_small a b h k = mul-le-mul {n₁ = a} {m₁ = b} {n₂ = 255} {m₂ = 255} (omega arith) (omega arith)

legs_here : (ds : List ℕ) (i : ℕ) → suc i < length ds → leg_count (drop i ds) ≡ get_or ds i 0 * get_or ds (suc i) 0 + leg_count (drop (suc i) ds)
unfolding leg_count
legs_here ds i h = rw (drop-cons ds i 0 (omega arith), drop-cons ds (suc i) 0 h)

legs_last : (ds : List ℕ) → length ds ≤ 1 → leg_count ds ≡ 0
unfolding leg_count
legs_last [] h = refl
legs_last (d ∷ []) h = refl
legs_last (d ∷ (e ∷ ds)) h = absurd (omega arith)

-- the legs up to the size before i, and those from it on
module _ (ds : List ℕ) (i legs : ℕ) (inv : legs + leg_count (drop (i - 1) ds) ≡ leg_count ds) where
  pub legs_more : 1 ≤ i → i < length ds → legs + get_or ds (i - 1) 0 * get_or ds i 0 + leg_count (drop (i + 1 - 1) ds) ≡ leg_count ds
  legs_more one h =
      let e : i ≡ suc (i - 1) = omega arith in
      let n : i + 1 - 1 ≡ i = omega arith in
      let m : leg_count (drop (i - 1) ds) ≡ get_or ds (i - 1) 0 * get_or ds i 0 + leg_count (drop i ds) =
      rw (← e) at (legs_here ds (i - 1) (omega arith)) in
      rw n (omega arith)

  pub legs_end : length ds ≤ i → legs ≡ leg_count ds
  legs_end h = let z = legs_last (drop (i - 1) ds) (omega (arith, length-drop (i - 1) ds)) in omega arith
