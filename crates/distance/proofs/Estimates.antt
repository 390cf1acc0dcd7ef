-- The falling estimates of an integer root: from x to half of x + n / x. An estimate that falls is still at least the root, and one that does not fall has a square of at most n.
use Prim.Native.Nat.{ℕ, ◌+◌, ◌-◌, ◌*◌, ◌/◌, ◌≤◌, ◌<◌}
use native.Mathlib.Nat.{le_dest, lt-mul-div-succ, le-div_iff_mul-le, div-le_self, mul-le-mul}
use native.Mathlib.Omega.{arith}
use mathlib.Core.Path.{◌≡◌, refl, subst}
use mathlib.Core.Logic.{inl, inr}
use Rattle.distance.specs.Metres.{Nearest}

-- x is an estimate: positive, at most n, and at least the root of n
pub record Estimate (n x : ℕ) : Type 0 where
  pub positive : 0 < x
  pub small : x ≤ n
  pub above : n < (x + 1) * (x + 1)

pub first : (n : ℕ) → 0 < n → Estimate n n
first n h = omega arith

pub sum_small : (n x : ℕ) → Estimate n x → x + n / x ≤ n + n
sum_small n x a = omega (arith, div-le_self n x)

-- two numbers d above and at least d below m have a product of at most m squared
product_below : (m d k : ℕ) → k + d ≤ m → (m + d) * k ≤ m * m
product_below m d k h = subst (λ (m' : ℕ). (m' + d) * k ≤ m' * m') (le_dest h).1 (at (le_dest h).0)
  where
    at : (j : ℕ) → (k + d + j + d) * k ≤ (k + d + j) * (k + d + j)
    at j = omega arith

mean_above : (m x k : ℕ) → m ≤ x → x + k ≤ m + m → x * k ≤ m * m
mean_above m x k h s = go (le_dest h).0 (le_dest h).1
  where
    go : (d : ℕ) → m + d ≡ x → x * k ≤ m * m
    go d e = subst (λ (x' : ℕ). x' * k ≤ m * m) e (product_below m d k (omega arith))

pub again : (n x : ℕ) → Estimate n x → (x + n / x) / 2 < x → Estimate n ((x + n / x) / 2)
again n x a h =
    let y : ℕ = (x + n / x) / 2 in
    let one : 1 ≤ n / x = (le-div_iff_mul-le a.positive).1 (omega arith) in
    let below : n < x * (n / x + 1) = lt-mul-div-succ n a.positive in
    let mean : x * (n / x + 1) ≤ (y + 1) * (y + 1) = mean_above (y + 1) x (n / x + 1) (omega arith) (omega arith) in
    record { positive = omega arith; small = omega arith; above = omega arith }

-- an estimate that does not fall is the root
square_at_most : (n x : ℕ) → 0 < x → x ≤ (x + n / x) / 2 → x * x ≤ n
square_at_most n x h k = (le-div_iff_mul-le h).0 (omega arith)

-- x whole half metres, and m half of the next number, rounded down: 2m - 1 ≤ x ≤ 2m
halved : (q n x m : ℕ) → n ≡ q / 2500 → x * x ≤ n → n < (x + 1) * (x + 1) → 0 < x → m ≡ (x + 1) / 2 → Nearest q m
halved q n x m e low high p h =
    let below : (2 * m - 1) * (2 * m - 1) ≤ x * x = mul-le-mul (omega arith) (omega arith) in
    let above : (x + 1) * (x + 1) ≤ (2 * m + 1) * (2 * m + 1) = mul-le-mul (omega arith) (omega arith) in
    record { not_before = inr (omega arith); not_next = omega arith }

pub settled : (q n x m : ℕ) → n ≡ q / 2500 → Estimate n x → x ≤ (x + n / x) / 2 → m ≡ (x + 1) / 2 → Nearest q m
settled q n x m e a h k = halved q n x m e (square_at_most n x a.positive h) a.above a.positive k

pub no_metre : (q : ℕ) → q < 2500 → Nearest q 0
no_metre q h = record { not_before = inl refl; not_next = omega arith }
