-- Three signs in 24 bits: unpacking what was packed gives it back, and packing the three parts of 24 bits does too.
use Prim.Native.Nat.{ℕ, ◌+◌, ◌*◌, ◌/◌, ◌%◌, ◌<◌}
use native.Mathlib.Omega.{arith}
use mathlib.Core.Path.{◌≡◌}
use mathlib.Core.List.{[], ◌∷◌}
use Rattle.words.specs.Layout.{packed, unpacked}

pub unpacked-packed : (a b c : ℕ) → a < 256 → b < 256 → c < 256 → unpacked (packed a b c) ≡ a ∷ b ∷ c ∷ []
unpacked-packed a b c ha hb hc =
    let first : packed a b c % 256 ≡ a = omega arith in
    let upper : packed a b c / 256 ≡ b + c * 256 = omega arith in
    let second : packed a b c / 256 % 256 ≡ b = rw upper (omega arith) in
    let third : packed a b c / 65536 ≡ c = omega arith in
    rw (first, second, third)

pub packed-unpacked : (x : ℕ) → packed (x % 256) (x / 256 % 256) (x / 65536) ≡ x
packed-unpacked x = omega arith

-- the three parts of 24 bits are signs
pub parts_bounded : (x : ℕ) → x < 16777216 → (x % 256 < 256) × (x / 256 % 256 < 256) × (x / 65536 < 256)
parts_bounded x h = omega arith

pub packed_bounded : (a b c : ℕ) → a < 256 → b < 256 → c < 256 → packed a b c < 16777216
packed_bounded a b c ha hb hc = omega arith
