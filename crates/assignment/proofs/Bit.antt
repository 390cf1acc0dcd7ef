-- The bit of one value: shifted into a word it is the sign that has the value alone, and below 256.
use Prim.Native.Nat.{ℕ, ◌*◌, ◌%◌, ◌^◌, ◌<◌, ◌≤◌}
use native.Mathlib.Omega.{arith}
use mathlib.Core.Path.{◌≡◌}
use lib.Pow.{pow_mono}

module _ (v : ℕ) (h : v < 8) where
  most : 2 ^ v ≤ 128
  most = pow_mono {i = v} {j = 7} (omega arith)

  pub shifted : 1 * 2 ^ v % 4294967296 ≡ 2 ^ v
  shifted = omega (arith, most)

  pub bit_small : 1 * 2 ^ v % 4294967296 < 256
  bit_small = omega (arith, shifted, most)
