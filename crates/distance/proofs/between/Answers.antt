-- `between` answers the nearest whole metre between two points: the root of the squared differences, each at most the greatest offset.
use Prim.Native.Nat.{ℕ, ◌+◌, ◌*◌}
use native.Mathlib.Omega.{arith}
use mathlib.Core.Path.{◌≡◌}
use Rattle.distance.specs.Metres.{metres, Nearest, difference, squared_distance, metres_between}
use Rattle.distance.proofs.Largest.{metres_bound}
use Rattle.distance.proofs.between.Goals as goal

-- what the root says of the squared differences, it says of the squared distance
by_differences : (e n e' n' a b r : ℕ) → a ≡ difference e e' → b ≡ difference n n' → (r ≡ metres (a * a + b * b)) × Nearest (a * a + b * b) r
    → (r ≡ metres_between e n e' n') × Nearest (squared_distance e n e' n') r
unfolding metres_between
by_differences e n e' n' a b r east north said = rw (east, north) at said

pub returns : goal.returns
returns c =
    let a = c.args in
    let east : c.abs_diff-east.result ≡ difference a.e a.e2 = omega (arith, c.abs_diff-east.ensures) in
    let north : c.abs_diff-north.result ≡ difference a.n a.n2 = omega (arith, c.abs_diff-north.ensures) in
    let said = by_differences _ _ _ _ _ _ _ east north c.root.ensures in (
      said.0,
      omega (arith, metres_bound c.abs_diff-east.result c.abs_diff-north.result (omega (arith, east)) (omega (arith, north))),
      said.1,
    )
