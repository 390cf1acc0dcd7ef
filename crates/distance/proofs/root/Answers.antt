-- `root` answers the nearest whole metre. Its loop keeps an estimate of the root of q / 2,500, in half metres; the measure is the estimate, which falls at each turn.
use Prim.Native.Nat.{ℕ}
use native.Mathlib.Omega.{arith}
use mathlib.Core.Path.{◌≡◌}
use Rattle.distance.specs.Metres.{metres, Nearest}
use Rattle.distance.proofs.Largest.{metres_are_nearest}
use Rattle.distance.proofs.Estimates.{first, sum_small, again, settled}
use Rattle.distance.proofs.root.Goals as goal

settles : (q m : ℕ) → Nearest q m → (m ≡ metres q) × Nearest q m
settles q m l = (metres_are_nearest.unique q m l, l)

pub loop-x-init : goal.loop-x-init
loop-x-init c = first _ (omega arith)

pub overflow_add-next : goal.overflow_add-next
overflow_add-next c = omega (arith, sum_small _ _ c.loop-x.invariant)

pub loop-x-preserved : goal.loop-x-preserved
loop-x-preserved c = again _ c.loop-x.x c.loop-x.invariant (omega arith)

pub overflow_add-result : goal.overflow_add-result
overflow_add-result c = omega (arith, c.loop-x.invariant.small)

pub returns : goal.returns
returns c = settles _ _ (settled _ _ c.loop-x.x _ (omega arith) c.loop-x.invariant (omega arith) (omega arith))
