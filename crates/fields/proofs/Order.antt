-- Tests in order: the input's numbers lie below the state's, and the tests of 1 to 5 come to the fault.
use Prim.Native.Nat.{ℕ, zero, suc, ◌≤◌}
use native.Mathlib.Omega.{arith}
use mathlib.Core.Path.{◌≡◌, refl}
use mathlib.Core.Bool.{Bool, true, false, ◌&&◌, cond}
use mathlib.Core.List.{List, ◌++◌}
use lib.Dec.{eqb, leb}
use borrow.Author.Tests.{leb-true}
use Rattle.fields.specs.Order.{Test, first_of, last_input, first_state, fault_tests, InputBelowState}

pub input_below_state : InputBelowState
input_below_state j k i s = omega (arith, leb-true j last_input (second (leb 1 j) _ i), leb-true first_state k s)
  where
    second : (a b : Bool) → (a && b) ≡ true → b ≡ true
    second true b e = e
    second false b e = cc

-- the tests of 1 to 5 come to the fault, and without one to what the tests behind them come to
pub after_faults : (f : ℕ) → f ≤ 5 → (ts : List Test) → first_of (fault_tests f ++ ts) ≡ cond (eqb f 0) (first_of ts) f
unfolding first_of
after_faults zero h ts = refl
after_faults (suc zero) h ts = refl
after_faults (suc (suc zero)) h ts = refl
after_faults (suc (suc (suc zero))) h ts = refl
after_faults (suc (suc (suc (suc zero)))) h ts = refl
after_faults (suc (suc (suc (suc (suc zero))))) h ts = refl
after_faults (suc (suc (suc (suc (suc (suc f)))))) h ts = absurd (omega arith)
