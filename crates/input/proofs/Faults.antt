-- The faults of an instance are numbers up to 5.
use Prim.Native.Nat.{ℕ, zero, suc, ◌≤◌}
use native.Mathlib.Omega.{arith}
use mathlib.Core.Bool.{Bool, true, false, cond}
use mathlib.Core.List.{List, [], ◌∷◌, ◌++◌}
use mathlib.Core.Option.{Option, none, some}
use lib.Dec.{eqb}
use Rattle.fields.specs.Front.{head_in, headed, size_in}
use Rattle.entries.proofs.Faults.{entries_small}
use Rattle.input.specs.Instance.{stations_fault, instance_fault}

pub cond_small : (b : Bool) (m n : ℕ) → m ≤ 5 → n ≤ 5 → cond b m n ≤ 5
cond_small true m n h k = h
cond_small false m n h k = k

stations_small : (k : ℕ) (sizes ws : List ℕ) → stations_fault k sizes ws ≤ 5
unfolding stations_fault
stations_small zero sizes ws = entries_small sizes 0 0 ws
stations_small (suc k) sizes [] = omega arith
stations_small (suc k) sizes (w ∷ ws) =
    let d = size_in w in
    cond_small (eqb d 0) 2 (stations_fault k (sizes ++ (d ∷ [])) ws) (omega arith) (stations_small k (sizes ++ (d ∷ [])) ws)

pub instance_small : (inst : List ℕ) → instance_fault inst ≤ 5
unfolding instance_fault headed
instance_small [] = omega arith
instance_small (w ∷ ws) = go (head_in w)
  where
    go : (o : Option ℕ) → headed 1 (λ n. stations_fault n [] ws) o ≤ 5
    go none = omega arith
    go (some n) = stations_small n [] ws
