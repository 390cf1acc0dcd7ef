-- `ended` meets its contract: its bound is the empty row's weight.
use Prim.Native.Nat.{ℕ}
use mathlib.Core.Path.{◌≡◌}
use Rattle.resolution.specs.declared.Outcome.{Outcome}
use Rattle.resolution.specs.declared.Ending.{Ending}
use Rattle.resolution.proofs.ended.Goals as goal

-- an answer with an equal bound
same-bound : (o : Outcome) (n low : ℕ) {b c : ℕ} → b ≡ c
    → ◌≡◌ {A = Ending} (record { answer = record { outcome = o; steps = n; bound = b }; lowest = low })
    (record { answer = record { outcome = o; steps = n; bound = c }; lowest = low })
same-bound o n low e = λ i. record { answer = record { outcome = o; steps = n; bound = e i }; lowest = low }

pub returns : goal.returns
returns c = let g = c.args in same-bound g.outcome g.steps g.lowest c.empty_weight.ensures
