-- `fulls_in` meets its contract: each arm is the definition's case.
use mathlib.Core.Path.{◌≡◌, sym, ap}
use Rattle.std.specs.Prelude.{Option, Some, None}
use Rattle.clause.specs.declared.Clause.{Clause}
use Rattle.table.specs.Check.{fulls_in}
use Rattle.table.proofs.fulls_in.Goals as goal

of-signs : (read : Option Clause) (f : Clause) → read ≡ Some f → f ≡ fulls_in read
unfolding fulls_in
of-signs read f e = sym (ap fulls_in e)

of-bad : (read : Option Clause) → read ≡ None → record { a = 0; b = 0; c = 0; d = 0 } ≡ fulls_in read
unfolding fulls_in
of-bad read e = sym (ap fulls_in e)

pub returns-in-Some : goal.returns-in-Some
returns-in-Some c = of-signs _ _ c.in-Some.is

pub returns-in-None : goal.returns-in-None
returns-in-None c = of-bad _ c.in-None.is
