-- `binds_in_order` tests word by word: the answer is that of the words still to come.
use mathlib.Core.Path.{◌≡◌}
use lib.ListN.{drop}
use Rattle.certificate.specs.Certificate.{binds_in_order}
use Rattle.certificate.proofs.binds_in_order.Given as goal

abbrev pub invariant-loop-v : goal.invariant-loop-v
invariant-loop-v l = binds_in_order 0 l.bindings ≡ binds_in_order l.v (drop l.v l.bindings)
