-- `pair_in` meets its contract: no row before i is the first of a pair, and the hunt for row i's second row starts past those that do not go with it.
use Rattle.hunt.proofs.Pairing.{Over, Tried}
use Rattle.hunt.proofs.pair_in.Given as goal

abbrev pub invariant-loop-i : goal.invariant-loop-i
invariant-loop-i l =
    Over l.t l.base l.count l.v l.skip l.from l.fulls (λ ds. Tried l.t l.base l.count l.v l.skip l.from l.fulls ds l.i l.least)
