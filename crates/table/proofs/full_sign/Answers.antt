-- `full_sign` meets its contract: one more than the full sign of d values is a power of 2, of at most 256.
use native.Mathlib.Omega.{arith}
use lib.Pow.{pow_mono, pow_pos}
use Rattle.wcsp.specs.Sign.{full}
use Rattle.table.proofs.full_sign.Goals as goal

pub overflow_sub-result : goal.overflow_sub-result
overflow_sub-result c = omega (arith, pow_mono {i = c.args.d} {j = 8} (omega arith), pow_pos c.args.d)

pub returns : goal.returns
unfolding full
returns c = omega (arith, pow_mono {i = c.args.d} {j = 8} (omega arith), pow_pos c.args.d)
