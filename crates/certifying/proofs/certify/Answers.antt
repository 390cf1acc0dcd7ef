-- `certify` puts the certificate and the text of the value that its bytes come to in its own buffers, all zero.
use Prim.Native.Nat.{ℕ, ◌≤◌}
use native.Mathlib.Omega.{arith}
use mathlib.Core.Path.{◌≡◌, ◌∙◌}
use lib.ListN.{length, replicate, length-replicate}
use Rattle.certifying.proofs.Planned.{certifiable, listable, certificate_is, text_is}
use Rattle.certifying.proofs.certify.Goals as goal

-- the slice of the steps keeps its length; by a law, since so long a buffer is not counted
steps-long : (n : ℕ) → n ≡ length (replicate {A = ℕ} 200000 0) → n ≤ 200000
steps-long n e = rw (e, length-replicate {A = ℕ} 200000 0) (omega arith)

pub put_solved-certificate-requires : goal.put_solved-certificate-requires
put_solved-certificate-requires c =
    record { certifiable = certifiable c.args.bytes.now _ c.solve_bytes-solved.ensures.returned; steps_len_bound = (steps-long _ c.solve_bytes-solved.auto.steps, c.requires) }

pub put_solved-length-requires : goal.put_solved-length-requires
put_solved-length-requires c =
    record { listable = listable c.args.bytes.now _ c.solve_bytes-solved.ensures.returned; in_bounds = omega arith }

pub returns : goal.returns
returns c =
    let q = c.put_solved-certificate.ensures in
    let t = text_is c.args.bytes.now _ c.solve_bytes-solved.ensures.returned in
    (c.front.ensures ∙ c.put_solved-length.ensures.0.0 ∙ t, q.0 ∙ certificate_is c.args.bytes.now _ c.solve_bytes-solved.ensures.returned, q.1)
