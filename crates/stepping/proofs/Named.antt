-- The step word of the next pair, in a table: it is of its kind, and names the pair.
use Prim.Native.Nat.{ℕ, ◌<◌, ◌≤◌}
use native.Mathlib.Omega.{arith}
use mathlib.Core.Path.{◌≡◌}
use mathlib.Core.List.{List}
use mathlib.Core.Option.{some}
use lib.ListN.{length}
use Rattle.wcsp.specs.Row.{Row}
use Rattle.wcsp.specs.Resolve.{Pair, next_pair}
use Rattle.wcsp.proofs.NextPair.{next-permitted}
use Rattle.words.specs.Layout.{kind_of}
use Rattle.words.proofs.Reading.{read_step}
use Rattle.words.proofs.Inverse.{step_kind}
use Rattle.fields.specs.Limits.{max_variables}
use Rattle.table.specs.Layout.{max_rows}
use Rattle.stepping.specs.Step.{pair_word, word_pair}

pub next_named : (ds : List ℕ) → length ds ≤ max_variables → (rs : List Row) → length rs ≤ max_rows → (pr : Pair) → next_pair ds rs ≡ some pr
    → (kind_of (pair_word pr) ≡ 7) × (word_pair (pair_word pr) ≡ pr)
next_named ds few rs fits pr e =
    let m = next-permitted ds rs pr e in
    let v : pr.variable < 16 = omega (arith, m.known) in
    let j : pr.second < 4096 = omega (arith, m.in_table) in
    let i : pr.first < 4096 = omega (arith, m.ordered) in
    let (k, a, b, c) =
    step_kind (pair_word pr) pr.variable pr.first pr.second (read_step pr.variable pr.first pr.second v i j) in
    (k, λ x. record { variable = a x; first = b x; second = c x })
