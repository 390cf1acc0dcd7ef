-- `find_spaced` meets its contract. The loop's invariant: the search from row k on answers what the whole search answers.
use Prim.Native.Nat.{ℕ, ◌+◌, ◌-◌, ◌*◌, ◌≤◌}
use mathlib.Core.Path.{◌≡◌}
use lib.ListN.{drop}
use Rattle.rows.specs.Raw.{Raw, weighing, sign_words, find_spaced}
use Rattle.rows.proofs.find_spaced.Given as goal

-- the row that is looked for, as its words are made before the loop
abbrev pub words : ℕ → ℕ → ℕ → ℕ → Raw
words a b c d = weighing (sign_words a b c d) 0

abbrev pub invariant-loop-k : goal.invariant-loop-k
invariant-loop-k l =
    find_spaced l.width (words l.a l.b l.c l.d) 0 l.count (drop l.base l.t) ≡ find_spaced l.width (words l.a l.b l.c l.d) l.k (l.count - l.k) (drop (l.base + l.width * l.k) l.t)
