-- The text that is put is that of the ending found, and of the words read.
use Prim.Native.Nat.{ℕ, ◌≤◌}
use native.Mathlib.Omega.{arith}
use mathlib.Core.Path.{◌≡◌, ◌∙◌}
use mathlib.Core.List.{List}
use lib.ListN.{length, take, replicate}
use Rattle.text.specs.Text.{refused_line}
use Rattle.text.specs.Putting.{Put}
use Rattle.planning.specs.Values.{Ending, Solved}
use Rattle.littleendian.specs.Words.{words_in}
use Rattle.planning.specs.Solving.{solved_of}
use Rattle.printing.specs.Printed.{plan_text, ending_text, solved_text, printed}

pub ending_put : (out sheet plan : List ℕ) (steps bound : ℕ) (o e : Ending) (after : List ℕ) (end : ℕ) → o ≡ e
    → Put out 0 (ending_text sheet plan steps bound e) after end → Put out 0 (ending_text sheet plan steps bound o) after end
ending_put out sheet plan steps bound o e after end f p = rw f p

-- equal numbers have the same line, and the same text
pub refusal_put : (out : List ℕ) (k n : ℕ) (after : List ℕ) (end : ℕ) → k ≡ n → Put out 0 (refused_line n) after end → Put out 0 (refused_line k) after end
refusal_put out k n after end e p = rw e p

pub plan_put : (out sheet plan : List ℕ) (steps cost k n : ℕ) (after : List ℕ) (end : ℕ) → steps ≡ k → cost ≡ n
    → Put out 0 (plan_text sheet plan k n) after end → Put out 0 (plan_text sheet plan steps cost) after end
plan_put out sheet plan steps cost k n after end e f p = rw (e, f) p

pub words_put : (out bytes words plan : List ℕ) (steps cost : ℕ) (after : List ℕ) (end : ℕ) → words ≡ words_in bytes
    → Put out 0 (plan_text words plan steps cost) after end → Put out 0 (plan_text (words_in bytes) plan steps cost) after end
words_put out bytes words plan steps cost after end e p = rw (← e) p

-- the text of the bytes' own value, in a buffer of 1,024
pub printed_put : (bytes : List ℕ) (s : Solved) (after : List ℕ) (end : ℕ) → s ≡ solved_of bytes
    → Put (replicate 1024 0) 0 (solved_text (words_in bytes) s) after end → end ≤ 832
    → (take end after ≡ printed bytes) × (end ≤ length after)
printed_put bytes s after end e p h = (rw e at p.0, omega arith)

-- so many bytes of it are the text
pub printed_front : (bytes items : List ℕ) (s : Solved) (after : List ℕ) (end : ℕ) → s ≡ solved_of bytes → items ≡ take end after
    → Put (replicate 1024 0) 0 (solved_text (words_in bytes) s) after end → end ≤ 832 → items ≡ printed bytes
printed_front bytes items s after end e front p h = front ∙ (printed_put bytes s after end e p h).0
