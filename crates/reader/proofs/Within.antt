-- A call of `next` leaves a reader within its words where it was within them: it moves on only where a word was left.
use Rattle.std.proofs.Common.{arith, ap, sym, ◌∙◌, length-drop}
use Rattle.std.specs.Prelude.{ℕ, Option, Some, None, length}
use Rattle.reader.specs.declared.Reader.{Reader}
use Rattle.reader.specs.Left.{Within, GivesWord}

-- it stays within its words
pub next_within : (old : Reader) (word : Option ℕ) (new : Reader) → GivesWord old word new → Within old → Within new
next_within old None new gives within = omega (arith, ap (λ r. r.at) gives.1, ap (λ r. length r.words.now) gives.1)
next_within old (Some w) new gives within =
    let left = sym (length-drop old.at old.words.now) ∙ ap length gives.0 in
    let words = ap (λ words. length words.now) gives.1.0 in
    omega (arith, left, words, gives.1.1)
