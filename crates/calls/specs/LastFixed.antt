-- Document 02, last stations already cored: the complete call in a table that comes from an accepted instance.
use Rattle.std.specs.Prelude.{ℕ, ◌≤◌, ◌≡◌, List, ◌++◌, length, drop}
use Rattle.std.proofs.Math.Option.{none}
use Rattle.wcsp.specs.Clause.{InRange}
use Rattle.wcsp.specs.Entry.{Entry}
use Rattle.wcsp.specs.Resolve.{next_pair}
use Rattle.wcsp.specs.Rebuild.{rebuilt_over, tail_weight}
use Rattle.wcsp.specs.Theorems.{BestFrom}
use Rattle.fields.specs.Answers.{good}
use Rattle.input.specs.Instance.{sizes_of, entries_of}
use Rattle.table.specs.Meaning.{own_rows}
use Rattle.encoding.specs.Calls.{encode_call}
use Rattle.completion.specs.Calls.{complete_call}
use Rattle.checker.specs.Calls.{check_call}

-- for every k and every fixed tail in range, with no pair left and a target long enough, the call is good, so never 11: it answers the falsified
-- weight of the rows without variables below k and writes the assignment rebuilt over the fixed values, which keeps them and has that cost, and
-- none that has them costs less
abbrev pub CompletesBest : List ℕ → List Entry → List ℕ → Type 0
CompletesBest ds es t = (k : ℕ) (fixed target : List ℕ) → length ds ≤ length target → k ≤ length ds → InRange (drop k ds) fixed
    → next_pair ds (own_rows t) ≡ none
    → let plan = rebuilt_over ds (own_rows t) k fixed in
    let m = tail_weight k fixed (own_rows t) in
    (complete_call t k fixed target ≡ record { answer = good m; target = plan ++ drop (length ds) target }) × BestFrom ds es k fixed plan m

-- so in the table that the checker leaves, accepted or stopped after the encoding, whatever it replayed; in those of demand 3's lists by `Upheld`
abbrev pub CheckedCompletes : Type 0
CheckedCompletes = (inst derivation plan : List ℕ) (claimed : ℕ) (t : List ℕ) → (encode_call inst t).answer.number ≡ 0
    → CompletesBest (sizes_of inst) (entries_of inst) (check_call inst derivation plan claimed t).table
