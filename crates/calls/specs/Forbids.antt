-- Document 02, spots nobody may core: what the plan call's 15 and the complete call's cost say in a table that comes from an accepted instance.
use Rattle.std.specs.Prelude.{ℕ, ◌≤◌, ◌<◌, ◌≡◌, ◌↔◌, false, List, length, drop}
use Rattle.std.proofs.Math.Option.{none}
use Rattle.wcsp.specs.Clause.{InRange}
use Rattle.wcsp.specs.Row.{empty_weight}
use Rattle.wcsp.specs.Entry.{Entry}
use Rattle.wcsp.specs.Resolve.{next_pair}
use Rattle.wcsp.specs.Rebuild.{rebuilt, tail_weight}
use Rattle.fields.specs.Limits.{forbidden_cost}
use Rattle.fields.specs.Forbidden.{has_forbidden, AllForbidden, AllForbiddenFrom}
use Rattle.input.specs.Instance.{sizes_of, entries_of}
use Rattle.table.specs.Meaning.{own_rows}
use Rattle.encoding.specs.Calls.{encode_call}
use Rattle.checker.specs.Calls.{check_call}

-- the empty row is at least as heavy as a forbidden entry exactly if every assignment has a forbidden combination; else the rebuilt one has none
pub record ForbidsExactly (ds : List ℕ) (es : List Entry) (t : List ℕ) : Type 0 where
  pub exactly : (forbidden_cost ≤ empty_weight (length ds) (own_rows t)) ↔ AllForbidden ds es
  pub free : empty_weight (length ds) (own_rows t) < forbidden_cost → has_forbidden es (rebuilt ds (own_rows t)) ≡ false
  -- so with the values from k on fixed, of the weight that the complete call answers
  pub completing : (k : ℕ) (fixed : List ℕ) → k ≤ length ds → InRange (drop k ds) fixed
      → (forbidden_cost ≤ tail_weight k fixed (own_rows t)) ↔ AllForbiddenFrom ds es k fixed

-- so in the table that the checker leaves with no pair left, whatever it replayed; in those of demand 3's lists by `Upheld`
abbrev pub CheckedForbids : Type 0
CheckedForbids = (inst derivation plan : List ℕ) (claimed : ℕ) (t : List ℕ) → (encode_call inst t).answer.number ≡ 0
    → let t' = (check_call inst derivation plan claimed t).table in
    next_pair (sizes_of inst) (own_rows t') ≡ none
    → ForbidsExactly (sizes_of inst) (entries_of inst) t'
