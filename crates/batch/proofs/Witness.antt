-- Zeros, as many as are asked for.
use Prim.Native.Nat.{ℕ, zero, suc, ◌*◌, ◌≤◌, ◌<◌}
use native.Mathlib.Omega.{arith}
use mathlib.Core.Path.{◌≡◌, refl}
use mathlib.Core.Bool.{true}
use mathlib.Core.List.{List}
use lib.ListN.{length, replicate, length-replicate}
use Rattle.fields.specs.Entries.{Each, nil_each, cons_each}
use Rattle.cutting.specs.Cutting.{longest_sheet}
use Rattle.figures.specs.Counting.{most_sheets}
use Rattle.batch.specs.Feeding.{started_season, season_takes}
use Rattle.batch.specs.Theorems.{most_sheet_bytes}
use Rattle.batch.proofs.Meaning.{start_good}
use Rattle.batch.proofs.Wanting.{takes_and_wants}
use Rattle.batch.specs.Witness.{SeasonWitnesses}

zero_bytes : (n : ℕ) → Each (λ b. b < 256) (replicate n 0)
zero_bytes zero = nil_each
zero_bytes (suc n) = let small : 0 < 256 = omega arith in cons_each small (zero_bytes n)

-- a new season takes bytes
new_takes : (body : List ℕ) → 4 * longest_sheet ≤ length body → season_takes started_season (length body) ≡ true
new_takes body room = let g = start_good body room in rw (g.byte, g.sheet)

-- for any two lengths, so that no list is written out
zeros_of : (n m : ℕ) → 4 * longest_sheet ≡ n → most_sheets * most_sheet_bytes ≡ m → SeasonWitnesses
zeros_of n m e f =
    let body : List ℕ = replicate n 0 in
    let room : 4 * longest_sheet ≤ length body = omega (arith, e, length-replicate {A = ℕ} n 0) in
    let takes = new_takes body room in
    record {
      body = body;
      room = room;
      takes = takes;
      wants = takes_and_wants started_season (length body) takes;
      file = replicate m 0;
      bytes = zero_bytes m;
      long = omega (arith, f, length-replicate {A = ℕ} m 0);
    }

pub season_witnesses : SeasonWitnesses
season_witnesses = zeros_of (4 * longest_sheet) (most_sheets * most_sheet_bytes) refl refl
