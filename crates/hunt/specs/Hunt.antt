-- Inner: the answers of a hunt, and what it may rely on: rows that go with none.
use Rattle.std.specs.Prelude.{ℕ, ◌-◌, ◌<◌, ◌≤◌, ◌≡◌, false, List, length, get_or, Option, Some, None}
use Rattle.std.proofs.Math.Option as math
use Rattle.wcsp.specs.Row.{Row}
use Rattle.wcsp.specs.Resolve.{Pair, no_row, candidate}
use Rattle.hunt.specs.declared.Next.{Next}

unfoldable pub found_of : math.Option ℕ → Option ℕ
found_of math.none = None
found_of (math.some k) = Some k

-- of a hunt from bucket v on: how many buckets it passed over, and the pair's rows
unfoldable pub hunted_of : ℕ → math.Option Pair → Option Next
hunted_of v math.none = None
hunted_of v (math.some pr) = Some (record { passed = pr.variable - v; first = pr.first; second = pr.second })

-- in bucket s no row below i goes with a later one, and row i with none below c
abbrev pub Cleared : List ℕ → ℕ → ℕ → ℕ → List Row → Type 0
Cleared ds s i c rs =
    (i ≤ length rs) × (c ≤ length rs)
    × ((k l : ℕ) → k < i → k < l → l < length rs → candidate ds s (get_or rs k no_row).signs (get_or rs l no_row).signs ≡ false)
    × ((l : ℕ) → i < l → l < c → candidate ds s (get_or rs i no_row).signs (get_or rs l no_row).signs ≡ false)
