-- The limits of a field (document 01: twelve stations, eight spots, 4,096 entries; document 02: what a forbidden entry costs), and the greatest costs of an assignment.
use Rattle.std.specs.Prelude.{ℕ, ◌*◌, Bool, ◌&&◌, leb}

-- the most variables, values and entries, and the greatest cost of a cost word
abbrev pub max_variables : ℕ
max_variables = 12

abbrev pub max_values : ℕ
max_values = 8

abbrev pub max_entries : ℕ
max_entries = 4096

abbrev pub max_cost : ℕ
max_cost = 65535

-- the greatest cost that an assignment can have without a forbidden combination: 4,096 entries of 65,535
abbrev pub greatest_allowed : ℕ
greatest_allowed = max_entries * max_cost

-- what an entry that forbids its combination costs (document 02: "above any sum of ordinary costs")
abbrev pub forbidden_cost : ℕ
forbidden_cost = 268431361

-- the greatest cost that an assignment can have at all: 4,096 entries that are forbidden
abbrev pub greatest_cost : ℕ
greatest_cost = max_entries * forbidden_cost

-- low ≤ k ≤ high
abbrev pub between : ℕ → ℕ → ℕ → Bool
between low k high = leb low k && leb k high
