-- Inner: a sum of weights, told only up to the greatest weight of a row.
use Rattle.std.specs.Prelude.{ℕ, cond, ltb, Option, Some, None}
use Rattle.rows.specs.Raw.{max_weight}

unfoldable pub limited_sum : ℕ → Option ℕ
limited_sum m = cond (ltb max_weight m) None (Some m)
