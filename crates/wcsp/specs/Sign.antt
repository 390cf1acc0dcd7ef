-- Signs: sets of values as bit masks. Bit v of a sign stands for value v; the sign 0 holds no value ("absent").
use Rattle.std.specs.Prelude.{ℕ, zero, suc, ◌-◌, ◌/◌, ◌%◌, ◌^◌, Bool, not, cond, eqb}
use Rattle.std.specs.Int.Bits.{bit_and}

-- value v lies in sign S
unfoldable pub has : ℕ → ℕ → Bool
has S v = eqb (S / 2 ^ v % 2) 1

-- the full sign of a variable of d values (document 01: a station with d spots)
unfoldable pub full : ℕ → ℕ
full d = 2 ^ d - 1

-- the complement of a sign, in the variable's own domain of d values
unfoldable pub complement : ℕ → ℕ → ℕ
unfolding full
complement d S = full d - S

-- every value of S lies in T
unfoldable pub within : ℕ → ℕ → Bool
within S T = eqb (bit_and S T) S

-- the variable of this sign is present
unfoldable pub present : ℕ → Bool
present S = not (eqb S 0)

-- the lowest value of a sign, of the first d values: d where it has none of them
unfoldable pub lowest : ℕ → ℕ → ℕ
lowest zero S = zero
lowest (suc d) S = cond (eqb (S % 2) 1) 0 (suc (lowest d (S / 2)))
