-- What a word says, by its kind, and what a coordinate's payload says.
use Rattle.std.specs.Prelude.{ℕ, ◌+◌, ◌-◌, ◌/◌, ◌%◌, cond, Option, Some, None, eqb, leb}
use Rattle.words.specs.declared.Word.{Word}
use Rattle.words.specs.declared.Word.TheVariants.{Head, Size, Binding, Cost, Signs, Weight, Step, Easting, Northing, Count, Forbidden, High, Unknown}
use Rattle.words.specs.Layout.{kind_of, payload_of}

-- a payload under its kind. A set unnamed bit shows in the fields: a binding's then is a variable from 16 or a value from 8 on.
unfoldable pub of_kind : ℕ → ℕ → Word
of_kind k p =
    cond (eqb k 1) (Head p)
    (cond (eqb k 2) (Size p)
    (cond (eqb k 3) (Binding (p / 256) (p % 256))
    (cond (eqb k 4) (Cost p)
    (cond (eqb k 5) (Signs (p / 16777216) (p % 16777216))
    (cond (eqb k 6) (Weight p)
    (cond (eqb k 7) (Step (p / 16777216) (p / 4096 % 4096) (p % 4096))
    (cond (eqb k 8) (Easting p)
    (cond (eqb k 9) (Northing p)
    (cond (eqb k 10) (Count p)
    (cond (eqb k 11) (Forbidden p)
    (cond (eqb k 12) (High p)
    Unknown)))))))))))

unfoldable pub word_of : ℕ → Word
unfolding of_kind
word_of w = of_kind (kind_of w) (payload_of w)

-- a coordinate's payload, two's complement of 28 bits: its offset, where it is from -1,000,000 to 1,000,000
unfoldable pub coordinate_of : ℕ → Option ℕ
coordinate_of p = cond (leb p 1000000) (Some (p + 1000000)) (cond (leb 267435456 p) (Some (p - 267435456)) None)
