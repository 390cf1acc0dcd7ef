-- The words of document 01 and of wish 4 of document 02: how each one is made. A word's kind is its top four bits, its payload the low 28; unnamed bits are zero.
use Rattle.words.specs.declared.kinds.Kind.{Kind}
use Rattle.words.specs.declared.kinds.Kind.TheVariants.{Head, Size, Binding, Cost, Signs, Weight, Step, Easting, Northing, Count, Forbidden, High}
use Rattle.std.specs.Prelude.{ℕ, ◌+◌, ◌-◌, ◌*◌, ◌/◌, ◌%◌, cond, List, [], ◌∷◌, leb}

abbrev pub kind_of : ℕ → ℕ
kind_of w = w / 268435456

abbrev pub payload_of : ℕ → ℕ
payload_of w = w % 268435456

-- a word by its kind's number and its payload
abbrev pub word_with : ℕ → ℕ → ℕ
word_with k p = k * 268435456 + p

-- the number of a kind
abbrev pub kind_number : Kind → ℕ
kind_number Head = 1
kind_number Size = 2
kind_number Binding = 3
kind_number Cost = 4
kind_number Signs = 5
kind_number Weight = 6
kind_number Step = 7
kind_number Easting = 8
kind_number Northing = 9
kind_number Count = 10
kind_number Forbidden = 11
kind_number High = 12

-- kind 1, head: the number of variables (document 01: stations)
abbrev pub head_word : ℕ → ℕ
head_word n = 268435456 + n

-- kind 2: the domain size of a variable (document 01: station word, the number of its spots)
abbrev pub size_word : ℕ → ℕ
size_word d = 2 * 268435456 + d

-- kind 3: a binding (document 01: pair), variable in bits 8-11, value in bits 0-2
abbrev pub binding_word : ℕ → ℕ → ℕ
binding_word v a = 3 * 268435456 + v * 256 + a

-- the variable and the value of a binding; a set unnamed bit shows as a variable from 16 or a value from 8 on
abbrev pub variable_in : ℕ → ℕ
variable_in w = payload_of w / 256

abbrev pub value_in : ℕ → ℕ
value_in w = payload_of w % 256

-- kind 4: a cost
abbrev pub cost_word : ℕ → ℕ
cost_word c = 4 * 268435456 + c

-- three signs in 24 bits: those of variables 3k, 3k+1, 3k+2
abbrev pub packed : ℕ → ℕ → ℕ → ℕ
packed a b c = a + b * 256 + c * 65536

-- the three signs of 24 bits
abbrev pub unpacked : ℕ → List ℕ
unpacked x = x % 256 ∷ x / 256 % 256 ∷ x / 65536 ∷ []

-- kind 5: three packed signs and their index k in bits 24-27
abbrev pub signs_word : ℕ → ℕ → ℕ
signs_word k x = 5 * 268435456 + k * 16777216 + x

-- the index of a sign word, and its three signs
abbrev pub index_in : ℕ → ℕ
index_in w = payload_of w / 16777216

abbrev pub block_in : ℕ → ℕ
block_in w = payload_of w % 16777216

-- kind 6: the low 28 bits of a row's weight
abbrev pub weight_word : ℕ → ℕ
weight_word w = 6 * 268435456 + w

-- kind 7: a step, variable in bits 24-27, first row in bits 12-23, second row in bits 0-11
abbrev pub step_word : ℕ → ℕ → ℕ → ℕ
step_word s i j = 7 * 268435456 + s * 16777216 + i * 4096 + j

-- the variable, the first row and the second row of a step
abbrev pub step_variable_in : ℕ → ℕ
step_variable_in w = payload_of w / 16777216

abbrev pub first_row_in : ℕ → ℕ
first_row_in w = payload_of w / 4096 % 4096

abbrev pub second_row_in : ℕ → ℕ
second_row_in w = payload_of w % 4096

-- the payload of a coordinate, 28-bit two's complement of the offset less 1,000,000
unfoldable pub coordinate_payload : ℕ → ℕ
coordinate_payload o = cond (leb 1000000 o) (o - 1000000) (268435456 + o - 1000000)

-- kinds 8 and 9: easting and northing in centimetres. A coordinate is carried as its offset, the value plus 1,000,000: 0 to 2,000,000.
abbrev pub easting_word : ℕ → ℕ
easting_word o = 8 * 268435456 + coordinate_payload o

abbrev pub northing_word : ℕ → ℕ
northing_word o = 9 * 268435456 + coordinate_payload o

-- kind 10: a row count
abbrev pub count_word : ℕ → ℕ
count_word k = 10 * 268435456 + k

-- kind 11: in place of an entry's cost, it forbids the combination; its payload is 0
abbrev pub forbidden_word : ℕ
forbidden_word = 11 * 268435456

-- kind 12: the high 28 bits of a row's weight
abbrev pub high_word : ℕ → ℕ
high_word w = 12 * 268435456 + w
