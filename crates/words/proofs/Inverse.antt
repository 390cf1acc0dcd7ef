-- A word that is read as a kind with its fields has that kind's number and those fields, and is the word made from them. What a kind and payload say is put into one view, whose cases give kind and payload back.
use Prim.Native.Nat.{ℕ, zero, suc, ◌+◌, ◌*◌, ◌/◌, ◌%◌, ◌<◌}
use native.Mathlib.Omega.{arith}
use mathlib.Core.Path.{◌≡◌, refl}
use Rattle.words.specs.declared.Word.{Word}
use Rattle.words.specs.declared.Word.TheVariants.{Head, Size, Binding, Cost, Signs, Weight, Step, Easting, Northing, Count, Forbidden, High, Unknown}
use Rattle.words.specs.Layout.{kind_of, payload_of, head_word, size_word, binding_word, variable_in, value_in, cost_word, signs_word, index_in, block_in, weight_word, step_word, step_variable_in, first_row_in, second_row_in, count_word}
use Rattle.words.specs.Meaning.{of_kind, word_of}
use Rattle.words.proofs.Reading.{by_parts, unknown_else}

-- kind k with payload p says the word's meaning
data Says : ℕ → ℕ → Word → Type 0 where
  says_head : {p : ℕ} → Says 1 p (Head p)
  says_size : {p : ℕ} → Says 2 p (Size p)
  says_binding : {p : ℕ} → Says 3 p (Binding (p / 256) (p % 256))
  says_cost : {p : ℕ} → Says 4 p (Cost p)
  says_signs : {p : ℕ} → Says 5 p (Signs (p / 16777216) (p % 16777216))
  says_weight : {p : ℕ} → Says 6 p (Weight p)
  says_step : {p : ℕ} → Says 7 p (Step (p / 16777216) (p / 4096 % 4096) (p % 4096))
  says_easting : {p : ℕ} → Says 8 p (Easting p)
  says_northing : {p : ℕ} → Says 9 p (Northing p)
  says_count : {p : ℕ} → Says 10 p (Count p)
  says_forbidden : {p : ℕ} → Says 11 p (Forbidden p)
  says_high : {p : ℕ} → Says 12 p (High p)
  says_unknown : {k p : ℕ} → Says k p Unknown

says : (k p : ℕ) → Says k p (of_kind k p)
unfolding of_kind
says zero p = says_unknown
says (suc zero) p = says_head
says (suc (suc zero)) p = says_size
says (suc (suc (suc zero))) p = says_binding
says (suc (suc (suc (suc zero)))) p = says_cost
says (suc (suc (suc (suc (suc zero))))) p = says_signs
says (suc (suc (suc (suc (suc (suc zero)))))) p = says_weight
says (suc (suc (suc (suc (suc (suc (suc zero))))))) p = says_step
says (suc (suc (suc (suc (suc (suc (suc (suc zero)))))))) p = says_easting
says (suc (suc (suc (suc (suc (suc (suc (suc (suc zero))))))))) p = says_northing
says (suc (suc (suc (suc (suc (suc (suc (suc (suc (suc zero)))))))))) p = says_count
says (suc (suc (suc (suc (suc (suc (suc (suc (suc (suc (suc zero))))))))))) p = says_forbidden
says (suc (suc (suc (suc (suc (suc (suc (suc (suc (suc (suc (suc zero)))))))))))) p = says_high
says (suc (suc (suc (suc (suc (suc (suc (suc (suc (suc (suc (suc (suc k))))))))))))) p =
    let K : ℕ = suc (suc (suc (suc (suc (suc (suc (suc (suc (suc (suc (suc (suc k)))))))))))) in
    rw (unknown_else K p (omega arith) (omega arith) (omega arith) (omega arith) (omega arith) (omega arith) (omega arith) (omega arith) (omega arith) (omega arith) (omega arith) (omega arith)) says_unknown

-- what a word that is read as W says by its kind and payload
said : (w : ℕ) (W : Word) → word_of w ≡ W → Says (kind_of w) (payload_of w) W
said w W e = rw (by_parts w (kind_of w) (payload_of w) refl refl, e) at (says (kind_of w) (payload_of w))

-- a word is its kind and its payload
whole : (w k p : ℕ) → kind_of w ≡ k → payload_of w ≡ p → (w ≡ k * 268435456 + p) × (p < 268435456)
whole w k p e f = omega arith

-- ---- each kind

head_parts : {k p n : ℕ} → Says k p (Head n) → (k ≡ 1) × (p ≡ n)
head_parts says_head = (refl, refl)

pub head_kind : (w n : ℕ) → word_of w ≡ Head n → (kind_of w ≡ 1) × (payload_of w ≡ n)
head_kind w n e = head_parts (said w (Head n) e)

pub head_inverse : (w n : ℕ) → word_of w ≡ Head n → (w ≡ head_word n) × (n < 268435456)
head_inverse w n e = let s = head_kind w n e in whole w 1 n s.0 s.1

size_parts : {k p d : ℕ} → Says k p (Size d) → (k ≡ 2) × (p ≡ d)
size_parts says_size = (refl, refl)

pub size_kind : (w d : ℕ) → word_of w ≡ Size d → (kind_of w ≡ 2) × (payload_of w ≡ d)
size_kind w d e = size_parts (said w (Size d) e)

pub size_inverse : (w d : ℕ) → word_of w ≡ Size d → (w ≡ size_word d) × (d < 268435456)
size_inverse w d e = let s = size_kind w d e in whole w 2 d s.0 s.1

binding_parts : {k p v a : ℕ} → Says k p (Binding v a) → (k ≡ 3) × (p / 256 ≡ v) × (p % 256 ≡ a)
binding_parts says_binding = (refl, refl, refl)

pub binding_kind : (w v a : ℕ) → word_of w ≡ Binding v a → (kind_of w ≡ 3) × (variable_in w ≡ v) × (value_in w ≡ a)
binding_kind w v a e = binding_parts (said w (Binding v a) e)

pub binding_inverse : (w v a : ℕ) → word_of w ≡ Binding v a → (w ≡ binding_word v a) × (a < 256) × (v < 1048576)
binding_inverse w v a e =
    let s = binding_kind w v a e in
    let p : ℕ = payload_of w in
    let t = whole w 3 p s.0 refl in
    omega arith

cost_parts : {k p c : ℕ} → Says k p (Cost c) → (k ≡ 4) × (p ≡ c)
cost_parts says_cost = (refl, refl)

pub cost_kind : (w c : ℕ) → word_of w ≡ Cost c → (kind_of w ≡ 4) × (payload_of w ≡ c)
cost_kind w c e = cost_parts (said w (Cost c) e)

pub cost_inverse : (w c : ℕ) → word_of w ≡ Cost c → (w ≡ cost_word c) × (c < 268435456)
cost_inverse w c e = let s = cost_kind w c e in whole w 4 c s.0 s.1

signs_parts : {k p i x : ℕ} → Says k p (Signs i x) → (k ≡ 5) × (p / 16777216 ≡ i) × (p % 16777216 ≡ x)
signs_parts says_signs = (refl, refl, refl)

pub signs_kind : (w k x : ℕ) → word_of w ≡ Signs k x → (kind_of w ≡ 5) × (index_in w ≡ k) × (block_in w ≡ x)
signs_kind w k x e = signs_parts (said w (Signs k x) e)

pub signs_inverse : (w k x : ℕ) → word_of w ≡ Signs k x → (w ≡ signs_word k x) × (x < 16777216) × (k < 16)
signs_inverse w k x e =
    let s = signs_kind w k x e in
    let t = whole w 5 (payload_of w) s.0 refl in
    omega arith

weight_parts : {k p u : ℕ} → Says k p (Weight u) → (k ≡ 6) × (p ≡ u)
weight_parts says_weight = (refl, refl)

pub weight_kind : (w u : ℕ) → word_of w ≡ Weight u → (kind_of w ≡ 6) × (payload_of w ≡ u)
weight_kind w u e = weight_parts (said w (Weight u) e)

pub weight_inverse : (w u : ℕ) → word_of w ≡ Weight u → (w ≡ weight_word u) × (u < 268435456)
weight_inverse w u e = let s = weight_kind w u e in whole w 6 u s.0 s.1

step_parts : {k p s i j : ℕ} → Says k p (Step s i j) → (k ≡ 7) × (p / 16777216 ≡ s) × (p / 4096 % 4096 ≡ i) × (p % 4096 ≡ j)
step_parts says_step = (refl, refl, refl, refl)

pub step_kind : (w s i j : ℕ) → word_of w ≡ Step s i j → (kind_of w ≡ 7) × (step_variable_in w ≡ s) × (first_row_in w ≡ i) × (second_row_in w ≡ j)
step_kind w s i j e = step_parts (said w (Step s i j) e)

pub step_inverse : (w s i j : ℕ) → word_of w ≡ Step s i j → (w ≡ step_word s i j) × (s < 16) × (i < 4096) × (j < 4096)
step_inverse w s i j e =
    let f = step_kind w s i j e in
    let t = whole w 7 (payload_of w) f.0 refl in
    omega arith

easting_parts : {k p q : ℕ} → Says k p (Easting q) → (k ≡ 8) × (p ≡ q)
easting_parts says_easting = (refl, refl)

pub easting_kind_lem : (w p : ℕ) → word_of w ≡ Easting p → (kind_of w ≡ 8) × (payload_of w ≡ p)
easting_kind_lem w p e = easting_parts (said w (Easting p) e)

pub easting_inverse : (w p : ℕ) → word_of w ≡ Easting p → (w ≡ 8 * 268435456 + p) × (p < 268435456)
easting_inverse w p e = let s = easting_kind_lem w p e in whole w 8 p s.0 s.1

northing_parts : {k p q : ℕ} → Says k p (Northing q) → (k ≡ 9) × (p ≡ q)
northing_parts says_northing = (refl, refl)

pub northing_kind_lem : (w p : ℕ) → word_of w ≡ Northing p → (kind_of w ≡ 9) × (payload_of w ≡ p)
northing_kind_lem w p e = northing_parts (said w (Northing p) e)

pub northing_inverse : (w p : ℕ) → word_of w ≡ Northing p → (w ≡ 9 * 268435456 + p) × (p < 268435456)
northing_inverse w p e = let s = northing_kind_lem w p e in whole w 9 p s.0 s.1

count_parts : {k p n : ℕ} → Says k p (Count n) → (k ≡ 10) × (p ≡ n)
count_parts says_count = (refl, refl)

pub count_kind : (w k : ℕ) → word_of w ≡ Count k → (kind_of w ≡ 10) × (payload_of w ≡ k)
count_kind w k e = count_parts (said w (Count k) e)

pub count_inverse : (w k : ℕ) → word_of w ≡ Count k → (w ≡ count_word k) × (k < 268435456)
count_inverse w k e = let s = count_kind w k e in whole w 10 k s.0 s.1

forbidden_parts : {k p q : ℕ} → Says k p (Forbidden q) → (k ≡ 11) × (p ≡ q)
forbidden_parts says_forbidden = (refl, refl)

pub forbidden_kind : (w p : ℕ) → word_of w ≡ Forbidden p → (kind_of w ≡ 11) × (payload_of w ≡ p)
forbidden_kind w p e = forbidden_parts (said w (Forbidden p) e)
