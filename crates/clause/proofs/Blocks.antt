-- One block: the three signs after one is replaced, after two blocks are joined bit by bit, and compared with those of another block.
-- A number is its lowest byte, its middle byte and the rest, so equal signs make equal blocks.
use Prim.Native.Nat.{ℕ, zero, suc, ◌+◌, ◌*◌, ◌/◌, ◌%◌, ◌<◌}
use native.Mathlib.Omega.{arith}
use mathlib.Core.Path.{◌≡◌, refl, sym, ap, ap₂, ◌∙◌}
use mathlib.Core.Bool.{Bool, true, false, ◌||◌}
use mathlib.Core.List.{List, [], ◌∷◌, ◌++◌}
use lib.ListN.{get_or, set}
use lib.Bits.{bit_or, or_mod, or_shr, or_lt}
use lib.Dec.{eqb}
use borrow.Author.Tests.{eq-eqb, ne_eqb}
use Rattle.wcsp.specs.Clause.{bucket}
use Rattle.wcsp.specs.Rule.{joined}
use Rattle.wcsp.proofs.Buckets.{bucket_absent, bucket-present}
use Rattle.words.specs.Layout.{packed, unpacked}
use Rattle.words.proofs.Packing.{packed-unpacked}
use Rattle.clause.specs.Packed.{any_equal}

three : {a b c x y z : ℕ} → a ≡ x → b ≡ y → c ≡ z → ◌≡◌ {A = List ℕ} (a ∷ b ∷ c ∷ []) (x ∷ y ∷ z ∷ [])
three e f g = ap₂ (λ a l. a ∷ l) e (ap₂ (λ b l. b ∷ l) f (ap (λ c. c ∷ []) g))

-- the high byte of a block of 24 bits, from the two high bytes
high : (x : ℕ) → x / 65536 ≡ x / 256 / 256
high x = let q = x / 256 in omega arith

-- ---- one sign read

pub read_low : (x k : ℕ) → k ≡ 0 → (x % 256 ≡ get_or (unpacked x) k 0) × (x % 256 < 256)
read_low x k e = rw e (refl, omega arith)

pub read_middle : (x k : ℕ) → k ≡ 1 → (x / 256 % 256 ≡ get_or (unpacked x) k 0) × (x / 256 % 256 < 256)
read_middle x k e = rw e (refl, omega arith)

pub read_high : (x k : ℕ) → x < 16777216 → k ≡ 2 → (x / 65536 ≡ get_or (unpacked x) k 0) × (x / 65536 < 256)
read_high x k h e = rw e (refl, omega arith)

-- ---- one sign replaced

pub with_low : (x k s : ℕ) → x < 16777216 → s < 256 → k ≡ 0
    → (unpacked (x / 256 * 256 + s) ≡ set (unpacked x) k s) × (x / 256 * 256 + s < 16777216)
with_low x k s h l e =
    let q : (x / 256 * 256 + s) / 256 ≡ x / 256 = omega arith in
    rw e (three (omega arith) (ap (λ n. n % 256) q) (high _ ∙ ap (λ n. n / 256) q ∙ sym (high x)), omega arith)

pub with_middle : (x k s : ℕ) → x < 16777216 → s < 256 → k ≡ 1
    → (unpacked (x / 65536 * 65536 + s * 256 + x % 256) ≡ set (unpacked x) k s) × (x / 65536 * 65536 + s * 256 + x % 256 < 16777216)
with_middle x k s h l e =
    let q : (x / 65536 * 65536 + s * 256 + x % 256) / 256 ≡ x / 65536 * 256 + s = omega arith in
    let m : (x / 65536 * 256 + s) % 256 ≡ s = omega arith in
    rw e (three (omega arith) (ap (λ n. n % 256) q ∙ m) (omega arith), omega arith)

pub with_high : (x k s : ℕ) → x < 16777216 → s < 256 → k ≡ 2
    → (unpacked (s * 65536 + x % 65536) ≡ set (unpacked x) k s) × (s * 65536 + x % 65536 < 16777216)
with_high x k s h l e =
    let r : x ≡ x / 65536 * 65536 + x % 65536 = omega arith in
    let p : (s * 65536 + x % 65536) / 256 ≡ s * 256 + x % 65536 / 256 = omega arith in
    let q : x / 256 ≡ x / 65536 * 256 + x % 65536 / 256 = omega arith in
    let m : (s * 256 + x % 65536 / 256) % 256 ≡ (x / 65536 * 256 + x % 65536 / 256) % 256 = omega arith in
    rw e (three (omega arith) (ap (λ n. n % 256) p ∙ m ∙ ap (λ n. n % 256) (sym q)) (omega arith), omega arith)

-- ---- two blocks with the same signs

pub unpacked_injective : (x y : ℕ) → unpacked x ≡ unpacked y → x ≡ y
unpacked_injective x y e =
    sym (packed-unpacked x)
    ∙ ap (λ l. packed (get_or l 0 0) (get_or l 1 0) (get_or l 2 0)) e
    ∙ packed-unpacked y

-- ---- two blocks joined

pub or_small : (x y : ℕ) → x < 16777216 → y < 16777216 → bit_or x y < 16777216
or_small x y h k = or_lt 24 x y h k

pub joined_block : (x y : ℕ) (u w : List ℕ) → joined (unpacked x ++ u) (unpacked y ++ w) ≡ unpacked (bit_or x y) ++ joined u w
unfolding joined
joined_block x y u w =
    ap₂ (λ a l. a ∷ l) (sym (or_mod x y 8))
    (ap₂ (λ a l. a ∷ l) (sym (or_mod (x / 256) (y / 256) 8) ∙ ap (λ n. n % 256) (sym (or_shr x y 8)))
    (ap (λ a. a ∷ joined u w) (sym (or_shr x y 16))))

-- ---- an equal sign at the same place

or_third : (a b c r : Bool) → (a || (b || (c || r))) ≡ ((a || (b || (c || false))) || r)
or_third true b c r = refl
or_third false true c r = refl
or_third false false true r = refl
or_third false false false r = refl

pub any_equal_block : (x y : ℕ) (u w : List ℕ)
    → any_equal (unpacked x ++ u) (unpacked y ++ w) ≡ (any_equal (unpacked x) (unpacked y) || any_equal u w)
unfolding any_equal
any_equal_block x y u w =
    or_third (eqb (x % 256) (y % 256)) (eqb (x / 256 % 256) (y / 256 % 256)) (eqb (x / 65536) (y / 65536)) (any_equal u w)

-- some sign equals the one beside it: found at the first place, at the second, or as the test at the third says
pub equal_low : (x y : ℕ) → x % 256 ≡ y % 256 → true ≡ any_equal (unpacked x) (unpacked y)
unfolding any_equal
equal_low x y e = rw (eq-eqb (x % 256) (y % 256) e)

pub equal_middle : (x y : ℕ) → x / 256 % 256 ≡ y / 256 % 256 → true ≡ any_equal (unpacked x) (unpacked y)
unfolding any_equal
equal_middle x y e = go (eqb (x % 256) (y % 256))
  where
    go : (b : Bool) → true ≡ (b || (eqb (x / 256 % 256) (y / 256 % 256) || (eqb (x / 65536) (y / 65536) || false)))
    go true = refl
    go false = rw (eq-eqb (x / 256 % 256) (y / 256 % 256) e)

pub equal_high : (x y : ℕ) → (x % 256 ≡ y % 256 → ⊥) → (x / 256 % 256 ≡ y / 256 % 256 → ⊥)
    → eqb (x / 65536) (y / 65536) ≡ any_equal (unpacked x) (unpacked y)
unfolding any_equal
equal_high x y h k = rw (ne_eqb (x % 256) (y % 256) h, ne_eqb (x / 256 % 256) (y / 256 % 256) k) (go (eqb (x / 65536) (y / 65536)))
  where
    go : (b : Bool) → b ≡ (b || false)
    go true = refl
    go false = refl

-- ---- the first sign that is not 0

pub bucket-zero : (u : List ℕ) → bucket (unpacked 0 ++ u) ≡ suc (suc (suc (bucket u)))
bucket-zero u = rw (bucket_absent, bucket_absent, bucket_absent)

three_present : (a b c : ℕ) (u : List ℕ) → (a ≡ 0 → b ≡ 0 → c ≡ 0 → ⊥) → bucket (a ∷ b ∷ c ∷ u) ≡ bucket (a ∷ b ∷ c ∷ [])
three_present (suc a) b c u h = bucket-present _ _ (λ e. omega arith) ∙ sym (bucket-present _ _ (λ e. omega arith))
three_present zero (suc b) c u h =
    rw (bucket_absent, bucket_absent) (ap suc (bucket-present _ _ (λ e. omega arith) ∙ sym (bucket-present _ _ (λ e. omega arith))))
three_present zero zero (suc c) u h =
    rw (bucket_absent, bucket_absent, bucket_absent, bucket_absent)
    (ap (λ n. suc (suc n)) (bucket-present _ _ (λ e. omega arith) ∙ sym (bucket-present _ _ (λ e. omega arith))))
three_present zero zero zero u h = absurd (h refl refl refl)

pub bucket_block : (x : ℕ) (u : List ℕ) → (x ≡ 0 → ⊥) → bucket (unpacked x ++ u) ≡ bucket (unpacked x)
bucket_block x u h =
    let e = packed-unpacked x in
    three_present (x % 256) (x / 256 % 256) (x / 65536) u (λ a b c. h (omega arith))

pub first_low : (x : ℕ) → (x % 256 ≡ 0 → ⊥) → 0 ≡ bucket (unpacked x)
first_low x h = sym (bucket-present _ _ h)

pub first_middle : (x : ℕ) → x % 256 ≡ 0 → (x % 65536 ≡ 0 → ⊥) → 1 ≡ bucket (unpacked x)
first_middle x e h =
    let p = packed-unpacked x in
    let k : x / 256 % 256 ≡ 0 → ⊥ = λ z. h (omega arith) in
    rw (e, bucket_absent) (ap suc (sym (bucket-present _ _ k)))

pub first_high : (x : ℕ) → x % 65536 ≡ 0 → (x ≡ 0 → ⊥) → 2 ≡ bucket (unpacked x)
first_high x e h =
    let p = packed-unpacked x in
    let a : x % 256 ≡ 0 = omega arith in
    let b : x / 256 % 256 ≡ 0 = omega arith in
    let k : x / 65536 ≡ 0 → ⊥ = λ z. h (omega arith) in
    rw (a, b, bucket_absent, bucket_absent) (ap (λ n. suc (suc n)) (sym (bucket-present _ _ k)))

pub first_none : (x : ℕ) → x ≡ 0 → 3 ≡ bucket (unpacked x)
unfolding bucket
first_none x e = rw e
