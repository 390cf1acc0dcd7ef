-- Rows that weigh more than a limit, asked of a table row by row, in any form.
use Prim.Native.Nat.{ℕ, ◌+◌, ◌*◌, ◌<◌, ◌≤◌}
use native.Mathlib.Nat.{mul-le-mul_left}
use native.Mathlib.Omega.{arith}
use mathlib.Core.Path.{◌≡◌, refl, sym, ap, ◌∙◌}
use mathlib.Core.Bool.{Bool, true, false}
use mathlib.Core.List.{List}
use lib.ListN.{drop, get_or}
use Rattle.wcsp.specs.Row.{Row, heavy}
use Rattle.wcsp.specs.Resolve.{no_row}
use Rattle.wcsp.proofs.TooHeavy.{heavy-at, light}
use Rattle.rows.specs.Raw.{max_weight}
use Rattle.table.specs.Form.{TableForm}
use Rattle.table.specs.Meaning.{rows_from_in}
use Rattle.table.specs.Carried.{carried_weight}
use Rattle.table.specs.TableLaws.{TableLaws}
use Rattle.table.specs.Five.{five_form}
use Rattle.table.proofs.FiveLaws.{five_laws}
use Rattle.table.proofs.FormRows.{length-rows_from, row_at, carried_rows_from}

-- the weight that the words of row k say
abbrev pub weight_at : TableForm → List ℕ → ℕ → ℕ → ℕ
weight_at f t base k = (f.row_of (f.rows.read t (base + f.rows.width * k))).weight

-- the first k rows weigh at most L
abbrev pub Light : TableForm → ℕ → List ℕ → ℕ → ℕ → Type 0
Light f L t base k = (i : ℕ) → i < k → weight_at f t base i ≤ L

-- the same read at a place that is that of row k
pub weight_wide : (f : TableForm) (t : List ℕ) (base k place v : ℕ) → v ≡ (f.row_of (f.rows.read t place)).weight → place ≡ base + f.rows.width * k → v ≡ weight_at f t base k
weight_wide f t base k place v q e = rw e at q

-- and so the limit
pub heavy_at_most : (f : TableForm) (m : ℕ) → m ≡ f.limit → (rs : List Row) (r : Bool) → r ≡ heavy m rs → (b : Bool) → r ≡ b → heavy f.limit rs ≡ b
heavy_at_most f m e rs r q b d = sym (rw e at q) ∙ d

-- where row k of so many starts there are words of its width
pub row_room : (base width count k len : ℕ) → k < count → base + width * count ≤ len → base + width * k + width ≤ len
row_room base width count k len h l =
    let more : width * (k + 1) ≤ width * count = mul-le-mul_left width (omega arith) in
    let one : width * (k + 1) ≡ width * k + width = omega arith in
    omega arith

module _ (f : TableForm) (law : TableLaws f) (L : ℕ) (t : List ℕ) (base : ℕ) where
  module _ (count : ℕ) where
    weight_there : (k : ℕ) → k < count → (get_or (rows_from_in f count (drop base t)) k no_row).weight ≡ weight_at f t base k
    weight_there k h = ap (λ (r : Row). r.weight) (row_at f law t base count k h)

    -- row k of rows that weigh at most L
    pub light_at : heavy L (rows_from_in f count (drop base t)) ≡ false → (k : ℕ) → k < count → weight_at f t base k ≤ L
    light_at e k h = omega (arith, heavy-at L (rows_from_in f count (drop base t)) k e, weight_there k h)

    -- the same of what is read at its place
    pub light_read : heavy L (rows_from_in f count (drop base t)) ≡ false → (k : ℕ) → k < count → (place v : ℕ) → v ≡ (f.row_of (f.rows.read t place)).weight
        → place ≡ base + f.rows.width * k → v ≤ L
    light_read e k h place v q p = omega (arith, light_at e k h, weight_wide f t base k place v q p)

    pub none-heavy : (k : ℕ) → k ≡ count → Light f L t base k → false ≡ heavy L (rows_from_in f count (drop base t))
    none-heavy k e g =
        sym
        (light L (rows_from_in f count (drop base t))
        (λ i h. let l : i < count = omega (arith, length-rows_from f count (drop base t)) in omega (arith, weight_there i l, g i (omega arith))))

    pub one_heavy : (k : ℕ) → k < count → L < weight_at f t base k → true ≡ heavy L (rows_from_in f count (drop base t))
    one_heavy k h l = go (heavy L (rows_from_in f count (drop base t))) refl
      where
        go : (b : Bool) → heavy L (rows_from_in f count (drop base t)) ≡ b → true ≡ b
        go true e = refl
        go false e = absurd (omega (arith, light_at e k h))

-- what is read at the place of row k weighs more
pub heavy_there : (f : TableForm) (law : TableLaws f) (L : ℕ) (t : List ℕ) (base count k place v : ℕ) → v ≡ (f.row_of (f.rows.read t place)).weight
    → place ≡ base + f.rows.width * k → k < count → L < v → true ≡ heavy L (rows_from_in f count (drop base t))
heavy_there f law L t base count k place v q e h l = one_heavy f law L t base count k h (omega (arith, weight_wide f t base k place v q e))

-- what is read there weighs at most L
pub light_there : (f : TableForm) (L : ℕ) (t : List ℕ) (base k place v : ℕ) → v ≡ (f.row_of (f.rows.read t place)).weight → place ≡ base + f.rows.width * k → v ≤ L
    → weight_at f t base k ≤ L
light_there f L t base k place v q e l = omega (arith, weight_wide f t base k place v q e)

-- no row of five words is heavy for six
pub five_in_six : (k : ℕ) (ws : List ℕ) → heavy max_weight (rows_from_in five_form k ws) ≡ false
five_in_six k ws =
    let rs = rows_from_in five_form k ws in
    light max_weight rs (λ i h. omega (arith, carried_weight (carried_rows_from five_form five_laws k ws) i))
