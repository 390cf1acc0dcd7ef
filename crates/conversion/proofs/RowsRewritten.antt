-- Rows rewritten in another form: the words of one row, and all rows of a source one after the other, behind the front of a target that has none.
use Prim.Native.Nat.{ℕ, ◌+◌, ◌*◌, ◌≤◌, ◌<◌}
use native.Mathlib.Omega.{arith}
use mathlib.Core.Path.{◌≡◌, sym, ap, ap₂, ◌∙◌}
use mathlib.Core.List.{List, [], ◌∷◌, ◌++◌, map, map-append}
use lib.ListN.{length, drop, length-map}
use Rattle.wcsp.specs.Row.{Row}
use Rattle.clause.specs.declared.Clause.{Clause}
use Rattle.clause.specs.Packed.{signs_of}
use Rattle.rows.specs.Form.{raws_from_in, LaidIn, LeftIn}
use Rattle.rows.specs.Raw.{raw_at, clause_in}
use Rattle.rows.proofs.FormRows.{FormLaws}
use Rattle.storing.proofs.FormTables.{left_trans, left_refl, left_read, left_laid}
use Rattle.table.specs.Form.{TableForm}
use Rattle.table.specs.Meaning.{rows_from_in}
use Rattle.table.specs.TableLaws.{TableLaws}
use Rattle.table.specs.SignLaws.{SignLaws}
use Rattle.table.proofs.FormRows.{length-rows_from, rows_next}
use Rattle.conversion.proofs.Weights.{row_room}

-- ---- one row

-- the row that a clause and a weight read at a place say is the one there
pub row_read : (f : TableForm) → SignLaws f → (t : List ℕ) (at from place : ℕ) (x : Clause) (weight : ℕ)
    → x ≡ clause_in (raw_at t at) → weight ≡ (f.row_of (f.rows.read t from)).weight → at ≡ place → from ≡ place
    → ◌≡◌ {A = Row} (record { signs = signs_of x; weight = weight }) (f.row_of (f.rows.read t place))
row_read f law t at from place x weight e h here there =
    let signs = ap signs_of (e ∙ ap (λ k. clause_in (raw_at t k)) here) ∙ sym (law.signs t place) in
    let weighs = h ∙ ap (λ k. (f.row_of (f.rows.read t k)).weight) there in
    λ i. record { signs = signs i; weight = weighs i }

-- ---- all rows, from form f to form g

-- the first k rows of the source are those of the target
abbrev pub Rewritten : (f g : TableForm) → List ℕ → ℕ → List ℕ → ℕ → List ℕ → Type 0
Rewritten f g source base t₀ k t = LeftIn g.rows t₀ base t (map g.raw_of (rows_from_in f k (drop base source)))

module _ (f g : TableForm) (law : TableLaws f) (own : FormLaws g.rows) (source : List ℕ) (base : ℕ) (t₀ : List ℕ) where
  pub rewritten_start : LaidIn g.rows t₀ base [] → Rewritten f g source base t₀ 0 t₀
  unfolding rows_from_in raws_from_in
  rewritten_start l = left_refl l

  module _ (k : ℕ) (t : List ℕ) (r : Rewritten f g source base t₀ k t) where
    written_count : length (map g.raw_of (rows_from_in f k (drop base source))) ≡ k
    written_count = length-map (rows_from_in f k (drop base source)) g.raw_of ∙ length-rows_from f k (drop base source)

    -- m is the number of rows that the next one is written behind
    pub rewritten_laid : (m : ℕ) → m ≡ k → LaidIn g.rows t base (raws_from_in g.rows m (drop base t))
    rewritten_laid m n = rw n (left_laid own k written_count r)

    pub rewritten_room : (count m : ℕ) → k < count → base + g.rows.width * count ≤ length t₀ → m ≡ k → base + g.rows.width * m + g.rows.width ≤ length t
    rewritten_room count m h room n = rw n (omega (arith, r.long, row_room base g.rows.width count k _ h room))

    pub rewritten_next : (m : ℕ) (q : g.rows.Raw) (t' : List ℕ) → LeftIn g.rows t base t' (raws_from_in g.rows m (drop base t) ++ (q ∷ [])) → m ≡ k
        → q ≡ g.raw_of (f.row_of (f.rows.read source (base + f.rows.width * k))) → Rewritten f g source base t₀ (k + 1) t'
    rewritten_next m q t' l n e =
        let rs = rows_from_in f k (drop base source) in
        let r₁ = f.row_of (f.rows.read source (base + f.rows.width * k)) in
        let raws : raws_from_in g.rows k (drop base t) ++ (q ∷ []) ≡ map g.raw_of (rows_from_in f (k + 1) (drop base source))
        = ap₂ (λ ls l. ls ++ (l ∷ [])) (left_read own k written_count r) e
        ∙ sym (map-append g.raw_of rs (r₁ ∷ []))
        ∙ ap (map g.raw_of) (sym (rows_next f law source base k)) in
        left_trans r (rw raws at (rw n at l))

    pub rewritten_end : (count : ℕ) → k ≡ count → Rewritten f g source base t₀ count t
    rewritten_end count e = rw e at r
