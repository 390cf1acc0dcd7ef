-- The test of a whole slice, of any form: what the answer on its front says, that each refusal contradicts what the tests of a valid table say,
-- and that a slice that gets past them all is valid.
use Prim.Native.Nat.{ℕ, ◌+◌, ◌-◌, ◌*◌, ◌/◌, ◌<◌, ◌≤◌, min}
use native.Mathlib.Omega.{arith}
use mathlib.Core.Path.{◌≡◌, refl, sym, ap, ◌∙◌}
use mathlib.Core.Bool.{Bool, true, false, ◌&&◌, cond, true≢false}
use mathlib.Core.List.{List, map}
use mathlib.Core.Option.{Option as Maybe, none, some}
use lib.ListN.{length, get_or, take, drop, length-map}
use lib.Seq.{length-take-le}
use lib.Dec.{leb}
use borrow.Author.Tests.{eq-eqb, eqb-true, le-leb, leb-true}
use Rattle.std.specs.Prelude.{Option, Some, None}
use Rattle.wcsp.proofs.Lists.{both_true, and_left, and_right}
use Rattle.words.specs.Layout.{kind_of, payload_of}
use Rattle.clause.specs.declared.Clause.{Clause}
use Rattle.clause.specs.Packed.{FitsBlocks, FullSigns}
use Rattle.fields.specs.Limits.{max_variables}
use Rattle.fields.specs.Front.{head_in, headed, good_sizes}
use Rattle.fields.specs.Entries.{EachSize}
use Rattle.fields.specs.Padding.{padded}
use Rattle.fields.proofs.Fronts.{head_some, good_long}
use Rattle.fields.proofs.Sizes.{sizes_each}
use Rattle.table.specs.declared.Shape.{Shape}
use Rattle.table.specs.Form.{TableForm}
use Rattle.table.specs.Layout.{max_rows, rows_at, capacity_in}
use Rattle.table.specs.Meaning.{variables_of, table_sizes, domains, row_count, rows_from_in, table_rows_in}
use Rattle.table.specs.Valid.{is_count, valid_front, rows_valid_in, distinct_rows, all_zero, valid_table_in}
use Rattle.table.specs.Check.{full_clause, fulls_from, shape_of, front_table, check_table_in}
use Rattle.table.specs.TwelveSigns.{full_signs_padded, full-packed-padded}
use Rattle.table.proofs.FormTables.{PassedIn, passed, room_rows}
use Rattle.table.proofs.FormTests.{all_valid}

-- ---- the head and the station words

-- what the answer on the first word says of its head
module _ (w : ℕ) (r : Option ℕ) (e : r ≡ headed None Some (head_in w)) where
  pub head_there : (n : ℕ) → r ≡ Some n → head_in w ≡ some n
  unfolding headed
  head_there n f = go (head_in w) (sym e ∙ f)
    where
      go : (o : Maybe ℕ) → headed None Some o ≡ Some n → o ≡ some n
      go none q = let z : ◌≡◌ {A = ℕ} 0 1 = cc in absurd (omega arith)
      go (some m) q = let k : m ≡ n = cc in ap some k

  pub head_missing : r ≡ None → head_in w ≡ none
  unfolding headed
  head_missing f = go (head_in w) (sym e ∙ f)
    where
      go : (o : Maybe ℕ) → headed None Some o ≡ None → o ≡ none
      go none q = refl
      go (some m) q = let z : ◌≡◌ {A = ℕ} 0 1 = cc in absurd (omega arith)

pub few_variables : (w n : ℕ) → head_in w ≡ some n → n ≤ max_variables
few_variables w n e = (head_some w n e).2

-- a front that is not that of a table
no_front : (t : List ℕ) → ((n : ℕ) → head_in (get_or t 0 0) ≡ some n → valid_front t n ≡ true → ⊥) → None ≡ front_table t
unfolding front_table headed
no_front t h = go (head_in (get_or t 0 0)) refl
  where
    told : (n : ℕ) → head_in (get_or t 0 0) ≡ some n → (b : Bool) → valid_front t n ≡ b → None ≡ cond b (Some (shape_of t)) None
    told n e true v = absurd (h n e v)
    told n e false v = refl

    go : (o : Maybe ℕ) → head_in (get_or t 0 0) ≡ o → None ≡ headed None (λ n. cond (valid_front t n) (Some (shape_of t)) None) o
    go none e = refl
    go (some n) e = told n e (valid_front t n) refl

some_same : (m n : ℕ) → ◌≡◌ {A = Maybe ℕ} (some m) (some n) → m ≡ n
some_same m n e = cc

module _ (t : List ℕ) where
  abbrev placed : ℕ → Bool
  placed n = leb (rows_at n) (length t)

  abbrev sized : ℕ → Bool
  sized n = good_sizes n (drop 1 t)

  abbrev counts : ℕ → Bool
  counts n = is_count (get_or t (n + 1) 0)

  pub too_short : length t ≤ 1 → None ≡ front_table t
  too_short h = no_front t (λ n e v. omega (arith, leb-true (rows_at n) (length t) (and_left (placed n) (sized n) (and_left (placed n && sized n) (counts n) v))))

  pub no_head : head_in (get_or t 0 0) ≡ none → None ≡ front_table t
  no_head e = no_front t (λ n q v. absent (sym e ∙ q))
    where
      absent : {n : ℕ} → ◌≡◌ {A = Maybe ℕ} none (some n) → ⊥
      absent q = let z : ◌≡◌ {A = ℕ} 0 1 = cc in omega arith

  module _ (n : ℕ) (e : head_in (get_or t 0 0) ≡ some n) where
    known : n ≡ variables_of t
    known = sym (head_some (get_or t 0 0) n e).1

    -- one of the three tests fails
    not-front : (valid_front t n ≡ true → ⊥) → None ≡ front_table t
    not-front h = no_front t (λ m q v. h (rw (some_same n m (sym e ∙ q)) v))

    pub no_place : length t < n + 2 → None ≡ front_table t
    no_place h = not-front (λ v. omega (arith, leb-true (rows_at n) (length t) (and_left (placed n) (sized n) (and_left (placed n && sized n) (counts n) v))))

    pub no_sizes : None ≡ fulls_from n (drop 1 t) → None ≡ front_table t
    unfolding fulls_from
    no_sizes b = not-front (λ v. bad (rw (and_right (placed n) (sized n) (and_left (placed n && sized n) (counts n) v)) at b))
      where
        bad : {x : Clause} → None ≡ Some x → ⊥
        bad q = let z : ◌≡◌ {A = ℕ} 0 1 = cc in omega arith

    pub no_count : (kind_of (get_or t (n + 1) 0) ≡ 10 → ⊥) → None ≡ front_table t
    no_count h = not-front (λ v. h (eqb-true (kind_of (get_or t (n + 1) 0)) 10 (and_right (placed n && sized n) (counts n) v)))

    signs_read : (b : Bool) (f g : Clause) → Some f ≡ cond b (Some g) None → (b ≡ true) × (f ≡ g)
    signs_read true f g q = (refl, cc)
    signs_read false f g q = let z : ◌≡◌ {A = ℕ} 0 1 = cc in absurd (omega arith)

    -- every test of the front passed
    pub fronted : (fulls : Clause) → Some fulls ≡ fulls_from n (drop 1 t) → n + 2 ≤ length t → kind_of (get_or t (n + 1) 0) ≡ 10
        → (count : ℕ) → count ≡ payload_of (get_or t (n + 1) 0) → Some (record { variables = n; count = count; fulls = fulls }) ≡ front_table t
    unfolding front_table headed fulls_from domains table_sizes
    fronted fulls s place kind count q =
        let r = signs_read (good_sizes n (drop 1 t)) fulls (full_clause (padded (map payload_of (take n (drop 1 t))))) s in
        let counted : is_count (get_or t (n + 1) 0) ≡ true = eq-eqb (kind_of (get_or t (n + 1) 0)) 10 kind in
        let a = known in
        let b : count ≡ row_count t = q ∙ ap (λ m. payload_of (get_or t (m + 1) 0)) known in
        let c : fulls ≡ full_clause (domains t) = rw known at r.1 in
        rw (e, le-leb (n + 2) (length t) place, r.0, counted) (λ i. Some (record { variables = a i; count = b i; fulls = c i }))

-- ---- what the answer on the front says

-- a slice whose front is that of a table of this shape
pub record Front (t : List ℕ) (shape : Shape) : Type 0 where
  pub given : head_in (get_or t 0 0) ≡ some shape.variables
  pub shaped : shape ≡ shape_of t
  pub passes : valid_front t shape.variables ≡ true
  pub room : rows_at shape.variables ≤ length t
  pub few : shape.variables ≤ max_variables
  pub packed : FitsBlocks shape.fulls
  pub signs : FullSigns shape.fulls (domains t)

front_given : (t : List ℕ) → head_in (get_or t 0 0) ≡ some (variables_of t) → valid_front t (variables_of t) ≡ true → Front t (shape_of t)
unfolding domains table_sizes
front_given t e v =
    let n = variables_of t in
    let two = and_left (placed t n && sized t n) (counts t n) v in
    let stations = and_right (placed t n) (sized t n) two in
    let most = few_variables (get_or t 0 0) n e in
    let long = good_long n (drop 1 t) stations in
    let few : length (table_sizes t) ≤ max_variables = rw (length-map (take n (drop 1 t)) payload_of, length-take-le n (drop 1 t) long) most in
    let sizes : EachSize (table_sizes t) = sizes_each n (drop 1 t) stations in
    record {
      given = e;
      shaped = refl;
      passes = v;
      room = leb-true (rows_at n) (length t) (and_left (placed t n) (sized t n) two);
      few = most;
      packed = full-packed-padded (table_sizes t) few sizes;
      signs = full_signs_padded (table_sizes t) few sizes;
    }

module _ (t : List ℕ) (r : Option Shape) (e : r ≡ front_table t) where
  pub front_told : (shape : Shape) → r ≡ Some shape → Front t shape
  unfolding front_table headed
  front_told shape q = go (head_in (get_or t 0 0)) refl (sym q ∙ e)
    where
      shape_in : Option Shape → Shape
      shape_in (Some s) = s
      shape_in None = shape

      read : (n : ℕ) → head_in (get_or t 0 0) ≡ some n → (b : Bool) → valid_front t n ≡ b → Some shape ≡ cond b (Some (shape_of t)) None → Front t shape
      read n f true v g =
          let k = known t n f in
          let s : shape ≡ shape_of t = ap shape_in g in
          rw s (front_given t (rw k at f) (rw k at v))
      read n f false v g = absurd (let z : ◌≡◌ {A = ℕ} 0 1 = cc in omega arith)

      go : (o : Maybe ℕ) → head_in (get_or t 0 0) ≡ o → Some shape ≡ headed None (λ n. cond (valid_front t n) (Some (shape_of t)) None) o → Front t shape
      go none f g = absurd (let z : ◌≡◌ {A = ℕ} 0 1 = cc in omega arith)
      go (some n) f g = read n f (valid_front t n) refl g

module _ (f : TableForm) (t : List ℕ) where
  refused : (PassedIn f t → ⊥) → None ≡ check_table_in f t
  unfolding check_table_in
  refused h = go (valid_table_in f t) refl
    where
      go : (b : Bool) → valid_table_in f t ≡ b → None ≡ cond b (Some (shape_of t)) None
      go true e = absurd (h (passed f t e))
      go false e = refl

  pub front_bad : (r : Option Shape) → r ≡ front_table t → r ≡ None → None ≡ check_table_in f t
  unfolding front_table headed
  front_bad r e q = refused (λ p. let g : None ≡ Some (shape_of t) = rw (p.given, p.front) at (sym q ∙ e) in let z : ◌≡◌ {A = ℕ} 0 1 = cc in omega arith)

-- ---- the capacity, the rows and the zeros

-- of rows as wide as the form's
module _ (f : TableForm) where
  pub roomy : (w len n room : ℕ) → room ≡ min max_rows ((len - rows_at n) / w) → w ≡ f.rows.width → room ≡ capacity_in f len n
  unfolding capacity_in
  roomy w len n room q wide = q ∙ ap (λ v. min max_rows ((len - rows_at n) / v)) wide

  pub rows_end : (v len n count : ℕ) → rows_at n ≤ len → count ≤ capacity_in f len n → v ≡ f.rows.width → n + 2 + v * count ≤ len
  rows_end v len n count h fits e = rw e (room_rows f len n count h fits)

  pub zeros_from : (t : List ℕ) (w n count : ℕ) (z : Bool) → z ≡ all_zero (drop (n + 2 + w * count) t) → w ≡ f.rows.width → z ≡ all_zero (drop (n + 2 + f.rows.width * count) t)
  zeros_from t w n count z q wide = q ∙ ap (λ v. all_zero (drop (n + 2 + v * count) t)) wide

module _ (f : TableForm) (t : List ℕ) (shape : Shape) (front : Front t shape) where
  abbrev behind : List ℕ
  behind = drop (shape.variables + 2) t

  numbered : shape.variables ≡ variables_of t
  numbered = ap (λ s. s.variables) front.shaped

  counted : shape.count ≡ row_count t
  counted = ap (λ s. s.count) front.shaped

  pub no_capacity : (room : ℕ) → room ≡ capacity_in f (length t) shape.variables → room < shape.count → None ≡ check_table_in f t
  no_capacity room q h =
      refused f t (λ p. let l : shape.count ≤ capacity_in f (length t) shape.variables = rw (counted, numbered) p.fits in omega arith)

  all_rows : (p : PassedIn f t) → all_valid f (domains t) shape.count behind ≡ true
  unfolding table_rows_in
  all_rows p =
      rw (counted, numbered)
      (both_true (rows_valid_in f (domains t) (row_count t) (drop (variables_of t + 2) t)) (distinct_rows (table_rows_in f t)) p.rows p.distinct)

  pub bad_rows : (r : Bool) → ((ds : List ℕ) → FullSigns shape.fulls ds → r ≡ all_valid f ds shape.count behind) → r ≡ false → None ≡ check_table_in f t
  bad_rows r v q = refused f t (λ p. true≢false (sym (all_rows p) ∙ sym (v (domains t) front.signs) ∙ q))

  pub bad_zeros : (z : Bool) → z ≡ all_zero (drop (shape.variables + 2 + f.rows.width * shape.count) t) → z ≡ false → None ≡ check_table_in f t
  bad_zeros z v q = refused f t (λ p. true≢false (sym (rw (counted, numbered) p.zeros) ∙ sym v ∙ q))

  module _ (r z : Bool) (v : (ds : List ℕ) → FullSigns shape.fulls ds → r ≡ all_valid f ds shape.count behind) (g : r ≡ true)
      (u : z ≡ all_zero (drop (shape.variables + 2 + f.rows.width * shape.count) t)) (o : z ≡ true) where
    both : all_valid f (domains t) shape.count behind ≡ true
    both = sym (v (domains t) front.signs) ∙ g

    rows_good : rows_valid_in f (domains t) shape.count behind ≡ true
    rows_good = and_left (rows_valid_in f (domains t) shape.count behind) (distinct_rows (rows_from_in f shape.count behind)) both

    distinct_good : distinct_rows (table_rows_in f t) ≡ true
    unfolding table_rows_in
    distinct_good =
        rw (← counted, ← numbered)
        (and_right (rows_valid_in f (domains t) shape.count behind) (distinct_rows (rows_from_in f shape.count behind)) both)

    valid : (room : ℕ) → room ≡ capacity_in f (length t) shape.variables → shape.count ≤ room → valid_table_in f t ≡ true
    unfolding valid_table_in headed
    valid room q fits =
        let holds : shape.count ≤ capacity_in f (length t) shape.variables = omega arith in
        rw (front.given, ← counted, front.passes, le-leb shape.count (capacity_in f (length t) shape.variables) holds, rows_good, distinct_good, ← u, o)

    pub all_good : (room : ℕ) → room ≡ capacity_in f (length t) shape.variables → shape.count ≤ room → Some shape ≡ check_table_in f t
    unfolding check_table_in
    all_good room q fits = rw (valid room q fits) (ap Some front.shaped)
