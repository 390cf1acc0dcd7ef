-- The pair that a step word names on a valid table: none by each test that fails, in the code's order, and the pair once all have passed.
use Prim.Native.Nat.{ℕ, ◌+◌, ◌*◌, ◌<◌, ◌≤◌}
use native.Mathlib.Omega.{arith}
use mathlib.Core.Path.{◌≡◌, refl, sym, ap, ap₂, ◌∙◌}
use mathlib.Core.Bool.{Bool, true, false}
use mathlib.Core.List.{List}
use mathlib.Core.Option.{Option as Maybe, none, some}
use lib.ListN.{length, get_or}
use lib.Dec.{eqb, ltb}
use borrow.Author.Tests.{eq-eqb, lt-ltb, le-ltb, ltb-true, ltb-false}
use types.Run.{OneOf}
use Rattle.std.specs.Prelude.{Option, Some, None}
use Rattle.wcsp.specs.Clause.{ValidClause}
use Rattle.wcsp.specs.Row.{Row}
use Rattle.wcsp.specs.Rule.{permitted}
use Rattle.wcsp.specs.Resolve.{Pair, no_row, MayResolve}
use Rattle.words.specs.declared.Word.{Word}
use Rattle.words.specs.declared.Word.TheVariants.{Step}
use Rattle.words.specs.Layout.{kind_of}
use Rattle.words.specs.Meaning.{word_of}
use Rattle.words.proofs.Inverse.{step_kind}
use Rattle.words.proofs.Others.{place_of, but_step, no_step}
use Rattle.clause.specs.declared.Clause.{Clause}
use Rattle.clause.specs.Packed.{signs_of, FitsBlocks, FullSigns}
use Rattle.rows.specs.Raw.{row_width, raw_at, clause_in}
use Rattle.table.specs.declared.Shape.{Shape}
use Rattle.table.specs.Meaning.{table_rows, domains}
use Rattle.table.specs.Valid.{valid_table}
use Rattle.table.specs.Check.{shape_of}
use Rattle.table.proofs.Reading.{Ready, ready_shape}
use Rattle.stepping.proofs.Surveying.{premise_signs, premise_valid}
use Rattle.checker.specs.declared.Pair.{Pair as Named}
use Rattle.checker.specs.Replay.{permitted_pair, named_pair}
use Rattle.checker.specs.Twelve.{named_of}
use Rattle.checker.proofs.Replaying.{permitted_passes}

-- ---- the tests

module _ (ds : List ℕ) (rs : List Row) (w : ℕ) where
  no_pair_lem : eqb (kind_of w) 7 ≡ false → named_pair ds rs w ≡ none
  unfolding named_pair
  no_pair_lem h = rw h

  module _ (v i j : ℕ) (e : word_of w ≡ Step v i j) where
    of_step : named_pair ds rs w ≡ permitted_pair ds rs (record { variable = v; first = i; second = j })
    unfolding named_pair
    of_step = let (k, a, b, c) = step_kind w v i j e in rw (eq-eqb (kind_of w) 7 k, a, b, c)

    unknown : length ds ≤ v → named_pair ds rs w ≡ none
    unfolding permitted_pair
    unknown h = of_step ∙ rw (le-ltb v (length ds) h)

    unordered : v < length ds → j ≤ i → named_pair ds rs w ≡ none
    unfolding permitted_pair
    unordered a h = of_step ∙ rw (lt-ltb v (length ds) a, le-ltb i j h)

    outside : v < length ds → i < j → length rs ≤ j → named_pair ds rs w ≡ none
    unfolding permitted_pair
    outside a b h = of_step ∙ rw (lt-ltb v (length ds) a, lt-ltb i j b, le-ltb j (length rs) h)

    forbidden : v < length ds → i < j → j < length rs → permitted ds v (get_or rs i no_row).signs (get_or rs j no_row).signs ≡ false
        → named_pair ds rs w ≡ none
    unfolding permitted_pair
    forbidden a b c h = of_step ∙ rw (lt-ltb v (length ds) a, lt-ltb i j b, lt-ltb j (length rs) c, h)

    named : MayResolve ds rs (record { variable = v; first = i; second = j })
        → named_pair ds rs w ≡ some (record { variable = v; first = i; second = j })
    named m = of_step ∙ permitted_passes ds rs (record { variable = v; first = i; second = j }) m

-- ---- the answers

-- what an answer says of a word on a table
abbrev pub Names : List ℕ → ℕ → Option Named → Type 0
Names t w r = r ≡ named_of (named_pair (domains t) (table_rows t) w)

names_none : (t : List ℕ) (w : ℕ) → named_pair (domains t) (table_rows t) w ≡ none → Names t w None
unfolding named_of
names_none t w e = rw e

names_some : (t : List ℕ) (w v i j : ℕ) → named_pair (domains t) (table_rows t) w ≡ some (record { variable = v; first = i; second = j })
    → Names t w (Some (record { variable = v; first = i; second = j }))
unfolding named_of
names_some t w v i j e = rw e

-- what was named, by the answer
pub nothing_named : (o : Maybe Pair) → None ≡ named_of o → o ≡ none
unfolding named_of
nothing_named none e = refl
nothing_named (some pr) e = cc

pub pair_named : (o : Maybe Pair) (p : Named) → Some p ≡ named_of o → o ≡ some (record { variable = p.variable; first = p.first; second = p.second })
unfolding named_of
pair_named none p e = cc
pair_named (some pr) p e = ap some (λ k. pair_in_lem (sym e k))
  where
    pair_in_lem : Option Named → Pair
    pair_in_lem (Some q) = record { variable = q.variable; first = q.first; second = q.second }
    pair_in_lem None = pr

-- ---- the rows of a valid table, as its shape gives them

module _ (t : List ℕ) (valid : valid_table t ≡ true) {shape : Shape} (e : shape ≡ shape_of t) where
  ready : Ready t shape.variables shape.count
  ready = ready_shape t valid shape e

  pub few_variables : shape.variables ≤ 12
  few_variables = ready.few

  pub fulls_packed : FitsBlocks shape.fulls
  fulls_packed = rw e (ready_shape t valid (shape_of t) refl).packed

  full_signs : FullSigns shape.fulls (domains t)
  full_signs = rw e (ready_shape t valid (shape_of t) refl).fulls

  module _ (k : ℕ) (h : k < shape.count) where
    pub row_room : shape.variables + 2 + row_width * k + row_width ≤ length t
    row_room = omega (arith, ready.room)

-- ---- the code's way through the tests

module _ (t : List ℕ) (valid : valid_table t ≡ true) {shape : Shape} (e : shape ≡ shape_of t) (w : ℕ) {got : Word} (read : got ≡ word_of w) where
  pub names_other : OneOf but_step (place_of got) → Names t w None
  names_other h = names_none t w (no_pair_lem (domains t) (table_rows t) w (no_step w got read h))

  module _ {v i j : ℕ} (q : got ≡ Step v i j) where
    is_step : word_of w ≡ Step v i j
    is_step = sym read ∙ q

    pub names_unknown : 12 ≤ v → Names t w None
    names_unknown h =
        names_none t w (unknown (domains t) (table_rows t) w v i j is_step (omega (arith, (ready t valid e).twelve)))

    module _ (known : v < 12) where
      known_here : v < length (domains t)
      known_here = omega (arith, (ready t valid e).twelve)

      pub names_unordered : j ≤ i → Names t w None
      names_unordered h = names_none t w (unordered (domains t) (table_rows t) w v i j is_step known_here h)

      -- in any order of the rows
      pub names_outside : shape.count ≤ j → Names t w None
      names_outside h = go (ltb i j) refl
        where
          go : (b : Bool) → ltb i j ≡ b → Names t w None
          go true o =
              names_none t w (outside (domains t) (table_rows t) w v i j is_step known_here (ltb-true i j o) (omega (arith, (ready t valid e).long)))
          go false o = names_unordered (ltb-false i j o)

      module _ (ordered : i < j) where
        module _ (inside : j < shape.count) {x y : Clause} (f : x ≡ clause_in (raw_at t (shape.variables + 2 + row_width * i)))
            (g : y ≡ clause_in (raw_at t (shape.variables + 2 + row_width * j))) {b : Bool}
            (answer : (ds : List ℕ) → FullSigns shape.fulls ds → ValidClause ds (signs_of x) → ValidClause ds (signs_of y)
            → b ≡ permitted ds v (signs_of x) (signs_of y)) where
          in_table : j < length (table_rows t)
          in_table = omega (arith, (ready t valid e).long)

          tested : b ≡ permitted (domains t) v (get_or (table_rows t) i no_row).signs (get_or (table_rows t) j no_row).signs
          tested =
              let h : i < shape.count = omega arith in
              answer (domains t) (full_signs t valid e) (premise_valid (ready t valid e) i h x f) (premise_valid (ready t valid e) j inside y g)
              ∙ ap₂ (permitted (domains t) v) (premise_signs (ready t valid e) i h x f) (premise_signs (ready t valid e) j inside y g)

          pub names_forbidden : b ≡ false → Names t w None
          names_forbidden h =
              names_none t w (forbidden (domains t) (table_rows t) w v i j is_step known_here ordered in_table (sym tested ∙ h))

          pub names_pair : b ≡ true → Names t w (Some (record { variable = v; first = i; second = j }))
          names_pair h =
              names_some t w v i j
              (named (domains t) (table_rows t) w v i j is_step
              (record { ordered = ordered; in_table = in_table; known = known_here; may = sym tested ∙ h }))

-- ---- the test of the signs, by what the word and the rows are

module _ (t : List ℕ) (w v i j : ℕ) where
  -- the clause of a row
  abbrev clause_there : ℕ → Clause
  clause_there k = clause_in (raw_at t ((shape_of t).variables + 2 + row_width * k))

  -- in any order of the rows
  pub forbidden_at : valid_table t ≡ true → word_of w ≡ Step v i j → v < 12 → j < (shape_of t).count
      → ((ds : List ℕ) → FullSigns (shape_of t).fulls ds → ValidClause ds (signs_of (clause_there i)) → ValidClause ds (signs_of (clause_there j))
      → false ≡ permitted ds v (signs_of (clause_there i)) (signs_of (clause_there j)))
      → named_of (named_pair (domains t) (table_rows t) w) ≡ None
  forbidden_at valid e a c h = sym (go (ltb i j) refl)
    where
      go : (b : Bool) → ltb i j ≡ b → Names t w None
      go true o = names_forbidden t valid {shape = shape_of t} refl w {got = word_of w} refl e a (ltb-true i j o) c refl refl h refl
      go false o = names_unordered t valid {shape = shape_of t} refl w {got = word_of w} refl e a (ltb-false i j o)
