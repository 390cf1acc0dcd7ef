-- A single step on a valid table: what the hunt answers, and what the step leaves, is the step call's definition.
use Prim.Native.Nat.{ℕ, ◌+◌, ◌-◌, ◌*◌, ◌<◌, ◌≤◌}
use native.Mathlib.Omega.{arith}
use mathlib.Core.Path.{◌≡◌, refl, sym, ap, ap₂, ◌∙◌}
use mathlib.Core.Bool.{true, false}
use mathlib.Core.List.{List}
use mathlib.Core.Option as math
use Rattle.std.specs.Prelude.{Option, Some, None}
use Rattle.std.proofs.lemmas.Option.{same_Some}
use lib.ListN.{length, drop}
use Rattle.wcsp.specs.Row.{ValidRows}
use Rattle.wcsp.specs.Resolve.{Pair, pair_from, next_pair, resolve, MayResolve}
use Rattle.wcsp.specs.Unsettled.{lowest_unsettled}
use Rattle.wcsp.proofs.NextPair.{next-permitted}
use Rattle.wcsp.proofs.Unsettled.{on_it, hunt_from}
use Rattle.clause.specs.declared.Clause.{Clause}
use Rattle.clause.specs.Packed.{FitsBlocks, FullSigns}
use Rattle.rows.specs.Raw.{row_width}
use Rattle.table.specs.declared.Shape.{Shape}
use Rattle.table.specs.Layout.{capacity_in}
use Rattle.table.specs.Meaning.{table_rows_in, variables_of, row_count, rows_from, table_sizes, table_rows, own_rows, domains, capacity_of}
use Rattle.table.specs.Valid.{valid_table}
use Rattle.table.specs.Check.{full_clause, shape_of, check_table}
use Rattle.table.proofs.Canonical.{passed}
use Rattle.table.proofs.Tested.{table_valid}
use Rattle.table.proofs.Reading.{ready, ready_shape, find_room}
use Rattle.hunt.specs.declared.Next.{Next}
use Rattle.hunt.proofs.Climbing.{nothing_none}
use Rattle.hunt.specs.Hunt.{hunted_of, Cleared}
use Rattle.stepping.specs.Step.{Stepping, refusing, steps_to, pair_word}
use Rattle.stepping.specs.Advance.{Advanced, Made, Refused, AdvanceReturned, advance_call}
use Rattle.stepping.proofs.Answers.{advance_made, advance_refused}
use Rattle.resolution.specs.Answers.{StepAnswer}
use Rattle.resolution.specs.Step.{one_step}
use Rattle.resolution.specs.Calls.{StepReturned, step_returns, step_call}
use Rattle.resolution.proofs.Stepped.{no_step, next-step}
use Rattle.resolution.proofs.Own.{step_own}

-- ---- the hunt

-- the pair of a hunt from s on that found one: as many variables further as it passed over
next-some : (s : ℕ) (o : math.Option Pair) (n : Next) → hunted_of s o ≡ Some n → ((pr : Pair) → o ≡ math.some pr → s ≤ pr.variable)
    → o ≡ math.some (record { variable = s + n.passed; first = n.first; second = n.second })
unfolding hunted_of
next-some s math.none n e h = cc
next-some s (math.some pr) n e h =
    let p : record { passed = pr.variable - s; first = pr.first; second = pr.second } ≡ n = same_Some _ _ e in
    let l = h pr refl in
    let v : pr.variable ≡ s + n.passed = omega (arith, ap (λ x. x.passed) p, l) in
    ap math.some (λ i. record { variable = v i; first = (p i).first; second = (p i).second })

-- what a hunt from bucket s on answers of the rows in a table
abbrev pub Hunts : List ℕ → ℕ → ℕ → Clause → ℕ → ℕ → ℕ → Option Next → Type 0
Hunts t base count fulls s skip from found =
    (ds : List ℕ) → FullSigns fulls ds → ValidRows ds (rows_from count (drop base t)) → Cleared ds s skip from (rows_from count (drop base t))
    → found ≡ hunted_of s (pair_from ds (length ds - s) s (rows_from count (drop base t)))

-- the lowest unsettled variable of a table's rows of twelve signs, which the hunt goes by, and of its own: they differ where no pair is left
abbrev pub lowest_in : List ℕ → ℕ
lowest_in t = lowest_unsettled (domains t) (table_rows t)

abbrev pub own_lowest : List ℕ → ℕ
own_lowest t = lowest_unsettled (table_sizes t) (own_rows t)

module _ (t : List ℕ) (v : valid_table t ≡ true) (base count : ℕ) (b : base ≡ variables_of t + 2) (n : count ≡ row_count t) (fulls : Clause)
    (f : fulls ≡ full_clause (domains t)) where
  pub fulls_packed : FitsBlocks fulls
  fulls_packed = rw f (ready t v).packed

  rows_read : rows_from count (drop base t) ≡ table_rows t
  unfolding table_rows_in
  rows_read = ap₂ (λ m k. rows_from m (drop k t)) n b

  module _ (s skip from : ℕ) (low : s ≤ lowest_in t) (cleared : Cleared (domains t) s skip from (table_rows t)) (found : Option Next)
      (answer : Hunts t base count fulls s skip from found) where
    hunted : found ≡ hunted_of s (next_pair (domains t) (table_rows t))
    hunted =
        let r = ready t v in
        let signs : FullSigns fulls (domains t) = rw f r.fulls in
        let a = rw rows_read at (answer (domains t) signs) in
        a r.valid cleared ∙ ap (hunted_of s) (hunt_from (domains t) (table_rows t) (table_rows t) s low refl)

    pub hunt_none : found ≡ None → next_pair (domains t) (table_rows t) ≡ math.none
    hunt_none q = nothing_none s (next_pair (domains t) (table_rows t)) (sym hunted ∙ q)

    pub hunt_some : (n : Next) → found ≡ Some n → next_pair (domains t) (table_rows t) ≡ math.some (record { variable = s + n.passed; first = n.first; second = n.second })
    hunt_some n q = next-some s (next_pair (domains t) (table_rows t)) n (sym hunted ∙ q)
        (λ pr e. omega (arith, low, on_it (domains t) (table_rows t) pr e))

-- before the first step no row is passed
pub cleared_start : (t : List ℕ) (s : ℕ) → Cleared (domains t) s 0 0 (table_rows t)
cleared_start t s = (omega arith, omega arith, λ k l h m n. absurd (omega arith), λ l m n. absurd (omega arith))

-- the first hunt in a table, with the shape that the test gave
module _ (t : List ℕ) (v : valid_table t ≡ true) (shape : Shape) (e : shape ≡ shape_of t) where
  pub few_variables : shape.variables ≤ 12
  few_variables = (ready_shape t v shape e).few

  pub shape_front : shape.variables + 2 ≡ variables_of t + 2
  shape_front = ap (λ s. s.variables + 2) e

  pub shape_count : shape.count ≡ row_count t
  shape_count = ap (λ s. s.count) e

  pub shape_fulls : shape.fulls ≡ full_clause (domains t)
  shape_fulls = ap (λ s. s.fulls) e

  pub first_asks : (shape.variables + 2 + row_width * shape.count ≤ length t) × FitsBlocks shape.fulls × (0 ≤ 12)
  first_asks = (
    find_room t v (shape.variables + 2) shape.count shape_front shape_count,
    fulls_packed t v (shape.variables + 2) shape.count shape_front shape_count shape.fulls shape_fulls,
    omega arith,
  )

  module _ {found : Option Next} (answer : Hunts t (shape.variables + 2) shape.count shape.fulls 0 0 0 found) where
    pub first_none : found ≡ None → next_pair (domains t) (table_rows t) ≡ math.none
    first_none =
        hunt_none t v (shape.variables + 2) shape.count shape_front shape_count shape.fulls shape_fulls 0 0 0
        (omega arith) (cleared_start t 0) found answer

    pub first_some : (n : Next) → found ≡ Some n → next_pair (domains t) (table_rows t) ≡ math.some (record { variable = n.passed; first = n.first; second = n.second })
    first_some n q =
        let z : 0 + n.passed ≡ n.passed = omega arith in
        rw z at (hunt_some t v (shape.variables + 2) shape.count shape_front shape_count shape.fulls shape_fulls 0 0 0
        (omega arith) (cleared_start t 0) found answer n q)

-- ---- the step on a pair

-- what is known of a pair's numbers: as a step word takes them
pub record Numbers (rows v i j : ℕ) : Type 0 where
  pub known : v < 12
  pub ordered : i < j
  pub second : j < rows
  pub most : rows ≤ 4096

module _ (t : List ℕ) (v : valid_table t ≡ true) (pr : Pair) (next : next_pair (domains t) (table_rows t) ≡ math.some pr) where
  pub permitted : MayResolve (domains t) (table_rows t) pr
  permitted = next-permitted (domains t) (table_rows t) pr next

  pub numbers : Numbers (row_count t) pr.variable pr.first pr.second
  unfolding capacity_in
  numbers =
      let r = ready t v in
      record {
        known = omega (arith, permitted.known, r.twelve);
        ordered = permitted.ordered;
        second = omega (arith, permitted.in_table, r.long);
        most = omega (arith, (passed t v).fits);
      }

-- ---- the step call

-- what a step call must give back
abbrev pub Called : List ℕ → StepAnswer → List ℕ → Type 0
Called t answer t' = ◌≡◌ {A = StepReturned} (record { answer = answer; table = t' }) (step_call t)

pub called_invalid : (t : List ℕ) → valid_table t ≡ false → Called t (StepAnswer.Refused 9) t
unfolding step_call
called_invalid t e = rw e

module _ (t : List ℕ) (v : valid_table t ≡ true) where
  called : (s : math.Option Stepping) → one_step (domains t) (capacity_of t) (table_rows t) ≡ s → step_call t ≡ step_returns t s
  unfolding step_call
  called s e = rw v (sym (step_own t v) ∙ ap (step_returns t) e)

  pub called_done : next_pair (domains t) (table_rows t) ≡ math.none → Called t StepAnswer.Done t
  unfolding step_returns
  called_done e = sym (called math.none (no_step (domains t) (capacity_of t) (table_rows t) e))

  module _ (pr : Pair) (next : next_pair (domains t) (table_rows t) ≡ math.some pr) (answer : Advanced) (t' : List ℕ)
      (e : ◌≡◌ {A = AdvanceReturned} (record { answer = answer; table = t' }) (advance_call t pr)) where
    pub called_refused : (k : ℕ) → answer ≡ Refused k → Called t (StepAnswer.Refused k) t'
    unfolding step_returns
    called_refused k q =
        let (a, b) = advance_refused t pr answer t' e k q in
        let c = called (math.some (refusing k)) (next-step (domains t) (capacity_of t) (table_rows t) pr next ∙ ap math.some a) in
        ap (λ u. record { answer = StepAnswer.Refused k; table = u }) b ∙ sym c

    pub called_made : (now w : ℕ) → answer ≡ Made now → w ≡ pair_word pr → Called t (StepAnswer.Stepped w) t'
    unfolding step_returns
    called_made now w q p =
        let a = advance_made t pr answer t' e now q in
        let c = called (math.some (steps_to pr (resolve (domains t) pr (table_rows t)))) (next-step (domains t) (capacity_of t) (table_rows t) pr next ∙ ap math.some a.is) in
        ap₂ (λ x u. record { answer = StepAnswer.Stepped x; table = u }) p a.table ∙ sym c

-- ---- the whole call behind its hunt, by what the test and the hunt found

-- what is answered of a step on a pair: its word, or the refusal's number
abbrev pub told : ℕ → Advanced → StepAnswer
told w (Made now) = StepAnswer.Stepped w
told w (Refused k) = StepAnswer.Refused k

told_is : (t : List ℕ) (pr : Pair) → valid_table t ≡ true → next_pair (domains t) (table_rows t) ≡ math.some pr → (a : Advanced) → (advance_call t pr).answer ≡ a
    → ◌≡◌ {A = StepReturned} (record { answer = told (pair_word pr) a; table = (advance_call t pr).table }) (step_call t)
told_is t pr v next (Made now) q = called_made t v pr next (advance_call t pr).answer (advance_call t pr).table refl now (pair_word pr) q refl
told_is t pr v next (Refused k) q = called_refused t v pr next (advance_call t pr).answer (advance_call t pr).table refl k q

-- the shape that a table's test answers
abbrev pub shape_in : List ℕ → Option Shape → Shape
shape_in t (Some shape) = shape
shape_in t None = shape_of t

-- the step call leaves what the step on the pair that was found leaves, and answers what that does
pub stepped_on : (t : List ℕ) (v i j : ℕ) → check_table t ≡ Some (shape_in t (check_table t))
    → Hunts t ((shape_in t (check_table t)).variables + 2) (shape_in t (check_table t)).count (shape_in t (check_table t)).fulls 0 0 0 (Some (record { passed = v; first = i; second = j }))
    → ((advance_call t (record { variable = v; first = i; second = j })).table ≡ (step_call t).table)
    × (told (pair_word (record { variable = v; first = i; second = j })) (advance_call t (record { variable = v; first = i; second = j })).answer ≡ (step_call t).answer)
stepped_on t v i j c h =
    let shape : Shape = shape_in t (check_table t) in
    let ok : (valid_table t ≡ true) × (shape ≡ shape_of t) = table_valid t (Some shape) (sym c) shape refl in
    let is = told_is t (record { variable = v; first = i; second = j }) ok.0
    (first_some t ok.0 shape ok.1 h (record { passed = v; first = i; second = j }) refl) (advance_call t (record { variable = v; first = i; second = j })).answer refl in
    (ap (λ r. r.table) is, ap (λ r. r.answer) is)
