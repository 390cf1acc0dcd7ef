-- Instances with no variables: what demand 3 says of them.
use Prim.Native.Nat.{ℕ, ◌<◌}
use native.Mathlib.Omega.{arith}
use mathlib.Core.Path.{◌≡◌, refl, sym, ap, subst, ◌∙◌}
use mathlib.Core.Logic.{inl, inr}
use mathlib.Core.List.{List, [], ◌∷◌, ◌++◌}
use mathlib.Core.Option.{none, some}
use Rattle.wcsp.specs.Clause.{nil}
use Rattle.wcsp.specs.Row.{Row, empty_weight}
use Rattle.wcsp.specs.Entry.{Entry, cost, WellFormed, encoded}
use Rattle.wcsp.specs.Resolve.{Pair, next_pair}
use Rattle.wcsp.specs.Rebuild.{rebuilt, rebuilt_over, tail_weight}
use Rattle.wcsp.specs.Empty.{all_costs}
use Rattle.wcsp.proofs.Empty.{one_assignment, constants_add, nothing_to_resolve}
use Rattle.fields.specs.Limits.{forbidden_cost}
use Rattle.fields.specs.Answers.{good}
use Rattle.input.specs.Instance.{sizes_of, entries_of}
use Rattle.input.proofs.Acceptance.{faultless_is_accepted}
use Rattle.table.specs.Meaning.{own_rows}
use Rattle.assignment.specs.Calls.{plan_call}
use Rattle.completion.specs.Calls.{complete_call}
use Rattle.checker.specs.Theorems.{Best}
use Rattle.calls.specs.Calls.{State, after_calls, Derives, stop, step}
use Rattle.calls.specs.Demand.{Upheld, Comes}
use Rattle.calls.specs.Empty.{EmptyUpheld, EmptyUpholds}
use Rattle.calls.proofs.Demanding.{demand3}

pub none_left_lem : (rs : List Row) (pr : Pair) → next_pair [] rs ≡ some pr → ⊥
none_left_lem rs pr e =
    let f : none ≡ some pr = sym (nothing_to_resolve rs) ∙ e in
    let z : ◌≡◌ {A = ℕ} 0 1 = cc in
    omega arith

-- no step is made over no variables
pub no_steps : {rs rs' : List Row} (ws : List ℕ) → Derives [] rs ws rs' → ws ≡ []
no_steps [] stop = refl
no_steps {rs = rs} (w ∷ ws) (step pr e d) = absurd (none_left_lem rs pr e)

-- the best assignment is the empty one, and its cost the sum
pub best_empty : (es : List Entry) (p : List ℕ) (m : ℕ) → WellFormed [] es → Best [] es p m → (p ≡ []) × (m ≡ all_costs es)
best_empty es p m formed b =
    let e : p ≡ [] = (one_assignment p).0 b.in_range in
    (e, sym b.attained ∙ ap (cost es) e ∙ constants_add es formed)

module _ (es : List Entry) (formed : WellFormed [] es) (from : List Row) (t ws : List ℕ) (u : Upheld [] es from t ws) where
  done : next_pair [] (own_rows t) ≡ none
  done = nothing_to_resolve (own_rows t)

  told : (rebuilt [] (own_rows t) ≡ []) × (empty_weight 0 (own_rows t) ≡ all_costs es)
  told = best_empty es (rebuilt [] (own_rows t)) (empty_weight 0 (own_rows t)) formed (u.best done)

  plans : (target : List ℕ) → empty_weight 0 (own_rows t) < forbidden_cost → plan_call t target ≡ record { number = 0; target = target }
  plans target light = u.plan_written target (omega arith) done light ∙ ap (λ p. record { number = 0; target = p ++ target }) told.0

  completes : (target : List ℕ) → complete_call t 0 [] target ≡ record { answer = good (all_costs es); target = target }
  completes target =
      let (c, b) = u.completed 0 [] target (omega arith) (omega arith) nil done in
      let p : rebuilt_over [] (own_rows t) 0 [] ≡ [] = (one_assignment (rebuilt_over [] (own_rows t) 0 [])).0 b.in_range in
      let m : tail_weight 0 [] (own_rows t) ≡ all_costs es = sym b.attained ∙ ap (cost es) p ∙ constants_add es formed in
      c ∙ rw (p, m)

  upheld_empty : EmptyUpheld es (record { table = t; derivation = ws })
  upheld_empty =
      record {
        steps = no_steps ws u.kept.derived;
        weight = told.1;
        best = subst (λ m. Best [] es [] m) told.1 (subst (λ p. Best [] es p (empty_weight 0 (own_rows t))) told.0 (u.best done));
        planned = λ target l. plans target (omega (arith, l, told.1));
        forbidden = λ target l. u.plan_forbidden target (omega arith) done (omega (arith, l, told.1));
        completed = completes;
      }

accepted_of : (inst : List ℕ) (st : State) → Comes inst st → WellFormed (sizes_of inst) (entries_of inst)
accepted_of inst st (inl c) = (faultless_is_accepted inst c.accepted).entries.well_formed
accepted_of inst st (inr c) = (faultless_is_accepted inst c.accepted).entries.well_formed

pub empty_upholds : EmptyUpholds
empty_upholds inst st calls comes empty valid =
    let st' : State = after_calls st calls in
    let u = (demand3 inst st calls comes).six valid in
    upheld_empty (entries_of inst) (subst (λ ds. WellFormed ds (entries_of inst)) empty (accepted_of inst st comes)) (encoded [] (entries_of inst)) st'.table st'.derivation
    (subst (λ ds. Upheld ds (entries_of inst) (encoded ds (entries_of inst)) st'.table st'.derivation) empty u)
