-- What a run keeps from turn to turn: a valid table of the same sizes and length, the run that is still to go, the words of the steps made in
-- front of the slice, and where the next hunt goes on.
use Prim.Native.Nat.{ℕ, zero, suc, ◌+◌, ◌-◌, ◌*◌, ◌<◌, ◌≤◌, min}
use native.Mathlib.Omega.{arith}
use mathlib.Core.Path.{◌≡◌, refl, sym, ap, ap₂, ◌∙◌}
use mathlib.Core.Bool.{Bool, true, false, cond}
use mathlib.Core.List.{List, [], ◌∷◌, ◌++◌, append_assoc}
use mathlib.Core.Option.{none, some}
use lib.ListN.{length, get_or, drop, set, length-set, length-append}
use lib.Seq.{drop-cons, set_at}
use lib.Dec.{ltb}
use borrow.Author.Tests.{ltb-true, lt-ltb, le-ltb}
use Rattle.wcsp.specs.Row.{Row, empty_weight}
use Rattle.wcsp.specs.Resolve.{Pair, no_row, pair_in, next_pair, resolve}
use Rattle.wcsp.specs.Unsettled.{lowest_unsettled}
use Rattle.wcsp.proofs.Unsettled.{on_it, lowest_is, lowest-none, never_falls, pair_here}
use Rattle.wcsp.proofs.Cleared.{first_in, second_in, passed_before, passed_here}
use Rattle.clause.specs.declared.Clause.{Clause}
use Rattle.clause.specs.Packed.{FitsBlocks}
use Rattle.rows.specs.Raw.{row_width}
use Rattle.table.specs.declared.Shape.{Shape}
use Rattle.table.specs.Layout.{table_words}
use Rattle.table.specs.Meaning.{variables_of, row_count, table_sizes, table_rows, own_rows, domains, capacity_of}
use Rattle.table.specs.Valid.{valid_table}
use Rattle.table.specs.Check.{full_clause, shape_of}
use Rattle.table.proofs.Canonical.{twelve_is_canonical}
use Rattle.table.proofs.Finishing.{valid_variables}
use Rattle.table.proofs.Own.{own_next}
use Rattle.table.proofs.Reading.{ready, find_room}
use Rattle.hunt.specs.declared.Next.{Next}
use Rattle.std.specs.Prelude as rust
use Rattle.hunt.specs.Hunt.{Cleared}
use Rattle.stepping.specs.Step.{refusing, steps_to, allowed, pair_word, with_rows}
use Rattle.stepping.proofs.Answers.{Advances}
use Rattle.stepping.proofs.Following.{following}
use Rattle.resolution.specs.Outcomes.{Outcome, RunAnswer, outcome_of, run_answer_of}
use Rattle.fields.specs.declared.refusals.Refusal.{Refusal}
use Rattle.fields.specs.Numbers.{number_of}
use Rattle.resolution.specs.declared.Outcome.{Outcome as Told}
use Rattle.resolution.specs.declared.Ending.{Ending}
use Rattle.resolution.specs.Step.{one_step}
use Rattle.resolution.specs.Run.{Ran, after, at_limit, run_rows}
use Rattle.resolution.specs.Calls.{RunReturned, run_returns, run_call}
use Rattle.resolution.specs.Twelve.{run_twelve, resumed}
use Rattle.resolution.proofs.Stepped.{no_step, next-step}
use Rattle.resolution.proofs.Own.{run_own}
use Rattle.resolution.proofs.Single.{fulls_packed, Hunts, lowest_in, own_lowest, hunt_none, hunt_some, permitted, cleared_start}

-- ---- a run's next turn

module _ (ds : List ℕ) (cap k : ℕ) (rs : List Row) (words : List ℕ) where
  pub run_done : next_pair ds rs ≡ none → run_rows ds cap k rs words ≡ record { outcome = Outcome.Done; rows = rs; made = words }
  unfolding run_rows after at_limit
  run_done e = go k
    where
      go : (k : ℕ) → run_rows ds cap k rs words ≡ record { outcome = Outcome.Done; rows = rs; made = words }
      go zero = rw e
      go (suc m) = rw (no_step ds cap rs e)

  pub run_paused : (pr : Pair) → next_pair ds rs ≡ some pr → k ≡ 0 → run_rows ds cap k rs words ≡ record { outcome = Outcome.Paused; rows = rs; made = words }
  unfolding run_rows at_limit
  run_paused pr e z = rw (z, e)

  module _ (m : ℕ) (z : k ≡ suc m) where
    pub run_stopped : (number : ℕ) → one_step ds cap rs ≡ some (refusing number)
        → run_rows ds cap k rs words ≡ record { outcome = Outcome.Refused number; rows = rs; made = words }
    unfolding run_rows after
    run_stopped number e = rw (z, e)

    pub run_on : (pr : Pair) (rs' : List Row) → one_step ds cap rs ≡ some (steps_to pr rs')
        → run_rows ds cap k rs words ≡ run_rows ds cap m rs' (words ++ (pair_word pr ∷ []))
    unfolding run_rows after
    run_on pr rs' e = ap (λ n. run_rows ds cap n rs words) z ∙ ap (after _ _ _) e

-- ---- what is kept

pub record Going (t₀ : List ℕ) (most : ℕ) (slice₀ t slice : List ℕ) (count lowest skip from made : ℕ) : Type 0 where
  pub words : List ℕ
  pub valid : valid_table t ≡ true
  pub long : length t ≡ length t₀
  pub sizes : table_sizes t ≡ table_sizes t₀
  pub variables : variables_of t ≡ variables_of t₀
  pub domained : domains t ≡ domains t₀
  pub counted : count ≡ row_count t
  pub goes : run_rows (domains t₀) (capacity_of t₀) most (table_rows t₀) [] ≡ run_rows (domains t) (capacity_of t) (most - made) (table_rows t) words
  pub steps : length words ≡ made
  pub within : made ≤ most
  pub room : most ≤ length slice₀
  pub sliced : slice ≡ words ++ drop made slice₀
  pub as_long : length slice ≡ length slice₀
  pub low : lowest ≤ lowest_in t
  pub cleared : Cleared (domains t) lowest skip from (table_rows t)

pub going_start : (t : List ℕ) (most : ℕ) (slice : List ℕ) (count : ℕ) → valid_table t ≡ true → count ≡ row_count t → most ≤ length slice
    → (lowest : ℕ) → lowest ≤ lowest_in t → Going t most slice t slice count lowest 0 0 0
going_start t most slice count v n h lowest l =
    let z : most ≡ most - 0 = omega arith in
    record {
      words = [];
      valid = v;
      long = refl;
      sizes = refl;
      variables = refl;
      domained = refl;
      counted = n;
      goes = ap (λ k. run_rows (domains t) (capacity_of t) k (table_rows t) []) z;
      steps = refl;
      within = omega arith;
      room = h;
      sliced = refl;
      as_long = refl;
      low = l;
      cleared = cleared_start t lowest;
    }

-- ---- where the hunt goes on after a step

-- the two weights compared
module _ (rs : List Row) (i j : ℕ) {first second : ℕ} (e : first ≡ (get_or rs i no_row).weight) (f : second ≡ (get_or rs j no_row).weight) where
  pub resumed_stays : second < first → j ≡ resumed rs i j
  unfolding resumed
  resumed_stays h = let l : (get_or rs j no_row).weight < (get_or rs i no_row).weight = omega arith in rw (lt-ltb (get_or rs j no_row).weight (get_or rs i no_row).weight l)

  pub resumed_anew : first ≤ second → 0 ≡ resumed rs i j
  unfolding resumed
  resumed_anew h = let l : (get_or rs i no_row).weight ≤ (get_or rs j no_row).weight = omega arith in rw (le-ltb (get_or rs j no_row).weight (get_or rs i no_row).weight l)

module _ (t : List ℕ) (v : valid_table t ≡ true) (pr : Pair) (next : next_pair (domains t) (table_rows t) ≡ some pr) where
  -- the step is on the lowest unsettled variable, and that does not fall
  on_lowest : pr.variable ≡ lowest_in t
  on_lowest = on_it (domains t) (table_rows t) pr next

  pub on_own : pr.variable ≡ own_lowest t
  on_own = on_it (table_sizes t) (own_rows t) pr (sym (own_next t v) ∙ next)

  pub still_low : pr.variable ≤ lowest_unsettled (domains t) (resolve (domains t) pr (table_rows t))
  still_low = omega (arith, on_lowest, never_falls (domains t) (table_rows t) pr (ready t v).valid next)

  pub still_cleared : (from : ℕ) → from ≡ resumed (table_rows t) pr.first pr.second
      → Cleared (domains t) pr.variable pr.first from (resolve (domains t) pr (table_rows t))
  unfolding resumed
  still_cleared from e = go (ltb (get_or (table_rows t) pr.second no_row).weight (get_or (table_rows t) pr.first no_row).weight) refl e
    where
      here : pair_in (domains t) pr.variable 0 (table_rows t) ≡ some pr
      here = pair_here (domains t) (table_rows t) pr next

      ahead : pr.first ≤ length (resolve (domains t) pr (table_rows t))
      ahead = first_in (domains t) (table_rows t) pr (ready t v).valid here

      go : (b : Bool) → ltb (get_or (table_rows t) pr.second no_row).weight (get_or (table_rows t) pr.first no_row).weight ≡ b → from ≡ cond b pr.second 0
          → Cleared (domains t) pr.variable pr.first from (resolve (domains t) pr (table_rows t))
      go true p q =
          let h = ltb-true _ _ p in
          rw q (
            ahead,
            second_in (domains t) (table_rows t) pr (ready t v).valid here h,
            λ k l f m n. passed_before (domains t) (table_rows t) pr (ready t v).valid here k l f n,
            passed_here (domains t) (table_rows t) pr (ready t v).valid here h,
          )
      go false p q =
          rw q (
            ahead,
            omega arith,
            λ k l f m n. passed_before (domains t) (table_rows t) pr (ready t v).valid here k l f n,
            λ l m n. absurd (omega arith),
          )

-- ---- the word in its place

pub word_put : (words slice₀ : List ℕ) (made w : ℕ) → length words ≡ made → made < length slice₀
    → set (words ++ drop made slice₀) made w ≡ (words ++ (w ∷ [])) ++ drop (suc made) slice₀
word_put words slice₀ made w e h =
    ap (λ l. set (words ++ l) made w) (drop-cons slice₀ made 0 h)
    ∙ set_at words (get_or slice₀ made 0) (drop (suc made) slice₀) w made e
    ∙ sym (append_assoc words (w ∷ []) (drop (suc made) slice₀))

-- ---- a turn

module _ {t₀ : List ℕ} {most : ℕ} {slice₀ t slice : List ℕ} {count lowest skip from made : ℕ}
    (g : Going t₀ most slice₀ t slice count lowest skip from made) where
  -- the whole run, told from here
  abbrev whole : Ran
  whole = run_rows (domains t₀) (capacity_of t₀) most (table_rows t₀) []

  pub going_canonical : t ≡ with_rows t₀ (table_rows t)
  going_canonical =
      (twelve_is_canonical t g.valid).words ∙ ap₂ (λ n s. table_words n s (table_rows t)) g.long g.sizes

  -- the number of variables is a small one
  pub few_here : {n : ℕ} → n ≡ variables_of t₀ → n ≤ 12
  few_here h = omega (arith, h, g.variables, valid_variables t g.valid, (twelve_is_canonical t g.valid).holdable.few)

  -- what the run must give back
  abbrev pub Gives : Ending → List ℕ → List ℕ → Type 0
  Gives r t' slice' =
      ◌≡◌ {A = RunReturned} (record { answer = run_answer_of r.answer; table = t'; slice = slice' }) (run_returns 12 t₀ slice₀ whole) × (r.lowest ≡ own_lowest t')

  -- a run that ends so in this table, with this value of its lowest unsettled variable
  abbrev pub ending : Told → ℕ → List ℕ → Ending
  ending e u t' = record { answer = record { outcome = e; steps = made; bound = empty_weight 12 (table_rows t') }; lowest = u }

  gives : (e : Told) (r : Ending) (t' : List ℕ) → whole ≡ record { outcome = outcome_of e; rows = table_rows t; made = g.words }
      → (u : ℕ) → r ≡ ending e u t → t' ≡ t → u ≡ own_lowest t → Gives r t' slice
  gives e r t' w u a b l =
      let s = g.steps in
      let c : t' ≡ with_rows t₀ (table_rows t) = b ∙ going_canonical in
      let d : slice ≡ g.words ++ drop (length g.words) slice₀ = rw s g.sliced in
      let f : run_answer_of r.answer ≡ record { outcome = outcome_of e; steps = length g.words; bound = empty_weight 12 (table_rows t) } = rw s (ap (λ x. run_answer_of x.answer) a) in
      (rw w (λ i. record { answer = f i; table = c i; slice = d i }), ap (λ x. x.lowest) a ∙ l ∙ ap own_lowest (sym b))

  -- what the calls of a turn ask for, with the front and the full signs of the first table
  module _ {base : ℕ} (b : base ≡ variables_of t₀ + 2) {fulls : Clause} (f : fulls ≡ full_clause (domains t₀)) where
    base_here : base ≡ variables_of t + 2
    base_here = b ∙ ap (λ n. n + 2) (sym g.variables)

    fulls_here : fulls ≡ full_clause (domains t)
    fulls_here = f ∙ ap full_clause (sym g.domained)

    pub hunt_asks : (base + row_width * count ≤ length t) × FitsBlocks fulls × (lowest ≤ 12)
    hunt_asks = (
      find_room t g.valid base count base_here g.counted,
      fulls_packed t g.valid base count base_here g.counted fulls fulls_here,
      omega (arith, ((lowest_is (domains t) (table_rows t) lowest).0 g.low).0, (ready t g.valid).twelve),
    )

    pub ended_asks : (valid_table t ≡ true) × (base ≡ variables_of t + 2) × (count ≡ row_count t)
    ended_asks = (g.valid, base_here, g.counted)

    -- the same once a refusal left the table as it was
    pub refused_asks : {t' : List ℕ} → t' ≡ t → (valid_table t' ≡ true) × (base ≡ variables_of t' + 2) × (count ≡ row_count t')
    refused_asks e = rw e ended_asks

    pub shaped : {n : ℕ} → n ≡ variables_of t₀ → ◌≡◌ {A = Shape} (record { variables = n; count = count; fulls = fulls }) (shape_of t)
    shaped e =
        let n = e ∙ sym g.variables in
        let k = g.counted in
        let u = fulls_here in
        λ i. record { variables = n i; count = k i; fulls = u i }

    -- a hunt that starts at the value of the lowest unsettled variable
    module _ {found : rust.Option Next} {start : ℕ} (answer : Hunts t base count fulls start skip from found) (here : start ≡ lowest) where
      hunts_here : Hunts t base count fulls lowest skip from found
      hunts_here = rw here at answer

      pub none_left : found ≡ rust.None → next_pair (domains t) (table_rows t) ≡ none
      none_left = hunt_none t g.valid base count base_here g.counted fulls fulls_here lowest skip from g.low g.cleared found hunts_here

      -- the value moves on by what the hunt passed over
      pub one_next : {n : Next} → found ≡ rust.Some n → (v : ℕ) → v ≡ lowest + n.passed
          → next_pair (domains t) (table_rows t) ≡ some (record { variable = v; first = n.first; second = n.second })
      one_next {n} q v e =
          rw e (hunt_some t g.valid base count base_here g.counted fulls fulls_here lowest skip from g.low g.cleared found hunts_here n q)

  pub gives_done : next_pair (domains t) (table_rows t) ≡ none → (n : ℕ) → n ≡ variables_of t₀ → (r : Ending) → r ≡ ending Told.Done n t → Gives r t slice
  gives_done e n h r a =
      gives Told.Done r t (g.goes ∙ run_done (domains t) (capacity_of t) (most - made) (table_rows t) g.words e) n a refl
      (omega (arith, h, g.variables, valid_variables t g.valid, lowest-none (table_sizes t) (own_rows t) (sym (own_next t g.valid) ∙ e)))

  module _ (pr : Pair) (next : next_pair (domains t) (table_rows t) ≡ some pr) where
    pub gives_paused : made ≡ most → (r : Ending) → r ≡ ending Told.Paused pr.variable t → Gives r t slice
    gives_paused h r a =
        let z : most - made ≡ 0 = omega arith in
        gives Told.Paused r t (g.goes ∙ run_paused (domains t) (capacity_of t) (most - made) (table_rows t) g.words pr next z)
        pr.variable a refl (on_own t g.valid pr next)

    module _ (h : made < most) where
      one_left : most - made ≡ suc (most - (made + 1))
      one_left = omega (arith, h)

      pub gives_refused : (refusal : Refusal) (t' : List ℕ)
          → (allowed (capacity_of t) pr (resolve (domains t) pr (table_rows t)) ≡ refusing (number_of refusal)) × (t' ≡ t) → (r : Ending)
          → r ≡ ending (Told.Refused refusal) pr.variable t' → Gives r t' slice
      gives_refused refusal t' (a, b) r p =
          gives (Told.Refused refusal) r t'
          (g.goes ∙ run_stopped (domains t) (capacity_of t) (most - made) (table_rows t) g.words (most - (made + 1)) one_left (number_of refusal)
          (next-step (domains t) (capacity_of t) (table_rows t) pr next ∙ ap some a))
          pr.variable (p ∙ ap (λ u. ending (Told.Refused refusal) pr.variable u) b) b (on_own t g.valid pr next)

      pub going_on : (now : ℕ) (t' : List ℕ) → Advances t pr now t' → (w : ℕ) → w ≡ pair_word pr
          → (from' : ℕ) → from' ≡ resumed (table_rows t) pr.first pr.second
          → Going t₀ most slice₀ t' (set slice made w) now pr.variable pr.first from' (made + 1)
      going_on now t' a w p from' z =
          let f = following t g.valid pr (permitted t g.valid pr next) now t' a in
          let one : made + 1 ≡ suc made = omega arith in
          let fits : made < length slice₀ = omega (arith, g.room, h) in
          let d = f.domained in
          let rows = f.rows in
          let c = f.capacious in
          let sliced = g.sliced in
          let e : one_step (domains t) (capacity_of t) (table_rows t) ≡ some (steps_to pr (resolve (domains t) pr (table_rows t)))
          = next-step (domains t) (capacity_of t) (table_rows t) pr next ∙ ap some a.is in
          record {
            words = g.words ++ (w ∷ []);
            valid = f.valid;
            long = f.long ∙ g.long;
            sizes = f.sizes ∙ g.sizes;
            variables = f.variables ∙ g.variables;
            domained = d ∙ g.domained;
            counted = a.counted ∙ sym f.counted;
            goes = g.goes ∙ rw (d, rows, c, p)
                (run_on (domains t) (capacity_of t) (most - made) (table_rows t) g.words (most - (made + 1)) one_left pr
                (resolve (domains t) pr (table_rows t)) e);
            steps = length-append g.words (w ∷ []) ∙ omega (arith, g.steps);
            within = omega (arith, h);
            room = g.room;
            sliced = rw (sliced, one) (word_put g.words slice₀ made w g.steps fits);
            as_long = length-set slice made w ∙ g.as_long;
            low = rw (d, rows) (still_low t g.valid pr next);
            cleared = rw (d, rows) (still_cleared t g.valid pr next from' z);
          }

-- ---- the run call

-- what a run call must give back
abbrev pub RanAs : List ℕ → ℕ → List ℕ → RunAnswer → List ℕ → List ℕ → Type 0
RanAs t limit slice r t' slice' =
    ◌≡◌ {A = RunReturned} (record { answer = r; table = t'; slice = slice' }) (run_call t limit slice)

pub ran_invalid : (t : List ℕ) (limit : ℕ) (slice : List ℕ) → valid_table t ≡ false
    → RanAs t limit slice (record { outcome = Outcome.Refused 9; steps = 0; bound = 0 }) t slice
unfolding run_call
ran_invalid t limit slice e = rw e

pub ran_valid : (t : List ℕ) (limit : ℕ) (slice : List ℕ) → valid_table t ≡ true → (most : ℕ) → most ≡ min limit (length slice)
    → (r : RunAnswer) (t' slice' : List ℕ)
    → ◌≡◌ {A = RunReturned} (record { answer = r; table = t'; slice = slice' }) (run_twelve t most slice)
    → RanAs t limit slice r t' slice'
unfolding run_call
ran_valid t limit slice v most m r t' slice' p = rw (v, ← m) (p ∙ run_own t v most slice)
