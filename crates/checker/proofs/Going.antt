-- What a replay keeps from word to word: a valid table of the same sizes and length, and the replay that is still to go.
use Prim.Native.Nat.{ℕ, suc, ◌+◌, ◌<◌, ◌≤◌}
use native.Mathlib.Numerals.{add-one}
use native.Mathlib.Omega.{arith}
use mathlib.Core.Path.{◌≡◌, refl, sym, ap, ap₂, ◌∙◌}
use mathlib.Core.Bool.{true}
use mathlib.Core.List.{List}
use mathlib.Core.Option.{none, some}
use Rattle.std.specs.Prelude.{Option, Some, None}
use lib.ListN.{length, get_or, drop, drop_of_length-le}
use lib.Seq.{drop-cons}
use Rattle.wcsp.specs.Row.{Row}
use Rattle.wcsp.specs.Resolve.{Pair, resolve, MayResolve}
use Rattle.table.specs.declared.Shape.{Shape}
use Rattle.table.specs.Layout.{table_words}
use Rattle.table.specs.Meaning.{variables_of, row_count, table_sizes, table_rows, domains, capacity_of}
use Rattle.table.specs.Valid.{valid_table}
use Rattle.table.specs.Check.{full_clause, shape_of}
use Rattle.table.proofs.Canonical.{twelve_is_canonical}
use Rattle.stepping.specs.Step.{refusing, steps_to, allowed, with_rows}
use Rattle.stepping.specs.Advance.{Advanced, Made, Refused, AdvanceReturned, advance_call}
use Rattle.stepping.proofs.Answers.{advance_made, advance_refused}
use Rattle.stepping.proofs.Following.{following}
use Rattle.checker.specs.Answer.{CheckAnswer}
use Rattle.checker.specs.declared.Pair.{Pair as Named}
use Rattle.checker.specs.Replay.{named_pair, replay_on, replay_word, Replayed, replay_next, replay}
use Rattle.checker.specs.Twelve.{replay_call}
use Rattle.checker.proofs.Replaying.{named_permitted}
use Rattle.checker.proofs.Naming.{Names, nothing_named, pair_named}

-- ---- a replay's next word

module _ (ds : List ℕ) (cap : ℕ) (rs : List Row) (k : ℕ) (ws : List ℕ) where
  replay_ends : length ws ≤ k → replay ds cap rs k (drop k ws) ≡ record { number = 0; steps = k; rows = rs }
  unfolding replay
  replay_ends h = rw (drop_of_length-le ws h)

  module _ (h : k < length ws) where
    replay_unnamed : named_pair ds rs (get_or ws k 0) ≡ none → replay ds cap rs k (drop k ws) ≡ record { number = 6; steps = k; rows = rs }
    unfolding replay replay_word replay_on replay_next
    replay_unnamed e = rw (drop-cons ws k 0 h, e)

    module _ (pr : Pair) (e : named_pair ds rs (get_or ws k 0) ≡ some pr) where
      replay-stops : (number : ℕ) → allowed cap pr (resolve ds pr rs) ≡ refusing number
          → replay ds cap rs k (drop k ws) ≡ record { number = number; steps = k; rows = rs }
      unfolding replay replay_word replay_on replay_next
      replay-stops number a = rw (drop-cons ws k 0 h, e, a)

      replay_on_lem : (rs' : List Row) → allowed cap pr (resolve ds pr rs) ≡ steps_to pr rs'
          → replay ds cap rs k (drop k ws) ≡ replay ds cap rs' (suc k) (drop (suc k) ws)
      unfolding replay replay_word replay_on replay_next
      replay_on_lem rs' a = rw (drop-cons ws k 0 h, e, a)

-- ---- what is kept

pub record Going (t₀ ws t : List ℕ) (count k : ℕ) : Type 0 where
  pub valid : valid_table t ≡ true
  pub long : length t ≡ length t₀
  pub sizes : table_sizes t ≡ table_sizes t₀
  pub variables : variables_of t ≡ variables_of t₀
  pub domained : domains t ≡ domains t₀
  pub counted : count ≡ row_count t
  pub goes : replay (domains t₀) (capacity_of t₀) (table_rows t₀) 0 ws ≡ replay (domains t) (capacity_of t) (table_rows t) k (drop k ws)

pub going_start : (t ws : List ℕ) (shape : Shape) → valid_table t ≡ true → shape ≡ shape_of t → Going t ws t shape.count 0
going_start t ws shape v e =
    record { valid = v; long = refl; sizes = refl; variables = refl; domained = refl; counted = ap (λ s. s.count) e; goes = refl }

-- what a replay must give back
abbrev pub Replays : List ℕ → List ℕ → CheckAnswer → List ℕ → Type 0
Replays t ws r t' = record { answer = r; table = t' } ≡ replay_call t ws

module _ {t₀ ws t : List ℕ} {count k : ℕ} (g : Going t₀ ws t count k) where
  -- the whole replay
  abbrev whole : Replayed
  whole = replay (domains t₀) (capacity_of t₀) (table_rows t₀) 0 ws

  gives : (number : ℕ) (t' : List ℕ) → whole ≡ record { number = number; steps = k; rows = table_rows t } → t' ≡ t
      → Replays t₀ ws (record { number = number; steps = k }) t'
  gives number t' w e =
      let l : t' ≡ with_rows t₀ (table_rows t)
      = e ∙ (twelve_is_canonical t g.valid).words ∙ ap₂ (λ n s. table_words n s (table_rows t)) g.long g.sizes in
      rw w (λ i. record { answer = record { number = number; steps = k }; table = l i })

  -- the shape that a turn's calls get
  pub shaped : (shape : Shape) → shape.count ≡ count → shape.variables ≡ variables_of t₀ → shape.fulls ≡ full_clause (domains t₀) → shape ≡ shape_of t
  shaped shape s e f =
      let n = e ∙ sym g.variables in
      let c = s ∙ g.counted in
      let u = f ∙ ap full_clause (sym g.domained) in
      λ i. record { variables = n i; count = c i; fulls = u i }

  pub gives_end : k ≡ length ws → Replays t₀ ws (record { number = 0; steps = length ws }) t
  gives_end h = rw (← h) (gives 0 t (g.goes ∙ replay_ends (domains t) (capacity_of t) (table_rows t) k ws (omega arith)) refl)

  module _ (h : k < length ws) {named : Option Named} (answer : Names t (get_or ws k 0) named) where
    pub gives_unnamed : named ≡ None → Replays t₀ ws (record { number = 6; steps = k }) t
    gives_unnamed q = gives 6 t (g.goes ∙ replay_unnamed (domains t) (capacity_of t) (table_rows t) k ws h (nothing_named _ (sym q ∙ answer))) refl

    module _ {p : Named} (q : named ≡ Some p) where
      pr : Pair
      pr = record { variable = p.variable; first = p.first; second = p.second }

      is_named : named_pair (domains t) (table_rows t) (get_or ws k 0) ≡ some pr
      unfolding pr
      is_named = pair_named _ p (sym q ∙ answer)

      pub may_step : MayResolve (domains t) (table_rows t) (record { variable = p.variable; first = p.first; second = p.second })
      unfolding pr
      may_step = named_permitted (domains t) (table_rows t) (get_or ws k 0) pr is_named

      module _ {advanced : Advanced} {t' : List ℕ}
          (e : ◌≡◌ {A = AdvanceReturned} (record { answer = advanced; table = t' }) (advance_call t (record { variable = p.variable; first = p.first; second = p.second }))) where
        pub unmoved : {number : ℕ} → advanced ≡ Refused number → t' ≡ t
        unfolding pr
        unmoved {number} a = (advance_refused t pr advanced t' e number a).1

        pub gives_refused : {number : ℕ} → advanced ≡ Refused number → Replays t₀ ws (record { number = number; steps = k }) t'
        unfolding pr
        gives_refused {number} a =
            let r = advance_refused t pr advanced t' e number a in
            gives number t' (g.goes ∙ replay-stops (domains t) (capacity_of t) (table_rows t) k ws h pr is_named number r.0) r.1

        pub going_on : {now : ℕ} → advanced ≡ Made now → Going t₀ ws t' now (k + 1)
        unfolding pr
        going_on {now} a =
            let m = advance_made t pr advanced t' e now a in
            let s = following t g.valid pr may_step now t' m in
            let d = s.domained in
            let r = s.rows in
            let c = s.capacious in
            record {
              valid = s.valid;
              long = s.long ∙ g.long;
              sizes = s.sizes ∙ g.sizes;
              variables = s.variables ∙ g.variables;
              domained = d ∙ g.domained;
              counted = m.counted ∙ sym s.counted;
              goes = g.goes ∙ rw (add-one, d, r, c)
                  (replay_on_lem (domains t) (capacity_of t) (table_rows t) k ws h pr is_named (resolve (domains t) pr (table_rows t)) m.is);
            }
