-- The writes of a planned step, one after the other: each finds what it asks for, and in the end the slice holds the finished step.
use Prim.Native.Nat.{ℕ, ◌+◌, ◌*◌, ◌<◌, ◌≤◌}
use native.Mathlib.Omega.{arith}
use mathlib.Core.Path.{◌≡◌, refl, sym, ap, ap₂, ◌∙◌}
use mathlib.Core.Bool.{true, false}
use mathlib.Core.List.{List, [], ◌++◌, map}
use lib.ListN.{length, get_or, take, set, length-map}
use lib.Seq.{take_all}
use Rattle.wcsp.specs.Clause.{kept}
use Rattle.wcsp.specs.Row.{Row}
use Rattle.wcsp.specs.Resolve.{Pair, no_row, lessen, moved_weight, conclusions_of, resolve, MayResolve}
use Rattle.wcsp.specs.Theorems.{Distinct}
use Rattle.wcsp.proofs.Linear.{lessen_below, lessen_keeps}
use Rattle.wcsp.proofs.Adding.{raised, fresh}
use Rattle.wcsp.proofs.Raising.{raised-length, raised_other}
use Rattle.wcsp.proofs.AsWritten.{outcome, resolve_as_written}
use Rattle.wcsp.proofs.TooHeavy.{heavy_any, heavy-at}
use Rattle.wcsp.proofs.TooHeavy as Weighing
use Rattle.words.specs.Layout.{count_word}
use Rattle.conclusions.specs.Buffer.{clauses_in, PackedBuffer}
use Rattle.conclusions.proofs.Filling.{clauses_in-length}
use Rattle.rows.specs.Raw.{row_width, max_weight, raws_in, Laid, Left}
use Rattle.storing.proofs.Laying.{left_read, left_laid, left_trans}
use Rattle.table.specs.Layout.{max_rows, capacity_in, capacity, table_words, too_heavy}
use Rattle.table.specs.Meaning.{variables_of, table_sizes, table_rows, domains, capacity_of}
use Rattle.table.specs.Valid.{valid_table}
use Rattle.table.specs.Raws.{raw_of}
use Rattle.table.proofs.Twelve.{Twelve}
use Rattle.table.proofs.RawRows.{weight_raws}
use Rattle.table.proofs.Canonical.{room_rows}
use Rattle.table.proofs.Finishing.{finished_valid}
use Rattle.table.proofs.Reading.{Ready}
use Rattle.stepping.specs.Step.{Stepping, refusing, steps_to, allowed, refusal_of}
use Rattle.stepping.specs.Advance.{Made, AdvanceReturned, advance_returns, advance_call}
use Rattle.stepping.specs.Turns.{weight_at, heavy_to, Placed, raised_to, taken_from, appended_to, Surveyed}
use Rattle.stepping.proofs.Agreement.{taken_rows, heavy_agrees, raised_agrees, raised_light, appended_agrees}
use Rattle.stepping.proofs.Surveying.{twelve_at}
use Rattle.stepping.proofs.Verdicts.{Verdict, refused as refused_by, made, verdict}

-- ---- allowed

-- a step that is not refused is made, and its rows are light enough and fit
cleared : (most : ℕ) (pr : Pair) (rs : List Row) → 0 ≡ refusal_of (allowed most pr rs)
    → (allowed most pr rs ≡ steps_to pr rs) × (too_heavy rs ≡ false) × (length rs ≤ most)
unfolding refusal_of
cleared most pr rs e = go (allowed most pr rs) (verdict most pr rs) e
  where
    go : (s : Stepping) → Verdict most pr rs s → 0 ≡ refusal_of s → (s ≡ steps_to pr rs) × (too_heavy rs ≡ false) × (length rs ≤ most)
    go (refusing k) (refused_by m n) e = absurd (omega arith)
    go (steps_to x y) (made h l) e = (refl, h, l)

made_call : (t : List ℕ) (pr : Pair) (rs : List Row) (most : ℕ) → 0 ≡ refusal_of (allowed most pr rs)
    → ◌≡◌ {A = AdvanceReturned} (record { answer = Made (length rs); table = table_words (length t) (table_sizes t) rs }) (advance_returns t (allowed most pr rs))
unfolding advance_returns
made_call t pr rs most e = rw (cleared most pr rs e).0

-- ---- the rows after each write

abbrev pub kept_in : List ℕ → Pair → List (List ℕ)
kept_in t pr = kept (domains t) (conclusions_of (domains t) pr (table_rows t))

-- the found rows raised
abbrev pub up_rows : List ℕ → Pair → List Row
up_rows t pr = raised (moved_weight pr (table_rows t)) (kept_in t pr) (table_rows t)

-- then the second row lessened
abbrev pub one_rows : List ℕ → Pair → List Row
one_rows t pr = lessen (moved_weight pr (table_rows t)) pr.second (up_rows t pr)

-- then the first
abbrev pub down_rows : List ℕ → Pair → List Row
down_rows t pr = lessen (moved_weight pr (table_rows t)) pr.first (one_rows t pr)

abbrev pub end_rows : List ℕ → Pair → List Row
end_rows t pr = resolve (domains t) pr (table_rows t)

-- ---- the writes

module _ (t : List ℕ) (n count : ℕ) (r : Ready t n count) (pr : Pair) (p : MayResolve (domains t) (table_rows t) pr)
    (buffer places : List ℕ) (kept' moved : ℕ) (q : Surveyed t pr buffer places kept' moved) where
  long : length (clauses_in kept' buffer) ≡ kept'
  long = clauses_in-length kept' buffer

  placed : Placed count (map raw_of (table_rows t)) (clauses_in kept' buffer) (length (clauses_in kept' buffer)) places
  placed = rw (long, ← r.raws, r.counted, r.variables) q.placed

  twelve : (m : ℕ) → m < length (clauses_in kept' buffer) → Twelve (get_or (clauses_in kept' buffer) m [])
  twelve m h = let l = long in twelve_at kept' buffer q.few q.packed m (omega arith)

  distinct : Distinct (clauses_in kept' buffer)
  distinct = rw q.clauses (outcome r.valid p).distinct

  whole : take kept' (clauses_in kept' buffer) ≡ kept_in t pr
  whole = let l = long in take_all kept' (clauses_in kept' buffer) (omega arith) ∙ q.clauses

  light : heavy_to (moved_weight pr (table_rows t)) count (map raw_of (table_rows t)) (clauses_in kept' buffer) (length (clauses_in kept' buffer)) ≡ false
  light =
      let l = long in
      rw l
      (heavy_agrees r.valid r.carried count r.long (clauses_in kept' buffer) twelve (moved_weight pr (table_rows t)) kept' (omega arith)
      ∙ ap (λ cs. heavy_any max_weight (moved_weight pr (table_rows t)) cs (table_rows t)) whole
      ∙ sym (Weighing.too_heavy max_weight r.valid p r.light)
      ∙ (cleared (capacity_of t) pr (end_rows t pr) q.result).1)

  pub raise_asks : Laid t (n + 2) (raws_in t (n + 2) count) × (kept' ≤ 26)
      × ((m : ℕ) → m < kept' → weight_at (raised_to moved places (raws_in t (n + 2) count) m) (get_or places m 0) + moved ≤ max_weight)
  raise_asks =
      let l = long in (
        r.laid,
        q.few,
        λ m h. rw (r.raws, q.weight)
            (raised_light r.valid r.carried count r.long (clauses_in kept' buffer) twelve places placed distinct (moved_weight pr (table_rows t)) light m (omega arith)),
      )

  second_in : pr.second < count
  second_in = omega (arith, r.long, p.in_table)

  -- the premises' weights stay as they were until their turn
  up_second : (get_or (up_rows t pr) pr.second no_row).weight ≡ (get_or (table_rows t) pr.second no_row).weight
  up_second = raised_other (moved_weight pr (table_rows t)) (kept_in t pr) (table_rows t) pr.second (outcome r.valid p).second_other

  one_first : (get_or (one_rows t pr) pr.first no_row).weight ≡ (get_or (table_rows t) pr.first no_row).weight
  one_first =
      ap (λ x. x.weight) (lessen_below (moved_weight pr (table_rows t)) pr.first pr.second (up_rows t pr) p.ordered)
      ∙ raised_other (moved_weight pr (table_rows t)) (kept_in t pr) (table_rows t) pr.first (outcome r.valid p).first_other

  moved_second : moved ≤ (get_or (table_rows t) pr.second no_row).weight
  unfolding moved_weight
  moved_second = omega (arith, q.weight)

  moved_first : moved ≤ (get_or (table_rows t) pr.first no_row).weight
  unfolding moved_weight
  moved_first = omega (arith, q.weight)

  weight_small : (k : ℕ) → (get_or (table_rows t) k no_row).weight ≤ max_weight
  weight_small k = heavy-at max_weight (table_rows t) k r.light

  module _ (t₁ : List ℕ) (l₁ : Left t (n + 2) t₁ (raised_to moved places (raws_in t (n + 2) count) kept')) where
    up_is : raised_to moved places (raws_in t (n + 2) count) kept' ≡ map raw_of (up_rows t pr)
    up_is =
        let l = long in
        ap₂ (λ w qs. raised_to w places qs kept') q.weight r.raws
        ∙ raised_agrees r.valid r.carried count r.long (clauses_in kept' buffer) twelve places placed distinct (moved_weight pr (table_rows t)) kept' (omega arith)
        ∙ ap (λ cs. map raw_of (raised (moved_weight pr (table_rows t)) cs (table_rows t))) whole

    up_left : Left t (n + 2) t₁ (map raw_of (up_rows t pr))
    up_left = rw up_is at l₁

    up_long : length (map raw_of (up_rows t pr)) ≡ count
    up_long = length-map (up_rows t pr) raw_of ∙ raised-length (moved_weight pr (table_rows t)) (kept_in t pr) (table_rows t) ∙ r.long

    up_read : raws_in t₁ (n + 2) count ≡ map raw_of (up_rows t pr)
    up_read = left_read count up_long up_left

    pub lessen_asks : Laid t₁ (n + 2) (raws_in t₁ (n + 2) count) × (pr.second < count) × (moved ≤ weight_at (raws_in t₁ (n + 2) count) pr.second)
    lessen_asks =
        let w = up_second in
        let m = weight_small pr.second in
        let e = weight_raws (up_rows t pr) pr.second (omega arith) in
        let h = moved_second in
        (left_laid count up_long up_left, second_in, rw up_read (omega arith))

    module _ (t₂ : List ℕ) (fewer : ℕ)
        (l₂ : Left t₁ (n + 2) t₂ (taken_from moved pr.second (raws_in t₁ (n + 2) count)) × (fewer ≡ length (taken_from moved pr.second (raws_in t₁ (n + 2) count)))) where
      one_is : taken_from moved pr.second (raws_in t₁ (n + 2) count) ≡ map raw_of (one_rows t pr)
      one_is =
          let w = up_second in
          let m = weight_small pr.second in
          let h = moved_second in
          let f = q.weight in
          let l = raised-length (moved_weight pr (table_rows t)) (kept_in t pr) (table_rows t) in
          let g = second_in in
          let c = r.long in
          ap₂ (λ x qs. taken_from x pr.second qs) f up_read
          ∙ taken_rows (moved_weight pr (table_rows t)) pr.second (up_rows t pr) (omega arith) (omega arith) (omega arith)

      one_left : Left t (n + 2) t₂ (map raw_of (one_rows t pr))
      one_left = rw one_is at (left_trans l₁ l₂.0)

      one_count : fewer ≡ length (one_rows t pr)
      one_count = l₂.1 ∙ ap length one_is ∙ length-map (one_rows t pr) raw_of

      one_long : length (map raw_of (one_rows t pr)) ≡ fewer
      one_long = length-map (one_rows t pr) raw_of ∙ sym one_count

      one_read : raws_in t₂ (n + 2) fewer ≡ map raw_of (one_rows t pr)
      one_read = left_read fewer one_long one_left

      first_in : pr.first < length (one_rows t pr)
      first_in =
          let l = raised-length (moved_weight pr (table_rows t)) (kept_in t pr) (table_rows t) in
          lessen_keeps (moved_weight pr (table_rows t)) pr.first pr.second (up_rows t pr) p.ordered (omega (arith, p.in_table))

      pub lessen_asks_first : Laid t₂ (n + 2) (raws_in t₂ (n + 2) fewer) × (pr.first < fewer) × (moved ≤ weight_at (raws_in t₂ (n + 2) fewer) pr.first)
      lessen_asks_first =
          let w = one_first in
          let m = weight_small pr.first in
          let e = weight_raws (one_rows t pr) pr.first (omega arith) in
          let h = moved_first in
          (left_laid fewer one_long one_left, rw one_count first_in, rw one_read (omega arith))

      module _ (t₃ : List ℕ) (old : ℕ)
          (l₃ : Left t₂ (n + 2) t₃ (taken_from moved pr.first (raws_in t₂ (n + 2) fewer)) × (old ≡ length (taken_from moved pr.first (raws_in t₂ (n + 2) fewer)))) where
        down_is : taken_from moved pr.first (raws_in t₂ (n + 2) fewer) ≡ map raw_of (down_rows t pr)
        down_is =
            let w = one_first in
            let m = weight_small pr.first in
            let h = moved_first in
            let f = q.weight in
            ap₂ (λ x qs. taken_from x pr.first qs) f one_read
            ∙ taken_rows (moved_weight pr (table_rows t)) pr.first (one_rows t pr) first_in (omega arith) (omega arith)

        down_left : Left t (n + 2) t₃ (map raw_of (down_rows t pr))
        down_left = rw down_is at (left_trans one_left l₃.0)

        down_count : old ≡ length (down_rows t pr)
        down_count = l₃.1 ∙ ap length down_is ∙ length-map (down_rows t pr) raw_of

        down_long : length (map raw_of (down_rows t pr)) ≡ old
        down_long = length-map (down_rows t pr) raw_of ∙ sym down_count

        end_is : appended_to moved count places (clauses_in kept' buffer) (raws_in t₃ (n + 2) old) kept' ≡ map raw_of (end_rows t pr)
        end_is =
            let l = long in
            ap₂ (λ w qs. appended_to w count places (clauses_in kept' buffer) qs kept') q.weight (left_read old down_long down_left)
            ∙ appended_agrees r.valid r.carried count r.long (clauses_in kept' buffer) twelve places placed (moved_weight pr (table_rows t)) kept' (down_rows t pr) (omega arith)
            ∙ ap (λ cs. map raw_of (down_rows t pr ++ fresh (moved_weight pr (table_rows t)) cs (table_rows t))) whole
            ∙ ap (λ xs. map raw_of xs) (sym (resolve_as_written r.valid p))

        end_fits : length (end_rows t pr) ≤ capacity (length t) n
        end_fits = rw r.variables (cleared (capacity_of t) pr (end_rows t pr) q.result).2

        end_room : n + 2 + row_width * length (end_rows t pr) ≤ length t
        end_room = let h = r.room in room_rows (length t) n (length (end_rows t pr)) (omega arith) end_fits

        pub append_asks : Laid t₃ (n + 2) (raws_in t₃ (n + 2) old) × (kept' ≤ 26) × (moved ≤ max_weight) × PackedBuffer buffer
            × (n + 2 + row_width * length (appended_to moved count places (clauses_in kept' buffer) (raws_in t₃ (n + 2) old) kept') ≤ length t₃)
        append_asks =
            let h = moved_first in
            let m = weight_small pr.first in
            (left_laid old down_long down_left, q.few, omega arith, q.packed, rw (end_is, length-map (end_rows t pr) raw_of, down_left.long) end_room)

        module _ (t₄ : List ℕ) (now : ℕ)
            (l₄ : Left t₃ (n + 2) t₄ (appended_to moved count places (clauses_in kept' buffer) (raws_in t₃ (n + 2) old) kept')
            × (now ≡ length (appended_to moved count places (clauses_in kept' buffer) (raws_in t₃ (n + 2) old) kept'))) where
          end_left : Left t (n + 2) t₄ (map raw_of (end_rows t pr))
          end_left = rw end_is at (left_trans down_left l₄.0)

          end_count : now ≡ length (end_rows t pr)
          end_count = l₄.1 ∙ ap length end_is ∙ length-map (end_rows t pr) raw_of

          -- the number of rows, and the slice's length, for the count word
          pub end_bounds : (now ≤ max_rows) × (length t₄ ≡ length t) × (n + 2 ≤ length t) × (n ≤ 12)
          unfolding capacity_in
          end_bounds =
              let c = end_count in
              let f = end_fits in
              let room = r.room in
              (omega arith, end_left.long, omega arith, r.few)

          pub advanced : valid_table t ≡ true → (w : ℕ) → w ≡ count_word now
              → ◌≡◌ {A = AdvanceReturned} (record { answer = Made now; table = set t₄ (n + 1) w }) (advance_call t pr)
          unfolding advance_call
          advanced valid w e =
              let left : Left t (variables_of t + 2) t₄ (map raw_of (end_rows t pr)) = rw r.variables at end_left in
              ap₂ (λ a u. record { answer = Made a; table = u }) end_count
              (rw (e, end_count, r.variables) (finished_valid t t₄ (end_rows t pr) valid left))
              ∙ made_call t pr (end_rows t pr) (capacity_of t) q.result
