-- What a look at a valid table finds: the premises, their conclusions and places, and the verdict on the finished step.
use Prim.Native.Nat.{ℕ, ◌+◌, ◌-◌, ◌*◌, ◌<◌, ◌≤◌, min}
use native.Mathlib.Omega.{arith}
use mathlib.Core.Path.{◌≡◌, sym, ap, ap₂, ◌∙◌}
use mathlib.Core.Bool.{Bool, true, cond}
use mathlib.Core.List.{List, []}
use lib.ListN.{length, get_or, take}
use lib.Seq.{take_all}
use lib.Dec.{eqb, ltb}
use Rattle.wcsp.specs.Clause.{ValidClause, kept}
use Rattle.wcsp.specs.Rule.{conclusions}
use Rattle.wcsp.specs.Resolve.{Pair, no_row, moved_weight, conclusions_of, resolve, MayResolve}
use Rattle.wcsp.proofs.Validity.{valid_signs_lem}
use Rattle.wcsp.proofs.Adding.{fresh}
use Rattle.wcsp.proofs.AsWritten.{gone, removed, resolve-length}
use Rattle.wcsp.proofs.TooHeavy.{heavy_any}
use Rattle.wcsp.proofs.TooHeavy as Weighing
use Rattle.clause.specs.declared.Clause.{Clause}
use Rattle.clause.specs.Packed.{signs_of, FitsBlocks, FullSigns}
use Rattle.conclusions.specs.Buffer.{clauses_in, PackedBuffer, Below}
use Rattle.conclusions.proofs.Filling.{clauses_in-length, clauses_in-same-at, read_holds}
use Rattle.conclusions.proofs.Turns.{below_full}
use Rattle.rows.specs.Raw.{row_width, max_weight, raw_at, raws_in, weight_in, clause_in}
use Rattle.table.specs.declared.Shape.{Shape}
use Rattle.table.specs.Layout.{max_rows, capacity_in, capacity, too_heavy}
use Rattle.table.specs.Meaning.{variables_of, row_count, table_rows, domains, capacity_of}
use Rattle.table.specs.Valid.{valid_table}
use Rattle.table.specs.Check.{full_clause, shape_of}
use Rattle.table.proofs.Twelve.{Twelve, twelve_signs_of}
use Rattle.table.proofs.RawRows.{row_of_signs, row_of_weight}
use Rattle.table.proofs.Canonical.{passed}
use Rattle.table.proofs.Finishing.{valid_count}
use Rattle.table.proofs.Reading.{Ready, ready, row_at}
use Rattle.stepping.specs.Step.{allowed, refusal_of}
use Rattle.stepping.specs.Turns.{fresh_to, heavy_to, Placed, Surveyed}
use Rattle.stepping.proofs.Verdicts.{says_all}
use Rattle.stepping.proofs.Agreement.{fresh_agrees, heavy_agrees}

-- ---- the numbers of a valid table, as its shape gives them

pub record Bounds (t : List ℕ) (shape : Shape) (v i j : ℕ) : Type 0 where
  pub few : shape.variables ≤ 12
  pub most : shape.count ≤ max_rows
  pub ordered : i < j
  pub second : j < shape.count
  pub room : shape.variables + 2 + row_width * shape.count ≤ length t
  pub known : v < 12

pub bounds : (t : List ℕ) → valid_table t ≡ true → (shape : Shape) → shape ≡ shape_of t → (v i j : ℕ)
    → MayResolve (domains t) (table_rows t) (record { variable = v; first = i; second = j }) → Bounds t shape v i j
unfolding capacity_in
bounds t valid shape e v i j p =
    let r = ready t valid in
    let fits = (passed t valid).fits in
    let known = p.known in
    let in_table = p.in_table in
    rw e
    (record {
      few = r.few;
      most = omega arith;
      ordered = p.ordered;
      second = omega arith;
      room = r.room;
      known = omega arith;
    })

-- ---- the premises

-- x is the clause that was read at row k
module _ {t : List ℕ} {n count : ℕ} (r : Ready t n count) (k : ℕ) (h : k < count) (x : Clause) (e : x ≡ clause_in (raw_at t (n + 2 + row_width * k))) where
  pub premise_signs : signs_of x ≡ (get_or (table_rows t) k no_row).signs
  premise_signs =
      let here : k < row_count t = omega (arith, r.counted) in
      ap signs_of e ∙ ap (λ m. signs_of (clause_in (raw_at t (m + 2 + row_width * k)))) r.variables
      ∙ sym (ap (λ q. q.signs) (row_at t k here) ∙ row_of_signs (raw_at t (variables_of t + 2 + row_width * k)))

  pub premise_valid : ValidClause (domains t) (signs_of x)
  premise_valid = rw premise_signs (valid_signs_lem k r.valid (omega (arith, r.long)))

module _ (t : List ℕ) (valid : valid_table t ≡ true) where
  premise_weight : (k : ℕ) → k < row_count t → (w : ℕ) → w ≡ weight_in (raw_at t (variables_of t + 2 + row_width * k)) → w ≡ (get_or (table_rows t) k no_row).weight
  premise_weight k h w e = e ∙ sym (ap (λ r. r.weight) (row_at t k h) ∙ row_of_weight (raw_at t (variables_of t + 2 + row_width * k)))

  pub premise_below : (shape : Shape) → shape ≡ shape_of t → (k : ℕ) → k < shape.count → (x : Clause)
      → x ≡ clause_in (raw_at t (shape.variables + 2 + row_width * k)) → Below x shape.fulls
  premise_below shape e =
      rw e (λ k h x f. below_full x (full_clause (domains t)) (domains t) (ready t valid).fulls (premise_valid (ready t valid) k h x f))

  pub full-packed : (shape : Shape) → shape ≡ shape_of t → FitsBlocks shape.fulls
  full-packed shape e = rw e (ready t valid).packed

-- ---- the look

-- all that the look has found
pub record Seen (t : List ℕ) (pr : Pair) (buffer places : List ℕ) (kept' first second moved fresh' : ℕ) (heavy' : Bool) : Type 0 where
  pub few : kept' ≤ 26
  pub packed : PackedBuffer buffer
  pub clauses : clauses_in kept' buffer ≡ kept (domains t) (conclusions_of (domains t) pr (table_rows t))
  pub weight : moved ≡ moved_weight pr (table_rows t)
  pub placed : Placed (row_count t) (raws_in t (variables_of t + 2) (row_count t)) (clauses_in kept' buffer) kept' places
  pub first_is : first ≡ (get_or (table_rows t) pr.first no_row).weight
  pub second_is : second ≡ (get_or (table_rows t) pr.second no_row).weight
  pub fresh_is : length (resolve (domains t) pr (table_rows t)) ≡ length (table_rows t) - removed pr (table_rows t) + fresh'
  pub heavy_is : heavy' ≡ too_heavy (resolve (domains t) pr (table_rows t))

-- clauses of the buffer have twelve signs
pub twelve_at : (k : ℕ) (buffer : List ℕ) → k ≤ 26 → PackedBuffer buffer → (m : ℕ) → m < k → Twelve (get_or (clauses_in k buffer) m [])
twelve_at k buffer h p m l =
    let held = read_holds buffer m (omega arith) p in
    rw (clauses_in-same-at k 26 m buffer l (omega arith), ← held.signs_are) (twelve_signs_of _ held.packed)

module _ (t : List ℕ) (valid : valid_table t ≡ true) (v i j : ℕ) (p : MayResolve (domains t) (table_rows t) (record { variable = v; first = i; second = j })) where
  seen_shape : (x y : Clause) (buffer places : List ℕ) (kept' first second moved fresh' : ℕ) (heavy' : Bool)
      → first ≡ weight_in (raw_at t (variables_of t + 2 + row_width * i))
      → second ≡ weight_in (raw_at t (variables_of t + 2 + row_width * j))
      → moved ≡ min first second
      → x ≡ clause_in (raw_at t (variables_of t + 2 + row_width * i))
      → y ≡ clause_in (raw_at t (variables_of t + 2 + row_width * j))
      → ((ds : List ℕ) → FullSigns (full_clause (domains t)) ds → ValidClause ds (signs_of x) → ValidClause ds (signs_of y)
      → clauses_in kept' buffer ≡ kept ds (conclusions ds v (signs_of x) (signs_of y)))
      → kept' ≤ 26 → PackedBuffer buffer
      → fresh' ≡ fresh_to (row_count t) (raws_in t (variables_of t + 2) (row_count t)) (clauses_in kept' buffer) kept'
      → heavy' ≡ heavy_to moved (row_count t) (raws_in t (variables_of t + 2) (row_count t)) (clauses_in kept' buffer) kept'
      → Placed (row_count t) (raws_in t (variables_of t + 2) (row_count t)) (clauses_in kept' buffer) kept' places
      → Seen t (record { variable = v; first = i; second = j }) buffer places kept' first second moved fresh' heavy'
  unfolding conclusions_of moved_weight
  seen_shape x y buffer places kept' first second moved fresh' heavy' f s m ex ey con few packed fr hv placed =
      let pr : Pair = record { variable = v; first = i; second = j } in
      let rs = table_rows t in
      let ds = domains t in
      let cs = clauses_in kept' buffer in
      let r = ready t valid in
      let n = r.long in
      let o = p.ordered in
      let l = p.in_table in
      let hi : i < row_count t = omega arith in
      let hj : j < row_count t = omega arith in
      let sx = premise_signs r i hi x ex in
      let sy = premise_signs r j hj y ey in
      let fi = premise_weight t valid i hi first f in
      let si = premise_weight t valid j hj second s in
      let clauses : cs ≡ kept ds (conclusions_of ds pr rs)
      = con ds r.fulls (premise_valid r i hi x ex) (premise_valid r j hj y ey) ∙ ap₂ (λ a b. kept ds (conclusions ds v a b)) sx sy in
      let weight : moved ≡ moved_weight pr rs = m ∙ ap₂ min fi si in
      let long = clauses_in-length kept' buffer in
      let whole : take kept' cs ≡ cs = take_all kept' cs (omega arith) in
      let twelve : (k : ℕ) → k < length cs → Twelve (get_or cs k []) = λ k h. twelve_at kept' buffer few packed k (omega arith) in
      let fresh-is : fresh' ≡ length (fresh (moved_weight pr rs) (kept ds (conclusions_of ds pr rs)) rs)
      = fr ∙ ap (λ qs. fresh_to (row_count t) qs cs kept') r.raws
      ∙ fresh_agrees r.valid r.carried (row_count t) n cs twelve (moved_weight pr rs) kept' (omega arith)
      ∙ ap (λ l. length (fresh (moved_weight pr rs) l rs)) (whole ∙ clauses) in
      let heavy-at : heavy' ≡ heavy_any max_weight (moved_weight pr rs) (kept ds (conclusions_of ds pr rs)) rs
      = hv ∙ ap₂ (λ u qs. heavy_to u (row_count t) qs cs kept') weight r.raws
      ∙ heavy_agrees r.valid r.carried (row_count t) n cs twelve (moved_weight pr rs) kept' (omega arith)
      ∙ ap (λ l. heavy_any max_weight (moved_weight pr rs) l rs) (whole ∙ clauses) in
      record {
        few = few;
        packed = packed;
        clauses = clauses;
        weight = weight;
        placed = placed;
        first_is = fi;
        second_is = si;
        fresh_is = resolve-length r.valid p ∙ ap (λ k. length rs - removed pr rs + k) (sym fresh-is);
        heavy_is = heavy-at ∙ sym (Weighing.too_heavy max_weight r.valid p r.light);
      }

  -- the same with the numbers of the shape
  pub seen : (shape : Shape) → shape ≡ shape_of t → (x y : Clause) (buffer places : List ℕ) (kept' first second moved fresh' : ℕ) (heavy' : Bool)
      → first ≡ weight_in (raw_at t (shape.variables + 2 + row_width * i))
      → second ≡ weight_in (raw_at t (shape.variables + 2 + row_width * j))
      → moved ≡ min first second
      → x ≡ clause_in (raw_at t (shape.variables + 2 + row_width * i))
      → y ≡ clause_in (raw_at t (shape.variables + 2 + row_width * j))
      → ((ds : List ℕ) → FullSigns shape.fulls ds → ValidClause ds (signs_of x) → ValidClause ds (signs_of y)
      → clauses_in kept' buffer ≡ kept ds (conclusions ds v (signs_of x) (signs_of y)))
      → kept' ≤ 26 → PackedBuffer buffer
      → fresh' ≡ fresh_to shape.count (raws_in t (shape.variables + 2) shape.count) (clauses_in kept' buffer) kept'
      → heavy' ≡ heavy_to moved shape.count (raws_in t (shape.variables + 2) shape.count) (clauses_in kept' buffer) kept'
      → Placed shape.count (raws_in t (shape.variables + 2) shape.count) (clauses_in kept' buffer) kept' places
      → Seen t (record { variable = v; first = i; second = j }) buffer places kept' first second moved fresh' heavy'
  seen shape e = rw e seen_shape

-- ---- the verdict

pub planned : {t : List ℕ} {pr : Pair} {buffer places : List ℕ} {kept' first second moved fresh' : ℕ} {heavy' : Bool}
    → Seen t pr buffer places kept' first second moved fresh' heavy' → 0 ≡ refusal_of (allowed (capacity_of t) pr (resolve (domains t) pr (table_rows t)))
    → Surveyed t pr buffer places kept' moved
planned s e =
    record { few = s.few; packed = s.packed; clauses = s.clauses; weight = s.weight; placed = s.placed; result = e }

module _ (t : List ℕ) (valid : valid_table t ≡ true) {pr : Pair} {buffer places : List ℕ} {kept' first second moved fresh' : ℕ} {heavy' : Bool}
    (s : Seen t pr buffer places kept' first second moved fresh' heavy') where
  after : (a b : ℕ) → a ≡ cond (eqb first moved) 1 0 → b ≡ cond (eqb second moved) 1 0
      → length (resolve (domains t) pr (table_rows t)) ≡ row_count t - a - b + fresh'
  unfolding removed gone
  after a b ea eb =
      let rs = table_rows t in
      let fa : a ≡ gone (moved_weight pr rs) pr.first rs = ea ∙ ap₂ (λ w u. cond (eqb w u) 1 0) s.first_is s.weight in
      let fb : b ≡ gone (moved_weight pr rs) pr.second rs = eb ∙ ap₂ (λ w u. cond (eqb w u) 1 0) s.second_is s.weight in
      let n = valid_count t valid in
      let e : length rs - removed pr rs ≡ row_count t - a - b = rw (← fa, ← fb) (omega arith) in
      s.fresh_is ∙ ap (λ k. k + fresh') e

  -- the number that the tests give is that of the finished step
  pub judged : (shape : Shape) → shape ≡ shape_of t → (a b room number : ℕ) → a ≡ cond (eqb first moved) 1 0 → b ≡ cond (eqb second moved) 1 0
      → room ≡ capacity (length t) shape.variables → number ≡ cond heavy' 11 (cond (ltb room (shape.count - a - b + fresh')) 12 0)
      → number ≡ refusal_of (allowed (capacity_of t) pr (resolve (domains t) pr (table_rows t)))
  judged shape e =
      rw e (λ a b room number ea eb er n.
      rw (s.heavy_is, ← after a b ea eb, er) at n ∙ says_all (capacity_of t) pr (resolve (domains t) pr (table_rows t)))
