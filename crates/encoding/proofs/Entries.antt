-- The fold over the words is the encoding of their entries: the signs that a word after another sets are the clause of the bindings, since their variables rise,
-- and such a clause is no tautology, since each sign leaves a value out.
use Prim.Native.Nat.{ℕ, ◌+◌, ◌-◌, ◌^◌, ◌<◌}
use native.Mathlib.Omega.{arith}
use mathlib.Core.Path.{◌≡◌, refl, sym, ap, ap₂, ◌∙◌}
use mathlib.Core.Bool.{Bool, true, false, cond, false≢true}
use mathlib.Core.Logic.{◌≢◌}
use mathlib.Core.List.{List, [], ◌∷◌, ◌++◌, map}
use lib.ListN.{length, get_or, set, replicate}
use lib.Seq.{set_comm}
use lib.Pow.{pow_pos}
use lib.Dec.{eqb}
use borrow.Author.Tests.{ne_eqb}
use Rattle.wcsp.specs.Sign.{full}
use Rattle.wcsp.specs.Clause.{nil, cons, ValidClause, AllPositive, nil_positive, cons_positive, tautology}
use Rattle.wcsp.specs.Row.{Row, add}
use Rattle.wcsp.specs.Entry.{Binding, Entry, Rising, nil_rising, cons_rising, WellFormed, cons_entries, clause_of, encode_onto}
use Rattle.wcsp.proofs.Signs.{full_at}
use Rattle.wcsp.proofs.Encoding.{along_set}
use Rattle.wcsp.proofs.Rebuilding.{full_positive}
use Rattle.words.specs.Layout.{kind_of, variable_in, value_in}
use Rattle.fields.specs.Entries.{closes_entry, cost_of, entries_from}
use Rattle.fields.proofs.Closing.{binding_closes_none, unclosed_costs_none}
use Rattle.encoding.specs.Coding.{costs_in, signs_after, grown, coded_after, coded_by}

-- ---- the signs of an open entry

-- the signs of the bindings set one after another
unfoldable sets_from : List ℕ → List ℕ → List Binding → List ℕ
sets_from fs s [] = s
sets_from fs s (b ∷ bs) = sets_from fs (set s b.variable (get_or fs b.variable 0 - 2 ^ b.value)) bs

module _ (fs : List ℕ) where
  sets_more : (s : List ℕ) (bs : List Binding) (b : Binding)
      → sets_from fs s (bs ++ (b ∷ [])) ≡ set (sets_from fs s bs) b.variable (get_or fs b.variable 0 - 2 ^ b.value)
  unfolding sets_from
  sets_more s [] b = refl
  sets_more s (a ∷ bs) b = sets_more (set s a.variable (get_or fs a.variable 0 - 2 ^ a.value)) bs b

  -- what is set before the signs of higher variables may be set after them
  sets_set : {ds : List ℕ} {k : ℕ} {bs : List Binding} → Rising ds k bs → (s : List ℕ) (v x : ℕ) → v < k
      → sets_from fs (set s v x) bs ≡ set (sets_from fs s bs) v x
  unfolding sets_from
  sets_set nil_rising s v x h = refl
  sets_set (cons_rising {b = b} {bs = bs} l m n r) s v x h =
      let y = get_or fs b.variable 0 - 2 ^ b.value in
      let d : v ≢ b.variable = λ (e : v ≡ b.variable). omega arith in
      ap (λ z. sets_from fs z bs) (set_comm s v b.variable x y d) ∙ sets_set r (set s b.variable y) v x (omega arith)

sets_clause : {ds : List ℕ} {k : ℕ} {bs : List Binding} (es : List ℕ) → Rising ds k bs
    → sets_from (map full es) (replicate (length es) 0) bs ≡ clause_of es bs
unfolding clause_of sets_from
sets_clause es nil_rising = refl
sets_clause es (cons_rising {b = b} {bs = bs} l m n r) =
    sets_set (map full es) r (replicate (length es) 0) b.variable (get_or (map full es) b.variable 0 - 2 ^ b.value) (omega arith)
    ∙ ap₂ (λ c S. set c b.variable (S - 2 ^ b.value)) (sets_clause es r) (full_at es b.variable)

-- ---- no tautology

zeros_valid : {es : List ℕ} → AllPositive es → ValidClause es (replicate (length es) 0)
zeros_valid nil_positive = nil
zeros_valid (cons_positive {d = d} h t) = cons (full_positive d h) (zeros_valid t)

clause_valid : {ds es : List ℕ} {k : ℕ} {bs : List Binding} → AllPositive es → ((v : ℕ) → v < length ds → get_or es v 0 ≡ get_or ds v 0)
    → Rising ds k bs → ValidClause es (clause_of es bs)
unfolding clause_of
clause_valid a f nil_rising = zeros_valid a
clause_valid {ds} {es} a f (cons_rising {b = b} {bs = bs} l m n r) =
    let e = f b.variable m in
    let D = get_or es b.variable 0 in
    let h : full D - 2 ^ b.value < full D = omega (arith, pow_pos b.value, full_positive D (omega arith)) in
    along_set b.variable (full D - 2 ^ b.value) (clause_valid a f r) h

valid_plain : {es c : List ℕ} → ValidClause es c → tautology es c ≡ false
unfolding tautology
valid_plain nil = refl
valid_plain (cons {a = d} {b = S} h t) = rw (ne_eqb S (full d) (λ (e : S ≡ full d). omega arith)) (valid_plain t)

-- ---- words and entries

-- a binding closes no entry
both_kinds : (w : ℕ) → eqb (kind_of w) 3 ≡ true → closes_entry w ≡ true → ⊥
both_kinds w e f = false≢true (sym (binding_closes_none w e) ∙ f)

module _ (ds es : List ℕ) (long : length es ≡ 12) (a : AllPositive es) (f : (v : ℕ) → v < length ds → get_or es v 0 ≡ get_or ds v 0) where
  signs_clause : {k : ℕ} {bs : List Binding} → Rising ds k bs → sets_from (map full es) (replicate 12 0) bs ≡ clause_of es bs
  signs_clause r = rw long at (sets_clause es r)

  grown-add : (c : ℕ) (rs : List Row) {bs : List Binding} → Rising ds 0 bs
      → grown c (sets_from (map full es) (replicate 12 0) bs) rs ≡ cond (eqb c 0) rs (add es c rs (clause_of es bs))
  unfolding grown add
  grown-add c rs {bs} r = rw (signs_clause r, valid_plain (clause_valid a f r))

  coded_entries : (bs : List Binding) (rs : List Row) (ws : List ℕ) → WellFormed ds (entries_from bs ws)
      → (coded_by (map full es) (record { signs = sets_from (map full es) (replicate 12 0) bs; rows = rs }) ws).rows ≡ encode_onto es rs (entries_from bs ws)
  unfolding coded_by coded_after signs_after grown entries_from encode_onto sets_from
  coded_entries bs rs [] g = refl
  coded_entries bs rs (w ∷ ws) g = go (eqb (kind_of w) 3) (closes_entry w) refl refl (λ bs rs. coded_entries bs rs ws) g
    where
      fs : List ℕ
      fs = map full es

      s : List ℕ
      s = sets_from fs (replicate 12 0) bs

      b : Binding
      b = record { variable = variable_in w; value = value_in w }

      go : (x y : Bool) → eqb (kind_of w) 3 ≡ x → closes_entry w ≡ y
          → ((bs : List Binding) (rs : List Row) → WellFormed ds (entries_from bs ws)
          → (coded_by fs (record { signs = sets_from fs (replicate 12 0) bs; rows = rs }) ws).rows ≡ encode_onto es rs (entries_from bs ws))
          → WellFormed ds
          (cond x (entries_from (bs ++ (b ∷ [])) ws) (cond y (record { bindings = bs; cost = cost_of w } ∷ entries_from [] ws) (entries_from bs ws)))
          → (coded_by fs
          (record {
            signs = cond x (set s (variable_in w) (get_or fs (variable_in w) 0 - 2 ^ value_in w)) (cond y (replicate 12 0) s);
            rows = grown (cost_of w) s rs;
          })
          ws).rows
          ≡ encode_onto es rs
          (cond x (entries_from (bs ++ (b ∷ [])) ws) (cond y (record { bindings = bs; cost = cost_of w } ∷ entries_from [] ws) (entries_from bs ws)))
      go true true e f ih g = absurd (both_kinds w e f)
      go true false e f ih g =
          rw (unclosed_costs_none w f)
          (ap (λ s. (coded_by fs (record { signs = s; rows = rs }) ws).rows) (sym (sets_more fs (replicate 12 0) bs b)) ∙ ih (bs ++ (b ∷ [])) rs g)
      go false true e f ih (cons_entries r g) =
          ih [] (grown (cost_of w) s rs) g ∙ ap (λ q. encode_onto es q (entries_from [] ws)) (grown-add (cost_of w) rs r)
      go false false e f ih g = rw (unclosed_costs_none w f) (ih bs rs g)

  pub coded_encoded : (ws : List ℕ) → WellFormed ds (entries_from [] ws)
      → (coded_by (map full es) (record { signs = replicate 12 0; rows = [] }) ws).rows ≡ encode_onto es [] (entries_from [] ws)
  unfolding sets_from
  coded_encoded ws g = coded_entries [] [] ws g

-- ---- costs

-- the costs of entries together
unfoldable pub total : List Entry → ℕ
total [] = 0
total (e ∷ es) = e.cost + total es

pub costs_total : (bs : List Binding) (ws : List ℕ) → costs_in ws ≡ total (entries_from bs ws)
unfolding costs_in total entries_from
costs_total bs [] = refl
costs_total bs (w ∷ ws) = go (eqb (kind_of w) 3) (closes_entry w) refl refl (λ bs. costs_total bs ws)
  where
    b : Binding
    b = record { variable = variable_in w; value = value_in w }

    go : (x y : Bool) → eqb (kind_of w) 3 ≡ x → closes_entry w ≡ y → ((bs : List Binding) → costs_in ws ≡ total (entries_from bs ws))
        → cost_of w + costs_in ws
        ≡ total (cond x (entries_from (bs ++ (b ∷ [])) ws) (cond y (record { bindings = bs; cost = cost_of w } ∷ entries_from [] ws) (entries_from bs ws)))
    go true true e f ih = absurd (both_kinds w e f)
    go true false e f ih = omega (arith, ih (bs ++ (b ∷ [])), unclosed_costs_none w f)
    go false true e f ih = omega (arith, ih [])
    go false false e f ih = omega (arith, ih bs, unclosed_costs_none w f)
