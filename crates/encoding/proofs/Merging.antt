-- One clause merged into rows: which signs the rows then have, how many they are, what they weigh together, and the raw rows that carry them.
use Prim.Native.Nat.{ℕ, zero, suc, ◌+◌, ◌≤◌}
use native.Mathlib.Nat.{le_of_suc-le-suc}
use native.Mathlib.Omega.{arith}
use mathlib.Core.Path.{◌≡◌, refl, sym, ap, ◌∙◌}
use mathlib.Core.Bool.{Bool, true, false, ◌||◌, cond}
use mathlib.Core.List.{List, [], ◌∷◌, ◌++◌, map}
use lib.ListN.{length, get_or}
use lib.Dec.{eqb}
use Rattle.std.specs.Prelude.{Option, Some, None}
use Rattle.wcsp.specs.Clause.{same}
use Rattle.wcsp.specs.Row.{Row, merge, Absent, nil_absent, cons_absent}
use Rattle.wcsp.specs.Resolve.{no_row}
use Rattle.wcsp.proofs.Lists.{same-eq, same_sym}
use Rattle.wcsp.proofs.Adding.{row_of}
use Rattle.clause.specs.declared.Clause.{Clause}
use Rattle.clause.specs.Packed.{signs_of, FitsBlocks}
use Rattle.rows.specs.Raw.{max_weight, no_raw, weight_in, raw_row, find_from, reweighed}
use Rattle.rows.proofs.RowWords.{weight_raw_row}
use Rattle.storing.specs.Adding.{added_at, added}
use Rattle.table.specs.Clauses.{clause_from}
use Rattle.table.specs.Valid.{has_signs}
use Rattle.table.specs.Raws.{raw_of}
use Rattle.table.proofs.Twelve.{Twelve, clause_from_signs}
use Rattle.table.proofs.Carried.{AllCarried, nil_carried, cons_carried}
use Rattle.table.proofs.Finding.{FirstWith, found_at, found_missing}
use Rattle.encoding.specs.Coding.{grown}

-- ---- signs and number

absorb : (a b c : Bool) → a ≡ c → cond a true b ≡ (cond a true b || c)
absorb true b c e = refl
absorb false true c e = refl
absorb false false c e = e

regroup : (a b c : Bool) → cond a true (b || c) ≡ (cond a true b || c)
regroup true b c = refl
regroup false b c = refl

itself : (a : Bool) → cond a true false ≡ a
itself true = refl
itself false = refl

-- a row has the signs d if one had them, or if the clause has
pub has-merge : (u : ℕ) (rs : List Row) (c d : List ℕ) → has_signs d (merge u rs c) ≡ (has_signs d rs || same c d)
unfolding has_signs merge
has-merge u [] c d = itself (same d c) ∙ same_sym d c
has-merge u (r ∷ rs) c d = go (same r.signs c) refl (has-merge u rs c d)
  where
    go : (b : Bool) → same r.signs c ≡ b → has_signs d (merge u rs c) ≡ (has_signs d rs || same c d)
        → has_signs d (cond b (row_of r.signs (r.weight + u) ∷ rs) (r ∷ merge u rs c)) ≡ (cond (same d r.signs) true (has_signs d rs) || same c d)
    go true e ih =
        absorb (same d r.signs) (has_signs d rs) (same c d) (same_sym d r.signs ∙ ap (λ x. same x d) (same-eq r.signs c e))
    go false e ih = ap (λ b. cond (same d r.signs) true b) ih ∙ regroup (same d r.signs) (has_signs d rs) (same c d)

pub length-merge : (u : ℕ) (rs : List Row) (c : List ℕ) → length (merge u rs c) ≡ length rs + cond (has_signs c rs) 0 1
unfolding has_signs merge
length-merge u [] c = refl
length-merge u (r ∷ rs) c = rw (same_sym c r.signs) (go (same r.signs c) (length-merge u rs c))
  where
    go : (b : Bool) → length (merge u rs c) ≡ length rs + cond (has_signs c rs) 0 1
        → length (cond b (row_of r.signs (r.weight + u) ∷ rs) (r ∷ merge u rs c)) ≡ suc (length rs) + cond (cond b true (has_signs c rs)) 0 1
    go true ih = omega arith
    go false ih = omega arith

-- ---- weights

-- the weights together
unfoldable pub heft : List Row → ℕ
heft [] = 0
heft (r ∷ rs) = r.weight + heft rs

pub heft-at : (rs : List Row) (k : ℕ) → (get_or rs k no_row).weight ≤ heft rs
unfolding heft
heft-at [] k = omega arith
heft-at (r ∷ rs) zero = omega arith
heft-at (r ∷ rs) (suc k) = omega (arith, heft-at rs k)

pub heft-merge : (u : ℕ) (rs : List Row) (c : List ℕ) → heft (merge u rs c) ≡ heft rs + u
unfolding heft merge
heft-merge u [] c = omega arith
heft-merge u (r ∷ rs) c = go (same r.signs c) (heft-merge u rs c)
  where
    go : (b : Bool) → heft (merge u rs c) ≡ heft rs + u
        → heft (cond b (row_of r.signs (r.weight + u) ∷ rs) (r ∷ merge u rs c)) ≡ r.weight + heft rs + u
    go true ih = omega arith
    go false ih = omega arith

-- ---- twelve signs to a row

pub data AllTwelve : List Row → Type 0 where
  nil_twelve : AllTwelve []
  cons_twelve : {r : Row} {rs : List Row} → Twelve r.signs → AllTwelve rs → AllTwelve (r ∷ rs)

pub twelve_merge : (u : ℕ) {rs : List Row} (c : List ℕ) → Twelve c → AllTwelve rs → AllTwelve (merge u rs c)
unfolding merge
twelve_merge u c t nil_twelve = cons_twelve {r = row_of c u} t nil_twelve
twelve_merge u c t (cons_twelve {r = r} {rs = rs} h s) = go (same r.signs c) (twelve_merge u c t s)
  where
    go : (b : Bool) → AllTwelve (merge u rs c) → AllTwelve (cond b (row_of r.signs (r.weight + u) ∷ rs) (r ∷ merge u rs c))
    go true ih = cons_twelve {r = row_of r.signs (r.weight + u)} h s
    go false ih = cons_twelve h ih

-- so raw rows carry them, if they weigh little together
pub carried_twelve : {rs : List Row} → AllTwelve rs → heft rs ≤ max_weight → AllCarried rs
unfolding heft
carried_twelve nil_twelve l = nil_carried
carried_twelve (cons_twelve {r = r} h s) l = cons_carried {r = r} (record { twelve = h; light = omega arith }) (carried_twelve s (omega arith))

-- ---- raw rows

-- no row has the signs: the clause comes last
merge_missing : (u : ℕ) {c : List ℕ} {rs : List Row} → Absent c rs → map raw_of (merge u rs c) ≡ map raw_of rs ++ (raw_of (row_of c u) ∷ [])
unfolding merge
merge_missing u nil_absent = refl
merge_missing u (cons_absent {r = r} e a) = rw e (ap (λ l. raw_of r ∷ l) (merge_missing u a))

first_below : {c : List ℕ} {r : Row} {rs : List Row} {k : ℕ} → FirstWith c (r ∷ rs) (suc k) → FirstWith c rs k
first_below f = record { within = le_of_suc-le-suc f.within; has = f.has; before = λ i l. f.before (suc i) (omega arith) }

-- row k is the first that has them: it gains the weight
merge_first : (u : ℕ) (c : List ℕ) {rs : List Row} (k : ℕ) → AllCarried rs → FirstWith c rs k
    → map raw_of (merge u rs c) ≡ reweighed (map raw_of rs) k (weight_in (get_or (map raw_of rs) k no_raw) + u)
unfolding merge reweighed
merge_first u c k nil_carried f = absurd (omega (arith, f.within))
merge_first u c zero (cons_carried {r = r} {rs = rs} h t) f =
    let p : weight_in (raw_of r) ≡ r.weight = weight_raw_row (clause_from r.signs) r.weight h.light in
    rw (f.has, p)
merge_first u c (suc k) (cons_carried {r = r} {rs = rs} h t) f =
    rw (f.before 0 (omega arith)) (ap (λ l. raw_of r ∷ l) (merge_first u c k t (first_below f)))

-- adding to the raw rows is adding to the rows
pub added-grown : (rs : List Row) (x : Clause) (u : ℕ) → AllCarried rs → FitsBlocks x → added (map raw_of rs) x u ≡ map raw_of (grown u (signs_of x) rs)
unfolding added added_at grown
added-grown rs x u h p = go (eqb u 0) (find_from (raw_row x 0) 0 (map raw_of rs)) refl
  where
    go : (b : Bool) (f : Option ℕ) → find_from (raw_row x 0) 0 (map raw_of rs) ≡ f
        → cond b (map raw_of rs) (added_at f (map raw_of rs) x u) ≡ map raw_of (cond b rs (merge u rs (signs_of x)))
    go true f e = refl
    go false (Some k) e = sym (merge_first u (signs_of x) k h (found_at x h k e))
    go false None e =
        let q : raw_of (row_of (signs_of x) u) ≡ raw_row x u = ap (λ y. raw_row y u) (clause_from_signs x) in
        sym (merge_missing u (found_missing x h e) ∙ ap (λ r. map raw_of rs ++ (r ∷ [])) q)
