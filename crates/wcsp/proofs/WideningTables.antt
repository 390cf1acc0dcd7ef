-- What is valid and in range over the widened sizes is what is so over the field's own, widened; and so is the encoding.
use Prim.Native.Nat.{ℕ, zero, suc, ◌+◌}
use native.Mathlib.Omega.{arith}
use mathlib.Core.Path.{◌≡◌, refl, sym, subst, ap, ap₂, ◌∙◌}
use mathlib.Core.Bool.{Bool, true, false, cond}
use mathlib.Core.List.{List, [], ◌∷◌}
use lib.ListN.{length, take, replicate, length-append, length-replicate, length-set, replicate-append-replicate, get_or-append}
use lib.Seq.{take_at, set-append_left}
use lib.Dec.{eqb}
use Rattle.wcsp.specs.Sign.{full}
use Rattle.wcsp.specs.Clause.{Along, nil, cons}
use Rattle.wcsp.specs.Row.{Row, add, Absent, nil_absent, cons_absent, ValidRows, nil_rows, cons_rows}
use Rattle.wcsp.specs.Entry.{Binding, Entry, Rising, nil_rising, cons_rising, WellFormed, nil_entries, cons_entries, clause_of, encode_onto, encoded}
use Rattle.wcsp.specs.Widening.{widened, wide, wide_rows, trimmed, clauses_of, Spanning, nil_spanning, cons_spanning, WideValid, WideTrims, TrimmedValid, TrimmedWide, WideInRange, WideTakes, WideEncoded, TrimmedEncoded}
use Rattle.wcsp.proofs.Lists.{along_length}
use Rattle.wcsp.proofs.WideningClauses.{same-wide}
use Rattle.wcsp.proofs.WideningRows.{add_wide, spanning_add}

-- ---- lists along the widened sizes

along_zeros : (R : ℕ → ℕ → Type 0) → R 1 0 → (k : ℕ) → Along R (replicate k 1) (replicate k 0)
along_zeros R h zero = nil
along_zeros R h (suc k) = cons h (along_zeros R h k)

along_wide : {R : ℕ → ℕ → Type 0} (k : ℕ) {ds c : List ℕ} → R 1 0 → Along R ds c → Along R (widened k ds) (wide k c)
along_wide {R} k h nil = along_zeros R h k
along_wide k h (cons r a) = cons r (along_wide k h a)

along_narrow : {R : ℕ → ℕ → Type 0} (k : ℕ) (ds c : List ℕ) → Along R (widened k ds) (wide k c) → Along R ds c
along_narrow k [] [] a = nil
along_narrow k [] (S ∷ c) a = absurd (omega (arith, simp (length-append, length-replicate) at (along_length a)))
along_narrow k (d ∷ ds) [] a = absurd (omega (arith, simp (length-append, length-replicate) at (along_length a)))
along_narrow k (d ∷ ds) (S ∷ c) (cons r a) = cons r (along_narrow k ds c a)

-- where a variable of one value leaves 0 alone, the rest is zeros
along_takes : {R : ℕ → ℕ → Type 0} (k : ℕ) (ds q : List ℕ) → ((v : ℕ) → R 1 v → v ≡ 0) → Along R (widened k ds) q
    → q ≡ wide k (take (length ds) q)
along_takes {R = R} zero [] (v ∷ q) only x6 = elim x6 [ ]
along_takes {R = R} (suc k) [] [] only x6 = elim x6 [ ]
along_takes {R = R} k (d ∷ ds) [] only x4 = elim x4 [ ]
along_takes zero [] [] only nil = refl
along_takes (suc k) [] (v ∷ q) only (cons r a) = ap₂ (λ b c. b ∷ c) (only v r) (along_takes k [] q only a)
along_takes k (d ∷ ds) (v ∷ q) only (cons r a) = ap (λ c. v ∷ c) (along_takes k ds q only a)

pub wide_in_range : WideInRange
wide_in_range k ds p = (λ r. along_wide k (omega arith) r, λ r. along_narrow k ds p r)

pub wide_takes : WideTakes
wide_takes k ds q r = along_takes k ds q (λ v h. omega arith) r

-- ---- valid rows

one_full : full 1 ≡ 1
unfolding full
one_full = refl

absent_wide : (k : ℕ) {c : List ℕ} {rs : List Row} → Absent c rs → Absent (wide k c) (wide_rows k rs)
unfolding wide_rows
absent_wide k nil_absent = nil_absent
absent_wide k {c} (cons_absent {r = r} e a) = cons_absent (same-wide k r.signs c ∙ e) (absent_wide k a)

absent_narrow : (k : ℕ) (c : List ℕ) (rs : List Row) → Absent (wide k c) (wide_rows k rs) → Absent c rs
unfolding wide_rows
absent_narrow k c [] a = nil_absent
absent_narrow k c (r ∷ rs) (cons_absent e a) = cons_absent (sym (same-wide k r.signs c) ∙ e) (absent_narrow k c rs a)

valid_wide : (k : ℕ) {ds : List ℕ} {rs : List Row} → ValidRows ds rs → ValidRows (widened k ds) (wide_rows k rs)
unfolding wide_rows
valid_wide k nil_rows = nil_rows
valid_wide k (cons_rows v w a t) = cons_rows (along_wide k (omega (arith, one_full)) v) w (absent_wide k a) (valid_wide k t)

valid_narrow : (k : ℕ) (ds : List ℕ) (rs : List Row) → ValidRows (widened k ds) (wide_rows k rs) → ValidRows ds rs
unfolding wide_rows
valid_narrow k ds [] v = nil_rows
valid_narrow k ds (r ∷ rs) (cons_rows v w a t) =
    cons_rows (along_narrow k ds r.signs v) w (absent_narrow k r.signs rs a) (valid_narrow k ds rs t)

pub wide_valid : WideValid
wide_valid k ds rs = (λ v. valid_wide k v, λ v. valid_narrow k ds rs v)

pub valid_spanning : {ds : List ℕ} {rs : List Row} → ValidRows ds rs → Spanning (length ds) (clauses_of rs)
valid_spanning nil_rows = nil_spanning
valid_spanning (cons_rows v w a t) = cons_spanning (sym (along_length v)) (valid_spanning t)

pub wide_trims : WideTrims
unfolding wide_rows trimmed
wide_trims k ds [] nil_rows = refl
wide_trims k ds (r ∷ rs) (cons_rows v w a t) =
    ap₂ (λ c t. record { signs = c; weight = r.weight } ∷ t)
    (along_takes k ds r.signs (λ S h. omega (arith, one_full)) v) (wide_trims k ds rs t)

pub trimmed_valid : TrimmedValid
trimmed_valid k ds rs v = valid_narrow k ds (trimmed (length ds) rs) (subst (λ t. ValidRows (widened k ds) t) (wide_trims k ds rs v) v)

pub trimmed_wide : TrimmedWide
unfolding wide_rows trimmed
trimmed_wide k n [] nil_spanning = refl
trimmed_wide k n (r ∷ rs) (cons_spanning e s) =
    ap₂ (λ c t. record { signs = c; weight = r.weight } ∷ t) (take_at r.signs (replicate k 0) n e) (trimmed_wide k n rs s)

-- ---- the encoding

clause_length : (ds : List ℕ) (bs : List Binding) → length (clause_of ds bs) ≡ length ds
unfolding clause_of
clause_length ds [] = length-replicate (length ds) 0
clause_length ds (b ∷ bs) = simp length-set (clause_length ds bs)

clause_wide : (k : ℕ) {ds : List ℕ} {m : ℕ} {bs : List Binding} → Rising ds m bs → clause_of (widened k ds) bs ≡ wide k (clause_of ds bs)
unfolding clause_of
clause_wide k {ds} nil_rising =
    ap (λ n. replicate n 0) (length-append ds (replicate k 1) ∙ ap (λ n. length ds + n) (length-replicate k 1))
    ∙ sym (replicate-append-replicate (length ds) k 0)
clause_wide k {ds} (cons_rising {b = b} {bs = bs} l h v r) =
    rw (clause_wide k r, get_or-append ds (replicate k 1) 0 b.variable h)
    (set-append_left (clause_of ds bs) (replicate k 0) b.variable _ (let e = clause_length ds bs in omega arith))

onto_wide : (k : ℕ) {ds : List ℕ} (rs : List Row) {es : List Entry} → WellFormed ds es
    → encode_onto (widened k ds) (wide_rows k rs) es ≡ wide_rows k (encode_onto ds rs es)
unfolding encode_onto
onto_wide k rs nil_entries = refl
onto_wide k {ds} rs (cons_entries {e = e} {es = es} r w) =
    ap (λ t. encode_onto (widened k ds) t es)
    (rw (clause_wide k r, add_wide k ds e.cost rs (clause_of ds e.bindings) (clause_length ds e.bindings)) (go (eqb e.cost 0)))
    ∙ onto_wide k (cond (eqb e.cost 0) rs (add ds e.cost rs (clause_of ds e.bindings))) w
  where
    go : (b : Bool) → cond b (wide_rows k rs) (wide_rows k (add ds e.cost rs (clause_of ds e.bindings)))
        ≡ wide_rows k (cond b rs (add ds e.cost rs (clause_of ds e.bindings)))
    go true = refl
    go false = refl

pub wide_encoded : WideEncoded
unfolding encoded wide_rows
wide_encoded k ds es w = onto_wide k [] w

spanning_onto : (ds : List ℕ) (rs : List Row) (es : List Entry) → Spanning (length ds) (clauses_of rs)
    → Spanning (length ds) (clauses_of (encode_onto ds rs es))
unfolding encode_onto
spanning_onto ds rs [] s = s
spanning_onto ds rs (e ∷ es) s =
    spanning_onto ds (cond (eqb e.cost 0) rs (add ds e.cost rs (clause_of ds e.bindings))) es (go (eqb e.cost 0))
  where
    go : (b : Bool) → Spanning (length ds) (clauses_of (cond b rs (add ds e.cost rs (clause_of ds e.bindings))))
    go true = s
    go false = spanning_add ds e.cost rs (clause_of ds e.bindings) (clause_length ds e.bindings) s

pub trimmed_encoded : TrimmedEncoded
unfolding encoded
trimmed_encoded k ds es w =
    ap (trimmed (length ds)) (wide_encoded k ds es w)
    ∙ trimmed_wide k (length ds) (encode_onto ds [] es) (spanning_onto ds [] es nil_spanning)
