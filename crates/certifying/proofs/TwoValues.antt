-- A sheet with one variable of two values: the run makes its one step and is done, and the words that it wrote can be no others, for they are accepted.
use Prim.Native.Nat.{ℕ, zero, suc, ◌≤◌, ◌<◌}
use native.Mathlib.Omega.{arith}
use mathlib.Core.Path.{◌≡◌, refl, sym, ap, ap₂, subst, ◌∙◌}
use mathlib.Core.Logic.{◌⊎◌, inl, inr}
use mathlib.Core.Bool.{Bool, true, false, false≢true, cond}
use mathlib.Core.List.{List, [], ◌∷◌, ◌++◌, append-nil}
use mathlib.Core.Option.{Option, none, some}
use lib.ListN.{length, get_or, take, replicate, length-replicate}
use lib.Seq.{get_or-take}
use lib.Dec.{eqb}
use borrow.Author.Tests.{eqb-true}
use Rattle.wcsp.specs.Sign.{full as full_sign, complement, within, present}
use Rattle.wcsp.specs.Clause.{InRange, nil, cons, tautology, same, bucket}
use Rattle.wcsp.specs.Row.{Row, ◌weighted◌, add_all}
use Rattle.wcsp.specs.Entry.{encoded, cost, matches}
use Rattle.wcsp.specs.Rule.{conclusions, permitted}
use Rattle.wcsp.specs.Resolve.{Pair, next_pair, resolve}
use Rattle.words.specs.Layout.{kind_of, step_word}
use Rattle.fields.specs.Front.{head_in, headed, size_in}
use Rattle.fields.specs.Entries.{entries_from}
use Rattle.fields.specs.Forbidden.{has_forbidden}
use Rattle.entries.specs.Entries.{scan_closing, scan_word, scan_binding, scan_cost}
use Rattle.littleendian.specs.Words.{words_in, bytes_of}
use Rattle.input.specs.Instance.{instance_fault, sizes_of, entries_of}
use Rattle.sheet.specs.Sheet.{stations_from, positions_of, sheet_sizes}
use Rattle.table.specs.Layout.{capacity_in, capacity}
use Rattle.making.specs.Made.{made_words}
use Rattle.encoding.specs.Calls.{encoded_rows, encode_call}
use Rattle.stepping.specs.Step.{word_pair}
use Rattle.checker.specs.Answer.{CheckAnswer}
use Rattle.checker.specs.Replay.{permitted_pair, named_pair, replay}
use Rattle.checker.specs.Calls.{check_call, judged}
use Rattle.checker.specs.Theorems.{Best}
use Rattle.checker.proofs.Replaying.{permitted_told}
use Rattle.calls.specs.Calls.{Derives, stop, step}
use Rattle.calls.specs.Demand.{RunEnds, none_left, limit_met, no_room}
use Rattle.planning.specs.Values.{Ending, Solved}
use Rattle.planning.specs.Theorems.{ClaimAccepted, RunIn, SheetMeansIn, faulty, long_instance, many_rows, none_allowed, planned, paused, full, MeansIn, too_long, no_words, of_words}
use Rattle.text.specs.Text.{plan_head, variable_line}
use Rattle.listing.specs.Listed.{metres_to, variable_lines}
use Rattle.printing.specs.Printed.{ending_text, solved_text}
use Rattle.certificate.specs.Certificate.{certificate_words}
use Rattle.verifying.specs.Verified.{most_derivation, work_words}
use Rattle.verifying.specs.Witness.{claim_bytes, two_values, two_made}
use Rattle.verifying.proofs.Witness.{sheets}
use Rattle.certifying.specs.Certified.{ample_room, amply_solved, certified_text, ending_certificate, solved_certificate, certificate_of}
use Rattle.certifying.proofs.Planned.{amply_means, planned_claim}

-- ---- the rows

abbrev before : List Row
before = (2 ∷ []) weighted 3 ∷ (1 ∷ []) weighted 1 ∷ []

abbrev after : List Row
after = (2 ∷ []) weighted 2 ∷ (0 ∷ []) weighted 1 ∷ []

abbrev both : Pair
both = record { variable = 0; first = 0; second = 1 }

record Computed : Type 0 where
  sizes : sizes_of two_made ≡ 2 ∷ []
  rows : encoded_rows two_made ≡ before
  pair : next_pair (2 ∷ []) before ≡ some both
  resolved : resolve (2 ∷ []) both before ≡ after
  ended : next_pair (2 ∷ []) after ≡ none
  free : has_forbidden (entries_of two_made) (1 ∷ []) ≡ false
  zero_costs : cost (entries_of two_made) (0 ∷ []) ≡ 3
  one_costs : cost (entries_of two_made) (1 ∷ []) ≡ 1

computed : Computed
unfolding sizes_of entries_of entries_from encoded add_all tautology same full_sign next_pair bucket permitted conclusions resolve within present complement has_forbidden cost matches
computed =
    record {
      sizes = refl;
      rows = refl;
      pair = refl;
      resolved = refl;
      ended = refl;
      free = refl;
      zero_costs = refl;
      one_costs = refl;
    }

-- ---- the steps

pair_in_lem : Option Pair → Pair
pair_in_lem (some p) = p
pair_in_lem none = both

none-some : (pr : Pair) → none ≡ some pr → ⊥
none-some pr e = let z : ◌≡◌ {A = ℕ} 0 1 = cc in omega arith

-- a pair of the first rows is theirs
one_pair : (rs : List Row) (pr : Pair) → rs ≡ before → next_pair (2 ∷ []) rs ≡ some pr → resolve (2 ∷ []) pr rs ≡ after
unfolding pair_in_lem
one_pair rs pr e f =
    let g : pr ≡ both = ap pair_in_lem (sym f ∙ ap (next_pair (2 ∷ [])) e ∙ computed.pair) in
    ap₂ (resolve (2 ∷ [])) g e ∙ computed.resolved

-- there is none behind it
no_pair_lem : (rs : List Row) (pr : Pair) → rs ≡ after → next_pair (2 ∷ []) rs ≡ some pr → ⊥
no_pair_lem rs pr e f = none-some pr (sym computed.ended ∙ ap (next_pair (2 ∷ [])) (sym e) ∙ f)

-- what so many steps lead to
abbrev Led : ℕ → List Row → Type 0
Led k rs = ((k ≡ 0) × (rs ≡ before)) ⊎ ((k ≡ 1) × (rs ≡ after))

led-after : {rs rs' : List Row} (ws : List ℕ) → rs ≡ after → Derives (2 ∷ []) rs ws rs' → (length ws ≡ 0) × (rs' ≡ after)
led-after [] e stop = (refl, e)
led-after {rs = rs} (w ∷ ws) e (step pr f d) = absurd (no_pair_lem rs pr e f)

led : {rs rs' : List Row} (ws : List ℕ) → rs ≡ before → Derives (2 ∷ []) rs ws rs' → Led (length ws) rs'
led [] e stop = inl (refl, e)
led {rs = rs} (w ∷ ws) e (step pr f d) = let (n, is) = led-after ws (one_pair rs pr e f) d in inr (ap suc n, is)

-- a run of them makes one step, and is done
ends : (cap steps : ℕ) (rs : List Row) (a b : ℕ) → 2 ≤ cap → Led steps rs → RunEnds (2 ∷ []) cap most_derivation steps rs a b → (steps ≡ 1) × (b ≡ 0)
ends cap steps rs a b room (inl (n, e)) (none_left f) = absurd (none-some both (sym f ∙ ap (next_pair (2 ∷ [])) e ∙ computed.pair))
ends cap steps rs a b room (inl (n, e)) (limit_met l pr f) = absurd (omega arith)
ends cap steps rs a b room (inl (n, e)) (no_room l pr f m) = absurd (let k = ap (λ (rs : List Row). length rs) (one_pair rs pr e f) in omega (arith, k))
ends cap steps rs a b room (inr (n, e)) (none_left f) = (n, refl)
ends cap steps rs a b room (inr (n, e)) (limit_met l pr f) = absurd (no_pair_lem rs pr e f)
ends cap steps rs a b room (inr (n, e)) (no_room l pr f m) = absurd (no_pair_lem rs pr e f)

one_step_lem : (steps b number field : ℕ) → RunIn ample_room two_made steps b number field → (steps ≡ 1) × (field ≡ 0)
unfolding capacity_in
one_step_lem steps b number field r =
    let d = subst (λ ds. Derives ds (encoded_rows two_made) r.words r.rows) computed.sizes r.derived in
    let l : Led steps r.rows = subst (λ k. Led k r.rows) r.made (led r.words computed.rows d) in
    let e = subst (λ ds. RunEnds ds (capacity work_words (length ds)) most_derivation steps r.rows number field) computed.sizes r.ends in
    ends (capacity work_words 1) steps r.rows number field (omega arith) l e

-- ---- the assignment

value_one : (m v : ℕ) → v < 2 → m ≤ 1 → cost (entries_of two_made) (v ∷ []) ≡ m → ((v ∷ []) ≡ 1 ∷ []) × (m ≡ 1)
value_one m zero h l e = absurd (omega (arith, e, computed.zero_costs))
value_one m (suc zero) h l e = (refl, sym e ∙ computed.one_costs)
value_one m (suc (suc v)) h l e = absurd (omega arith)

one : InRange (2 ∷ []) (1 ∷ [])
one = let h : 1 < 2 = omega arith in cons h nil

best_one : (p : List ℕ) (m : ℕ) → Best (2 ∷ []) (entries_of two_made) p m → (p ≡ 1 ∷ []) × (m ≡ 1)
best_one p m b = go b.in_range b.attained
  where
    go : {q : List ℕ} → InRange (2 ∷ []) q → cost (entries_of two_made) q ≡ m → (q ≡ 1 ∷ []) × (m ≡ 1)
    go (cons {b = v} h nil) e = value_one m v h (omega (arith, b.least (1 ∷ []) one, computed.one_costs)) e

-- ---- what the sheet comes to

-- a plan at cost 1 after one step
record OneStep (s : Solved) : Type 0 where
  ending : s.ending ≡ Ending.Planned
  steps : s.steps ≡ 1
  bound : s.bound ≡ 1
  plan : take 1 s.plan ≡ 1 ∷ []

sizes_two : sheet_sizes (words_in two_values) ≡ 2 ∷ []
unfolding words_in bytes_of sheet_sizes positions_of stations_from
sizes_two = refl

few : length (encoded_rows two_made) ≤ capacity work_words 1
unfolding capacity_in
few = rw computed.rows (omega arith)

comes : (s : Solved) → SheetMeansIn ample_room (words_in two_values) s → OneStep s
comes _ (faulty k e low high) = absurd (omega (arith, e, sheets.two.fine))
comes _ (long_instance e h) = absurd (let l = ap (λ (l : List ℕ). length l) sheets.two.makes in omega (arith, h, l))
comes _ (many_rows e h m) = absurd (let n = rw (sheets.two.makes, sizes_two) at m in omega (arith, n, few))
comes _ (none_allowed steps b h all r) = absurd (false≢true (sym computed.free ∙ rw (sheets.two.makes, computed.sizes) at all (1 ∷ []) one))
comes _ (planned plan steps least h best f r) =
    let (p, m) = best_one (take 1 plan) least (rw (sheets.two.makes, sizes_two, computed.sizes) at best) in
    record { ending = refl; steps = (one_step_lem steps least 0 0 (rw sheets.two.makes at r)).0; bound = m; plan = p }
comes _ (paused steps b h n r) = absurd (omega (arith, (one_step_lem steps b 0 1 (rw sheets.two.makes at r)).1))
comes _ (full steps b h n r) = absurd (omega (arith, (one_step_lem steps b 12 2 (rw sheets.two.makes at r)).1))

amply : (s : Solved) → MeansIn ample_room two_values s → OneStep s
amply _ (too_long h) = absurd (omega (arith, h, sheets.two.short))
amply _ (no_words h n) = absurd (n sheets.two.whole)
amply _ (of_words s h m means) = comes s means

two_comes : OneStep (amply_solved two_values).answer
two_comes = amply (amply_solved two_values).answer (amply_means two_values)

-- ---- the words of the step

-- a word that names no pair is refused
unnamed : (t : List ℕ) → length t ≡ work_words → (w : ℕ) → named_pair (2 ∷ []) before w ≡ none → (check_call two_made (w ∷ []) (1 ∷ []) 1 t).answer.number ≡ 6
unfolding check_call judged replay encode_call instance_fault scan_closing scan_word scan_binding scan_cost head_in headed size_in entries_from sizes_of entries_of encoded add_all tautology same full_sign capacity_in
unnamed t e w f = rw (e, f)

named : (w : ℕ) → (named_pair (2 ∷ []) before w ≡ none → ⊥) → w ≡ step_word 0 0 1
unfolding named_pair
named w = go (eqb (kind_of w) 7) (permitted_pair (2 ∷ []) before (word_pair w)) refl refl
  where
    go : (b : Bool) (o : Option Pair) → eqb (kind_of w) 7 ≡ b → permitted_pair (2 ∷ []) before (word_pair w) ≡ o → (cond b o none ≡ none → ⊥) → w ≡ step_word 0 0 1
    go true (some pr) e f n =
        let m = permitted_told (2 ∷ []) before (word_pair w) pr f in
        omega (arith, eqb-true (kind_of w) 7 e, m.ordered, m.in_table, m.known)
    go true none e f n = absurd (n refl)
    go false o e f n = absurd (n refl)

-- so a word that is accepted is the step's
word_is : (ws t : List ℕ) → length ws ≡ 1 → length t ≡ work_words → (check_call two_made ws (1 ∷ []) 1 t).answer.number ≡ 0 → ws ≡ step_word 0 0 1 ∷ []
word_is [] t n e z = absurd (omega arith)
word_is (w ∷ []) t n e z = ap (λ x. x ∷ []) (named w (λ f. omega (arith, z, unnamed t e w f)))
word_is (w ∷ (v ∷ ws)) t n e z = absurd (omega arith)

-- ---- what is written

module _ (sheet : List ℕ) (made : made_words sheet ≡ two_made) (sizes : sheet_sizes sheet ≡ 2 ∷ []) (s : Solved) (o : OneStep s) (words : List ℕ) where
  words_are : (limit : ℕ) (work : List ℕ) → length work ≡ work_words → ClaimAccepted limit sheet work s words → take s.steps words ≡ step_word 0 0 1 ∷ []
  words_are limit work l c =
      word_is (take s.steps words) work (c.written ∙ o.steps) l
      (ap (λ (x : CheckAnswer). x.number) (rw (made, sizes, o.plan, o.bound) at c.accepted))

  certificate_is : (limit : ℕ) (work : List ℕ) → length work ≡ work_words → ClaimAccepted limit sheet work s words
      → solved_certificate sheet s words ≡ certificate_words (1 ∷ []) 1 (step_word 0 0 1 ∷ [])
  unfolding ending_certificate
  certificate_is limit work l c = rw (o.ending, sizes, o.plan, o.bound, words_are limit work l c)

  -- the line takes only the first value
  text_is : solved_text sheet s ≡ plan_head 1 1 ++ variable_line 0 1 0
  unfolding ending_text variable_lines metres_to
  text_is =
      let first : get_or s.plan 0 0 ≡ 1 = sym (get_or-take 1 s.plan 0 0 (omega arith)) ∙ ap (λ (l : List ℕ). get_or l 0 0) o.plan in
      rw (o.ending, sizes, o.steps, o.bound, first)
      (ap (λ (l : List ℕ). plan_head 1 1 ++ l) (append-nil (variable_line 0 1 0)))

pub two_certificate : certificate_of two_values ≡ claim_bytes (1 ∷ []) 1 (step_word 0 0 1 ∷ [])
two_certificate =
    ap bytes_of
    (certificate_is (words_in two_values) sheets.two.makes sizes_two (amply_solved two_values).answer two_comes (amply_solved two_values).steps most_derivation
    (replicate work_words 0) (length-replicate {A = ℕ} work_words 0) (planned_claim two_values two_comes.ending).3)

pub two_text : certified_text two_values ≡ plan_head 1 1 ++ variable_line 0 1 0
two_text = text_is (words_in two_values) sheets.two.makes sizes_two (amply_solved two_values).answer two_comes (amply_solved two_values).steps
