-- Certificates that were written are read, and words that have a claim are the certificate of what they state.
use Prim.Native.Nat.{ℕ, suc, ◌+◌, ◌*◌, ◌/◌, ◌%◌, ◌≤◌, ◌<◌}
use native.Mathlib.Omega.{arith}
use mathlib.Core.Path.{◌≡◌, refl, sym, ap, ap₂, ◌∙◌}
use mathlib.Core.Bool.{true, ◌&&◌}
use mathlib.Core.List.{List, [], ◌∷◌, ◌++◌, map, append_assoc}
use lib.ListN.{length, get_or, drop, take-append-drop, length-append, length-map, length-drop}
use lib.Seq.{take_at, get_or-append-add, drop-append-add, drop-cons, drop-drop, length-take-le}
use lib.Dec.{eqb, ltb}
use borrow.Author.Tests.{eq-eqb, eqb-true, lt-ltb, ltb-true}
use Rattle.wcsp.proofs.Lists.{and_left, and_right}
use Rattle.words.specs.Layout.{kind_of, payload_of, head_word, binding_word, value_in, weight_word, high_word}
use Rattle.fields.specs.Limits.{max_values}
use Rattle.fields.specs.Entries.{Each, nil_each, cons_each}
use Rattle.certificate.specs.Certificate.{binding_words, cost_unit, certificate_words, stated_variables, stated_bindings, stated_plan, stated_cost, stated_derivation, low_at, high_at, binds_in_order}
use Rattle.certificate.specs.Theorems.{Claimable, States, WrittenIsStated, StatedIsWritten}
use Rattle.certificate.proofs.Bindings.{length_bindings}
use Rattle.certificate.proofs.Claims.{Front, front_of, claim_of_lem}

-- ---- bindings there and back

-- the value of a binding word
value_back : (v a : ℕ) → a < max_values → value_in (binding_word v a) ≡ a
value_back v a h = omega arith

-- the values of the words that were written
values_back : (v : ℕ) (plan : List ℕ) → Each (λ a. a < max_values) plan → map value_in (binding_words v plan) ≡ plan
unfolding binding_words
values_back v [] nil_each = refl
values_back v (a ∷ plan) (cons_each h hs) = ap₂ (λ x xs. x ∷ xs) (value_back v a h) (values_back (suc v) plan hs)

-- the words that were written pass the test
written_ordered : (v : ℕ) (plan : List ℕ) → Each (λ a. a < max_values) plan → binds_in_order v (binding_words v plan) ≡ true
unfolding binding_words binds_in_order
written_ordered v [] nil_each = refl
written_ordered v (a ∷ plan) (cons_each h hs) =
    rw (value_back v a h, eq-eqb (binding_word v a) (binding_word v a) refl, lt-ltb a max_values h) (written_ordered (suc v) plan hs)

-- words that pass it have values below eight
ordered_low : (v : ℕ) (ws : List ℕ) → binds_in_order v ws ≡ true → Each (λ a. a < max_values) (map value_in ws)
unfolding binds_in_order
ordered_low v [] e = nil_each
ordered_low v (w ∷ ws) e =
    let same = eqb w (binding_word v (value_in w)) in
    let low = ltb (value_in w) max_values in
    cons_each (ltb-true (value_in w) max_values (and_right same low (and_left (same && low) (binds_in_order (suc v) ws) e)))
    (ordered_low (suc v) ws (and_right (same && low) (binds_in_order (suc v) ws) e))

-- and are the words of their values
ordered_written : (v : ℕ) (ws : List ℕ) → binds_in_order v ws ≡ true → ws ≡ binding_words v (map value_in ws)
unfolding binding_words binds_in_order
ordered_written v [] e = refl
ordered_written v (w ∷ ws) e =
    let same = eqb w (binding_word v (value_in w)) in
    let low = ltb (value_in w) max_values in
    ap₂ (λ x xs. x ∷ xs) (eqb-true w (binding_word v (value_in w)) (and_left same low (and_left (same && low) (binds_in_order (suc v) ws) e)))
    (ordered_written (suc v) ws (and_right (same && low) (binds_in_order (suc v) ws) e))

-- ---- written is stated

module _ (plan : List ℕ) (cost : ℕ) (derivation : List ℕ) (g : Claimable plan cost) where
  abbrev bindings : List ℕ
  bindings = binding_words 0 plan

  abbrev low : ℕ
  low = weight_word (cost % cost_unit)

  abbrev high : ℕ
  high = high_word (cost / cost_unit)

  -- the certificate, its parts one behind the other
  abbrev whole : List ℕ
  whole = head_word (length plan) ∷ (bindings ++ (low ∷ (high ∷ derivation)))

  -- it is what is written
  whole_is : certificate_words plan cost derivation ≡ whole
  whole_is = ap (λ ws. head_word (length plan) ∷ ws) (append_assoc bindings (low ∷ (high ∷ [])) derivation)

  -- the number of variables
  number : stated_variables whole ≡ length plan
  number = let few = g.few in omega arith

  -- the words that bind them
  bindings_are : stated_bindings whole ≡ bindings
  bindings_are = rw number (take_at bindings (low ∷ (high ∷ derivation)) (length plan) (length_bindings 0 plan))

  -- the two words of the cost
  low_is : low_at whole ≡ low
  low_is =
      let n = length_bindings 0 plan in
      let e : length plan + 1 ≡ suc (length bindings + 0) = omega arith in
      rw (number, e) (get_or-append-add bindings (low ∷ (high ∷ derivation)) 0 0)

  high_is : high_at whole ≡ high
  high_is =
      let n = length_bindings 0 plan in
      let e : length plan + 2 ≡ suc (length bindings + 1) = omega arith in
      rw (number, e) (get_or-append-add bindings (low ∷ (high ∷ derivation)) 1 0)

  -- what is behind them
  rest_is : stated_derivation whole ≡ derivation
  rest_is =
      let n = length_bindings 0 plan in
      let e : length plan + 3 ≡ suc (length bindings + 2) = omega arith in
      rw (number, e) (drop-append-add bindings (low ∷ (high ∷ derivation)) 2)

  -- the cost of the two words
  cost_is : payload_of low + payload_of high * cost_unit ≡ cost
  cost_is = let small = g.small in omega arith

  -- the kinds of the head and of those two words
  head_kind : kind_of (head_word (length plan)) ≡ 1
  head_kind = let few = g.few in omega arith

  low_kind : kind_of low ≡ 6
  low_kind = omega arith

  high_kind : kind_of high ≡ 12
  high_kind = let small = g.small in omega arith

  -- all of it is there
  whole_long : stated_variables whole + 3 ≤ length whole
  whole_long =
      let n = length_bindings 0 plan in
      let l = length-append bindings (low ∷ (high ∷ derivation)) in
      omega (arith, number, n, l)

  -- so it has a claim
  whole-front : Front whole
  whole-front = record {
    head = head_kind;
    few = rw number g.few;
    long = whole_long;
    order = rw bindings_are (written_ordered 0 plan g.values);
    low = rw low_is low_kind;
    high = rw high_is high_kind;
  }

  -- that states what was written
  whole_states : States whole plan cost derivation
  whole_states = record {
    claim = claim_of_lem whole whole-front;
    variables = number;
    plan = rw bindings_are (values_back 0 plan g.values);
    cost = rw (low_is, high_is) cost_is;
    derivation = rest_is;
  }

pub written_is_stated : WrittenIsStated
written_is_stated plan cost derivation g = rw (whole_is plan cost derivation g) (whole_states plan cost derivation g)

-- ---- stated is written

module _ (ws : List ℕ) (f : Front ws) where
  -- there are as many bindings as variables
  bindings_long : length (stated_bindings ws) ≡ stated_variables ws
  bindings_long =
      let long = f.long in
      let l = length-drop 1 ws in
      length-take-le (stated_variables ws) (drop 1 ws) (omega arith)

  -- and as many values
  plan_long : length (stated_plan ws) ≡ stated_variables ws
  plan_long = length-map (stated_bindings ws) value_in ∙ bindings_long

  -- what is stated could have been written
  stated_claimable : Claimable (stated_plan ws) (stated_cost ws)
  stated_claimable =
      let few = f.few in
      let n = plan_long in
      record {
        few = omega arith;
        values = ordered_low 0 (stated_bindings ws) f.order;
        small = omega arith;
      }

  -- the head and the cost's two words are those that are written
  head_written : get_or ws 0 0 ≡ head_word (length (stated_plan ws))
  head_written = let head = f.head in omega (arith, head, plan_long)

  low_written : low_at ws ≡ weight_word (stated_cost ws % cost_unit)
  low_written = let low = f.low in omega arith

  high_written : high_at ws ≡ high_word (stated_cost ws / cost_unit)
  high_written = let high = f.high in omega arith

  -- what is behind the bindings
  behind : drop (stated_variables ws) (drop 1 ws) ≡ low_at ws ∷ (high_at ws ∷ stated_derivation ws)
  behind =
      let long = f.long in
      let n = stated_variables ws in
      let one : 1 + n ≡ n + 1 = omega arith in
      let two : suc (n + 1) ≡ n + 2 = omega arith in
      let three : suc (n + 2) ≡ n + 3 = omega arith in
      drop-drop n 1 ws
      ∙ ap (λ k. drop k ws) one
      ∙ drop-cons ws (n + 1) 0 (omega arith)
      ∙ ap (λ k. low_at ws ∷ drop k ws) two
      ∙ ap (λ r. low_at ws ∷ r) (drop-cons ws (n + 2) 0 (omega arith))
      ∙ ap (λ k. low_at ws ∷ (high_at ws ∷ drop k ws)) three

  -- the words, cut into their parts
  parts : ws ≡ get_or ws 0 0 ∷ (stated_bindings ws ++ (low_at ws ∷ (high_at ws ∷ stated_derivation ws)))
  parts =
      let long = f.long in
      drop-cons ws 0 0 (omega arith)
      ∙ ap (λ r. get_or ws 0 0 ∷ r) (sym (take-append-drop (stated_variables ws) (drop 1 ws)) ∙ ap (λ r. stated_bindings ws ++ r) behind)

  -- and each part is what is written
  stated_is : ws ≡ certificate_words (stated_plan ws) (stated_cost ws) (stated_derivation ws)
  stated_is =
      parts
      ∙ ap (λ w. w ∷ (stated_bindings ws ++ (low_at ws ∷ (high_at ws ∷ stated_derivation ws)))) head_written
      ∙ ap (λ r. head_word (length (stated_plan ws)) ∷ (r ++ (low_at ws ∷ (high_at ws ∷ stated_derivation ws)))) (ordered_written 0 (stated_bindings ws) f.order)
      ∙ ap₂ (λ l h. head_word (length (stated_plan ws)) ∷ (binding_words 0 (stated_plan ws) ++ (l ∷ (h ∷ stated_derivation ws)))) low_written high_written
      ∙ sym (whole_is (stated_plan ws) (stated_cost ws) (stated_derivation ws) stated_claimable)

pub stated_is_written : StatedIsWritten
stated_is_written ws e = let f = front_of ws e in (stated_claimable ws f, stated_is ws f)
