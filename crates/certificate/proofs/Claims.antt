-- What the test of a claim asks of the words, part by part, and what the code answers where one of the parts is missing.
use Prim.Native.Nat.{ℕ, ◌+◌, ◌-◌, ◌*◌, ◌≤◌, ◌<◌}
use native.Mathlib.Nat.{add-sub_cancel}
use native.Mathlib.Omega.{arith}
use mathlib.Core.Path.{◌≡◌, refl, sym, ap, ◌∙◌}
use mathlib.Core.Bool.{Bool, true, false, ◌&&◌, cond, false≢true}
use mathlib.Core.List.{List, ◌++◌, map}
use lib.ListN.{length, get_or, take, drop, length-drop}
use lib.Seq.{length-take-le}
use lib.Dec.{eqb, leb}
use borrow.Author.Tests.{eqb-true, eq-eqb, leb-true, le-leb}
use Rattle.wcsp.proofs.Lists.{and_left, and_right}
use Rattle.words.specs.Layout.{kind_of, payload_of, value_in}
use Rattle.fields.specs.Limits.{max_variables}
use Rattle.certificate.specs.declared.Claim.{Claim}
use Rattle.certificate.specs.Certificate.{stated_variables, stated_bindings, stated_plan, stated_cost, low_at, high_at, cost_unit, binds_in_order, has_claim}
use Rattle.certificate.specs.Claim.{claim_of}

-- the parts of a claim
pub record Front (ws : List ℕ) : Type 0 where
  pub head : kind_of (get_or ws 0 0) ≡ 1
  pub few : stated_variables ws ≤ max_variables
  pub long : stated_variables ws + 3 ≤ length ws
  pub order : binds_in_order 0 (stated_bindings ws) ≡ true
  pub low : kind_of (low_at ws) ≡ 6
  pub high : kind_of (high_at ws) ≡ 12

-- a claim has them
pub front_of : (ws : List ℕ) → has_claim ws ≡ true → Front ws
unfolding has_claim
front_of ws e = go _ _ _ _ _ _ refl refl refl refl refl refl e
  where
    go : (a b c d f g : Bool) → eqb (kind_of (get_or ws 0 0)) 1 ≡ a → leb (stated_variables ws) max_variables ≡ b → leb (stated_variables ws + 3) (length ws) ≡ c
        → binds_in_order 0 (stated_bindings ws) ≡ d → eqb (kind_of (low_at ws)) 6 ≡ f → eqb (kind_of (high_at ws)) 12 ≡ g
        → (a && b && c && d && f && g) ≡ true → Front ws
    go a b c d f g ea eb ec ed ef eg e =
        let e₁ = and_left (a && b && c && d && f) g e in
        let e₂ = and_left (a && b && c && d) f e₁ in
        let e₃ = and_left (a && b && c) d e₂ in
        let e₄ = and_left (a && b) c e₃ in
        record {
          head = eqb-true (kind_of (get_or ws 0 0)) 1 (ea ∙ and_left a b e₄);
          few = leb-true (stated_variables ws) max_variables (eb ∙ and_right a b e₄);
          long = leb-true (stated_variables ws + 3) (length ws) (ec ∙ and_right (a && b) c e₃);
          order = ed ∙ and_right (a && b && c) d e₂;
          low = eqb-true (kind_of (low_at ws)) 6 (ef ∙ and_right (a && b && c && d) f e₁);
          high = eqb-true (kind_of (high_at ws)) 12 (eg ∙ and_right (a && b && c && d && f) g e);
        }

-- words that have them have a claim
pub claim_of_lem : (ws : List ℕ) → Front ws → has_claim ws ≡ true
unfolding has_claim
claim_of_lem ws f =
    rw (
      eq-eqb (kind_of (get_or ws 0 0)) 1 f.head,
      le-leb (stated_variables ws) max_variables f.few,
      le-leb (stated_variables ws + 3) (length ws) f.long,
      f.order,
      eq-eqb (kind_of (low_at ws)) 6 f.low,
      eq-eqb (kind_of (high_at ws)) 12 f.high,
    )

-- ---- the answer

-- a part is missing
pub unclaimed : (ws : List ℕ) → (Front ws → ⊥) → Claim.Nothing ≡ claim_of ws
unfolding claim_of
unclaimed ws n = go (has_claim ws) refl
  where
    go : (b : Bool) → has_claim ws ≡ b → Claim.Nothing ≡ cond b (Claim.Stated (stated_variables ws) (stated_cost ws)) Claim.Nothing
    go true e = absurd (n (front_of ws e))
    go false e = refl

-- none is
pub claimed : (ws : List ℕ) (n c : ℕ) → Front ws → n ≡ stated_variables ws → c ≡ stated_cost ws → Claim.Stated n c ≡ claim_of ws
unfolding claim_of
claimed ws n c f en ec = rw (claim_of_lem ws f, en, ec)

-- the answer's tests in the code's order, where n is the number that the head gives
module _ (ws : List ℕ) (n : ℕ) (is : n ≡ stated_variables ws) where
  -- the part that is lent to the test of the bindings
  pub part_is : take (n + 1 - 1) (drop 1 ws) ≡ stated_bindings ws
  part_is = rw (add-sub_cancel n 1, is)

  -- it is above twelve
  pub too_many : max_variables < n → Claim.Nothing ≡ claim_of ws
  too_many h = unclaimed ws (λ f. omega (arith, f.few))

  -- there are too few words
  pub too_short : length ws < n + 3 → Claim.Nothing ≡ claim_of ws
  too_short h = unclaimed ws (λ f. omega (arith, f.long))

  -- the words do not bind the variables in order
  pub unordered : (b : Bool) → b ≡ binds_in_order 0 (take (n + 1 - 1) (drop 1 ws)) → b ≡ false → Claim.Nothing ≡ claim_of ws
  unordered b e t = unclaimed ws (λ f. false≢true (sym t ∙ e ∙ ap (binds_in_order 0) part_is ∙ f.order))

  -- a word of the cost is of another kind
  pub no_low : (k : ℕ) → k ≡ kind_of (get_or ws (n + 1) 0) → (k ≡ 6 → ⊥) → Claim.Nothing ≡ claim_of ws
  no_low k e t = unclaimed ws (λ f. t (rw (e, is) f.low))

  pub no_high : (k : ℕ) → k ≡ kind_of (get_or ws (n + 2) 0) → (k ≡ 12 → ⊥) → Claim.Nothing ≡ claim_of ws
  no_high k e t = unclaimed ws (λ f. t (rw (e, is) f.high))

  -- no test fails: the answer is the number and the cost of the two words behind the bindings
  pub all_there : (b : Bool) (p q c : ℕ) → c ≡ p + q * cost_unit → kind_of (get_or ws 0 0) ≡ 1 → n ≤ max_variables → n + 3 ≤ length ws
      → b ≡ binds_in_order 0 (take (n + 1 - 1) (drop 1 ws)) → b ≡ true → kind_of (get_or ws (n + 1) 0) ≡ 6 → kind_of (get_or ws (n + 2) 0) ≡ 12
      → p ≡ payload_of (get_or ws (n + 1) 0) → q ≡ payload_of (get_or ws (n + 2) 0)
      → Claim.Stated n c ≡ claim_of ws
  all_there b p q c sum h m l e t k₁ k₂ ep eq =
      claimed ws n c
      (record {
        head = h;
        few = rw (← is) m;
        long = rw (← is) l;
        order = ap (binds_in_order 0) (sym part_is) ∙ sym e ∙ t;
        low = rw (← is) k₁;
        high = rw (← is) k₂;
      })
      is
      (sum ∙ rw (ep, eq, is))

  -- the values of that part, in front of a slice
  pub plan_read : (plan : List ℕ) → stated_variables ws + 3 ≤ length ws
      → map value_in (take (n + 1 - 1) (drop 1 ws)) ++ drop (length (take (n + 1 - 1) (drop 1 ws))) plan
      ≡ stated_plan ws ++ drop (stated_variables ws) plan
  plan_read plan long =
      let l = length-drop 1 ws in
      let e : length (stated_bindings ws) ≡ stated_variables ws = length-take-le (stated_variables ws) (drop 1 ws) (omega arith) in
      rw (part_is, e)
