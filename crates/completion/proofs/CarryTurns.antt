-- The carrying of the fixed values, turn by turn from the last down: what is carried so far are the values from variable i on, and they are in range.
use Prim.Native.Nat.{ℕ, suc, ◌+◌, ◌*◌, ◌%◌, ◌^◌, ◌<◌, ◌≤◌}
use native.Mathlib.Omega.{arith}
use mathlib.Core.Path.{◌≡◌, sym, ap, ◌∙◌}
use mathlib.Core.Bool.{true}
use mathlib.Core.List.{List, [], ◌∷◌, ◌++◌}
use lib.ListN.{length, get_or, take, drop, set, replicate, replicate-append-replicate, get_or-map}
use lib.Seq.{drop-cons, drop-length, get_or-take, get_or-drop}
use Rattle.wcsp.specs.Clause.{InRange, nil, cons}
use Rattle.words.specs.Layout.{payload_of}
use Rattle.clause.specs.declared.Clause.{Clause}
use Rattle.clause.specs.Packed.{signs_of, Holds}
use Rattle.fields.specs.Padding.{lacking}
use Rattle.fields.proofs.Padding.{sizes_at}
use Rattle.table.specs.Meaning.{variables_of, table_sizes}
use Rattle.table.specs.Valid.{valid_table}
use Rattle.table.proofs.Canonical.{twelve_is_canonical}
use Rattle.table.proofs.Finishing.{valid_variables}
use Rattle.assignment.specs.Chosen.{singles, carried_signs}
use Rattle.assignment.proofs.Bit.{shifted}
use Rattle.assignment.proofs.Choosing.{set_below}
use Rattle.assignment.proofs.Tables.{few_sizes}
use Rattle.std.specs.Prelude.{Some, None}
use Rattle.completion.specs.Fixed.{Carrying}
use Rattle.completion.proofs.Fitting.{fits_of, k_above, other_number, too_high, unfit, carried}

-- the values of the variables from i on, the first of which stands at `at` among those fixed
pub record CarriedFrom (ds : List ℕ) (k : ℕ) (fixed : List ℕ) (i : ℕ) (chosen : Clause) : Type 0 where
  pub at : ℕ
  pub placed : k + at ≡ i
  pub last : i ≤ length ds
  pub holds : Holds chosen (carried_signs ds i (drop at fixed))
  pub in_range : InRange (drop i ds) (drop at fixed)

module _ (t : List ℕ) (v : valid_table t ≡ true) (n : ℕ) (variables : n ≡ variables_of t) (k : ℕ) (fixed : List ℕ) where
  abbrev ds : List ℕ
  ds = table_sizes t

  all : length ds ≡ n
  all = valid_variables t v ∙ sym variables

  pub high_start : n < k → Carrying ds k fixed None
  high_start h = unfit ds k fixed (k_above ds k fixed (omega (arith, all)))

  pub wrong_number : k ≤ n → (length fixed + k ≡ n → ⊥) → Carrying ds k fixed None
  wrong_number l h = unfit ds k fixed (other_number ds k fixed (λ e. h (omega (arith, all))))

  module _ (low : k ≤ n) (long : length fixed + k ≡ n) where
    -- nothing is carried yet
    pub nothing_yet : (chosen : Clause) → Holds chosen (replicate 12 0) → CarriedFrom ds k fixed n chosen
    nothing_yet chosen h =
        let rest : drop (length fixed) fixed ≡ [] = drop-length fixed in
        let twelve : 12 ≡ n + lacking ds = omega (arith, few_sizes t v, all) in
        record {
          at = length fixed;
          placed = omega arith;
          last = omega (arith, all);
          holds = rw (rest, replicate-append-replicate {A = ℕ} n (lacking ds) 0, ← twelve) h;
          in_range = rw (rest, ← all, drop-length ds) nil;
        }

    -- the turn at variable i
    module _ (j i : ℕ) (e : j ≡ suc i) (above : k < j) (chosen : Clause) (c : CarriedFrom ds k fixed j chosen) (at : ℕ) (place : at + k ≡ i) where
      pub variable_low : i < 12
      variable_low = omega (arith, c.last, few_sizes t v)

      pub value_there : at < length fixed
      value_there = omega (arith, c.last, all)

      size_here : get_or ds i 0 ≡ payload_of (get_or t (i + 1) 0)
      unfolding table_sizes
      size_here =
          let w : 1 + i ≡ i + 1 = omega arith in
          get_or-map payload_of (take (variables_of t) (drop 1 t)) i 0
          ∙ ap payload_of (get_or-take (variables_of t) (drop 1 t) i 0 (omega (arith, c.last, valid_variables t v)) ∙ get_or-drop 1 t i 0 ∙ ap (λ m. get_or t m 0) w)

      module _ (d : ℕ) (size : d ≡ payload_of (get_or t (i + 1) 0)) where
        pub out_of_range : d ≤ get_or fixed at 0 → Carrying ds k fixed None
        out_of_range h =
            let w : k + at ≡ i = omega arith in
            unfit ds k fixed (too_high ds k fixed at value_there (rw w (omega (arith, size_here))))

        module _ (h : get_or fixed at 0 < d) where
          pub value_low : get_or fixed at 0 < 8
          value_low = omega (arith, size_here, sizes_at (twelve_is_canonical t v).holdable.sizes i)

          pub one_more : (next : Clause) → Holds next (set (signs_of chosen) i (1 * 2 ^ get_or fixed at 0 % 4294967296)) → CarriedFrom ds k fixed i next
          one_more next w =
              let m : c.at ≡ suc at = omega (arith, c.placed) in
              let before : signs_of chosen ≡ replicate (suc i) 0 ++ (singles (drop (suc at) fixed) ++ replicate (lacking ds) 0)
              = rw (e, m) at c.holds.signs_are in
              let after : drop at fixed ≡ get_or fixed at 0 ∷ drop (suc at) fixed = drop-cons fixed at 0 value_there in
              let higher : InRange (drop (suc i) ds) (drop (suc at) fixed) = rw (e, m) at c.in_range in
              record {
                at = at;
                placed = omega arith;
                last = omega (arith, c.last);
                holds = record {
                  packed = w.packed;
                  signs_are = w.signs_are ∙ rw (shifted (get_or fixed at 0) value_low, before, after)
                      (set_below i (2 ^ get_or fixed at 0) (singles (drop (suc at) fixed) ++ replicate (lacking ds) 0));
                };
                in_range = rw (drop-cons ds i 0 (omega (arith, c.last)), after) (cons {a = get_or ds i 0} {b = get_or fixed at 0} (omega (arith, size_here)) higher);
              }

    -- all are carried
    pub all_carried : (i : ℕ) (chosen : Clause) → i ≤ k → CarriedFrom ds k fixed i chosen → Carrying ds k fixed (Some chosen)
    all_carried i chosen h c =
        let z : c.at ≡ 0 = omega (arith, c.placed) in
        let w : i ≡ k = omega (arith, c.placed) in
        carried ds k fixed chosen (fits_of ds k fixed (omega (arith, all)) (rw (w, z) at c.in_range)) (rw (w, z) at c.holds)
