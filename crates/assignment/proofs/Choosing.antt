-- The rebuilding turn by turn, over rows with no pair left. The values chosen so far, followed by a 0 for each variable that the table lacks, are what
-- the rest is rebuilt over; the clause carries them, and they stand in the target before what it held behind the last variable.
use Prim.Native.Nat.{ℕ, zero, suc, ◌+◌, ◌^◌, ◌<◌, ◌≤◌}
use native.Mathlib.Omega.{arith}
use mathlib.Core.Path.{◌≡◌, refl, sym, ap, ap₂, ◌∙◌}
use mathlib.Core.List.{List, ◌∷◌, ◌++◌}
use mathlib.Core.Option.{none}
use lib.ListN.{length, get_or, take, drop, set, replicate, length-append, length-replicate, length-set, length-drop}
use lib.Seq.{drop-append-le, drop-cons, drop-set-lt, get_or-set_same, take_at}
use lib.Count.{count_trailing_zeros}
use Rattle.wcsp.specs.Sign.{full, lowest}
use Rattle.wcsp.specs.Clause.{InRange, cons, AllPositive}
use Rattle.wcsp.specs.Row.{Row, ValidRows}
use Rattle.wcsp.specs.Resolve.{next_pair}
use Rattle.wcsp.specs.Rebuild.{narrowed, rebuilt_value, rebuilt_over}
use Rattle.wcsp.proofs.Lists.{along_length}
use Rattle.wcsp.proofs.WideningTables.{wide_in_range}
use Rattle.wcsp.proofs.Rebuilding.{value_in_range}
use Rattle.fields.specs.Entries.{EachSize}
use Rattle.fields.proofs.Sizes.{each_positive}
use Rattle.fields.proofs.Padding.{sizes_at}
use Rattle.assignment.specs.Chosen.{singles, Carries}
use Rattle.assignment.proofs.Lowest.{trailing_lowest}
use Rattle.assignment.proofs.Lacking.{narrowed_zeros}

-- these sizes, and m variables of one value behind them
abbrev pub lengthened : List ℕ → ℕ → List ℕ
lengthened ds m = ds ++ replicate m 1

-- rows over them in which no pair is left
pub record Settled (ds : List ℕ) (m : ℕ) (rs : List Row) : Type 0 where
  pub sizes : EachSize (lengthened ds m)
  pub valid : ValidRows (lengthened ds m) rs
  pub done : next_pair (lengthened ds m) rs ≡ none

-- what was chosen from variable k on, where values were given from another on
pub record Chosen (ds : List ℕ) (m : ℕ) (rs : List Row) (from : ℕ) (given target₀ : List ℕ) (k : ℕ) (signs target : List ℕ) : Type 0 where
  pub values : List ℕ
  pub counted : k + length values ≡ length ds
  pub carried : signs ≡ replicate k 0 ++ (singles values ++ replicate m 0)
  pub same : rebuilt_over (lengthened ds m) rs from (given ++ replicate m 0) ≡ rebuilt_over (lengthened ds m) rs k (values ++ replicate m 0)
  pub in_range : InRange (drop k (lengthened ds m)) (values ++ replicate m 0)
  pub written : drop k target ≡ values ++ drop (length ds) target₀
  pub long : length target ≡ length target₀

pub set_below : (k a : ℕ) (l : List ℕ) → set (replicate (suc k) 0 ++ l) k a ≡ replicate k 0 ++ (a ∷ l)
set_below zero a l = refl
set_below (suc k) a l = ap (λ xs. 0 ∷ xs) (set_below k a l)

drop-set : (xs : List ℕ) (k a : ℕ) → k < length xs → drop k (set xs k a) ≡ a ∷ drop (suc k) xs
drop-set xs k a h =
    let l : k < length (set xs k a) = omega (arith, length-set xs k a) in
    drop-cons (set xs k a) k 0 l
    ∙ ap₂ (λ b ys. b ∷ ys) (get_or-set_same xs k a 0 h) (drop-set-lt (suc k) xs k a (omega arith))

module _ (ds : List ℕ) (m : ℕ) (rs : List Row) (settled : Settled ds m rs) where
  whole : length (lengthened ds m) ≡ length ds + m
  whole = length-append ds (replicate m 1) ∙ ap (λ n. length ds + n) (length-replicate m 1)

  positive : AllPositive (lengthened ds m)
  positive = each_positive settled.sizes

  -- the given values alone
  pub given_chosen : (k : ℕ) (given signs target : List ℕ) → k ≤ length ds → InRange (drop k ds) given
      → signs ≡ replicate k 0 ++ (singles given ++ replicate m 0) → drop k target ≡ given ++ drop (length ds) target
      → Chosen ds m rs k given target k signs target
  given_chosen k given signs target l r e w =
      record {
        values = given;
        counted = omega (arith, along_length r, length-drop k ds);
        carried = e;
        same = refl;
        in_range = rw (drop-append-le k ds (replicate m 1) l) ((wide_in_range m (drop k ds) given).0 r);
        written = w;
        long = refl;
      }

  -- the turn at variable k: S is what is left of its full sign
  module _ (from : ℕ) (given target₀ : List ℕ) (k : ℕ) (signs target : List ℕ) (h : Chosen ds m rs from given target₀ (suc k) signs target) (F S : ℕ)
      (f : F ≡ full (get_or (lengthened ds m) k 0)) (answer : (q : List ℕ) → Carries signs (suc k) q → S ≡ narrowed k q F rs) where
    abbrev above : List ℕ
    above = h.values ++ replicate m 0

    within : k < length (lengthened ds m)
    within = omega (arith, whole, h.counted)

    in_range : rebuilt_value (lengthened ds m) rs k above < get_or (lengthened ds m) k 0
    in_range = value_in_range (lengthened ds m) rs settled.valid k above within h.in_range positive settled.done

    left : S ≡ narrowed k above (full (get_or (lengthened ds m) k 0)) rs
    left =
        answer h.values (record { rest = m; bits = h.carried })
        ∙ sym (narrowed_zeros ds m k h.values h.counted F settled.valid)
        ∙ ap (λ n. narrowed k above n rs) f

    lowest_left : rebuilt_value (lengthened ds m) rs k above ≡ lowest (get_or (lengthened ds m) k 0) S
    unfolding rebuilt_value
    lowest_left = ap (lowest (get_or (lengthened ds m) k 0)) (sym left)

    by_zeros : count_trailing_zeros 32 S ≡ rebuilt_value (lengthened ds m) rs k above
    by_zeros =
        let b = in_range in
        let e = lowest_left in
        let l = sizes_at settled.sizes k in
        trailing_lowest (get_or (lengthened ds m) k 0) 32 S (omega arith) (omega arith) ∙ sym lowest_left

    pub value_small : count_trailing_zeros 32 S < 8
    value_small = omega (arith, by_zeros, in_range, sizes_at settled.sizes k)

    pub one_more : k < length target → Chosen ds m rs from given target₀ k (set signs k (2 ^ count_trailing_zeros 32 S)) (set target k (count_trailing_zeros 32 S))
    unfolding rebuilt_over
    one_more r =
        let b : count_trailing_zeros 32 S < get_or (lengthened ds m) k 0 = omega (arith, by_zeros, in_range) in
        record {
          values = count_trailing_zeros 32 S ∷ h.values;
          counted = omega (arith, h.counted);
          carried =
              ap (λ l. set l k (2 ^ count_trailing_zeros 32 S)) h.carried
              ∙ set_below k (2 ^ count_trailing_zeros 32 S) (singles h.values ++ replicate m 0);
          same = h.same ∙ ap (λ n. rebuilt_over (lengthened ds m) rs k (n ∷ above)) (sym by_zeros);
          in_range = rw (drop-cons (lengthened ds m) k 0 within) (cons b h.in_range);
          written = drop-set target k (count_trailing_zeros 32 S) r ∙ ap (λ xs. count_trailing_zeros 32 S ∷ xs) h.written;
          long = length-set target k (count_trailing_zeros 32 S) ∙ h.long;
        }

-- with no value left to be chosen nothing is rebuilt
over_none : (ds : List ℕ) (rs : List Row) (q : List ℕ) → rebuilt_over ds rs 0 q ≡ q
unfolding rebuilt_over
over_none ds rs q = refl

-- all are chosen
pub all_chosen : (ds : List ℕ) (m : ℕ) (rs : List Row) (from : ℕ) (given target₀ signs target : List ℕ) → Chosen ds m rs from given target₀ 0 signs target
    → target ≡ take (length ds) (rebuilt_over (lengthened ds m) rs from (given ++ replicate m 0)) ++ drop (length ds) target₀
all_chosen ds m rs from given target₀ signs target h =
    let n : length h.values ≡ length ds = omega (arith, h.counted) in
    let e : take (length ds) (rebuilt_over (lengthened ds m) rs from (given ++ replicate m 0)) ≡ h.values
    = ap (λ l. take (length ds) l) (h.same ∙ over_none (lengthened ds m) rs (h.values ++ replicate m 0)) ∙ take_at h.values (replicate m 0) (length ds) n in
    h.written ∙ ap (λ l. l ++ drop (length ds) target₀) (sym e)
