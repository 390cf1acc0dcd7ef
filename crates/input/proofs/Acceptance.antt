-- An accepted instance has sizes and entries within every limit, and its forbidden combinations are those that its words of kind 11 close.
use Prim.Native.Nat.{ℕ, ◌+◌}
use native.Mathlib.Omega.{arith}
use mathlib.Core.Path.{◌≡◌, refl, sym, subst, ◌∙◌}
use mathlib.Core.Bool.{Bool, true, false, cond}
use mathlib.Core.List.{List, [], ◌∷◌}
use lib.ListN.{get_or, drop}
use Rattle.wcsp.specs.Entry.{WellFormed}
use Rattle.wcsp.proofs.Empty.{least_is_sum}
use Rattle.words.specs.Layout.{payload_of}
use Rattle.fields.specs.Front.{good_sizes}
use Rattle.fields.proofs.Sizes.{field_sizes, sizes_each}
use Rattle.fields.proofs.Forbidden.{forbidden_from}
use Rattle.entries.specs.Entries.{entries_fault}
use Rattle.entries.proofs.Accepting.{entries_accepted}
use Rattle.entries.proofs.Within.{costs_within}
use Rattle.input.specs.Instance.{stations_fault, instance_fault, sizes_of, entries_of}
use Rattle.input.specs.Accepted.{FaultlessIsAccepted, LeastOfConstants, ForbiddenByWords}
use Rattle.input.proofs.Validating.{Headed, without_words, headed_bounds, headed_payload, headed_by, sizes_are, entries_are, sizes_number, instance_apart}

-- a test that has to be passed for no fault
pub passed : (b : Bool) (x y : ℕ) → x ≡ cond b y 2 → x ≡ 0 → (b ≡ true) × (y ≡ 0)
passed true x y e z = (refl, sym e ∙ z)
passed false x y e z = absurd (omega arith)

pub instance_headed : (ws : List ℕ) → instance_fault ws ≡ 0 → (n : ℕ) × Headed ws n
unfolding instance_fault
instance_headed [] e = (0, without_words)
instance_headed (w ∷ ws) e = headed_by (λ n. stations_fault n [] ws) w ws e

-- its sizes and the words of its entries
instance_passed : (ws : List ℕ) (n : ℕ) → Headed ws n → instance_fault ws ≡ 0
    → (good_sizes n (drop 1 ws) ≡ true) × (entries_fault (sizes_of ws) 0 0 (drop (n + 1) ws) ≡ 0)
instance_passed ws n h e =
    passed (good_sizes n (drop 1 ws)) (instance_fault ws) (entries_fault (sizes_of ws) 0 0 (drop (n + 1) ws)) (instance_apart ws n h) e

pub faultless_is_accepted : FaultlessIsAccepted
faultless_is_accepted ws e =
    let (n, h) = instance_headed ws e in
    let b = headed_bounds ws n h in
    let (g, f) = instance_passed ws n h e in
    let k = sizes_number ws n h g in
    record {
      sizes = field_sizes (sizes_of ws) (omega arith) (rw (sizes_are ws n h) (sizes_each n (drop 1 ws) g));
      head = k ∙ sym (headed_payload ws n h);
      entries = rw (entries_are ws n h) (entries_accepted (sizes_of ws) 0 (drop (n + 1) ws) (omega arith) f);
    }

pub least_of_constants : LeastOfConstants
least_of_constants ws e empty =
    least_is_sum (entries_of ws) (subst (λ ds. WellFormed ds (entries_of ws)) empty (faultless_is_accepted ws e).entries.well_formed)

pub forbidden_by_words : ForbiddenByWords
unfolding entries_of
forbidden_by_words ws p e =
    let (n, h) = instance_headed ws e in
    let at : 1 + payload_of (get_or ws 0 0) ≡ n + 1 = omega (arith, headed_payload ws n h) in
    rw at (forbidden_from [] (drop (n + 1) ws) p (costs_within (sizes_of ws) 0 0 (drop (n + 1) ws) (instance_passed ws n h e).1))
