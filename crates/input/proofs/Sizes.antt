-- The fault of an instance comes apart into that of the sizes and that of the entries.
use Prim.Native.Nat.{ℕ, zero, suc, ◌≤◌}
use native.Mathlib.Omega.{arith}
use mathlib.Core.Path.{◌≡◌, refl, sym, ap, ◌∙◌}
use mathlib.Core.Bool.{Bool, true, false, not, ◌&&◌, cond}
use mathlib.Core.List.{List, [], ◌∷◌, ◌++◌, map, append-nil}
use lib.ListN.{take, drop}
use lib.Seq.{append_snoc}
use lib.Dec.{eqb}
use borrow.Author.Tests.{eqb-false}
use Rattle.words.specs.Layout.{payload_of}
use Rattle.fields.specs.Limits.{max_values}
use Rattle.fields.specs.Front.{size_in, good_sizes}
use Rattle.fields.proofs.Fronts.{size_some}
use Rattle.entries.specs.Entries.{entries_fault}
use Rattle.input.specs.Instance.{stations_fault}

-- ---- a size

pub size_payload : (w d : ℕ) → size_in w ≡ d → 1 ≤ d → (payload_of w ≡ d) × (d ≤ max_values)
size_payload w d e h =
    let (k, p, l, m) = size_some w (λ (z : size_in w ≡ 0). let q : d ≡ 0 = sym e ∙ z in omega arith) in
    (sym p ∙ e, omega arith)

-- ---- the fault of the stations, then that of the entries

pub stations_apart : (k : ℕ) (sizes ws : List ℕ) → stations_fault k sizes ws
    ≡ cond (good_sizes k ws) (entries_fault (sizes ++ map payload_of (take k ws)) 0 0 (drop k ws)) 2
unfolding stations_fault good_sizes
stations_apart zero sizes ws = ap (λ xs. entries_fault xs 0 0 ws) (sym (append-nil sizes))
stations_apart (suc k) sizes [] = refl
stations_apart (suc k) sizes (w ∷ ws) = go (eqb (size_in w) 0) refl (stations_apart k (sizes ++ (size_in w ∷ [])) ws)
  where
    go : (b : Bool) → eqb (size_in w) 0 ≡ b
        → stations_fault k (sizes ++ (size_in w ∷ [])) ws
        ≡ cond (good_sizes k ws) (entries_fault (sizes ++ (size_in w ∷ []) ++ map payload_of (take k ws)) 0 0 (drop k ws)) 2
        → cond b 2 (stations_fault k (sizes ++ (size_in w ∷ [])) ws)
        ≡ cond (not b && good_sizes k ws) (entries_fault (sizes ++ (payload_of w ∷ map payload_of (take k ws))) 0 0 (drop k ws)) 2
    go true f ih = refl
    go false f ih =
        let n = eqb-false (size_in w) 0 f in
        let p : payload_of w ≡ size_in w = (size_payload w (size_in w) refl (omega arith)).0 in
        ih ∙ ap (λ ds. cond (good_sizes k ws) (entries_fault ds 0 0 (drop k ws)) 2)
        (append_snoc sizes (size_in w) (map payload_of (take k ws)) ∙ ap (λ d. sizes ++ (d ∷ map payload_of (take k ws))) (sym p))
