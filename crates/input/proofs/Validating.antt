-- What an instance that starts with a head has: its sizes and entries by the head, and the fault of its parts.
use Prim.Native.Nat.{ℕ, ◌+◌, ◌≤◌, min}
use native.Mathlib.Omega.{arith}
use native.Mathlib.Numerals.{add-one}
use mathlib.Core.Path.{◌≡◌, refl, sym, ap, ◌∙◌}
use mathlib.Core.Bool.{true, cond}
use mathlib.Core.List.{List, [], ◌∷◌, map}
use mathlib.Core.Option.{Option, none, some}
use lib.ListN.{length, get_or, take, drop, length-map}
use lib.Seq.{length-take-le}
use Rattle.words.specs.Layout.{payload_of}
use Rattle.fields.specs.Limits.{max_variables}
use Rattle.fields.specs.Front.{head_in, headed, good_sizes}
use Rattle.fields.specs.Entries.{entries_from}
use Rattle.fields.proofs.Fronts.{head_some, good_long}
use Rattle.entries.specs.Entries.{entries_fault}
use Rattle.input.specs.Instance.{instance_fault, sizes_of, entries_of}
use Rattle.input.proofs.Sizes.{stations_apart}

-- ---- a head that was read

-- the words start with a head of n variables, or there are none, which are those of no variables
pub data Headed : List ℕ → ℕ → Type 0 where
  without_words : Headed [] 0
  with_head : {w n : ℕ} {ws : List ℕ} → head_in w ≡ some n → Headed (w ∷ ws) n

pub headed_bounds : (ws : List ℕ) (n : ℕ) → Headed ws n → (n ≤ max_variables) × (min 1 n ≤ length ws)
headed_bounds [] n without_words = (omega arith, omega arith)
headed_bounds (w ∷ ws) n (with_head e) = let (k, p, h) = head_some w n e in (h, omega arith)

pub headed_payload : (ws : List ℕ) (n : ℕ) → Headed ws n → payload_of (get_or ws 0 0) ≡ n
headed_payload [] n without_words = refl
headed_payload (w ∷ ws) n (with_head e) = (head_some w n e).1

-- what has no fault starts with a head
pub headed_by : (rest : ℕ → ℕ) (w : ℕ) (ws : List ℕ) → headed 1 rest (head_in w) ≡ 0 → (n : ℕ) × Headed (w ∷ ws) n
unfolding headed
headed_by rest w ws e = go (head_in w) refl e
  where
    go : (o : Option ℕ) → head_in w ≡ o → headed 1 rest o ≡ 0 → (n : ℕ) × Headed (w ∷ ws) n
    go none f g = absurd (omega arith)
    go (some n) f g = (n, with_head f)

-- ---- the whole

module _ (ws : List ℕ) (n : ℕ) (h : Headed ws n) where
  pub sizes_are : sizes_of ws ≡ map payload_of (take n (drop 1 ws))
  unfolding sizes_of
  sizes_are = rw (headed_payload ws n h)

  pub entries_are : entries_of ws ≡ entries_from [] (drop (n + 1) ws)
  unfolding entries_of
  entries_are = let o : 1 + n ≡ n + 1 = omega arith in rw (headed_payload ws n h, o)

  pub sizes_number : good_sizes n (drop 1 ws) ≡ true → length (sizes_of ws) ≡ n
  sizes_number g =
      let l = good_long n (drop 1 ws) g in
      rw (sizes_are, length-map (take n (drop 1 ws)) payload_of, length-take-le n (drop 1 ws) l)

  pub instance_apart : instance_fault ws ≡ cond (good_sizes n (drop 1 ws)) (entries_fault (sizes_of ws) 0 0 (drop (n + 1) ws)) 2
  unfolding instance_fault good_sizes
  instance_apart = apart n ws h ∙ ap (λ ds. cond (good_sizes n (drop 1 ws)) (entries_fault ds 0 0 (drop (n + 1) ws)) 2) (sym sizes_are)
    where
      apart : (n : ℕ) (ws : List ℕ) → Headed ws n
          → instance_fault ws ≡ cond (good_sizes n (drop 1 ws)) (entries_fault (map payload_of (take n (drop 1 ws))) 0 0 (drop (n + 1) ws)) 2
      apart n [] without_words = refl
      apart n (w ∷ ws) (with_head e) = rw (e, add-one n) (stations_apart n [] ws)
