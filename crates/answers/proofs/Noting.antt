-- Fields that are noted one after the other: each is set at its place, or left out where the slice ends before it.
use Rattle.std.proofs.Common.{◌≡◌, ℕ, ◌<◌, ◌≤◌, ◌+◌, zero, suc, List, [], ◌∷◌, length, take, take_all, get_or, set, refl, ap, sym, add-one, arith}
use Rattle.answers.specs.Noted.{noted}

pub noted_none : (xs : List ℕ) → noted xs [] ≡ xs
unfolding noted
noted_none [] = refl
noted_none (x ∷ xs) = refl

next_noted : (i : ℕ) (xs vs : List ℕ) → i < length vs → i < length xs → set (noted xs (take i vs)) i (get_or vs i 0) ≡ noted xs (take (suc i) vs)
unfolding noted
next_noted i [] vs h h2 = absurd (omega arith)
next_noted i (x ∷ xs) [] h h2 = absurd (omega arith)
next_noted zero (x ∷ xs) (v ∷ vs) h h2 = ap (λ l. v ∷ l) (sym (noted_none xs))
next_noted (suc i) (x ∷ xs) (v ∷ vs) h h2 = ap (λ l. v ∷ l) (next_noted i xs vs (omega arith) (omega arith))

pub noted_step : (i : ℕ) (xs vs : List ℕ) → i < length vs → i < length xs → set (noted xs (take i vs)) i (get_or vs i 0) ≡ noted xs (take (i + 1) vs)
noted_step i xs vs h h2 = rw (add-one i) (next_noted i xs vs h h2)

past_noted : (i : ℕ) (xs vs : List ℕ) → length xs ≤ i → noted xs (take i vs) ≡ noted xs (take (suc i) vs)
unfolding noted
past_noted i [] vs h = refl
past_noted zero (x ∷ xs) [] h = refl
past_noted (suc i) (x ∷ xs) [] h = refl
past_noted zero (x ∷ xs) (v ∷ vs) h = absurd (omega arith)
past_noted (suc i) (x ∷ xs) (v ∷ vs) h = ap (λ l. v ∷ l) (past_noted i xs vs (omega arith))

pub noted_past : (i : ℕ) (xs vs : List ℕ) → length xs ≤ i → noted xs (take i vs) ≡ noted xs (take (i + 1) vs)
noted_past i xs vs h = rw (add-one i) (past_noted i xs vs h)

pub noted_all : (n : ℕ) (xs vs : List ℕ) → n ≡ length vs → noted xs (take n vs) ≡ noted xs vs
noted_all n xs vs h = ap (noted xs) (take_all n vs (omega arith))
