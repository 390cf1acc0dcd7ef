-- The words in front of an instance, a sheet and a table: the head and the station words, by their kind numbers.
use Rattle.std.specs.Prelude.{ℕ, zero, suc, Bool, true, false, not, ◌&&◌, cond, List, [], ◌∷◌, map, length, eqb, leb}
use Rattle.std.proofs.Math.Option.{Option, none, some}
use Rattle.words.specs.Layout.{kind_of, payload_of, head_word, size_word}
use Rattle.fields.specs.Limits.{max_variables, max_values, between}

-- the number of variables that a head gives, 0 to 12; none if the word is no such head
unfoldable pub head_in : ℕ → Option ℕ
head_in w = cond (eqb (kind_of w) 1 && leb (payload_of w) max_variables) (some (payload_of w)) none

-- what follows from a head's number of variables, or what there is without a head
unfoldable pub headed {ℓ} : {A : Type ℓ} → A → (ℕ → A) → Option ℕ → A
headed without with none = without
headed without with (some n) = with n

-- the domain size that a station word gives, 0 if it is none from 1 to 8
unfoldable pub size_in : ℕ → ℕ
size_in w = cond (eqb (kind_of w) 2 && between 1 (payload_of w) max_values) (payload_of w) 0

-- k station words stand in front
unfoldable pub good_sizes : ℕ → List ℕ → Bool
unfolding size_in
good_sizes zero ws = true
good_sizes (suc k) [] = false
good_sizes (suc k) (w ∷ ws) = not (eqb (size_in w) 0) && good_sizes k ws

-- the words in front: the head and a station word for each size
abbrev pub front_words : List ℕ → List ℕ
front_words ds = head_word (length ds) ∷ map size_word ds
