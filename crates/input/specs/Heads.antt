-- Inner: what the readers of the words in front of the entries answer; no statement for users rests on it.
use Rattle.std.specs.Prelude.{ℕ, cond, List, [], ◌∷◌, Result, Ok, Err, eqb}
use Rattle.fields.specs.declared.refusals.Fault.{Fault}
use Rattle.fields.specs.declared.refusals.Fault.TheVariants.{BadHead, BadVariable}
use Rattle.fields.specs.Front.{head_in, headed, size_in}

-- the number of variables that the first of these words gives as a head, 0 where there are none
abbrev pub head_read : List ℕ → Result ℕ Fault
head_read [] = Ok 0
head_read (w ∷ ws) = headed (Err BadHead) Ok (head_in w)

-- the size that the first of these words gives
abbrev pub size_read : List ℕ → Result ℕ Fault
size_read [] = Err BadVariable
size_read (w ∷ ws) = cond (eqb (size_in w) 0) (Err BadVariable) (Ok (size_in w))
