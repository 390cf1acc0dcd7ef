-- What a contract sees of a list of bytes: those in it, and those of the room that is left, of which no clause says anything.
use Rattle.std.specs.Prelude.{ℕ, List}

pub record Items : Type 0 where
  pub items : List ℕ
  pub spare : List ℕ
