-- Inner: the bytes of a piece taken until something comes to its end.
use Rattle.std.specs.Prelude.{ℕ, ◌≤◌, ◌≡◌, List, [], ◌∷◌, length, drop}
use Rattle.cutting.specs.declared.Phase.{Phase}
use Rattle.cutting.specs.declared.Found.{Found}
use Rattle.cutting.specs.declared.Taken.{Taken}
use Rattle.cutting.specs.Cutting.{byte_cut}

-- what the bytes taken come to, and the bytes that are left
pub record Part : Type 0 where
  pub phase : Phase
  pub body : List ℕ
  pub found : Found
  pub rest : List ℕ

-- where nothing came to its end, what the rest comes to
unfoldable pub going_on : Found → Part → Part → Part
going_on Found.Nothing ahead here = ahead
going_on Found.Length ahead here = here
going_on (Found.Sheet end) ahead here = here
going_on Found.PassedOver ahead here = here

unfoldable pub cut_to : Phase → List ℕ → List ℕ → Part
cut_to phase body [] = record { phase = phase; body = body; found = Found.Nothing; rest = [] }
cut_to phase body (b ∷ bs) =
    let c = byte_cut phase body b in
    going_on c.found (cut_to c.phase c.body bs) (record { phase = c.phase; body = c.body; found = c.found; rest = bs })

-- an answer and the buffer that it leaves are what the bytes come to; at least one is taken
abbrev pub CutsTo : Phase → List ℕ → List ℕ → Taken → List ℕ → Type 0
CutsTo phase body bytes taken left =
    (record { phase = taken.phase; body = left; found = taken.found; rest = drop taken.count bytes } ≡ cut_to phase body bytes)
    × (1 ≤ taken.count) × (taken.count ≤ length bytes)

-- the same in each phase; what is passed over leaves every buffer as it is
abbrev pub CutsLength : ℕ → List ℕ → List ℕ → Taken → List ℕ → Type 0
CutsLength at = CutsTo (Phase.Length at)

abbrev pub CutsBody : ℕ → ℕ → List ℕ → List ℕ → Taken → List ℕ → Type 0
CutsBody at end = CutsTo (Phase.Body at end)

abbrev pub CutsPassing : ℕ → List ℕ → Taken → Type 0
CutsPassing left bytes taken = (body : List ℕ) → CutsTo (Phase.Passing left) body bytes taken body

-- how many bytes of the buffer a sheet has that came to its end
unfoldable pub end_of : Found → ℕ
end_of Found.Nothing = 0
end_of Found.Length = 0
end_of (Found.Sheet end) = end
end_of Found.PassedOver = 0
