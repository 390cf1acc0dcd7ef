-- A sheet that came to its end stands in front of its buffer.
use Prim.Native.Nat.{ℕ, ◌≤◌}
use mathlib.Core.Path.{◌≡◌}
use Rattle.cutting.specs.declared.Found.{Found}
use Rattle.cutting.specs.Pieces.{end_of}

pub sheet_end : (found : Found) (end room : ℕ) → found ≡ Found.Sheet end → end_of found ≤ room → end ≤ room
unfolding end_of
sheet_end found end room e h = rw e at h
