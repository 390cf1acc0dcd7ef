-- What a season wants: some bytes while it takes any, and fewer of them bring no sheet to its end.
use Prim.Native.Nat.{◌*◌, ◌≤◌}
use native.Mathlib.Omega.{arith}
use mathlib.Core.Path.{◌≡◌, refl, ap, ◌∙◌}
use mathlib.Core.Bool.{true}
use mathlib.Core.List.{[], ◌∷◌}
use lib.ListN.{length}
use lib.Dec.{leb}
use Rattle.wcsp.proofs.Lists.{and_left, and_right}
use Rattle.cutting.specs.declared.Phase.{Phase}
use Rattle.cutting.specs.Cutting.{longest_sheet, byte_cut, takes_byte, wanted_in}
use Rattle.cutting.proofs.Phases.{length_taken, body_taken, passing_taken, over_taken}
use Rattle.cutting.proofs.Turns.{byte_leaves}
use Rattle.figures.specs.Counting.{takes_sheet}
use Rattle.batch.specs.Feeding.{LentSeason, after_found, season_takes, fed}
use Rattle.batch.specs.Theorems.{TakesAndWants, NothingBehind}
use Rattle.batch.proofs.Feeding.{at, fed_byte_lem, still_takes_byte}

pub takes_and_wants : TakesAndWants
unfolding wanted_in
takes_and_wants s room e = go s.phase (and_left (takes_byte s.phase room) _ e)
  where
    go : (phase : Phase) → takes_byte phase room ≡ true → 1 ≤ wanted_in phase
    go (Phase.Length n) t = let k = length_taken (Phase.Length n) room t n refl in omega (arith, k.0)
    go (Phase.Body n end) t = let k = body_taken (Phase.Body n end) room t n end refl in omega (arith, k.0)
    go (Phase.Passing left) t = passing_taken (Phase.Passing left) room t left refl
    go Phase.Over t = absurd (over_taken Phase.Over room t refl)

pub nothing_behind : NothingBehind
unfolding fed after_found
nothing_behind f [] t h = (refl, t)
nothing_behind f (x ∷ xs) t h =
    let c = byte_cut f.season.phase f.body x in
    let byte = and_left (takes_byte f.season.phase (length f.body)) _ t in
    let sheet = and_right (takes_byte f.season.phase (length f.body)) (takes_sheet f.season.figures) t in
    let q = (byte_leaves f.season.phase f.body x (and_right (leb (4 * longest_sheet) (length f.body)) _ byte)).quiet (omega (arith, h)) in
    let next = at f.season.figures c.phase c.body in
    let step : fed f (x ∷ xs) ≡ fed next xs = fed_byte_lem f x xs t ∙ ap (λ (g : LentSeason). fed g xs) (rw q.0) in
    let more : season_takes next.season (length next.body) ≡ true = rw (still_takes_byte f.season.phase f.body x byte, sheet) in
    rw step (nothing_behind next xs more (omega (arith, h, q.1)))
