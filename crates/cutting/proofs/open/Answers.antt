-- `open` answers by the number of words: none, too many, or a sheet's.
use native.Mathlib.Omega.{arith}
use mathlib.Core.Path.{refl}
use Rattle.cutting.proofs.Phases.{opened-none, opened_sheet}
use Rattle.cutting.proofs.open.Goals as goal

pub returns-then-words-eq0 : goal.returns-then-words-eq0
returns-then-words-eq0 c = (λ body. opened-none c.args.words body (omega arith), refl)

pub returns : goal.returns
returns c = (λ body. opened_sheet c.args.words body (omega arith) (omega arith), refl)
