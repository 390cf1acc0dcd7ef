-- `append` meets its contract: the row that the clause's signs say is the clause's own.
use mathlib.Core.Path.{subst}
use mathlib.Core.List.{[], ◌∷◌, ◌++◌}
use Rattle.rows.specs.Raw.{raws_in, Left, raw_row}
use Rattle.table.specs.TwelveSigns.{clause_from_signs}
use Rattle.storing.proofs.append.Goals as goal

pub returns : goal.returns
returns c =
    let a = c.args in
    subst (λ y. Left a.t.now a.base c.append_in.new.t (raws_in a.t.now a.base a.count ++ (raw_row y a.weight ∷ []))) (clause_from_signs a.x) c.append_in.ensures
