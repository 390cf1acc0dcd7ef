-- P1 to P8: both sides of the claim are computed from the definitions, and are the same.
use mathlib.Core.Path.{refl}
use Rattle.wcsp.specs.Sign.{has, full, complement, within, present, lowest}
use Rattle.wcsp.specs.Clause.{falsifies, tautology, same, bucket}
use Rattle.wcsp.specs.Row.{falsified, empty_weight, add_all}
use Rattle.wcsp.specs.Entry.{encoded}
use Rattle.wcsp.specs.Rule.{conclusions, permitted}
use Rattle.wcsp.specs.Resolve.{next_pair, resolve}
use Rattle.wcsp.specs.Rebuild.{rebuilt}
use Rattle.wcsp.specs.Bound.{row_bound}
use Rattle.distance.specs.Metres.{metres}
use Rattle.cases.specs.Cases.{AllCases, stated, computed, cases}

pub all_cases : AllCases
unfolding cases stated computed encoded add_all next_pair resolve conclusions permitted rebuilt empty_weight row_bound falsified bucket falsifies tautology same has full complement within present lowest metres
all_cases = refl
