-- `convert_bytes` meets its contract: the line of what is wrong with the request, or its table's answer.
use Rattle.std.proofs.Common.{◌≡◌, ◌∙◌, refl, sym, arith}
use Rattle.fields.specs.declared.refusals.Fault.TheVariants.{BadHead, BadVariable, BadEntry, CostTooHigh, TooManyEntries}
use Rattle.fields.specs.declared.refusals.Refusal.{Refusal}
use Rattle.fields.specs.declared.refusals.Refusal.TheVariants.{Input, BadStep, BadClaim, BadReadout, BadTable, TargetTooShort, WeightTooHigh, TableFull, PairLeft, BadFixed, Forbidden, WeightTooWide}
use Rattle.fields.specs.Numbers.{number_of}
use Rattle.converter.proofs.Requests.{fine, table_short}
use Rattle.converter.proofs.Answering.{fault_put, request_put}
use Rattle.converter.proofs.convert_bytes.Goals as goal

-- a refusal's number is not 0
some_number : (r : Refusal) → number_of r ≡ 0 → ⊥
some_number (Input BadHead) e = omega (arith, e)
some_number (Input BadVariable) e = omega (arith, e)
some_number (Input BadEntry) e = omega (arith, e)
some_number (Input CostTooHigh) e = omega (arith, e)
some_number (Input TooManyEntries) e = omega (arith, e)
some_number BadStep e = omega (arith, e)
some_number BadClaim e = omega (arith, e)
some_number BadReadout e = omega (arith, e)
some_number BadTable e = omega (arith, e)
some_number TargetTooShort e = omega (arith, e)
some_number WeightTooHigh e = omega (arith, e)
some_number TableFull e = omega (arith, e)
some_number PairLeft e = omega (arith, e)
some_number BadFixed e = omega (arith, e)
some_number Forbidden e = omega (arith, e)
some_number WeightTooWide e = omega (arith, e)

pub convert_table-requires : goal.convert_table-requires
convert_table-requires c =
    let bytes = c.args.bytes.now in
    let f = fine _ (sym c.in-Ok.ensures.refused) in
    (table_short bytes f.short, omega (arith, c.in-Ok.ensures.asked.1, f.room), c.requires)

pub slice_bounds-convert_table-count : goal.slice_bounds-convert_table-count
slice_bounds-convert_table-count c = omega (arith, (fine _ (sym c.in-Ok.ensures.refused)).some)

pub slice_bounds-convert_table-start : goal.slice_bounds-convert_table-start
slice_bounds-convert_table-start c = omega (arith, (fine _ (sym c.in-Ok.ensures.refused)).some)

pub returns-in-Ok : goal.returns-in-Ok
returns-in-Ok c =
    let said = c.in-Ok.ensures in
    request_put c.args.bytes.now 0 said.refused _ _ _ _ refl said.asked.0 said.asked.1 c.convert_table.ensures

pub returns-in-Err : goal.returns-in-Err
returns-in-Err c =
    let is = c.number.ensures ∙ c.in-Err.ensures.refused in
    fault_put c.args.bytes.now _ is c.args.out.now _ _ (λ z. some_number c.in-Err.refusal (sym c.number.ensures ∙ z)) (omega (arith, c.requires)) c.put_refusal.ensures
