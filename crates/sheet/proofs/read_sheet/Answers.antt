-- `read_sheet` answers for the whole from the answers of its phases: one law for each way out.
use Rattle.std.proofs.Common.{◌≡◌, ◌∙◌, ◌-◌, sym, ap, drop, length, Err, arith, rules}
use Rattle.fields.specs.Numbers.{fault_in}
use Rattle.input.proofs.Validating.{headed_bounds}
use Rattle.input.specs.Heads.{head_read}
use Rattle.sheet.specs.Reads.{read_of}
use Rattle.sheet.proofs.Sheets.{no_head, headed_of, stations_fine, stations_broken, entries_left, sizes_read, scanned, reads_fault, reads_sheet}
use Rattle.sheet.proofs.read_sheet.Goals as goal

-- no head
pub returns-in_err-variables-clause-fault : goal.returns-in_err-variables-clause-fault
returns-in_err-variables-clause-fault c =
    let is : c.from_residual.result ≡ Err c.in_err-variables.field-0.0 = search rules in
    ap fault_in is ∙ no_head _ _ (c.in_err-variables.ensures.head ∙ ap head_read c.over-reader.ensures.left)

pub returns-in_err-variables-clause-returned : goal.returns-in_err-variables-clause-returned
returns-in_err-variables-clause-returned c =
    let is : c.from_residual.result ≡ Err c.in_err-variables.field-0.0 = search rules in
    ap read_of is ∙ reads_fault _ _ (no_head _ _ (c.in_err-variables.ensures.head ∙ ap head_read c.over-reader.ensures.left))

pub read_stations-requires : goal.read_stations-requires
read_stations-requires c =
    (headed_bounds _ _ (headed_of _ _ (c.in_ok-variables.ensures.head ∙ ap head_read c.over-reader.ensures.left))).0

-- a fault of the stations
pub returns-in_err-sizes-clause-fault : goal.returns-in_err-sizes-clause-fault
returns-in_err-sizes-clause-fault c =
    let is : c.from_residual-in_err-sizes.result ≡ Err c.in_err-sizes.field-0.0 = search rules in
    let h = headed_of _ _ (c.in_ok-variables.ensures.head ∙ ap head_read c.over-reader.ensures.left) in
    let passed = c.in_ok-variables.ensures.left ∙ ap (drop 1) c.over-reader.ensures.left in
    ap fault_in is ∙ stations_broken _ _ h _ passed _ c.in_err-sizes.ensures.fault

pub returns-in_err-sizes-clause-returned : goal.returns-in_err-sizes-clause-returned
returns-in_err-sizes-clause-returned c =
    let is : c.from_residual-in_err-sizes.result ≡ Err c.in_err-sizes.field-0.0 = search rules in
    let h = headed_of _ _ (c.in_ok-variables.ensures.head ∙ ap head_read c.over-reader.ensures.left) in
    let passed = c.in_ok-variables.ensures.left ∙ ap (drop 1) c.over-reader.ensures.left in
    ap read_of is ∙ reads_fault _ _ (stations_broken _ _ h _ passed _ c.in_err-sizes.ensures.fault)

-- the stations are read
pub overflow_sub-entries_at : goal.overflow_sub-entries_at
overflow_sub-entries_at c =
    let h = headed_of _ _ (c.in_ok-variables.ensures.head ∙ ap head_read c.over-reader.ensures.left) in
    let passed = c.in_ok-variables.ensures.left ∙ ap (drop 1) c.over-reader.ensures.left in
    omega (arith, (entries_left _ _ h _ passed _ c.in_ok-sizes.ensures.left).1, c.left.ensures)

-- a fault of the entries
pub returns-in_err-scan_entries-clause-fault : goal.returns-in_err-scan_entries-clause-fault
returns-in_err-scan_entries-clause-fault c =
    let is : c.from_residual-in_err-scan_entries.result ≡ Err c.in_err-scan_entries.field-0.0 = search rules in
    let h = headed_of _ _ (c.in_ok-variables.ensures.head ∙ ap head_read c.over-reader.ensures.left) in
    let passed = c.in_ok-variables.ensures.left ∙ ap (drop 1) c.over-reader.ensures.left in
    let sizes = c.in_ok-sizes.ensures in
    ap fault_in is ∙ scanned _ _ h _ passed _ sizes.left _ sizes.sizes (stations_fine _ sizes.fault) _ _ _ _ c.deref-2.ensures.0 (omega (arith, c.count_legs.ensures.0)) c.deref.ensures.0 c.in_err-scan_entries.ensures.fault

pub returns-in_err-scan_entries-clause-returned : goal.returns-in_err-scan_entries-clause-returned
returns-in_err-scan_entries-clause-returned c =
    let is : c.from_residual-in_err-scan_entries.result ≡ Err c.in_err-scan_entries.field-0.0 = search rules in
    let h = headed_of _ _ (c.in_ok-variables.ensures.head ∙ ap head_read c.over-reader.ensures.left) in
    let passed = c.in_ok-variables.ensures.left ∙ ap (drop 1) c.over-reader.ensures.left in
    let sizes = c.in_ok-sizes.ensures in
    ap read_of is ∙ reads_fault _ _ (scanned _ _ h _ passed _ sizes.left _ sizes.sizes (stations_fine _ sizes.fault) _ _ _ _ c.deref-2.ensures.0 (omega (arith, c.count_legs.ensures.0)) c.deref.ensures.0 c.in_err-scan_entries.ensures.fault)

-- no fault
pub returns-clause-fault : goal.returns-clause-fault
returns-clause-fault c =
    let h = headed_of _ _ (c.in_ok-variables.ensures.head ∙ ap head_read c.over-reader.ensures.left) in
    let passed = c.in_ok-variables.ensures.left ∙ ap (drop 1) c.over-reader.ensures.left in
    let sizes = c.in_ok-sizes.ensures in
    scanned _ _ h _ passed _ sizes.left _ sizes.sizes (stations_fine _ sizes.fault) _ _ _ _ c.deref-2.ensures.0 (omega (arith, c.count_legs.ensures.0)) c.deref.ensures.0 c.in_ok-scan_entries.ensures.fault

pub returns-clause-accepted : goal.returns-clause-accepted
returns-clause-accepted c =
    let h = headed_of _ _ (c.in_ok-variables.ensures.head ∙ ap head_read c.over-reader.ensures.left) in
    let passed = c.in_ok-variables.ensures.left ∙ ap (drop 1) c.over-reader.ensures.left in
    let sizes = c.in_ok-sizes.ensures in (
      sizes_read _ _ h _ passed _ sizes.left _ sizes.sizes (stations_fine _ sizes.fault),
      ap (λ k. length c.args.words.now - k) (c.left.ensures ∙ ap length (entries_left _ _ h _ passed _ sizes.left).0),
    )

pub returns-clause-returned : goal.returns-clause-returned
returns-clause-returned c =
    let h = headed_of _ _ (c.in_ok-variables.ensures.head ∙ ap head_read c.over-reader.ensures.left) in
    let passed = c.in_ok-variables.ensures.left ∙ ap (drop 1) c.over-reader.ensures.left in
    let sizes = c.in_ok-sizes.ensures in
    reads_sheet _ (record { sizes = c.in_ok-sizes.sizes; entries_at = length c.args.words.now - c.left.result })
    (sym (scanned _ _ h _ passed _ sizes.left _ sizes.sizes (stations_fine _ sizes.fault) _ _ _ _ c.deref-2.ensures.0 (omega (arith, c.count_legs.ensures.0)) c.deref.ensures.0 c.in_ok-scan_entries.ensures.fault))
    (sizes_read _ _ h _ passed _ sizes.left _ sizes.sizes (stations_fine _ sizes.fault))
    (ap (λ k. length c.args.words.now - k) (c.left.ensures ∙ ap length (entries_left _ _ h _ passed _ sizes.left).0))
