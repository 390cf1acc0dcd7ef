-- `read_request` meets its contract: each `return` of a refusal is the first of the tests that applies.
use native.Mathlib.Omega.{arith}
use Rattle.converter.proofs.Requests.{too_long, no_words, nothing, form_below, form_above, too_wide, no_fault}
use Rattle.converter.proofs.read_request.Goals as goal

pub returns-then-bytes-clause-refused : goal.returns-then-bytes-clause-refused
returns-then-bytes-clause-refused c = too_long _ (omega arith)

pub returns-then-bytes-ne0-clause-refused : goal.returns-then-bytes-ne0-clause-refused
returns-then-bytes-ne0-clause-refused c = no_words _ (omega arith) c.if-bytes-ne0.true

pub returns-then-bytes-eq0-clause-refused : goal.returns-then-bytes-eq0-clause-refused
returns-then-bytes-eq0-clause-refused c = nothing _ (omega arith) (omega arith) c.if-bytes-eq0.true

pub returns-then-form-lt5-clause-refused : goal.returns-then-form-lt5-clause-refused
returns-then-form-lt5-clause-refused c =
    form_below c.args.bytes.now (omega arith) (omega arith) c.if-bytes-eq0.false (omega (arith, c.kind-form.ensures.0, c.word_at-asked.ensures))

pub returns-then-form-gt6-clause-refused : goal.returns-then-form-gt6-clause-refused
returns-then-form-gt6-clause-refused c =
    form_above c.args.bytes.now (omega arith) (omega arith) c.if-bytes-eq0.false (omega (arith, c.kind-form.ensures.0, c.word_at-asked.ensures))

pub returns-then-words-gt-MOST_WORDS-clause-refused : goal.returns-then-words-gt-MOST_WORDS-clause-refused
returns-then-words-gt-MOST_WORDS-clause-refused c =
    let w = c.word_at-asked.ensures in
    let e = c.kind-form.ensures.0 in
    too_wide c.args.bytes.now (omega arith) (omega arith) c.if-bytes-eq0.false (omega (arith, e, w)) (omega (arith, e, w)) (omega (arith, c.payload-words.ensures.0, w))

pub returns-then-form-eq5-clause-refused : goal.returns-then-form-eq5-clause-refused
returns-then-form-eq5-clause-refused c =
    let w = c.word_at-asked.ensures in
    let e = c.kind-form.ensures.0 in
    no_fault c.args.bytes.now (omega arith) (omega arith) c.if-bytes-eq0.false (omega (arith, e, w)) (omega (arith, e, w)) (omega (arith, c.payload-words.ensures.0, w))

pub returns-clause-refused : goal.returns-clause-refused
returns-clause-refused c =
    let w = c.word_at-asked.ensures in
    let e = c.kind-form.ensures.0 in
    no_fault c.args.bytes.now (omega arith) (omega arith) c.if-bytes-eq0.false (omega (arith, e, w)) (omega (arith, e, w)) (omega (arith, c.payload-words.ensures.0, w))

pub returns-then-form-eq5-clause-asked : goal.returns-then-form-eq5-clause-asked
returns-then-form-eq5-clause-asked c =
    let w = c.word_at-asked.ensures in
    (omega (arith, c.kind-form.ensures.0, w), omega (arith, c.payload-words.ensures.0, w))

pub returns-clause-asked : goal.returns-clause-asked
returns-clause-asked c =
    let w = c.word_at-asked.ensures in
    (omega (arith, c.kind-form.ensures.0, w), omega (arith, c.payload-words.ensures.0, w))
