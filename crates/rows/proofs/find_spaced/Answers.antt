-- `find_spaced` meets its contract. The loop's invariant: the search from row k on answers what the whole search answers.
use Prim.Native.Nat.{◌+◌, ◌*◌}
use native.Mathlib.Omega.{arith}
use mathlib.Core.Path.{◌≡◌, ap, ◌∙◌}
use mathlib.Core.Bool.{false}
use lib.ListN.{drop}
use Rattle.rows.specs.Raw.{raw_at, raw_row, same_signs, find_spaced}
use Rattle.rows.proofs.RowWords.{same_signs_of, same_signs_a, same_signs_b, same_signs_c, same_signs_d, same_signs-at, row_of_words}
use Rattle.rows.proofs.Searching.{find_start, find_here, find_next, find_end}
use Rattle.rows.proofs.find_spaced.Invariants.{words}
use Rattle.rows.proofs.find_spaced.Goals as goal
use Rattle.rows.proofs.find_spaced.Goals.{At-loop-k, else-t-at-via-else-t-at, else-t-at-via-then-t-at+else-t-at-2, else-t-at-via-then-t-at+then-t-at-2+else-t-at-3, else-t-at-via-then-t-at+then-t-at-2+then-t-at-3+else-t-at-4, else-t-at-via-then-t-at+then-t-at-2+then-t-at-3+then-t-at-4+else-t-at-5}

as_row : (l : At-loop-k) → let g = l.args in
    find_spaced g.width (words l.signs-a.result l.signs-b.result l.signs-c.result l.signs-d.result) 0 g.count (drop g.base g.t.now) ≡ find_spaced g.width (raw_row g.x 0) 0 g.count (drop g.base g.t.now)
as_row l =
    let g = l.args in
    ap
    (λ r. find_spaced g.width r 0 g.count (drop g.base g.t.now))
    (row_of_words
    g.x
    _
    _
    _
    _
    0
    l.signs-a.ensures
    l.signs-b.ensures
    l.signs-c.ensures
    l.signs-d.ensures)

pub loop-k-init : goal.loop-k-init
loop-k-init c =
    let g = c.args in
    find_start g.width _ g.t.now g.base g.count

pub returns-then-t-at-5 : goal.returns-then-t-at-5
unfolding raw_at
returns-then-t-at-5 c =
    let g = c.args in
    let same =
    same_signs_of (raw_at g.t.now (g.base + g.width * c.loop-k.k)) ((words c.signs-a.result c.signs-b.result c.signs-c.result c.signs-d.result)) c.if-t-at-2.true c.if-t-at-3.true c.if-t-at-4.true c.if-t-at-5.true in
    find_here g.width ((words c.signs-a.result c.signs-b.result c.signs-c.result c.signs-d.result)) g.t.now _ g.base g.count c.loop-k.k c.loop-k.invariant (omega arith) same ∙ as_row (goal.at.returns-then-t-at-5 c).At-loop-k

pub loop-k-preserved : goal.loop-k-preserved
unfolding raw_at
loop-k-preserved c =
    let g = c.args in
    let r = raw_at g.t.now (g.base + g.width * c.loop-k.k) in
    let differ : same_signs r ((words c.signs-a.result c.signs-b.result c.signs-c.result c.signs-d.result)) ≡ false =
    elim c.else-t-at.branch [ else-t-at-via-then-t-at+then-t-at-2+then-t-at-3+then-t-at-4+else-t-at-5 w ↦ same_signs_d r ((words c.signs-a.result c.signs-b.result c.signs-c.result c.signs-d.result)) w.if-t-at-5.false | else-t-at-via-then-t-at+then-t-at-2+then-t-at-3+else-t-at-4 w ↦ same_signs_c r ((words c.signs-a.result c.signs-b.result c.signs-c.result c.signs-d.result)) w.if-t-at-4.false | else-t-at-via-then-t-at+then-t-at-2+else-t-at-3 w ↦ same_signs_b r ((words c.signs-a.result c.signs-b.result c.signs-c.result c.signs-d.result)) w.if-t-at-3.false | else-t-at-via-then-t-at+else-t-at-2 w ↦ same_signs_a r ((words c.signs-a.result c.signs-b.result c.signs-c.result c.signs-d.result)) w.if-t-at-2.false | else-t-at-via-else-t-at w ↦ same_signs-at g.t.now (g.base + g.width * c.loop-k.k) ((words c.signs-a.result c.signs-b.result c.signs-c.result c.signs-d.result)) _ _ c.telling-tell.ensures c.word_at-word.ensures w.if-t-at.false ] in
    find_next g.width ((words c.signs-a.result c.signs-b.result c.signs-c.result c.signs-d.result)) g.t.now _ g.base g.count c.loop-k.k c.loop-k.invariant (omega arith) differ

pub returns : goal.returns
returns c =
    let g = c.args in
    find_end g.width ((words c.signs-a.result c.signs-b.result c.signs-c.result c.signs-d.result)) g.t.now _ g.base g.count c.loop-k.k c.loop-k.invariant (omega arith) ∙ as_row (goal.at.returns c).At-loop-k
