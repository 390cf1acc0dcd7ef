-- `encode` answers for the whole from the answers of its parts: one law for each way out.
use native.Mathlib.Omega.{arith}
use lib.ListN.{length-set}
use Rattle.encoding.proofs.Answering.{encode_short, sizes_good, words_proper, encode_full, encodable, count_small, written_long, encode_done}
use Rattle.encoding.proofs.encode.Goals as goal

pub returns-then-t-n : goal.returns-then-t-n
returns-then-t-n c = record { returned = encode_short c.args.instance.now c.args.t.now _ _ c.in_ok-read.ensures.fault c.in_ok-read.ensures.sizes c.len-n.ensures.value c.if-t-n.true }

pub full_signs-fulls-requires : goal.full_signs-fulls-requires
full_signs-fulls-requires c =
    let good = sizes_good c.args.instance.now c.args.t.now _ _ c.in_ok-read.ensures.fault c.in_ok-read.ensures.sizes c.len-n.ensures.value in
    rw c.deref.ensures.0 good

pub has_room-requires : goal.has_room-requires
has_room-requires c = (
  c.full_signs-fulls.ensures.packed,
  words_proper c.args.instance.now c.args.t.now _ _ c.in_ok-read.ensures.fault c.in_ok-read.ensures.sizes c.len-n.ensures.value c.if-t-n.false _ (rw c.deref.ensures.0 at c.full_signs-fulls.ensures),
)

pub returns-then-not-has_room : goal.returns-then-not-has_room
returns-then-not-has_room c =
    record {
      returned = encode_full c.args.instance.now c.args.t.now _ _ c.in_ok-read.ensures.fault c.in_ok-read.ensures.sizes c.len-n.ensures.value
          c.if-t-n.false _ (rw c.deref.ensures.0 at c.full_signs-fulls.ensures) _ c.room.ensures.0 _ c.has_room.ensures c.if-not-has_room.true;
    }

pub encode_entries-count-requires : goal.encode_entries-count-requires
encode_entries-count-requires c = (
  c.full_signs-fulls.ensures.packed,
  encodable c.args.instance.now c.args.t.now _ _ c.in_ok-read.ensures.fault c.in_ok-read.ensures.sizes c.len-n.ensures.value
      c.if-t-n.false _ (rw c.deref.ensures.0 at c.full_signs-fulls.ensures) _ c.room.ensures.0 _ c.has_room.ensures c.if-not-has_room.false _ (rw c.deref-2.ensures.0 at c.clear.ensures),
)

pub overflow_cast-count : goal.overflow_cast-count
overflow_cast-count c =
    let few = count_small c.args.instance.now c.args.t.now _ _ c.in_ok-read.ensures.fault c.in_ok-read.ensures.sizes c.len-n.ensures.value
    c.if-t-n.false _ (rw c.deref.ensures.0 at c.full_signs-fulls.ensures) _ c.room.ensures.0 _ c.has_room.ensures c.if-not-has_room.false _ (rw c.deref-2.ensures.0 at c.clear.ensures) _ _ c.encode_entries-count.ensures in
    omega (arith, few, c.room.ensures.1)

pub word-requires : goal.word-requires
word-requires c =
    let few = count_small c.args.instance.now c.args.t.now _ _ c.in_ok-read.ensures.fault c.in_ok-read.ensures.sizes c.len-n.ensures.value
    c.if-t-n.false _ (rw c.deref.ensures.0 at c.full_signs-fulls.ensures) _ c.room.ensures.0 _ c.has_room.ensures c.if-not-has_room.false _ (rw c.deref-2.ensures.0 at c.clear.ensures) _ _ c.encode_entries-count.ensures in
    omega (arith, few, c.room.ensures.1)

pub shape_of-t : goal.shape_of-t
shape_of-t c =
    let long = written_long c.args.instance.now c.args.t.now _ _ c.in_ok-read.ensures.fault c.in_ok-read.ensures.sizes c.len-n.ensures.value
    c.if-t-n.false _ (rw c.deref.ensures.0 at c.full_signs-fulls.ensures) _ c.room.ensures.0 _ c.has_room.ensures c.if-not-has_room.false _ (rw c.deref-2.ensures.0 at c.clear.ensures) _ _ c.encode_entries-count.ensures in
    simp length-set long

pub returns : goal.returns
returns c =
    record {
      returned = encode_done c.args.instance.now c.args.t.now _ _ c.in_ok-read.ensures.fault c.in_ok-read.ensures.sizes c.len-n.ensures.value
          c.if-t-n.false _ (rw c.deref.ensures.0 at c.full_signs-fulls.ensures) _ c.room.ensures.0 _ c.has_room.ensures c.if-not-has_room.false _ (rw c.deref-2.ensures.0 at c.clear.ensures) _ _ c.encode_entries-count.ensures _ c.word.ensures;
    }
