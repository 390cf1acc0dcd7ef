-- `takes` asks for the room first, then answers by the phase.
use Rattle.cutting.proofs.Phases.{small_room, length_takes, body_takes, body_past, passing_takes, over_takes}
use Rattle.cutting.proofs.takes.Goals as goal

pub returns-then-room-lt-SHEET_BYTES : goal.returns-then-room-lt-SHEET_BYTES
returns-then-room-lt-SHEET_BYTES c = small_room _ _ c.if-room-lt-SHEET_BYTES.true

pub returns-in-Length : goal.returns-in-Length
returns-in-Length c = length_takes _ _ c.if-room-lt-SHEET_BYTES.false _ c.in-Length.is

pub returns-then-at-end : goal.returns-then-at-end
returns-then-at-end c = body_takes _ _ c.if-room-lt-SHEET_BYTES.false _ _ c.in-Body.is c.if-at-end.true

pub returns-else-at-end : goal.returns-else-at-end
returns-else-at-end c = body_past _ _ c.if-room-lt-SHEET_BYTES.false _ _ c.in-Body.is c.if-at-end.false

pub returns-in-Passing : goal.returns-in-Passing
returns-in-Passing c = passing_takes _ _ c.if-room-lt-SHEET_BYTES.false _ c.in-Passing.is

pub returns-in-Over : goal.returns-in-Over
returns-in-Over c = over_takes _ _ c.if-room-lt-SHEET_BYTES.false c.in-Over.is
