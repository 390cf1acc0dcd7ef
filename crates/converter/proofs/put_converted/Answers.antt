-- `put_converted` meets its contract: the answer that is put is the call's.
use Rattle.converter.proofs.Answering.{call_put}
use Rattle.converter.proofs.put_converted.Goals as goal

pub returns : goal.returns
returns c =
    call_put _ _ _ _ c.convert-answer.ensures c.put_answer.ensures
