-- Inner: what a call word asks for, as the code reads it, its kind and what it lends; no statement for users rests on it.
use Rattle.std.specs.Prelude.{ℕ, cond, eqb}
use Rattle.words.specs.Layout.{kind_of, payload_of}
use Rattle.calls.specs.declared.Ask.{Ask}
use Rattle.calls.specs.Driver.{limit_of, slice_of}

unfoldable pub ask_of : ℕ → Ask
ask_of w =
    cond (eqb (kind_of w) 0) Ask.Step
    (cond (eqb (kind_of w) 1) (Ask.Run (limit_of w) (slice_of w))
    (cond (eqb (kind_of w) 2) (Ask.Plan (payload_of w)) Ask.Nothing))
