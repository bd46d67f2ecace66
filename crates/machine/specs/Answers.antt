-- What the machine answers to a tick. Assumes nothing.
use Rattle.std.specs.Prelude.{Result}
use Rattle.refusals.specs.declared.Refusal.{Refusal}
use Rattle.machine.specs.declared.Taken.{Taken}

-- a tick is taken or refused
abbrev pub Answer : Type 0
Answer = Result Taken Refusal
