-- The premises of demand 3, of the one output and of the job that ran can be met: document 01's run on P3, with both endings. Assumes nothing.
use mathlib.Core.Path.{refl}
use mathlib.Core.Bool.{false}
use mathlib.Core.List.{[]}
use native.Mathlib.Omega.{arith}
use lib.ListN.{length, take}
use Rattle.machine.specs.declared.Ran.{Ran}
use Rattle.machine.specs.declared.Mark.{Mark}
use Rattle.start.specs.Start.{start_of}
use Rattle.demands.specs.Runs.{run}
use Rattle.demands.specs.Demand3.{Due, OneInTime, OneOutput}
use Rattle.demands.specs.Booking.{JobThatRan}
use Rattle.demands.proofs.Cases.{p3, quiet, signalled, silent, taken_of, right}
use Rattle.demands.proofs.Demand3.{demand3}
use Rattle.demands.proofs.OneOutput.{one_output}
use Rattle.demands.proofs.Booking.{job_that_ran}

pub signalled_due : Due p3 (taken_of signalled) 0 0
signalled_due = omega (arith, right.signalled_ticks)

pub signalled_in_time : OneInTime p3 (taken_of signalled) 0 0
signalled_in_time = demand3 p3 1 right.p3_accepted signalled 0 0 right.signalled_job signalled_due

pub signalled_one : OneOutput (taken_of signalled) 0 0
signalled_one = one_output p3 1 right.p3_accepted signalled 0 0 right.signalled_job signalled_due

pub silent_due : Due p3 (taken_of silent) 0 0
silent_due = omega (arith, right.silent_ticks)

pub silent_in_time : OneInTime p3 (taken_of silent) 0 0
silent_in_time = demand3 p3 1 right.p3_accepted silent 0 0 right.silent_job silent_due

pub silent_one : OneOutput (taken_of silent) 0 0
silent_one = one_output p3 1 right.p3_accepted silent 0 0 right.silent_job silent_due

-- the last tick of the silent run: the hypertask's output is that of the job that ran
pub silent_ran : JobThatRan (run (start_of p3).machine (take 7 silent)).machine quiet (record { ran = Ran.Hypertask 1; mark = Mark.Output; ignored = false })
    (taken_of silent) 0 (length (taken_of (take 7 silent)))
silent_ran = job_that_ran p3 1 right.p3_accepted (take 7 silent) quiet [] _ 0 right.silent_last refl
