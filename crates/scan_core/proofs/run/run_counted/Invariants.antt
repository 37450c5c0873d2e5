use Rattle.std.proofs.Common.{map}
use Rattle.core_events.specs.PlainEvents.{plain_event, plain_done}
use Rattle.scan_core.specs.Running.{RunsPlainly}
use Rattle.scan_core.proofs.run.run_counted.Given as goal

-- the events so far are answered plainly
abbrev pub invariant-loop-event : goal.invariant-loop-event
invariant-loop-event g l = RunsPlainly (map plain_event l.yielded) (map plain_done l.answers.items) l.world.world
