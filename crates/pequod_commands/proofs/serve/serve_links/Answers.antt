use Rattle.std.proofs.Common.{◌≡◌, ℕ, ◌≤◌, ap, arith}
use Rattle.pequod_commands.proofs.serve.serve_links.Goals as goal

-- a count that stayed has not fallen
not_fallen : (before now : ℕ) → now ≡ before → before ≤ now
not_fallen before now same = omega (arith, same)

-- the doors closed

pub returns-in-Closed-clause-closed : goal.returns-in-Closed-clause-closed
returns-in-Closed-clause-closed g c = λ _. c.in-Closed.ensures.ended.0

pub returns-in-Closed-clause-opened : goal.returns-in-Closed-clause-opened
returns-in-Closed-clause-opened g c = λ _. c.in-Closed.ensures.ended.1

pub returns-in-Closed-clause-links : goal.returns-in-Closed-clause-links
returns-in-Closed-clause-links g c = λ _. c.in-Closed.ensures.ended.2

pub returns-in-Closed-clause-doors_later : goal.returns-in-Closed-clause-doors_later
returns-in-Closed-clause-doors_later g c = not_fallen _ _ c.in-Closed.ensures.ended.3

pub returns-in-Closed-clause-doors_kept : goal.returns-in-Closed-clause-doors_kept
returns-in-Closed-clause-doors_kept g c = λ _. c.in-Closed.ensures.ended.3

-- they failed

pub returns-in-Failed-clause-nowhere_else : goal.returns-in-Failed-clause-nowhere_else
returns-in-Failed-clause-nowhere_else g c = λ _. c.in-Failed.ensures.ended.0

pub returns-in-Failed-clause-links : goal.returns-in-Failed-clause-links
returns-in-Failed-clause-links g c = λ _. c.in-Failed.ensures.ended.1

pub returns-in-Failed-clause-doors_later : goal.returns-in-Failed-clause-doors_later
returns-in-Failed-clause-doors_later g c = c.in-Failed.ensures.ended.2

pub returns-in-Failed-clause-doors : goal.returns-in-Failed-clause-doors
returns-in-Failed-clause-doors g c = λ _. c.in-Failed.ensures.ended.3

-- no memory was found

pub returns-in-OutOfMemory-clause-memory_doors : goal.returns-in-OutOfMemory-clause-memory_doors
returns-in-OutOfMemory-clause-memory_doors g c = λ _. c.in-OutOfMemory.ensures.ended

pub returns-in-OutOfMemory-clause-doors_later : goal.returns-in-OutOfMemory-clause-doors_later
returns-in-OutOfMemory-clause-doors_later g c = not_fallen _ _ (ap g.D.Doors.faults c.in-OutOfMemory.ensures.ended)

pub returns-in-OutOfMemory-clause-doors_kept : goal.returns-in-OutOfMemory-clause-doors_kept
returns-in-OutOfMemory-clause-doors_kept g c = λ _. ap g.D.Doors.faults c.in-OutOfMemory.ensures.ended
