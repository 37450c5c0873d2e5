-- Ends as plain data.
use Rattle.protocol.specs.Session.{Ending, closed, quit_line, long_line, read_fault, write_fault, spent, no_memory}
use Rattle.session.specs.declared.end.End.{End}
use Rattle.session.specs.declared.end.End.TheVariants.{Closed, Quit, Long, ReadFault, WriteFault, Spent, OutOfMemory}

-- an end as the definitions name it
abbrev pub plain_end : End → Ending
plain_end Closed = closed
plain_end Quit = quit_line
plain_end Long = long_line
plain_end ReadFault = read_fault
plain_end WriteFault = write_fault
plain_end Spent = spent
plain_end (OutOfMemory _) = no_memory
