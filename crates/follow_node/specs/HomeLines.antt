-- What a line of a home is, as the definitions say it.
use Rattle.follow_node.specs.FedLines.{FedLine, of_entries, of_memory, of_gone, of_ahead, of_none}
use Rattle.follow_node.specs.declared.home_line.HomeLine.{HomeLine}
use Rattle.follow_node.specs.declared.home_line.HomeLine.TheVariants.{Entries, Memory, Gone, Ahead, Other}

abbrev pub plain_line : HomeLine → FedLine
plain_line (Entries from position entries) = of_entries (record { from = from; position = position; entries = entries.items })
plain_line Memory = of_memory
plain_line (Gone n) = of_gone n
plain_line (Ahead n) = of_ahead n
plain_line Other = of_none
