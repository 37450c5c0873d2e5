use Rattle.range_set.proofs.JoinedLemmas.{joined_are_of_table}
use Rattle.range_set.proofs.laws.joined_are_of_table.Goals as goal

pub returns : goal.returns
returns c = joined_are_of_table
