use Rattle.std.proofs.Common.{refl}
use Rattle.rank_layers.proofs.rank_reader.RankReaderReader.changes.Goals as goal

pub returns-clause-on : goal.returns-clause-on
returns-clause-on g c = (refl, c.changes.ensures.moves.on)
