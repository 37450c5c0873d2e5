use Rattle.std.proofs.Common.{◌+◌}
use Rattle.rank_layers.proofs.MoveLemmas.{moves_as}
use Rattle.rank_layers.proofs.outputs.are_read_apart.Goals as goal

pub returns-in_err-join : goal.returns-in_err-join
returns-in_err-join g c =
    record {
      moves = moves_as g.R.Reader.list g.R.Reader.floor g.C.RangeCache.looked (g.C.RangeCache.left (c.args.query.rank + 1)) c.args.reader.now c.copy_join.new.reader
          (g.met.C.RangeCache.left_looked (c.args.query.rank + 1) c.args.reader.now c.copy_join.new.reader) c.copy_join.ensures.moves;
    }

pub returns : goal.returns
returns g c =
    record {
      moves = moves_as g.R.Reader.list g.R.Reader.floor g.C.RangeCache.looked (g.C.RangeCache.left (c.args.query.rank + 1)) c.args.reader.now c.copy_join.new.reader
          (g.met.C.RangeCache.left_looked (c.args.query.rank + 1) c.args.reader.now c.copy_join.new.reader) c.copy_join.ensures.moves;
    }
