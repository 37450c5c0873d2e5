use Rattle.std.proofs.Common.{refl}
use Rattle.join_types.specs.Writes.{plain_write}
use Rattle.pequod_cache.proofs.AddingLemmas.{write_added}
use Rattle.load_run.proofs.acting.take_write.Goals as goal

pub returns : goal.returns
returns g c =
    write_added c.args.client.now c.write.new.self c.in-Done.position c.args.client.now.number (plain_write c.args.change) refl c.write.ensures.goes_on c.in-Done.ensures.told
