use Rattle.pequod_cache.proofs.ClientLemmas.{fresh_is_recorded}
use Rattle.pequod_cache.proofs.cache.Cache.make_with_updater.Goals as goal

pub new-requires-clause-recorded : goal.new-requires-clause-recorded
new-requires-clause-recorded g c = fresh_is_recorded g.N.Naming.history c.args.seats.updater c.requires.updater
