use Rattle.std.proofs.Common.{sym, subst}
use Rattle.join_set.specs.Sets.{Joins}
use Rattle.pequod_cache.specs.Clients.{KeepsJoins}
use Rattle.pequod_cache.proofs.JoinsLemmas.{keeps_none}
use Rattle.pequod_cache.proofs.updater.Updater.new.Goals as goal

pub invariant_of-result : goal.invariant_of-result
invariant_of-result g c = record {
  same_history = c.requires.same_history;
  free = c.requires.free;
  recorded = c.requires.recorded;
  kept = subst (λ (joins : Joins). KeepsJoins joins c.args.pass.view) (sym c.new.ensures) (keeps_none c.args.pass.view);
}
