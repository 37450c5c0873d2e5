use Rattle.std.proofs.Common.{◌≡◌, [], sym, ◌∙◌}
use Rattle.updater_index.specs.Registered.{ranges_of}
use Rattle.updater_index.proofs.IndexLemmas.{any_default, indexed-removes}
use Rattle.updater_index.proofs.registered.drop_last.Goals as goal

pub returns-in-Some-clause-indexed : goal.returns-in-Some-clause-indexed
returns-in-Some-clause-indexed c =
    let held = c.args.by_id.now.items in
    let own : c.index_mut.result.now ≡ ranges_of c.args.id held = c.index_mut.ensures.value ∙ any_default held c.args.id c.index_mut.result.now [] c.requires.known in
    indexed-removes held c.args.id c.pop.new.self c.in-Some.bounds c.args.forks.now c.remove.new.self c.requires.known (sym own ∙ c.in-Some.ensures) c.remove.ensures c.requires.indexed
