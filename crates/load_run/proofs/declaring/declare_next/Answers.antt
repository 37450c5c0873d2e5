use Rattle.semantics.specs.Histories.{declare}
use Rattle.pequod_cache.proofs.AddingLemmas.{write_added}
use Rattle.load_run.proofs.declaring.declare_next.Goals as goal

pub returns-clause-added : goal.returns-clause-added
returns-clause-added g c =
    write_added c.args.first.now c.declare.new.self c.in-Done.position 0 (declare c.args.join) c.requires.numbered c.declare.ensures.goes_on c.in-Done.ensures.told
