use Rattle.load_gen.specs.Entries.{entries_of}
use Rattle.pequod_cache.specs.Adding.{HasAdded}
use Rattle.load_run.proofs.acting.do_acts.Given as goal

abbrev pub invariant-loop-act : goal.invariant-loop-act
invariant-loop-act g l = HasAdded (entries_of l.fn.client.number l.yielded) l.fn.client l.client
