use Rattle.std.proofs.Common.{◌≤◌, length, sym, subst}
use Rattle.write_history.specs.Marks.{reach}
use Rattle.write_history.specs.Passes.{PassView}
use Rattle.shared_reader.specs.Lent.{LentPass, LentReadsOn}
use Rattle.base_shards.proofs.ReadingLemmas.{reads_on-refl}
use Rattle.shared_reader.proofs.LentLemmas.{lends_on, same_pass}
use Rattle.shared_reader.proofs.reader.SharedReader.look_further.Goals as goal

pub look_at_table-requires-clause-within : goal.look_at_table-requires-clause-within
look_at_table-requires-clause-within g c = subst (λ (v : PassView). c.args.p ≤ length v.view) (sym (same_pass _ _ c.self.view_is)) c.requires.within

pub look_at_table-requires-clause-above : goal.look_at_table-requires-clause-above
look_at_table-requires-clause-above g c = subst (λ (v : PassView). reach v.mark ≤ c.args.q) (sym (same_pass _ _ c.self.view_is)) c.requires.above

pub returns-in-Some : goal.returns-in-Some
returns-in-Some g c = subst (λ (v : LentPass). LentReadsOn v c.look_at_table.new.self) c.self.view_is c.look_at_table.ensures

pub returns-in_default : goal.returns-in_default
returns-in_default g c = lends_on _ _ c.self.inside.pass.now c.self.view_is (reads_on-refl c.self.inside.pass.now)
