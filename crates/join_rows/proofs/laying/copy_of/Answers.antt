use Rattle.join_rows.proofs.LaidLemmas.{copied_more, within_more}
use Rattle.join_rows.proofs.laying.copy_of.Goals as goal

pub loop-entry-preserved : goal.loop-entry-preserved
loop-entry-preserved c = record {
  rows = copied_more c.args.bytes.now c.loop-entry.texts.items c.lay_again.new.texts.items c.args.entries.now c.loop-entry.places.items c.push.new.self.items c.loop-entry.entry-index c.in_ok-again.again _
      c.loop-entry-test.true c.lay_again.ensures.grows c.loop-entry.invariant.within c.in_ok-again.ensures.row c.loop-entry.invariant.rows c.in_ok-push.ensures.items;
  within = within_more c.loop-entry.texts.items c.lay_again.new.texts.items c.loop-entry.places.items c.push.new.self.items c.in_ok-again.again
      c.lay_again.ensures.grows c.loop-entry.invariant.within c.in_ok-again.ensures.within c.in_ok-push.ensures.items;
}
