use Rattle.std.proofs.Common.{◌∙◌}
use Rattle.evict_book.proofs.BookLemmas.{touched}
use Rattle.evict_book.proofs.book.EvictBook.touch.Goals as goal

pub invariant_of-self-2 : goal.invariant_of-self-2
invariant_of-self-2 c =
    (touched c.self.inside.weights c.put.new.self c.self.inside.total c.self.inside.cells c.self.inside.limit c.args.id c.args.rows c.weigh-weight.result c.total_without.result c.args.self.now
    c.self.invariant c.self.view_is c.requires c.weigh-weight.ensures c.total_without.ensures.total c.in_ok-put.ensures.entries).weighed

pub returns-clause-ok : goal.returns-clause-ok
returns-clause-ok c =
    c.evict.ensures ∙ (touched c.self.inside.weights c.put.new.self c.self.inside.total c.self.inside.cells c.self.inside.limit c.args.id c.args.rows c.weigh-weight.result c.total_without.result c.args.self.now
    c.self.invariant c.self.view_is c.requires c.weigh-weight.ensures c.total_without.ensures.total c.in_ok-put.ensures.entries).left
