use Rattle.join_lang.proofs.SourceLemmas.{tokens_taken, source_goes_on}
use Rattle.join_lang.proofs.parser.read_sources.Goals as goal

pub loop-next-preserved : goal.loop-next-preserved
loop-next-preserved c =
    source_goes_on _ c.args.end c.loop-next.names c.read_source.new.names c.loop-next.next c.next-next.result c.in-Some.word c.loop-next.tokens c.read_source.new.tokens c.next-next.new.self
    c.loop-next.sources.items c.push.new.self.items c.in_ok-read_source.field-0
    c.loop-next.invariant c.in-Some.is c.in_ok-read_source.ensures.ok (tokens_taken c.next-next.result c.read_source.new.tokens c.next-next.new.self c.next-next.ensures) c.in_ok-push.ensures.items
