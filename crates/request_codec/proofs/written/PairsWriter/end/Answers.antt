use Rattle.std.proofs.Common.{◌≡◌, ◌∷◌, ◌++◌, [], sym, ap, ◌∙◌, subst}
use Rattle.semantics.specs.Texts.{Table}
use Rattle.semantics.specs.Answers.{pairs}
use Rattle.protocol.specs.Replies.{answered, reply_text}
use Rattle.request_codec.specs.Written.{HasPairs}
use Rattle.request_codec.proofs.WrittenLemmas.{ended}
use Rattle.request_codec.proofs.written.PairsWriter.end.Goals as goal

-- the line is that of the answer with the pairs that are read back in it
pub invariant_of-result : goal.invariant_of-result
invariant_of-result c =
    let had : HasPairs c.args.position c.requires.0 c.self.inside.writer = subst (HasPairs c.args.position c.requires.0) (sym c.self.view_is) c.requires.1 in
    let made = c.in_ok-push.ensures.items ∙ ap (λ t. t ++ 10 ∷ []) c.into_inner-line.ensures.items in
    let line = ended c.args.position c.requires.0 c.self.inside.writer c.write_end.new.writer c.push.new.self.items had c.in_ok-write_end.ensures c.into_inner-line.ensures.reads_back made in
    line.0 ∙ ap (λ (rows : Table). reply_text (answered (pairs c.args.position rows))) (sym line.1)

pub returns-clause-pairs : goal.returns-clause-pairs
returns-clause-pairs c = λ rows given.
    let had : HasPairs c.args.position rows c.self.inside.writer = subst (HasPairs c.args.position rows) (sym c.self.view_is) given in
    let made = c.in_ok-push.ensures.items ∙ ap (λ t. t ++ 10 ∷ []) c.into_inner-line.ensures.items in
    (ended c.args.position rows c.self.inside.writer c.write_end.new.writer c.push.new.self.items had c.in_ok-write_end.ensures c.into_inner-line.ensures.reads_back made).1
