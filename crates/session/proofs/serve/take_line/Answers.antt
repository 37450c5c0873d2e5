-- One line of a piece, by what the piece makes of the line under way.
use Rattle.std.proofs.Common.{◌≡◌, ◌∙◌, ◌++◌, [], take, drop, false, sym, ap}
use Rattle.protocol.specs.Replies.{reply_text}
use Rattle.pq_io.proofs.StreamLemmas.{Took-nothing}
use Rattle.request_codec.specs.Feeding.{UnderWay}
use Rattle.session.proofs.LineLemmas.{goes_on_after_line, first_by_feed}
use Rattle.session.proofs.TakeLemmas.{short_after, goes_on_more, long_after, ended_by, ends_at_line, ends_at_long, ends_at_long_part}
use Rattle.session.proofs.serve.take_line.Goals as goal

pub returns-in-More-clause-line : goal.returns-in-More-clause-line
returns-in-More-clause-line g c = short_after c.args.lines.now.line c.args.piece.now _ c.requires.line c.feed.ensures.line

pub returns-in-More-clause-served : goal.returns-in-More-clause-served
returns-in-More-clause-served g c =
    ([], Took-nothing _, goes_on_more _ _ c.args.lines.now.line c.args.piece.now _ c.requires.line (sym c.feed.ensures.fed ∙ c.in-More.is) c.feed.ensures.line)

pub returns-in-Ok-clause-served : goal.returns-in-Ok-clause-served
returns-in-Ok-clause-served g c =
    ends_at_long _ _ (c.args.lines.now.line ++ c.args.piece.now) c.long_line.result.now _ _ _ c.long_line.ensures
    (long_after c.args.lines.now.line c.args.piece.now c.in-Long.field-0 c.requires.line (sym c.feed.ensures.fed ∙ c.in-Long.is)) c.in-Ok.ensures.whole

pub returns-in-Err-clause-served : goal.returns-in-Err-clause-served
returns-in-Err-clause-served g c =
    ends_at_long_part c.in-Err.end _ _ (c.args.lines.now.line ++ c.args.piece.now) c.long_line.result.now _ _ _ c.long_line.ensures
    (long_after c.args.lines.now.line c.args.piece.now c.in-Long.field-0 c.requires.line (sym c.feed.ensures.fed ∙ c.in-Long.is)) c.in-Err.ensures.part

pub returns-in-Ok-serve_line-clause-served : goal.returns-in-Ok-serve_line-clause-served
returns-in-Ok-serve_line-clause-served g c =
    let served = c.in-Ok-serve_line.ensures.served in
    let ended = ended_by c.args.lines.now.line c.args.piece.now c.line.result.now c.in-Line.count c.requires.line (sym c.feed.ensures.fed ∙ c.in-Line.is) (c.line.ensures.line ∙ c.feed.ensures.line) in
    let short = short_after c.args.lines.now.line c.args.piece.now c.line.result.now c.requires.line (c.line.ensures.line ∙ c.feed.ensures.line) in
    let next : c.clear.new.self.line ≡ [] = ap (λ (u : UnderWay). u.line) c.clear.ensures in (
      reply_text served.0,
      served.2.0,
      goes_on_after_line _ _ _ (c.args.lines.now.line ++ take c.in-Line.count c.args.piece.now) c.line.result.now c.clear.new.self.line served.0 short ended.taken served.1 served.2.1 next,
    )

pub returns-in-Err-serve_line-clause-served : goal.returns-in-Err-serve_line-clause-served
returns-in-Err-serve_line-clause-served g c =
    let served = c.in-Err-serve_line.ensures.served in
    let ended = ended_by c.args.lines.now.line c.args.piece.now c.line.result.now c.in-Line.count c.requires.line (sym c.feed.ensures.fed ∙ c.in-Line.is) (c.line.ensures.line ∙ c.feed.ensures.line) in
    let short = short_after c.args.lines.now.line c.args.piece.now c.line.result.now c.requires.line (c.line.ensures.line ∙ c.feed.ensures.line) in
    ends_at_line (Unit {0}) c.in-Err-serve_line.end _ _ _ (c.args.lines.now.line ++ c.args.piece.now) c.line.result.now _ _ _ false served.0
    (first_by_feed (c.args.lines.now.line ++ c.args.piece.now) c.line.result.now (drop c.in-Line.count c.args.piece.now) short ended.whole)
    (λ e. absurd (cc)) served.1 served.2
