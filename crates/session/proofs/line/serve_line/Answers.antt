-- The line is served by what was sent for its reply.
use Rattle.request_codec.specs.Plain.{plain_reply}
use Rattle.session.proofs.SendLemmas.{serves_sent_as, small_done}
use Rattle.session.proofs.line.serve_line.Goals as goal

pub send_reply-requires : goal.send_reply-requires
send_reply-requires g c = small_done _ _ _ c.args.line.now (plain_reply c.answer_line-reply.result) c.answer_line-reply.ensures.served

pub returns-clause-served : goal.returns-clause-served
returns-clause-served g c =
    let sent = c.send_reply.ensures.sent in
    (sent.0, serves_sent_as _ _ _ c.args.line.now (plain_reply c.answer_line-reply.result) sent.0 sent.1 c.answer_line-reply.ensures.served, sent.2)
