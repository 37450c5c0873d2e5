-- The text is that of the reply, or that of `memory`.
use Rattle.std.proofs.Common.{refl, ◌∙◌}
use Rattle.protocol.specs.Replies.{memory}
use Rattle.request_codec.specs.Plain.{plain_reply}
use Rattle.session.proofs.SendLemmas.{sends_text, sent_as_itself, sent_as_memory, is_bye-plain}
use Rattle.session.proofs.line.send_text.Goals as goal

pub returns-in-Ok-clause-sent : goal.returns-in-Ok-clause-sent
returns-in-Ok-clause-sent g c =
    let reply = plain_reply c.args.reply.now in (
      reply,
      sent_as_itself reply,
      sends_text _ c.send.result _ _ _ reply (c.as_slice.ensures.value ∙ c.in-Ok.ensures) (is_bye-plain reply c.requires.plain) c.send.ensures.whole c.send.ensures.part,
    )

pub returns-in-Err-clause-sent : goal.returns-in-Err-clause-sent
returns-in-Err-clause-sent g c = (
  memory,
  sent_as_memory (plain_reply c.args.reply.now) c.requires.plain,
  sends_text _ c.send-in-Err.result _ _ _ memory c.memory_line.ensures refl c.send-in-Err.ensures.whole c.send-in-Err.ensures.part,
)
