-- What was sent is the reply, or `memory`.
use Rattle.std.proofs.Common.{refl, inl, arith}
use Rattle.semantics.specs.Answers.{pairs}
use Rattle.protocol.specs.Replies.{answered, done, memory, bye}
use Rattle.session.proofs.SendLemmas.{has_text, sends_text, sends_part}
use Rattle.session.proofs.line.send_reply.Goals as goal
use Rattle.session.proofs.SendLemmas.{memory_unread}

-- a fault that is not one of memory
pub send_text-requires-clause-has_text : goal.send_text-requires-clause-has_text
send_text-requires-clause-has_text g c = has_text c.args.reply.now c.in-Unread.fault c.in-Unread.is c.in_default-fault.not-OutOfMemory

pub returns-in-Done-clause-sent : goal.returns-in-Done-clause-sent
returns-in-Done-clause-sent g c = (
  done c.in-Done.position,
  rw c.in-Done.is refl,
  sends_text _ c.send.result _ _ _ (done c.in-Done.position) (grind (arith, c.write_ok-line.ensures.text)) refl c.send.ensures.whole c.send.ensures.part,
)

pub returns-in-Err-clause-sent : goal.returns-in-Err-clause-sent
returns-in-Err-clause-sent g c = (bye, rw c.in-Bye.is (inl refl), sends_part (Unit {0}) c.in-Err.end _ _ _ bye c.bye_line.ensures c.in-Err.ensures.part)

pub returns-in-Memory-clause-sent : goal.returns-in-Memory-clause-sent
returns-in-Memory-clause-sent g c = (
  memory,
  rw c.in-Memory.is refl,
  sends_text _ c.send-in-Memory.result _ _ _ memory c.memory_line.ensures refl c.send-in-Memory.ensures.whole c.send-in-Memory.ensures.part,
)

pub returns-in-Written-clause-sent : goal.returns-in-Written-clause-sent
returns-in-Written-clause-sent g c =
    let reply = answered (pairs c.in-Written.scan.position c.in-Written.scan.pairs) in (
      reply,
      rw c.in-Written.is (inl refl),
      sends_text _ c.send-in-Written.result _ _ _ reply c.line.ensures refl c.send-in-Written.ensures.whole c.send-in-Written.ensures.part,
    )

pub returns-in-OutOfMemory-clause-sent : goal.returns-in-OutOfMemory-clause-sent
returns-in-OutOfMemory-clause-sent g c = (
  memory,
  memory_unread c.args.reply.now c.in-Unread.fault c.in-Unread.is c.in-OutOfMemory.is,
  sends_text _ c.send-in-OutOfMemory.result _ _ _ memory c.memory_line-in-OutOfMemory.ensures refl c.send-in-OutOfMemory.ensures.whole c.send-in-OutOfMemory.ensures.part,
)
