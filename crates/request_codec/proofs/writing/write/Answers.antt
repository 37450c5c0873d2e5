use Rattle.std.proofs.Common.{ap, ◌∙◌, sym}
use Rattle.std.proofs.lemmas.Result.{IfOk-weaker}
use Rattle.protocol.specs.Replies.{reply_text}
use Rattle.request_codec.specs.Plain.{plain_reply}
use Rattle.request_codec.proofs.writing.write.Goals as goal

pub returns-in-Written : goal.returns-in-Written
returns-in-Written c = IfOk-weaker c.copy_of.result _ _ (λ line is. is ∙ c.line.ensures ∙ sym (ap (λ r. reply_text (plain_reply r)) c.in-Written.is)) c.copy_of.ensures
