use Rattle.protocol.proofs.ReplyTexts.{reply_text_injective}
use Rattle.protocol.proofs.reply_laws.texts_differ.Goals as goal

pub returns : goal.returns
returns c = reply_text_injective
