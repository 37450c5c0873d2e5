use Rattle.protocol.proofs.ReplyTexts.{reply_front, reply_text-front, has_feed-reply_front}
use Rattle.protocol.proofs.reply_laws.text_is_line.Goals as goal

pub returns : goal.returns
returns c reply = (reply_front reply, reply_text-front reply, has_feed-reply_front reply)
