use Rattle.std.proofs.Common.{refl}
use Rattle.protocol.specs.Replies.{reply_text}
use Rattle.json.specs.Print.{escape_byte}
use Rattle.session.proofs.line.bye_line.Goals as goal

pub returns : goal.returns
unfolding reply_text escape_byte
returns c = refl
