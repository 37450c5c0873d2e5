use Rattle.std.proofs.Common.{refl}
use Rattle.json.specs.Print.{escape_byte}
use Rattle.protocol.specs.Replies.{reply_text}
use Rattle.request_codec.proofs.fixed.long_line.Goals as goal

pub returns : goal.returns
unfolding reply_text escape_byte
returns c = refl
