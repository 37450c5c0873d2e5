use Rattle.std.proofs.Common.{ℕ, List, take, subst, sym, ap}
use Rattle.std.specs.Str.{IsUtf8}
use Rattle.std.proofs.lemmas.Str.{IsUtf8-from_is_utf8}
use Rattle.key_space.specs.Shared.{short_bytes}
use Rattle.key_space.proofs.shared_text.ShortText.as_str.Goals as goal

pub from_utf8_unchecked-requires : goal.from_utf8_unchecked-requires
from_utf8_unchecked-requires c =
    subst (λ (len : ℕ). IsUtf8 (take len c.args.self.now.bytes)) (sym c.from-len.ensures) (IsUtf8-from_is_utf8 (short_bytes c.args.self.now) c.requires.1)
