-- What is told of a position, by where it lies.
use Rattle.std.proofs.Common.{◌≡◌, ℕ, ◌+◌, ◌<◌, Option, Some, None, sym, subst, arith}
use Rattle.semantics.specs.Histories.{History}
use Rattle.protocol.specs.Requests.{Earlier}
use Rattle.protocol.specs.Replies.{gone, ahead}
use Rattle.protocol.specs.Earlier.{earlier_reply}
use Rattle.protocol.specs.Told.{IsWithinReach}
use Rattle.protocol.proofs.EarlierLemmas.{earlier_reply-gone, earlier_reply-ahead}
use Rattle.request_codec.specs.Reach.{TellsReach}
use Rattle.request_codec.specs.declared.reply.Reply.{Reply}
use Rattle.request_codec.specs.declared.reply.Reply.TheVariants.{Gone, Ahead}

-- a position of which no such reply is told lies within reach
pub in_reach : (at position : ℕ) (told : Option Reply) → TellsReach at position told → told ≡ None → IsWithinReach position at
in_reach at position told tells none = subst (TellsReach at position) none tells

-- a position ahead
pub ahead_told : (at position : ℕ) → position < at → TellsReach at position (Some (Ahead position))
ahead_told at position past = λ (e : Earlier) (h : History) asked whole.
    subst (λ n. ahead n ≡ earlier_reply e h) whole (sym (earlier_reply-ahead e h (omega (arith, past, asked, whole))))

-- a position too far back
pub gone_told : (at position : ℕ) → at + 65536 < position → TellsReach at position (Some (Gone position))
gone_told at position far = λ (e : Earlier) (h : History) asked whole.
    subst (λ n. gone n ≡ earlier_reply e h) whole (sym (earlier_reply-gone e h (omega (arith, far, asked, whole))))
