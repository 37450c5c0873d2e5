use Rattle.std.proofs.Common.{◌≡◌, ℕ, ◌⊎◌, inl, inr, Vec, subst}
use Rattle.std.specs.declared.alloc.Global.{Global}
use Rattle.join_types.specs.declared.write.Entry.{Entry}
use Rattle.request_codec.specs.Plain.{IsUnwritten}
use Rattle.request_codec.specs.declared.reply.Reply.{Reply}
use Rattle.request_codec.specs.declared.reply.Reply.TheVariants.{Written, Entries}
use Rattle.request_codec.specs.declared.written.WrittenPairs.{WrittenPairs}
use Rattle.request_codec.proofs.writing.write_items.Goals as goal

-- neither a line that is there already nor one of entries is written here
not_here : (reply : Reply) → IsUnwritten reply
    → ((scan : WrittenPairs) × (reply ≡ Written scan)) ⊎ ((from : ℕ) × (position : ℕ) × (entries : Vec Entry Global) × (reply ≡ Entries from position entries)) → ⊥
not_here reply given (inl it) = subst IsUnwritten it.1 given
not_here reply given (inr it) = subst IsUnwritten it.3 given

pub unreachable-requires : goal.unreachable-requires
unreachable-requires c = not_here c.args.reply.now c.requires.unwritten c.in-Written.is
