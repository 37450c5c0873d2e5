use Rattle.std.proofs.Common.{subst}
use Rattle.request_codec.specs.Plain.{plain_reply}
use Rattle.request_codec.specs.declared.reply.Reply.{Reply}
use Rattle.server.specs.Staffs.{IsDoneOrMemory}
use Rattle.server.proofs.StaffLemmas.{is_without_memory, no_other_reply}
use Rattle.server.proofs.staffing.entered_at.Goals as goal

pub refusal_of-requires : goal.refusal_of-requires
refusal_of-requires c = is_without_memory c.in-Unread.fault (subst (λ (reply : Reply). IsDoneOrMemory (plain_reply reply)) c.in-Unread.is c.requires)

pub unreachable-requires : goal.unreachable-requires
unreachable-requires c = no_other_reply c.args.reply c.requires c.in_default.not-Done c.in_default.not-Memory c.in_default.not-Unread
