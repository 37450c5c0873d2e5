use Rattle.server.proofs.staffing.refusal_of.Goals as goal

pub unreachable-requires : goal.unreachable-requires
unreachable-requires c = c.in_default.not-OutOfMemory tt c.requires
