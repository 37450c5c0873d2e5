use Rattle.request_codec.proofs.writing.write_fault.Goals as goal

-- a line for which memory ran out has no line of its own
pub unreachable-requires : goal.unreachable-requires
unreachable-requires c = c.requires c.in-OutOfMemory.is
