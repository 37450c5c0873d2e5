use Rattle.base_reader.proofs.hiding.hide_computed.Goals as goal

pub returns-then-is_bare : goal.returns-then-is_bare
returns-then-is_bare c = c.requires (c.is_bare.ensures c.if-is_bare.true)
