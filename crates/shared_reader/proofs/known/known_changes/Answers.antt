use Rattle.std.proofs.Common.{Option, subst}
use Rattle.shared_reader.specs.Known.{KnownView, AreKnownIn}
use Rattle.shared_reader.proofs.known.known_changes.Goals as goal

pub within-requires : goal.within-requires
within-requires c = (c.requires.0, subst (λ (o : Option KnownView). AreKnownIn o c.requires.0) c.in-Some.is c.requires.1)

pub returns-in-Some : goal.returns-in-Some
returns-in-Some c = λ h are. c.within.ensures h (subst (λ (o : Option KnownView). AreKnownIn o h) c.in-Some.is are)
