-- What takes rows.
use Rattle.std.proofs.Common.{◌≡◌, subst}
use Rattle.semantics.specs.Texts.{Table}

-- it has taken rows that are these
pub got_as : {S : Type 0} (got : S → S → Table → Type 0) (a b : S) (rows same : Table) → rows ≡ same → got a b rows → got a b same
got_as got a b rows same is taken = subst (λ (t : Table). got a b t) is taken
