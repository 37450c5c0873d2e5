use Rattle.semantics.proofs.StateLemmas.{value_at-state_output}
use Rattle.semantics.proofs.state_laws.state_of_output.Goals as goal

pub returns : goal.returns
returns c =
    λ h i s key admissible declares stands fit. value_at-state_output h i s key (record { admissible = admissible; declares = declares; stands = stands; fit = fit })
