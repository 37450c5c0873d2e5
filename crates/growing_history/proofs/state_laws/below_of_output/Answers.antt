use Rattle.semantics.proofs.StateLemmas.{value_at-below_above}
use Rattle.growing_history.proofs.state_laws.below_of_output.Goals as goal

pub returns : goal.returns
returns c = λ h place r s key o above. value_at-below_above h r place s key (record { admissible = o.admissible; declares = o.declares; stands = o.stands; fit = o.fits }) above
