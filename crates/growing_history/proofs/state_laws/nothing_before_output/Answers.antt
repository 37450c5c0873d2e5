use Rattle.semantics.proofs.StateLemmas.{value_at-below_before}
use Rattle.growing_history.proofs.state_laws.nothing_before_output.Goals as goal

pub returns : goal.returns
returns c = λ h place r s key o up_to. value_at-below_before h r place s key (record { admissible = o.admissible; declares = o.declares; stands = o.stands; fit = o.fits }) up_to
