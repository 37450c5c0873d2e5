use Rattle.growing_history.proofs.ChangeLemmas.{changed_keys_ascend}
use Rattle.growing_history.proofs.change_laws.changed_keys_ascend.Goals as goal

pub returns : goal.returns
returns c = changed_keys_ascend
