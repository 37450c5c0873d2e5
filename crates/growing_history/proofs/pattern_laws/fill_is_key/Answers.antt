use Rattle.growing_history.proofs.TableKeys.{fill_is_key_lem}
use Rattle.growing_history.proofs.pattern_laws.fill_is_key.Goals as goal

pub returns : goal.returns
returns c = fill_is_key_lem
