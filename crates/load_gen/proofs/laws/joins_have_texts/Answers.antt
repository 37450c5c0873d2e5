use Rattle.load_gen.proofs.JoinLemmas.{joins_have_texts}
use Rattle.load_gen.proofs.laws.joins_have_texts.Goals as goal

pub returns : goal.returns
returns c = joins_have_texts
