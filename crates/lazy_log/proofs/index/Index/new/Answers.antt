use Rattle.std.proofs.Common.{ap}
use Rattle.lazy_log.specs.Index.{is_among}
use Rattle.lazy_log.proofs.index.Index.new.Goals as goal

pub returns : goal.returns
returns c = λ output. record { just = λ q. ap (λ keys. is_among keys q) c.new-slots.ensures.empty; each = tt }
