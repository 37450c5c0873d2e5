-- The joins that the texts of the load are read as.
use Rattle.std.proofs.Common.{◌≡◌, refl, codes, Ok}
use Rattle.protocol.specs.JoinText.{read_join, read_pattern}
use Rattle.load_gen.specs.Joins.{timeline, karma, JoinsHaveTexts}

-- the text of the timelines
pub timeline_is_read : read_join (codes "t|<user:4>|<time:8>|<poster:4> = check s|<user:4>|<poster:4> copy p|<poster:4>|<time:8>") ≡ Ok timeline
unfolding read_join read_pattern
timeline_is_read = refl

-- the text of the count of votes
pub karma_is_read : read_join (codes "karma|<poster:4> = count v|<poster:4>|<user:4>") ≡ Ok karma
unfolding read_join read_pattern
karma_is_read = refl

-- both
pub joins_have_texts : JoinsHaveTexts
joins_have_texts = (timeline_is_read, karma_is_read)
