use Rattle.std.proofs.Common.{◌≡◌, [], ◌∷◌, sym, ap, ◌∙◌, is_ok}
use Rattle.join_lang.proofs.SourceLemmas.{same_ok}
use Rattle.load_gen.specs.Joins.{timeline, karma}
use Rattle.load_gen.proofs.JoinLemmas.{timeline_is_read, karma_is_read}
use Rattle.load_gen.proofs.joins.load_joins.Goals as goal

pub read-requires : goal.read-requires
read-requires c = ap is_ok timeline_is_read

pub read-requires-2 : goal.read-requires-2
read-requires-2 c = ap is_ok karma_is_read

pub returns : goal.returns
returns c =
    let first : timeline ≡ c.in_ok-timeline.timeline = same_ok _ _ (sym timeline_is_read ∙ c.in_ok-timeline.ensures) in
    let second : karma ≡ c.in_ok-karma.karma = same_ok _ _ (sym karma_is_read ∙ c.in_ok-karma.ensures) in
    c.in_ok-vec.ensures.items ∙ ap (λ j. j ∷ c.in_ok-karma.karma ∷ []) (sym first) ∙ ap (λ j. timeline ∷ j ∷ []) (sym second)
