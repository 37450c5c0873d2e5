use Rattle.std.proofs.Common.{◌≡◌, ◌∙◌, [], ◌++◌, map, length, ap, sym, subst, append-nil}
use Rattle.protocol.specs.Lines.{whole_lines}
use Rattle.protocol.specs.Transcript.{reply_texts}
use Rattle.protocol.proofs.ReplyTexts.{reply_front}
use Rattle.protocol.proofs.WrittenLines.{whole_lines-reply_texts}
use Rattle.follow_node.specs.Fed.{writes_of, fed_onto, fed_of}
use Rattle.follow_node.specs.Standing.{Begins}
use Rattle.follow_node.specs.FedLaw.{FeedsView}
use Rattle.follow_node.proofs.LinesFeed.{lines_feed}
use Rattle.follow_node.proofs.OwnLines.{lines_told, small_view}
use Rattle.follow_node.proofs.fed_law.feeds_view.Goals as goal

feeds_view : FeedsView
unfolding fed_of
feeds_view client before view requests replies rest told feeds parsed most none =
    let lines : whole_lines (reply_texts replies ++ rest) ≡ map reply_front replies =
    whole_lines-reply_texts replies rest ∙ ap (λ more. map reply_front replies ++ more) none ∙ append-nil (map reply_front replies) in
    subst (λ all. Begins (fed_onto [] all) (writes_of view)) (sym lines)
    (lines_feed view (map reply_front replies) (lines_told view client (length before) (length view) requests replies told.answers feeds told.ordered most (small_view view parsed)))

pub returns : goal.returns
returns c = feeds_view
