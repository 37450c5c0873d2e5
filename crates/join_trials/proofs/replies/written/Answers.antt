use Rattle.std.proofs.Common.{[], ◌∷◌, ◌++◌}
use Rattle.semantics.specs.Texts.{Text}
use Rattle.request_codec.proofs.WrittenLemmas.{pairs_more}
use Rattle.join_trials.proofs.replies.written.Goals as goal

pub loop-pair-init : goal.loop-pair-init
loop-pair-init c = ([], c.in_ok-writer.ensures)

pub loop-pair-preserved : goal.loop-pair-preserved
loop-pair-preserved c =
    let row : Text × Text = (c.text.result.now, c.text-in-loop-pair.result.now) in
    (c.loop-pair.invariant.0 ++ row ∷ [], pairs_more c.args.position c.loop-pair.writer c.push.new.self c.loop-pair.invariant.0 (row ∷ []) c.loop-pair.invariant.1 c.in_ok-push.ensures)

pub end-requires : goal.end-requires
end-requires c = c.loop-pair.invariant
