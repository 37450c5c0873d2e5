use Rattle.std.proofs.Common.{[], ◌∷◌, sym, ap, ◌∙◌}
use Rattle.std.proofs.lemmas.List.{map-append}
use Rattle.semantics.specs.Texts.{bar}
use Rattle.protocol.specs.JoinText.{read_segments}
use Rattle.join_lang.proofs.TokenLemmas.{pieces_left}
use Rattle.key_pattern.specs.Plain.{plain_segments, plain_segment}
use Rattle.join_lang.proofs.SegmentLemmas.{behind_segments, none_behind, some_behind}
use Rattle.join_lang.proofs.patterns.read_segments.Goals as goal

pub returns-in-None : goal.returns-in-None
returns-in-None c =
    none_behind _ c.loop-rest.names (plain_segments c.loop-rest.list.items) c.loop-rest.rest c.in-Some.text c.cut_at.result.0.now c.cut_at.result.1
    c.loop-rest.invariant c.in-Some.is c.cut_at.ensures (rw c.in-None.is at c.in_ok-segment.ensures)

pub loop-rest-preserved : goal.loop-rest-preserved
loop-rest-preserved c =
    let step = some_behind _ c.loop-rest.names c.read_segment.new.names (plain_segments c.loop-rest.list.items) (plain_segment c.in-Some-2.segment) c.loop-rest.rest c.in-Some.text c.cut_at.result.0.now c.cut_at.result.1
    c.loop-rest.invariant c.in-Some.is c.cut_at.ensures (rw c.in-Some-2.is at c.in_ok-segment.ensures) in
    step ∙ ap (λ p. behind_segments p (read_segments c.read_segment.new.names (pieces_left bar c.cut_at.result.1))) (sym (ap plain_segments c.in_ok-push-in-Some-2.ensures.items ∙ map-append plain_segment c.loop-rest.list.items (c.in-Some-2.segment ∷ [])))
