use Rattle.std.proofs.Common.{◌≡◌, ◌∙◌, List, filter, sym, ap, subst}
use Rattle.std.specs.List.Sorted.{IsStrictlySortedBy}
use Rattle.semantics.specs.Texts.{text_cmp, within}
use Rattle.growing_history.specs.StateChanges.{Change}
use Rattle.join_eval.specs.Answers.{change_keys}
use Rattle.shared_reader.specs.Known.{KnownView}
use Rattle.shared_reader.proofs.KnownLemmas.{known_ascend, known_part}
use Rattle.shared_reader.proofs.known.KnownChanges.within.Goals as goal

pub changes_in-part-requires : goal.changes_in-part-requires
changes_in-part-requires c =
    let same : c.as_slice.result.now ≡ c.args.self.now.changes = c.as_slice.ensures.value ∙ ap (λ (k : KnownView). k.changes) c.self.view_is in
    subst (λ (cs : List Change). IsStrictlySortedBy text_cmp (change_keys cs)) (sym same) (known_ascend c.args.self.now c.requires.0 c.requires.1)

pub returns-in-Ok : goal.returns-in-Ok
returns-in-Ok c = λ h is.
    let same : c.as_slice.result.now ≡ c.args.self.now.changes = c.as_slice.ensures.value ∙ ap (λ (k : KnownView). k.changes) c.self.view_is in
    c.in-Ok.ensures ∙ c.changes_in-part.ensures.exact ∙ ap (filter (λ (d : Change). within c.args.range.now d.key)) same
    ∙ known_part c.args.self.now c.args.q c.args.p c.args.range.now h (c.covers.ensures c.if-not-covers.false) is
