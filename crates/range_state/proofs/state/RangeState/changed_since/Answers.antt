use Rattle.std.proofs.Common.{◌≡◌, List, false, IfSome, sym, ap, ◌∙◌, subst, rules}
use Rattle.std.specs.List.{AllByRecursion}
use Rattle.semantics.specs.Texts.{Text}
use Rattle.kept_ranges.specs.Sound.{KeptRange}
use Rattle.range_state.specs.NotesSince.{keys_since}
use Rattle.range_state.specs.Held.{view_of, range_kept, FitsJoin, HasPlaces}
use Rattle.range_state.specs.Since.{is_unknown_since, IsSameBut}
use Rattle.range_state.proofs.ReadLemmas.{same_but_listed}
use Rattle.range_state.proofs.state.RangeState.changed_since.Goals as goal

pub returns-clause-same : goal.returns-clause-same
returns-clause-same c = λ h q entered stands sound.
    let view : range_kept c.self.inside.subject c.in-Some.held ≡ c.args.self.now = sym (ap (view_of c.self.inside.subject) c.in-Some.is) ∙ c.self.view_is in
    let fits : FitsJoin c.self.inside.subject.join c.in-Some.held = subst (λ o. IfSome o (FitsJoin c.self.inside.subject.join)) c.in-Some.is c.self.invariant in
    let known : is_unknown_since c.args.since c.args.range.now c.args.self.now c.args.self.now.position ≡ false = search rules in
    subst (λ (keys : List Text). IsSameBut c.args.self.now h c.args.since q c.args.range.now keys)
    (ap (λ (s : KeptRange). keys_since c.args.since c.args.range.now s.notes.list) (sym view) ∙ sym c.in_ok-keys_since.ensures)
    (same_but_listed c.args.self.now h c.args.since q c.args.range.now entered (subst (λ (s : KeptRange). AllByRecursion (λ note. HasPlaces note.mark) s.notes.list) view fits.places) stands sound known)
