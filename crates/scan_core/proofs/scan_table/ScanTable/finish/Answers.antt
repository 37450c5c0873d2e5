use Rattle.std.proofs.Common.{◌≡◌, true, false, Some, None, IfSome, IsSomeAnd, sym, ap, ◌∙◌, subst}
use Rattle.std.specs.Option.{option_copied}
use Rattle.std.specs.Ordering.{is_lt}
use Rattle.std.proofs.lemmas.Option.{same_Some}
use Rattle.semantics.specs.Texts.{text_cmp}
use Rattle.range_set.proofs.BoundLemmas.{equal_bounds}
use Rattle.scan_core.specs.declared.scan_table.UnderWay.{UnderWay}
use Rattle.scan_core.specs.Progress.{Puts, IsEnded, IsShort}
use Rattle.scan_core.specs.Stored.{progress_of, table_of}
use Rattle.scan_core.proofs.TableLemmas.{stored_at, found_in, puts, lie_after}
use Rattle.scan_core.proofs.scan_table.ScanTable.finish.Goals as goal

pub returns-in_default-clause-none : goal.returns-in_default-clause-none
returns-in_default-clause-none c = λ none.
    let there : stored_at c.args.number c.self.inside.scans.entries ≡ None = sym c.get.ensures.value ∙ ap option_copied c.in_default.is in
    subst (λ o. IfSome o IsShort) (sym (found_in c.args.number c.self.inside.scans.entries c.args.self.now None c.self.view_is there)) tt

pub returns-then-lt-clause-none : goal.returns-then-lt-clause-none
returns-then-lt-clause-none c = λ none.
    let scan = c.in-Some.scan.now in
    let there : stored_at c.args.number c.self.inside.scans.entries ≡ Some scan = sym c.get.ensures.value ∙ ap option_copied c.in-Some.is in
    let below : is_lt (text_cmp scan.place scan.range.high) ≡ true = sym (λ i. is_lt (text_cmp (c.text.ensures.text i) (c.hi.ensures i))) ∙ sym c.lt.ensures ∙ c.if-lt.true in
    subst (λ o. IfSome o IsShort) (sym (found_in c.args.number c.self.inside.scans.entries c.args.self.now (Some scan) c.self.view_is there)) below

pub invariant_of-self : goal.invariant_of-self
invariant_of-self c = lie_after c.args.number None c.self.inside.scans.entries c.remove.new.self.entries c.remove.ensures.updates.0 tt c.self.invariant

pub returns-clause-ended : goal.returns-clause-ended
returns-clause-ended c =
    let scan = c.in-Some.scan.now in
    let whole = c.in-Some-remove.whole in
    let there : stored_at c.args.number c.self.inside.scans.entries ≡ Some scan = sym c.get.ensures.value ∙ ap option_copied c.in-Some.is in
    let is : scan ≡ whole = same_Some scan whole (sym there ∙ sym c.remove.ensures.value ∙ c.in-Some-remove.is) in
    let short : is_lt (text_cmp scan.place scan.range.high) ≡ false = sym (λ i. is_lt (text_cmp (c.text.ensures.text i) (c.hi.ensures i))) ∙ sym c.lt.ensures ∙ c.if-lt.false in
    let lies = c.self.invariant c.args.number scan there in
    subst (λ o. IsSomeAnd o (λ g. IsEnded g whole.position whole.pairs.items))
    (sym (found_in c.args.number c.self.inside.scans.entries c.args.self.now (Some scan) c.self.view_is there))
    (record {
      whole = equal_bounds scan.place scan.range.high lies.ends short;
      from = ap (λ (w : UnderWay). w.position) (sym is);
      all = ap (λ (w : UnderWay). w.pairs.items) (sym is);
    })

pub returns-clause-freed : goal.returns-clause-freed
returns-clause-freed c =
    subst (λ t. Puts c.args.number None t (table_of c.remove.new.self.entries)) c.self.view_is
    (puts c.args.number None c.self.inside.scans.entries c.remove.new.self.entries c.remove.ensures.updates.0)
