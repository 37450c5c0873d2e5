use Rattle.std.proofs.Common.{◌≡◌, ◌&&◌, true, false, Bool, Some, None, IfSome, IsSomeAnd, Ordering, Less, Equal, Greater, refl, sym, ap, ◌∙◌, subst}
use Rattle.std.specs.Option.{option_copied}
use Rattle.std.specs.Ordering.{is_lt, is_le, is_gt, is_ge}
use Rattle.std.proofs.lemmas.Bool.{false≢true, and_from}
use Rattle.semantics.specs.Texts.{text_cmp}
use Rattle.core_events.specs.Plain.{goes_on}
use Rattle.scan_core.specs.Progress.{IsNext}
use Rattle.scan_core.proofs.TableLemmas.{stored_at, found_in}
use Rattle.scan_core.proofs.scan_table.ScanTable.next_part.Goals as goal

-- the order of two texts, by the other test
below-at_least : (o : Ordering) → is_ge o ≡ true → is_lt o ≡ false
below-at_least Less h = sym h
below-at_least Equal h = refl
below-at_least Greater h = refl

below-not_least : (o : Ordering) → is_ge o ≡ false → is_lt o ≡ true
below-not_least Less h = refl
below-not_least Equal h = sym h
below-not_least Greater h = sym h

up_to-above : (o : Ordering) → is_gt o ≡ true → is_le o ≡ false
up_to-above Less h = sym h
up_to-above Equal h = sym h
up_to-above Greater h = refl

up_to-not_above : (o : Ordering) → is_gt o ≡ false → is_le o ≡ true
up_to-not_above Less h = refl
up_to-not_above Equal h = refl
up_to-not_above Greater h = sym h

and_false : (a b : Bool) → b ≡ false → (a && b) ≡ false
and_false true b h = h
and_false false b h = refl

pub returns-in_default : goal.returns-in_default
returns-in_default c =
    let there : stored_at c.args.number c.self.inside.scans.entries ≡ None = sym c.get.ensures.value ∙ ap option_copied c.in_default.is in
    subst (λ o. IfSome o (λ g. goes_on c.args.upto.now g.scan ≡ false)) (sym (found_in c.args.number c.self.inside.scans.entries c.args.self.now None c.self.view_is there)) tt

pub returns-then-ge : goal.returns-then-ge
returns-then-ge c =
    let scan = c.in-Some.scan.now in
    let there : stored_at c.args.number c.self.inside.scans.entries ≡ Some scan = sym c.get.ensures.value ∙ ap option_copied c.in-Some.is in
    let least : is_ge (text_cmp scan.place c.args.upto.now) ≡ true = sym (λ i. is_ge (text_cmp (c.text.ensures.text i) (c.text-2.ensures.text i))) ∙ sym c.ge.ensures ∙ c.if-ge.true in
    subst (λ o. IfSome o (λ g. goes_on c.args.upto.now g.scan ≡ false)) (sym (found_in c.args.number c.self.inside.scans.entries c.args.self.now (Some scan) c.self.view_is there))
    (ap (λ b. b && is_le (text_cmp c.args.upto.now scan.range.high)) (below-at_least (text_cmp scan.place c.args.upto.now) least))

pub returns-then-gt : goal.returns-then-gt
returns-then-gt c =
    let scan = c.in-Some.scan.now in
    let there : stored_at c.args.number c.self.inside.scans.entries ≡ Some scan = sym c.get.ensures.value ∙ ap option_copied c.in-Some.is in
    let above : is_gt (text_cmp c.args.upto.now scan.range.high) ≡ true = sym (λ i. is_gt (text_cmp (c.text-3.ensures.text i) (c.hi.ensures i))) ∙ sym c.gt.ensures ∙ c.if-gt.true in
    subst (λ o. IfSome o (λ g. goes_on c.args.upto.now g.scan ≡ false)) (sym (found_in c.args.number c.self.inside.scans.entries c.args.self.now (Some scan) c.self.view_is there))
    (and_false (is_lt (text_cmp scan.place c.args.upto.now)) (is_le (text_cmp c.args.upto.now scan.range.high)) (up_to-above (text_cmp c.args.upto.now scan.range.high) above))

pub range_between-requires-clause-begins : goal.range_between-requires-clause-begins
range_between-requires-clause-begins c =
    (c.self.invariant c.args.number c.in-Some.scan.now (sym c.get.ensures.value ∙ ap option_copied c.in-Some.is)).begins

pub returns : goal.returns
returns c =
    let scan = c.in-Some.scan.now in
    let there : stored_at c.args.number c.self.inside.scans.entries ≡ Some scan = sym c.get.ensures.value ∙ ap option_copied c.in-Some.is in
    let least : is_ge (text_cmp scan.place c.args.upto.now) ≡ false = sym (λ i. is_ge (text_cmp (c.text.ensures.text i) (c.text-2.ensures.text i))) ∙ sym c.ge.ensures ∙ c.if-ge.false in
    let above : is_gt (text_cmp c.args.upto.now scan.range.high) ≡ false = sym (λ i. is_gt (text_cmp (c.text-3.ensures.text i) (c.hi.ensures i))) ∙ sym c.gt.ensures ∙ c.if-gt.false in
    subst (λ o. IsSomeAnd o (λ g. IsNext c.args.upto.now g c.in_ok-range.range scan.position)) (sym (found_in c.args.number c.self.inside.scans.entries c.args.self.now (Some scan) c.self.view_is there))
    (record {
      goes = and_from (is_lt (text_cmp scan.place c.args.upto.now)) (is_le (text_cmp c.args.upto.now scan.range.high)) (below-not_least (text_cmp scan.place c.args.upto.now) least) (up_to-not_above (text_cmp c.args.upto.now scan.range.high) above);
      begins = (c.self.invariant c.args.number scan there).begins;
      from = c.in_ok-range.ensures;
      after = refl;
    })
