use Rattle.std.proofs.Common.{◌≡◌, ℕ, true, Option, IfSome, sym, ap, ◌∙◌, subst, string_bytes}
use Rattle.std.proofs.lemmas.Bool.{not-false, true≢false}
use Rattle.semantics.specs.Texts.{Range, Text, same, table_of}
use Rattle.semantics.proofs.PieceLemmas.{equal_by_same}
use Rattle.range_set.specs.Held.{Held, are_of_table}
use Rattle.shared_cells.specs.Listings.{IsAdded, IsLoneGap}
use Rattle.shared_cells.proofs.ListingLemmas.{of_table-with_range}
use Rattle.shared_cells.proofs.listing.Listing.add.Goals as goal

pub insert-requires-clause-open : goal.insert-requires-clause-open
insert-requires-clause-open c = (subst (λ (o : Option Range). IfSome o (IsLoneGap c.self.inside.ranges c.args.range.now)) c.in-Some.is c.in_ok-found.ensures).not_empty

pub insert-requires-clause-free : goal.insert-requires-clause-free
insert-requires-clause-free c = (subst (λ (o : Option Range). IfSome o (IsLoneGap c.self.inside.ranges c.args.range.now)) c.in-Some.is c.in_ok-found.ensures).free

pub insert-requires-clause-table : goal.insert-requires-clause-table
insert-requires-clause-table c =
    let before = c.self.inside in
    let range = c.args.range.now in
    let name = string_bytes before.table in
    let lone : IsLoneGap before.ranges range c.in-Some.gap = subst (λ (o : Option Range). IfSome o (IsLoneGap before.ranges range)) c.in-Some.is c.in_ok-found.ensures in
    let alike : same c.table.result.now c.as_str.result.now ≡ true = not-false (same c.table.result.now c.as_str.result.now) (sym c.ne.ensures ∙ c.if-ne.false) in
    let own : table_of range.low ≡ name = sym c.table.ensures.table ∙ equal_by_same c.table.result.now c.as_str.result.now alike ∙ c.as_str.ensures.value in
    let here : table_of c.in-Some.gap.low ≡ name = ap (λ (r : Range). table_of r.low) lone.is ∙ own in
    subst (λ (t : Text). are_of_table before.ranges t ≡ true) (sym here) c.self.invariant

pub invariant_of-self-2 : goal.invariant_of-self-2
invariant_of-self-2 c =
    let before = c.self.inside in
    let range = c.args.range.now in
    let name = string_bytes before.table in
    let lone : IsLoneGap before.ranges range c.in-Some.gap = subst (λ (o : Option Range). IfSome o (IsLoneGap before.ranges range)) c.in-Some.is c.in_ok-found.ensures in
    let alike : same c.table.result.now c.as_str.result.now ≡ true = not-false (same c.table.result.now c.as_str.result.now) (sym c.ne.ensures ∙ c.if-ne.false) in
    let own : table_of range.low ≡ name = sym c.table.ensures.table ∙ equal_by_same c.table.result.now c.as_str.result.now alike ∙ c.as_str.ensures.value in
    let here : table_of c.in-Some.gap.low ≡ name = ap (λ (r : Range). table_of r.low) lone.is ∙ own in
    subst (λ (held : Held ℕ). are_of_table held name ≡ true) (sym c.in_ok-insert.ensures.ok) (of_table-with_range c.in-Some.gap c.args.id before.ranges name here c.self.invariant)

pub returns-clause-added : goal.returns-clause-added
returns-clause-added c = λ yes.
    let before = c.self.inside in
    let range = c.args.range.now in
    let lone : IsLoneGap before.ranges range c.in-Some.gap = subst (λ (o : Option Range). IfSome o (IsLoneGap before.ranges range)) c.in-Some.is c.in_ok-found.ensures in
    subst (λ (held : Held ℕ). IsAdded range c.args.id held c.insert.new.self) c.self.view_is
    (subst (λ (r : Range). IsAdded r c.args.id before.ranges c.insert.new.self) lone.is (record { not_empty = lone.not_empty; free = lone.free; more = c.in_ok-insert.ensures.ok }))

pub returns-clause-left : goal.returns-clause-left
returns-clause-left c = λ no. absurd (true≢false no)
