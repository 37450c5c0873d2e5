use Rattle.std.proofs.Common.{◌≡◌, ℕ, true, IfOk, is_some, sym, ap, subst}
use Rattle.std.proofs.lemmas.Result.{IfOk-weaker}
use Rattle.semantics.specs.Texts.{table_of}
use Rattle.semantics.specs.Joins.{Join, push}
use Rattle.key_ranges.specs.Ranges.{is_open}
use Rattle.key_ranges.specs.Containing.{bind_range}
use Rattle.growing_history.proofs.EnteredLemmas.{has_entered_taken}
use Rattle.cell_slots.specs.Places.{LiesInPlace}
use Rattle.cell_slots.specs.Slots.{Frame, IsReached, IsReadySlot, place_at, StandsAs}
use Rattle.cell_slots.specs.Spending.{CoversAlone, MayKeep, Reserves}
use Rattle.cell_slots.proofs.DeclaredLemmas.{declared_once}
use Rattle.cell_table.specs.Stores.{Store}
use Rattle.scan_core.specs.Rights.{Contents, contents_of}
use Rattle.scan_core.proofs.LendingLemmas.{alone_over, reserves_over, frame_over}
use Rattle.scan_core.proofs.RightLemmas.{places_of_table, reached_table, ready_rank, right_reserved}
use Rattle.scan_core.proofs.contents.CoreCells.cover.Goals as goal

pub cover-requires : goal.cover-requires
cover-requires c =
    let reached = subst (λ (v : Contents). IsReached v.history c.args._p c.args.at c.args.rank c.args.range.now) (sym c.self.view_is) c.requires.reached in
    let join = declared_once c.self.inside.base c.args.at reached.join c.declared-join.result.now reached.stands.declared c.declared-join.ensures in
    let reaches = subst (λ (j : Join). is_some (bind_range j.output c.args.range.now) ≡ true) join reached.reaches in
    places_of_table c.self.inside.base c.self.inside.cells.holdings.slots c.args.at c.declared-join.result.now (table_of c.args.range.now.low) c.self.invariant c.declared-join.ensures
    (reached_table c.declared-join.result.now c.args.range.now c.look_at.ensures.join c.look_at.ensures.range reaches)

pub invariant_of-self : goal.invariant_of-self
invariant_of-self c =
    let reached = subst (λ (v : Contents). IsReached v.history c.args._p c.args.at c.args.rank c.args.range.now) (sym c.self.view_is) c.requires.reached in
    let join = declared_once c.self.inside.base c.args.at reached.join c.declared-join.result.now reached.stands.declared c.declared-join.ensures in
    let reaches = subst (λ (j : Join). is_some (bind_range j.output c.args.range.now) ≡ true) join reached.reaches in
    right_reserved c.self.inside.base c.self.inside.cells.holdings c.cover.new.self.holdings c.args.at c.args.rank c.declared-join.result.now c.args.range.now c.cover.ensures.slots c.declared-join.ensures c.look_at.ensures.range
    (reached_table c.declared-join.result.now c.args.range.now c.look_at.ensures.join c.look_at.ensures.range reaches) c.self.invariant

pub returns-clause-alone : goal.returns-clause-alone
returns-clause-alone c =
    let after = (contents_of c.self.inside.base c.cover.new.self).cells in
    subst (λ (v : Contents). IfOk c.cover.result (λ parts. (id : ℕ) → is_open c.args.range.now ≡ true → LiesInPlace (place_at v.cells.slots) id c.args.at c.args.range.now →
    CoversAlone v.cells after id c.args.range.now parts.items)) c.self.view_is
    (IfOk-weaker c.cover.result _ _ (λ parts covers. λ id not_empty lies. alone_over c.self.inside.base c.self.inside.cells c.cover.new.self id c.args.range.now parts.items c.cover.ensures.same_limit (covers id not_empty lies))
    c.cover.ensures.alone)

pub returns-clause-reserved : goal.returns-clause-reserved
returns-clause-reserved c =
    let after = (contents_of c.self.inside.base c.cover.new.self).cells in
    let before = (contents_of c.self.inside.base c.self.inside.cells).cells in
    let join_of = λ (j : Join) (stands : StandsAs c.self.inside.base c.args._p c.args.at c.args.rank j). declared_once c.self.inside.base c.args.at c.declared-join.result.now j c.declared-join.ensures stands.declared in
    subst (λ (v : Contents). IfOk c.cover.result (λ parts. (j : Join) → StandsAs v.history c.args._p c.args.at c.args.rank j → is_open c.args.range.now ≡ true → MayKeep v.cells.slots c.args.at j c.args.range.now →
    Reserves v.cells after c.args.at c.args.rank j c.args.range.now parts.items)) c.self.view_is
    (IfOk-weaker c.cover.result _ _ (λ parts reserves. λ j stands not_empty may.
    subst (λ (k : Join). Reserves before after c.args.at c.args.rank k c.args.range.now parts.items) (join_of j stands)
    (reserves_over c.self.inside.base c.self.inside.cells c.cover.new.self c.args.at c.args.rank c.declared-join.result.now c.args.range.now parts.items c.cover.ensures.same_limit
    (reserves not_empty (subst (λ (k : Join). MayKeep c.self.inside.cells.holdings.slots c.args.at k c.args.range.now) (sym (join_of j stands)) may)))) c.cover.ensures.reserved)

pub returns-clause-frame : goal.returns-clause-frame
returns-clause-frame c =
    subst (λ (v : Contents). Frame 0 v.cells (contents_of c.self.inside.base c.cover.new.self).cells) c.self.view_is
    (frame_over c.self.inside.base 0 c.self.inside.cells c.cover.new.self c.cover.ensures.same_limit c.cover.ensures.frame)

pub returns-clause-ranked : goal.returns-clause-ranked
returns-clause-ranked c = λ id s ready.
    let reached = subst (λ (v : Contents). IsReached v.history c.args._p c.args.at c.args.rank c.args.range.now) (sym c.self.view_is) c.requires.reached in
    ready_rank c.self.inside.base c.self.inside.cells.holdings.slots id c.args.at c.args._p c.args.rank c.args.range.now s (has_entered_taken c.args._p c.self.inside.base c.length-entries.ensures.entered) c.self.invariant reached
    (subst (λ (v : Contents). IsReadySlot v.cells.slots id c.args.at c.args._p c.args.range.now s) (sym c.self.view_is) ready)

pub returns-clause-pulled : goal.returns-clause-pulled
returns-clause-pulled c =
    let base = c.self.inside.base in
    let after = (contents_of base c.cover.new.self).cells in
    let join_of = λ (j : Join) (stands : StandsAs base c.args._p c.args.at c.args.rank j). declared_once base c.args.at c.declared-join.result.now j c.declared-join.ensures stands.declared in
    subst (λ (v : Contents). (j : Join) → StandsAs v.history c.args._p c.args.at c.args.rank j → (j.kind ≡ push → ⊥) → after ≡ v.cells) c.self.view_is
    (λ j stands pulled. ap (λ (t : Store). (contents_of base t).cells) (c.cover.ensures.pulled (λ pushed. pulled (subst (λ (k : Join). k.kind ≡ push) (join_of j stands) pushed))))
