use Rattle.std.proofs.Common.{◌≡◌, ◌-◌, ◌<◌, ◌≤◌, OnOk, OnErr, length, take, drop, sym, ◌∙◌, subst, arith}
use Rattle.growing_history.specs.Entered.{HasEntered}
use Rattle.growing_history.specs.Changes.{entries_between}
use Rattle.write_history.specs.Marks.{MayAsk}
use Rattle.write_history.specs.declared.known.Mark.{Mark}
use Rattle.write_history.specs.Passes.{PassView}
use Rattle.base_shards.specs.Shards.{ShardView, KeepsBeginning}
use Rattle.base_shards.specs.Marks.{MarksAtLeast, marked_by}
use Rattle.base_shards.proofs.MarkLemmas.{at_least_next, marked_next}
use Rattle.base_shards.proofs.ShardLemmas.{takes_own, next_room, keeps_next, next_nearer, next_between}
use Rattle.base_shards.proofs.shard.Shard.take_next.Goals as goal

pub advance_own-requires-clause-own : goal.advance_own-requires-clause-own
advance_own-requires-clause-own g c =
    let base = c.self.inside.base in
    let view = c.self.inside.pass.view in
    let from = c.position-from.result in
    let to = c.min-to.result in
    let own = c.as_slice-own.result.now in
    let before = subst (λ (s : ShardView). s.base.position < c.args.p) (sym c.self.view_is) c.requires.before in
    let inside = subst (λ (s : ShardView). c.args.p ≤ length s.pass.view) (sym c.self.view_is) c.requires.within in
    let takes = takes_own base view c.args.p from to c.self.inside.number own c.in_ok-copies.copies.items c.self.invariant.1.shards c.self.invariant.0 c.position-from.ensures.position c.min-to.ensures
    c.as_slice-own.ensures.value c.in_ok-copies.ensures.entries before inside in
    (take (to - from) (drop from view), takes.are)

pub advance_own-requires-clause-room : goal.advance_own-requires-clause-room
advance_own-requires-clause-room g c =
    let base = c.self.inside.base in
    let view = c.self.inside.pass.view in
    let from = c.position-from.result in
    let to = c.min-to.result in
    let own = c.as_slice-own.result.now in
    let before = subst (λ (s : ShardView). s.base.position < c.args.p) (sym c.self.view_is) c.requires.before in
    let inside = subst (λ (s : ShardView). c.args.p ≤ length s.pass.view) (sym c.self.view_is) c.requires.within in
    let takes = takes_own base view c.args.p from to c.self.inside.number own c.in_ok-copies.copies.items c.self.invariant.1.shards c.self.invariant.0 c.position-from.ensures.position c.min-to.ensures
    c.as_slice-own.ensures.value c.in_ok-copies.ensures.entries before inside in
    let entered = subst (λ (s : ShardView). HasEntered s.pass.view) (sym c.self.view_is) c.requires.entered in
    next_room view base.position c.args.p from to (take (to - from) (drop from view)) takes.next entered

pub invariant_of-self-2 : goal.invariant_of-self-2
invariant_of-self-2 g c =
    let base = c.self.inside.base in
    let view = c.self.inside.pass.view in
    let from = c.position-from.result in
    let to = c.min-to.result in
    let own = c.as_slice-own.result.now in
    let before = subst (λ (s : ShardView). s.base.position < c.args.p) (sym c.self.view_is) c.requires.before in
    let inside = subst (λ (s : ShardView). c.args.p ≤ length s.pass.view) (sym c.self.view_is) c.requires.within in
    let takes = takes_own base view c.args.p from to c.self.inside.number own c.in_ok-copies.copies.items c.self.invariant.1.shards c.self.invariant.0 c.position-from.ensures.position c.min-to.ensures
    c.as_slice-own.ensures.value c.in_ok-copies.ensures.entries before inside in
    let keeps = keeps_next c.advance_own.result g.N.Naming.history base c.advance_own.new.self c.self.inside.pass c.args.p from to own (take (to - from) (drop from view))
    c.self.invariant.1 takes c.advance_own.ensures.shards c.advance_own.ensures.start c.advance_own.ensures.ok c.advance_own.ensures.position c.advance_own.ensures.err in
    (c.self.invariant.0 ∙ sym c.advance_own.ensures.shard, subst (λ (w : PassView). KeepsBeginning g.N.Naming.history c.advance_own.new.self w) (sym c.in_ok-copies.ensures.unchanged) keeps)

pub returns-clause-nearer : goal.returns-clause-nearer
returns-clause-nearer g c =
    let base = c.self.inside.base in
    let view = c.self.inside.pass.view in
    let from = c.position-from.result in
    let to = c.min-to.result in
    let own = c.as_slice-own.result.now in
    let before = subst (λ (s : ShardView). s.base.position < c.args.p) (sym c.self.view_is) c.requires.before in
    let inside = subst (λ (s : ShardView). c.args.p ≤ length s.pass.view) (sym c.self.view_is) c.requires.within in
    let takes = takes_own base view c.args.p from to c.self.inside.number own c.in_ok-copies.copies.items c.self.invariant.1.shards c.self.invariant.0 c.position-from.ensures.position c.min-to.ensures
    c.as_slice-own.ensures.value c.in_ok-copies.ensures.entries before inside in
    subst (λ (s : ShardView). OnOk c.advance_own.result (s.base.position < c.advance_own.new.self.position)) c.self.view_is
    (next_nearer c.advance_own.result base c.advance_own.new.self view c.args.p from to own (take (to - from) (drop from view)) takes c.advance_own.ensures.position)

pub returns-clause-kept : goal.returns-clause-kept
returns-clause-kept g c =
    let base = c.self.inside.base in
    let view = c.self.inside.pass.view in
    let from = c.position-from.result in
    let to = c.min-to.result in
    let own = c.as_slice-own.result.now in
    let before = subst (λ (s : ShardView). s.base.position < c.args.p) (sym c.self.view_is) c.requires.before in
    let inside = subst (λ (s : ShardView). c.args.p ≤ length s.pass.view) (sym c.self.view_is) c.requires.within in
    let takes = takes_own base view c.args.p from to c.self.inside.number own c.in_ok-copies.copies.items c.self.invariant.1.shards c.self.invariant.0 c.position-from.ensures.position c.min-to.ensures
    c.as_slice-own.ensures.value c.in_ok-copies.ensures.entries before inside in
    subst (λ (s : ShardView). s.base.position ≤ c.advance_own.new.self.position) c.self.view_is
    (next_between c.advance_own.result base c.advance_own.new.self c.self.inside.pass c.args.p from to own (take (to - from) (drop from view)) takes c.advance_own.ensures.ok c.advance_own.ensures.position c.advance_own.ensures.err).0

pub returns-clause-upto : goal.returns-clause-upto
returns-clause-upto g c =
    let base = c.self.inside.base in
    let view = c.self.inside.pass.view in
    let from = c.position-from.result in
    let to = c.min-to.result in
    let own = c.as_slice-own.result.now in
    let before = subst (λ (s : ShardView). s.base.position < c.args.p) (sym c.self.view_is) c.requires.before in
    let inside = subst (λ (s : ShardView). c.args.p ≤ length s.pass.view) (sym c.self.view_is) c.requires.within in
    let takes = takes_own base view c.args.p from to c.self.inside.number own c.in_ok-copies.copies.items c.self.invariant.1.shards c.self.invariant.0 c.position-from.ensures.position c.min-to.ensures
    c.as_slice-own.ensures.value c.in_ok-copies.ensures.entries before inside in
    (next_between c.advance_own.result base c.advance_own.new.self c.self.inside.pass c.args.p from to own (take (to - from) (drop from view)) takes c.advance_own.ensures.ok c.advance_own.ensures.position c.advance_own.ensures.err).1

pub returns-clause-marked : goal.returns-clause-marked
returns-clause-marked g c =
    let base = c.self.inside.base in
    let view = c.self.inside.pass.view in
    let from = c.position-from.result in
    let to = c.min-to.result in
    let own = c.as_slice-own.result.now in
    let before = subst (λ (s : ShardView). s.base.position < c.args.p) (sym c.self.view_is) c.requires.before in
    let inside = subst (λ (s : ShardView). c.args.p ≤ length s.pass.view) (sym c.self.view_is) c.requires.within in
    let takes = takes_own base view c.args.p from to c.self.inside.number own c.in_ok-copies.copies.items c.self.invariant.1.shards c.self.invariant.0 c.position-from.ensures.position c.min-to.ensures
    c.as_slice-own.ensures.value c.in_ok-copies.ensures.entries before inside in
    subst (λ (s : ShardView). OnOk c.advance_own.result (c.mark_written.new.index ≡ marked_by s.base.shard (entries_between s.base.position c.advance_own.new.self.position s.pass.view) s.index)) c.self.view_is
    (marked_next c.advance_own.result view base c.advance_own.new.self c.args.p from to own (take (to - from) (drop from view)) c.self.inside.index c.mark_written.new.index c.self.invariant.1.shards takes
    c.in_ok-mark_written.ensures.ok c.advance_own.ensures.position)

pub returns-clause-in_part : goal.returns-clause-in_part
returns-clause-in_part g c =
    let base = c.self.inside.base in
    let view = c.self.inside.pass.view in
    let from = c.position-from.result in
    let to = c.min-to.result in
    let own = c.as_slice-own.result.now in
    let before = subst (λ (s : ShardView). s.base.position < c.args.p) (sym c.self.view_is) c.requires.before in
    let inside = subst (λ (s : ShardView). c.args.p ≤ length s.pass.view) (sym c.self.view_is) c.requires.within in
    let takes = takes_own base view c.args.p from to c.self.inside.number own c.in_ok-copies.copies.items c.self.invariant.1.shards c.self.invariant.0 c.position-from.ensures.position c.min-to.ensures
    c.as_slice-own.ensures.value c.in_ok-copies.ensures.entries before inside in
    subst (λ (s : ShardView). OnErr c.advance_own.result (MarksAtLeast s.base.shard (entries_between s.base.position c.advance_own.new.self.position s.pass.view) s.index c.mark_written.new.index)) c.self.view_is
    (at_least_next c.advance_own.result view base c.advance_own.new.self c.args.p from to own (take (to - from) (drop from view)) c.self.inside.index c.mark_written.new.index c.self.invariant.1.shards takes
    c.in_ok-mark_written.ensures.ok c.advance_own.ensures.err)

pub entries_of-requires-clause-kept : goal.entries_of-requires-clause-kept
entries_of-requires-clause-kept g c =
    let keeps = c.self.invariant.1 in
    let reached : keeps.noted.last ≤ c.position-from.result = omega (arith, keeps.noted.reached, c.position-from.ensures.position) in
    subst (λ (mark : Mark). MayAsk mark c.position-from.result) (sym keeps.noted.noted) reached
