use Rattle.std.proofs.Common.{◌≡◌, ℕ, ◌||◌, ◌&&◌, not, ap, sym, ◌∙◌, Bool, true, false}
use Rattle.std.proofs.lemmas.Bool.{not-false}
use Rattle.semantics.specs.Texts.{Range}
use Rattle.updater_index.specs.declared.side.Span.{Span}
use Rattle.std.specs.List.{list_any}
use Rattle.std.specs.BTreeMap.{is_at}
use Rattle.updater_index.specs.Spans.{span_cmp, has_low, has_high, is_same}
use Rattle.updater_index.proofs.SpanLemmas.{low_added, high_added, low_removed, back_out, not_true, span_is}
use Rattle.updater_index.proofs.side.Side.insert.Goals as goal

abbrev turned : Span → Span
turned s = record { first = s.second; id = s.id; second = s.first }

-- what was added is taken out again
undone : (c : goal.Joined-turned-2) (r : Range) (q : ℕ) → has_low c.remove.new.self.keys r q ≡ has_low c.self.inside.lows.keys r q
undone c r q =
    let b = c.args.bounds.now in
    let id = c.args.id in
    let had = c.self.inside.lows.keys in
    low_removed c.insert.new.self.keys c.remove.new.self.keys b id _ (c.turned.ensures ∙ ap (λ (s : Span). turned s) (c.split-memory.ensures ∙ c.in-Err.ensures.value_returned) ∙ span_is id (c.in_ok-copy-4.ensures ∙ c.low-3.ensures) (c.in_ok-copy-3.ensures ∙ c.high-2.ensures)) c.remove.ensures.updates.0 r q
    ∙ ap (λ h. not (is_same b id r q) && h) (low_added had c.insert.new.self.keys b id _ (span_is id (c.in_ok-copy.ensures ∙ c.low.ensures) (c.in_ok-copy-2.ensures ∙ c.high.ensures)) c.in_ok-added.ensures.updates.0 r q)
    ∙ back_out (has_low had) b id (not_true (has_low had b id) (ap (λ k. not (list_any (is_at (span_cmp k)) had)) (sym (span_is id (c.in_ok-copy.ensures ∙ c.low.ensures) (c.in_ok-copy-2.ensures ∙ c.high.ensures))) ∙ sym c.in_ok-added.ensures.added ∙ c.if-added.true)) r q

pub invariant_of-self-in-Ok : goal.invariant_of-self-in-Ok
invariant_of-self-in-Ok c = λ r id.
    let b = c.args.bounds.now in
    high_added c.self.inside.highs.keys c.insert-2.new.self.keys b c.args.id _ (span_is c.args.id (c.in_ok-copy-3.ensures ∙ c.high-2.ensures) (c.in_ok-copy-4.ensures ∙ c.low-3.ensures)) c.in-Ok.ensures.updates.0 r id
    ∙ ap (λ h. is_same b c.args.id r id || h) (c.self.invariant r id)
    ∙ sym (low_added c.self.inside.lows.keys c.insert.new.self.keys b c.args.id _ (span_is c.args.id (c.in_ok-copy.ensures ∙ c.low.ensures) (c.in_ok-copy-2.ensures ∙ c.high.ensures)) c.in_ok-added.ensures.updates.0 r id)

pub invariant_of-self-then-added : goal.invariant_of-self-then-added
invariant_of-self-then-added c = λ r id. ap (λ spans. has_high spans r id) c.in-Err.ensures.err ∙ c.self.invariant r id ∙ sym (undone c r id)

pub returns-in-Ok-clause-ok : goal.returns-in-Ok-clause-ok
returns-in-Ok-clause-ok c = λ r q.
    low_added c.self.inside.lows.keys c.insert.new.self.keys c.args.bounds.now c.args.id _ (span_is c.args.id (c.in_ok-copy.ensures ∙ c.low.ensures) (c.in_ok-copy-2.ensures ∙ c.high.ensures)) c.in_ok-added.ensures.updates.0 r q
    ∙ ap (λ spans. is_same c.args.bounds.now c.args.id r q || has_low spans r q) c.self.view_is

pub returns-then-added-clause-err : goal.returns-then-added-clause-err
returns-then-added-clause-err c = λ r q. undone c r q ∙ ap (λ spans. has_low spans r q) c.self.view_is
