use Rattle.std.proofs.Common.{ℕ, ◌&&◌, not, ap, sym, refl, ◌∙◌}
use Rattle.semantics.specs.Texts.{Range}
use Rattle.updater_index.specs.Spans.{has_low, has_high, is_same}
use Rattle.updater_index.proofs.SpanLemmas.{low_removed, high_removed}
use Rattle.updater_index.proofs.side.Side.remove.Goals as goal

pub invariant_of-self : goal.invariant_of-self
invariant_of-self c = λ r id.
    let b : Range = record { low = c.args.low; high = c.args.high } in
    high_removed c.self.inside.highs.keys c.remove-2.new.self.keys b c.args.id _ c.turned.ensures c.remove-2.ensures.updates.0 r id
    ∙ ap (λ h. not (is_same b c.args.id r id) && h) (c.self.invariant r id)
    ∙ sym (low_removed c.self.inside.lows.keys c.remove.new.self.keys b c.args.id _ refl c.remove.ensures.updates.0 r id)

pub returns : goal.returns
returns c = λ r q.
    let b : Range = record { low = c.args.low; high = c.args.high } in
    low_removed c.self.inside.lows.keys c.remove.new.self.keys b c.args.id _ refl c.remove.ensures.updates.0 r q
    ∙ ap (λ spans. not (is_same b c.args.id r q) && has_low spans r q) c.self.view_is
