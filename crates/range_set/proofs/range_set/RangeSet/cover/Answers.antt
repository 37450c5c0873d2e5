use Rattle.std.proofs.Common.{◌≡◌, true, nat_le, length, sym, ◌∙◌, subst, string_bytes}
use Rattle.semantics.specs.Texts.{Text}
use Rattle.key_ranges.proofs.OrderLemmas.{is_up_to, up_to_itself, up_to_trans}
use Rattle.key_ranges.proofs.RangeLemmas.{bounds_of}
use Rattle.range_set.specs.Held.{Held, are_apart}
use Rattle.range_set.specs.Pieces.{parts_within}
use Rattle.range_set.proofs.BoundLemmas.{not_above}
use Rattle.range_set.proofs.CoverLemmas.{IsCommon, AreCover, cut_is_common, common_lies, gap_before, gap_at_end, pieces_cover, cover_start, cover_step, cover_end}
use Rattle.range_set.proofs.PieceLemmas.{pieces_of}
use Rattle.range_set.proofs.range_set.RangeSet.cover.Given as given
use Rattle.range_set.proofs.range_set.RangeSet.cover.Goals as goal

pub range-held-items-requires : goal.range-held-items-requires
range-held-items-requires g c =
    let low : string_bytes c.in_ok-low.low ≡ c.args.range.now.low = c.in_ok-low.ensures.ok ∙ c.lo.ensures.text in
    let high : string_bytes c.in_ok-high.high ≡ c.args.range.now.high = c.in_ok-high.ensures.ok ∙ c.hi.ensures in
    let upto : is_up_to c.args.range.now.low c.args.range.now.high ≡ true = (bounds_of c.args.range.now.low c.args.range.now.high c.lo.ensures.is_range).ascend in
    not_above (string_bytes c.start-start.result.now) (string_bytes c.in_ok-high.high)
    (up_to_trans (string_bytes c.start-start.result.now) (string_bytes c.in_ok-low.low) (string_bytes c.in_ok-high.high) c.start-start.ensures.up_to
    (subst (λ (t : Text). is_up_to t (string_bytes c.in_ok-high.high) ≡ true) (sym low) (subst (λ (t : Text). is_up_to c.args.range.now.low t ≡ true) (sym high) upto)))

pub push_gap-requires : goal.push_gap-requires
push_gap-requires g c =
    let common : IsCommon c.in-Some.held.now.0 c.args.range.now c.in-Some-2.part = cut_is_common c.in-Some.held.now.0 c.args.range.now c.in-Some-2.part (sym c.in-Some-2.is ∙ c.in_ok-part.ensures) in
    gap_before c.in-Some.held.now.0 c.args.range.now c.in-Some-2.part c.loop-held.place c.text.result.now c.lo-in-Some-2.result.now common c.text.ensures c.lo-in-Some-2.ensures.text
    c.lo.ensures.is_range c.lo-in-Some-2.ensures.is_range c.loop-held.invariant.from c.loop-held.invariant.short

pub push_gap-requires-2 : goal.push_gap-requires-2
push_gap-requires-2 g c =
    gap_at_end c.args.range.now c.loop-held.place c.text-2.result.now c.hi-2.result.now c.text-2.ensures c.hi-2.ensures c.lo.ensures.is_range c.loop-held.invariant.from c.loop-held.invariant.short

pub loop-held-init : goal.loop-held-init
loop-held-init g c =
    let low : string_bytes c.in_ok-low.low ≡ c.args.range.now.low = c.in_ok-low.ensures.ok ∙ c.lo.ensures.text in
    let high : string_bytes c.in_ok-high.high ≡ c.args.range.now.high = c.in_ok-high.ensures.ok ∙ c.hi.ensures in
    let place : c.in_ok-place.place ≡ c.args.range.now.low = c.in_ok-place.ensures.place in
    record {
      pieces = cover_start string_bytes c.args.range.now c.args.self.now c.self.inside.ranges.entries c.into_iter-held-iterator.result (string_bytes c.start-start.result.now) (string_bytes c.in_ok-low.low) (string_bytes c.in_ok-high.high) c.in_ok-place.place c.new-pieces.result.items
          low high place c.new-pieces.ensures.items c.self.invariant.own c.self.view_is (c.into_iter-held-iterator.ensures.into_iter_gives ∙ c.range-held-items.ensures.between tt) c.start-start.ensures.passed;
      from = subst (λ (t : Text). is_up_to c.args.range.now.low t ≡ true) (sym place) (up_to_itself c.args.range.now.low);
      short = subst (λ (t : Text). nat_le (length t) 513 ≡ true) (sym place) (bounds_of c.args.range.now.low c.args.range.now.high c.lo.ensures.is_range).short_low;
    }

pub loop-held-preserved-in-Continue-branch-8 : goal.loop-held-preserved-in-Continue-branch-8
loop-held-preserved-in-Continue-branch-8 g c =
    let common : IsCommon c.in-Some.held.now.0 c.args.range.now c.in-Some-2.part = cut_is_common c.in-Some.held.now.0 c.args.range.now c.in-Some-2.part (sym c.in-Some-2.is ∙ c.in_ok-part.ensures) in
    let next : c.in_ok-place-2.place ≡ c.in-Some-2.part.high = c.in_ok-place-2.ensures in
    record {
      pieces = cover_step c.args.range.now c.loop-held.place c.text.result.now c.lo-in-Some-2.result.now c.in_ok-place-2.place c.in-Some.field-0-0.now c.in-Some.held.now c.in-Some-2.part c.loop-held.held-iterator c.next.new.self c.loop-held.pieces.items c.push_gap.new.pieces.items c.push.new.self.items
          (pieces_of c.args.range.now.low c.args.range.now.high (parts_within c.args.range.now c.args.self.now)) common c.text.ensures c.lo-in-Some-2.ensures.text next
          c.in-Some.ensures.steps c.in_ok-push_gap.ensures c.in_ok-push.ensures.items c.loop-held.invariant.pieces;
      from = subst (λ (t : Text). is_up_to c.args.range.now.low t ≡ true) (sym next) (common_lies c.in-Some.held.now.0 c.args.range.now c.in-Some-2.part common).above;
      short = subst (λ (t : Text). nat_le (length t) 513 ≡ true) (sym next) (bounds_of c.in-Some-2.part.low c.in-Some-2.part.high c.lo-in-Some-2.ensures.is_range).short_high;
    }

-- what is said of the pieces
covered : (g : given.Over) (c : goal.After-drop-low-2 g) → AreCover c.args.range.now c.args.self.now c.push_gap-2.new.pieces.items
covered g c =
    let apart = subst (λ (h : Held g.row.T.Denot). are_apart h ≡ true) c.self.view_is c.self.invariant.apart in
    pieces_cover c.args.range.now c.args.self.now c.push_gap-2.new.pieces.items apart c.lo.ensures.is_range
    (cover_end c.args.range.now c.loop-held.place c.text-2.result.now c.hi-2.result.now c.loop-held.held-iterator c.loop-held.pieces.items c.push_gap-2.new.pieces.items
    (pieces_of c.args.range.now.low c.args.range.now.high (parts_within c.args.range.now c.args.self.now)) c.text-2.ensures c.hi-2.ensures c.in-None.ensures.steps.0 c.in_ok-push_gap-2.ensures c.loop-held.invariant.pieces)

pub returns-clause-joins : goal.returns-clause-joins
returns-clause-joins g c = (covered g c).joins

pub returns-clause-kept : goal.returns-clause-kept
returns-clause-kept g c = (covered g c).kept

pub returns-clause-whole_gaps : goal.returns-clause-whole_gaps
returns-clause-whole_gaps g c = (covered g c).whole_gaps

pub returns-clause-free_gaps : goal.returns-clause-free_gaps
returns-clause-free_gaps g c = (covered g c).free_gaps
