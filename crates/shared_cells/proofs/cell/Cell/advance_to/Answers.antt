use Rattle.std.proofs.Common.{◌≡◌, ◌+◌, ◌≤◌, Option, IfSome, Some, refl, sym, ap, ◌∙◌, subst, arith, ℕ}
use Rattle.std.specs.Option.{IsSomeAnd}
use Rattle.std.proofs.lemmas.Bool.{false≢true}
use Rattle.std.proofs.lemmas.Option.{none-some, same_Some}
use Rattle.std.proofs.lemmas.Result.{on_err_weaker, on_ok_weaker}
use Rattle.join_eval.proofs.MovesLemmas.{moves_trans}
use Rattle.rank_layers.proofs.PartLemmas.{right_after}
use Rattle.write_history.specs.Passes.{PassView}
use Rattle.kept_ranges.specs.Sound.{KeptRange}
use Rattle.range_state.specs.Ready.{StandsAt, StandsOrIsForgotten}
use Rattle.range_state.specs.Work.{TouchesLittle}
use Rattle.cell_slots.specs.Serving.{StandsFrom}
use Rattle.cell_slots.proofs.LongerLemmas.{forward_before, little_before, steps_before}
use Rattle.cell_slots.specs.Slots.{IsRankAt}
use Rattle.shared_cells.specs.Advancing.{IsAdvancedFrom, StandsBare}
use Rattle.shared_cells.specs.Cells.{KeepsWithin}
use Rattle.shared_cells.proofs.CellLemmas.{kept_by, kept_nothing, rank_of_kept, right_here, stands_longer, wide_cell}
use Rattle.shared_cells.proofs.cell.Cell.advance_to.Goals as goal

pub returns-then-not-is_for-clause-advances : goal.returns-then-not-is_for-clause-advances
returns-then-not-is_for-clause-advances g c = record {
  advanced = λ same. absurd (false≢true (c.if-not-is_for.ensures.no (same ∙ ap (λ (n : ℕ). Some n) (sym c.meet.ensures.same_place.rank))));
  left = λ other. c.meet.ensures.held;
  failed = tt;
}

pub returns-in_default-clause-advances : goal.returns-in_default-clause-advances
returns-in_default-clause-advances g c = record {
  advanced = λ same. kept_nothing (IsAdvancedFrom (g.R.Reader.floor c.args.reader.now) c.args.p) c.args.self.now.held c.take_held.new.self.held (sym c.meet.ensures.held ∙ sym c.take_held.ensures.taken ∙ c.in_default.is) c.take_held.ensures.left;
  left = λ other. absurd (other (c.if-not-is_for.ensures.yes refl ∙ ap (λ (n : ℕ). Some n) c.meet.ensures.same_place.rank));
  failed = tt;
}

pub advance_to-advanced-requires-clause-above : goal.advance_to-advanced-requires-clause-above
advance_to-advanced-requires-clause-above g c = subst (λ (n : ℕ). n ≤ c.args.p) (sym c.meet.ensures.moves.same_floor) c.requires.above

pub advance_to-advanced-requires-clause-stands : goal.advance_to-advanced-requires-clause-stands
advance_to-advanced-requires-clause-stands g c =
    let list = g.R.Reader.list in
    let place = c.take_held.ensures.same_place.at ∙ c.meet.ensures.same_place.at in
    rank_of_kept c.take_held.new.self (list c.args.reader.now) (list c.meet.new.reader) c.args.p c.args.rank c.in-Some.state c.requires.within c.meet.ensures.moves.kept
    (ap (λ (p : PassView). p.view) c.take_held.ensures.pass ∙ c.meet.ensures.met) (c.if-not-is_for.ensures.yes refl ∙ ap (λ (n : ℕ). Some n) (sym c.take_held.ensures.same_place.rank))
    (subst (λ (n : ℕ). IsRankAt (list c.args.reader.now) c.args.p n c.args.rank) (sym place) c.requires.rank) c.in-Some.ensures.right

pub advance_to-advanced-requires-clause-ranked : goal.advance_to-advanced-requires-clause-ranked
advance_to-advanced-requires-clause-ranked g c =
    subst (λ (n : ℕ). n ≤ g.R.Reader.top) (sym (c.in-Some.ensures.right.ranked ∙ c.take_held.ensures.same_place.rank))
    (subst (λ (o : Option ℕ). IfSome o (λ r. r ≤ g.R.Reader.top)) (c.if-not-is_for.ensures.yes refl) c.requires.ranked)

pub give_back-requires-clause-right : goal.give_back-requires-clause-right
give_back-requires-clause-right g c =
    let list = g.R.Reader.list in
    let met = ap (λ (p : PassView). p.view) c.take_held.ensures.pass ∙ c.meet.ensures.met in
    right_after (list c.meet.new.reader) (list c.advance_to-advanced.new.reader) c.take_held.new.self.at c.in-Some.state c.advance_to-advanced.new.state c.advance_to-advanced.ensures.moves.kept
    (right_here c.take_held.new.self (list c.meet.new.reader) c.take_held.new.self.at c.in-Some.state met refl c.in-Some.ensures.right)
    c.advance_to-advanced.ensures.same c.advance_to-advanced.ensures.sound

pub returns-clause-advances : goal.returns-clause-advances
returns-clause-advances g c =
    let advanced = c.advance_to-advanced in
    let floor = g.R.Reader.floor in
    let kept = sym c.meet.ensures.held ∙ sym c.take_held.ensures.taken ∙ c.in-Some.is in
    record {
      advanced = λ same. on_ok_weaker advanced.result (λ from.
          kept_by (IsAdvancedFrom (floor c.args.reader.now) c.args.p) c.args.self.now.held c.give_back.new.self.held c.in-Some.state advanced.new.state kept c.give_back.ensures.held
          (subst (λ (n : ℕ). IsAdvancedFrom n c.args.p c.in-Some.state advanced.new.state) c.meet.ensures.moves.same_floor from)) advanced.ensures.advanced;
      left = λ other. absurd (other (c.if-not-is_for.ensures.yes refl ∙ ap (λ (n : ℕ). Some n) c.meet.ensures.same_place.rank));
      failed = on_err_weaker advanced.result (kept_by StandsOrIsForgotten c.args.self.now.held c.give_back.new.self.held c.in-Some.state advanced.new.state kept c.give_back.ensures.held) advanced.ensures.err;
    }

pub returns-clause-wide : goal.returns-clause-wide
returns-clause-wide g c =
    let advanced = c.advance_to-advanced in
    wide_cell advanced.result c.give_back.new.self (g.R.Reader.list c.args.reader.now) (g.R.Reader.list c.meet.new.reader) c.args.p c.args.most c.in-Some.state advanced.new.state
    c.requires.within c.meet.ensures.moves.kept c.give_back.ensures.held advanced.ensures.same advanced.ensures.wide advanced.ensures.gone

pub returns-then-not-is_for-clause-few : goal.returns-then-not-is_for-clause-few
returns-then-not-is_for-clause-few g c = λ few. subst (KeepsWithin c.args.most) (sym c.meet.ensures.held) few

pub returns-in_default-clause-few : goal.returns-in_default-clause-few
returns-in_default-clause-few g c = λ few. subst (KeepsWithin c.args.most) (sym c.take_held.ensures.left) tt

pub returns-clause-few : goal.returns-clause-few
returns-clause-few g c = λ few.
    let advanced = c.advance_to-advanced in
    let had = subst (KeepsWithin c.args.most) (sym c.meet.ensures.held ∙ sym c.take_held.ensures.taken ∙ c.in-Some.is) few in
    on_ok_weaker advanced.result (λ stays. subst (KeepsWithin c.args.most) (sym c.give_back.ensures.held) (stays had)) advanced.ensures.few

pub returns-clause-idle : goal.returns-clause-idle
returns-clause-idle g c = λ other. absurd (other (c.if-not-is_for.ensures.yes refl ∙ ap (λ (n : ℕ). Some n) c.meet.ensures.same_place.rank))

pub returns-clause-moves : goal.returns-clause-moves
returns-clause-moves g c =
    let list = g.R.Reader.list in let floor = g.R.Reader.floor in let went = g.R.Reader.went in
    moves_trans list floor went c.args.reader.now c.meet.new.reader c.give_back.new.reader (g.met.R.Reader.went_trans c.args.reader.now c.meet.new.reader c.give_back.new.reader) c.meet.ensures.moves
    (moves_trans list floor went c.meet.new.reader c.advance_to-advanced.new.reader c.give_back.new.reader (g.met.R.Reader.went_trans c.meet.new.reader c.advance_to-advanced.new.reader c.give_back.new.reader)
    c.advance_to-advanced.ensures.moves c.give_back.ensures.moves)

-- ---- where the ranges of the needs are bare

pub returns-then-not-is_for-clause-little : goal.returns-then-not-is_for-clause-little
returns-then-not-is_for-clause-little g c = λ s q can. absurd (false≢true (c.if-not-is_for.ensures.no (can.same ∙ ap (λ (n : ℕ). Some n) (sym c.meet.ensures.same_place.rank))))

pub returns-then-not-is_for-clause-cost : goal.returns-then-not-is_for-clause-cost
returns-then-not-is_for-clause-cost g c = λ s q can. absurd (false≢true (c.if-not-is_for.ensures.no (can.same ∙ ap (λ (n : ℕ). Some n) (sym c.meet.ensures.same_place.rank))))

pub returns-in_default-clause-little : goal.returns-in_default-clause-little
returns-in_default-clause-little g c = λ s q can. absurd (none-some s (sym c.in_default.is ∙ c.take_held.ensures.taken ∙ c.meet.ensures.held ∙ can.holds))

pub returns-in_default-clause-cost : goal.returns-in_default-clause-cost
returns-in_default-clause-cost g c = λ s q can. absurd (none-some s (sym c.in_default.is ∙ c.take_held.ensures.taken ∙ c.meet.ensures.held ∙ can.holds))

pub returns-clause-little : goal.returns-clause-little
returns-clause-little g c = λ s q can.
    let list = g.R.Reader.list in
    let advanced = c.advance_to-advanced in
    let kept = c.meet.ensures.moves.kept in
    let own : c.in-Some.state ≡ s = same_Some c.in-Some.state s (sym c.in-Some.is ∙ c.take_held.ensures.taken ∙ c.meet.ensures.held ∙ can.holds) in
    let from : StandsFrom (g.R.Reader.floor c.meet.new.reader) c.in-Some.state = subst (λ (w : ℕ × KeptRange). StandsFrom w.0 w.1) (λ i. (sym c.meet.ensures.moves.same_floor i, sym own i)) can.from in
    let there : StandsBare (list c.meet.new.reader) q c.args.p c.in-Some.state = stands_longer (list c.args.reader.now) (list c.meet.new.reader) q c.args.p s c.in-Some.state kept c.requires.within own can.is_bare in
    let order : q ≤ c.args.p = let less = can.is_bare.behind in omega (arith, less) in
    on_ok_weaker advanced.result (λ little.
    subst (λ (o : Option KeptRange). IsSomeAnd o (TouchesLittle (list c.args.reader.now) q c.args.p s)) (sym c.give_back.ensures.held)
    (little_before (list c.args.reader.now) (list c.meet.new.reader) q c.args.p s advanced.new.state kept c.requires.within order
    (subst (λ (t : KeptRange). TouchesLittle (list c.meet.new.reader) q c.args.p t advanced.new.state) own little))) (advanced.ensures.little q from there)

pub returns-clause-known : goal.returns-clause-known
returns-clause-known g c = λ s q can.
    let list = g.R.Reader.list in
    let own : c.in-Some.state ≡ s = same_Some c.in-Some.state s (sym c.in-Some.is ∙ c.take_held.ensures.taken ∙ c.meet.ensures.held ∙ can.holds) in
    let from : StandsFrom (g.R.Reader.floor c.meet.new.reader) c.in-Some.state = subst (λ (w : ℕ × KeptRange). StandsFrom w.0 w.1) (λ i. (sym c.meet.ensures.moves.same_floor i, sym own i)) can.from in
    let there : StandsBare (list c.meet.new.reader) q c.args.p c.in-Some.state = stands_longer (list c.args.reader.now) (list c.meet.new.reader) q c.args.p s c.in-Some.state c.meet.ensures.moves.kept c.requires.within own can.is_bare in
    c.advance_to-advanced.ensures.known q from there

pub returns-clause-cost : goal.returns-clause-cost
returns-clause-cost g c = λ s q can.
    let list = g.R.Reader.list in
    let advanced = c.advance_to-advanced in
    let kept = c.meet.ensures.moves.kept in
    let own : c.in-Some.state ≡ s = same_Some c.in-Some.state s (sym c.in-Some.is ∙ c.take_held.ensures.taken ∙ c.meet.ensures.held ∙ can.holds) in
    let from : StandsFrom (g.R.Reader.floor c.meet.new.reader) c.in-Some.state = subst (λ (w : ℕ × KeptRange). StandsFrom w.0 w.1) (λ i. (sym c.meet.ensures.moves.same_floor i, sym own i)) can.from in
    let there : StandsBare (list c.meet.new.reader) q c.args.p c.in-Some.state = stands_longer (list c.args.reader.now) (list c.meet.new.reader) q c.args.p s c.in-Some.state kept c.requires.within own can.is_bare in
    let order : q ≤ c.args.p = let less = can.is_bare.behind in omega (arith, less) in
    on_ok_weaker advanced.result (λ few.
    subst (λ n. advanced.new.steps ≤ c.args.steps.now + n) (steps_before (list c.args.reader.now) (list c.meet.new.reader) q c.args.p s c.in-Some.state kept c.requires.within order own) few) (advanced.ensures.cost q from there)

-- ---- what is counted

pub returns-then-not-is_for-clause-least : goal.returns-then-not-is_for-clause-least
returns-then-not-is_for-clause-least g c = λ s q same holds stands less. absurd (false≢true (c.if-not-is_for.ensures.no (same ∙ ap (λ (n : ℕ). Some n) (sym c.meet.ensures.same_place.rank))))

pub returns-in_default-clause-least : goal.returns-in_default-clause-least
returns-in_default-clause-least g c = λ s q same holds stands less. absurd (none-some s (sym c.in_default.is ∙ c.take_held.ensures.taken ∙ c.meet.ensures.held ∙ holds))

pub returns-clause-least : goal.returns-clause-least
returns-clause-least g c = λ s q same holds stands less.
    let advanced = c.advance_to-advanced in
    let own : c.in-Some.state ≡ s = same_Some c.in-Some.state s (sym c.in-Some.is ∙ c.take_held.ensures.taken ∙ c.meet.ensures.held ∙ holds) in
    on_ok_weaker advanced.result (λ counts.
    forward_before (g.R.Reader.list c.args.reader.now) (g.R.Reader.list c.meet.new.reader) c.args.p s c.in-Some.state c.args.steps.now advanced.new.steps c.meet.ensures.moves.kept c.requires.within own counts)
    (advanced.ensures.least q (subst (StandsAt q) (sym own) stands) less)
