use Rattle.std.proofs.Common.{◌≡◌, ◌+◌, ◌≤◌, ◌++◌, take, sym, ap, ◌∙◌, subst, arith}
use Rattle.std.proofs.lemmas.List.{map-append}
use Rattle.semantics.specs.Texts.{Table, value_at}
use Rattle.semantics.specs.States.{below}
use Rattle.growing_history.specs.Changes.{changed_keys}
use Rattle.growing_history.specs.StateChanges.{Change}
use Rattle.range_evaluation.specs.Trees.{Need}
use Rattle.kept_ranges.specs.SoundLaws.{AreReportedBetween}
use Rattle.join_eval.specs.Answers.{HaveValues, MayNotBeKnown, TellsAtCost, TellsChanges, TellsExactly, TellsValues, change_keys}
use Rattle.join_eval.proofs.MovesLemmas.{moves_trans}
use Rattle.range_state.specs.Asking.{LieInRanges}
use Rattle.range_state.proofs.LongerLemmas.{below_longer, unknown_before}
use Rattle.range_state.proofs.ListLemmas.{all_of_both, flat_map_more}
use Rattle.range_state.proofs.AskingLemmas.{inside_more, complete_more, asking_more, bare_read, lists_no_all, lists_keys, lists_changed, quiet_next, quiet_on, steps_changed}
use Rattle.range_state.proofs.asking.gather_answers.Goals as goal

pub ask-requires-clause-quiet : goal.ask-requires-clause-quiet
ask-requires-clause-quiet g c =
    quiet_on (g.R.Reader.list c.args.reader.now) (g.R.Reader.list c.loop-need.reader) c.args.q c.args.p c.args.rank c.loop-need.quiet c.loop-need.invariant.moves.kept c.requires.within c.requires.order c.loop-need.invariant.quiet

pub returns-in-Unlisted-clause-unknown : goal.returns-in-Unlisted-clause-unknown
returns-in-Unlisted-clause-unknown g c =
    let h = g.R.Reader.list c.args.reader.now in
    let here = g.R.Reader.list c.loop-need.reader in
    let need = c.need-item.result in
    let same : c.need.inside.range ≡ need.range = ap (λ (n : Need). n.range) c.need.view_is in
    let answer = subst (TellsChanges here c.args.q c.args.p c.args.rank c.need.inside.range) c.in-Unlisted.is c.in_ok-changes.ensures.exact in
    let unknown = subst (MayNotBeKnown here c.args.q c.args.p c.args.rank) same answer in
    (c.loop-need.need-index, need, c.loop-need-test.true, sym c.need-item.is, unknown_before h here c.args.q c.args.p c.args.rank need.range c.loop-need.invariant.moves.kept c.requires.within unknown)

pub returns-in-Unlisted-clause-bare : goal.returns-in-Unlisted-clause-bare
returns-in-Unlisted-clause-bare g c =
    let before = c.loop-need.invariant in
    let need = c.need-item.result in
    let same : c.need.inside.range ≡ need.range = ap (λ (n : Need). n.range) c.need.view_is in
    λ all. lists_no_all _ c.in_ok-changes.field-0 c.in-Unlisted.is
    (c.in_ok-changes.ensures.bare (bare_read _ _ c.args.q c.args.p c.args.needs.now c.loop-need.need-index need c.need.inside.range before.moves.kept c.requires.within c.loop-need-test.true c.need-item.is same all))

pub returns-in-Unlisted-clause-bare_cost : goal.returns-in-Unlisted-clause-bare_cost
returns-in-Unlisted-clause-bare_cost g c =
    let before = c.loop-need.invariant in
    let need = c.need-item.result in
    let same : c.need.inside.range ≡ need.range = ap (λ (n : Need). n.range) c.need.view_is in
    λ all. lists_no_all _ c.in_ok-changes.field-0 c.in-Unlisted.is
    (c.in_ok-changes.ensures.bare (bare_read _ _ c.args.q c.args.p c.args.needs.now c.loop-need.need-index need c.need.inside.range before.moves.kept c.requires.within c.loop-need-test.true c.need-item.is same all))

pub loop-need-preserved : goal.loop-need-preserved
loop-need-preserved g c =
    let before = c.loop-need.invariant in
    let h = g.R.Reader.list c.args.reader.now in
    let here = g.R.Reader.list c.loop-need.reader in
    let q = c.args.q in
    let p = c.args.p in
    let rank = c.args.rank in
    let needs = c.args.needs.now in
    let index = c.loop-need.need-index in
    let need = c.need-item.result in
    let range = c.need.inside.range in
    let less = c.loop-need-test.true in
    let read = c.need-item.is in
    let told = c.loop-need.answers.items in
    let changes = c.in-Listed.changes in
    let named = change_keys told in
    let keys = change_keys changes.items in
    let answer = c.in_ok-changes.field-0 in
    let same : range ≡ need.range = ap (λ (n : Need). n.range) c.need.view_is in
    let added : c.append.new.self.items ≡ told ++ changes.items = c.in_ok-append-in-Listed.ensures.items in
    let added_keys : change_keys c.append.new.self.items ≡ named ++ keys = ap change_keys added ∙ map-append (λ (d : Change). d.key) told changes.items in
    let lists = lists_keys here q p rank need range answer changes c.in-Listed.is same c.in_ok-changes.ensures.exact in
    record {
      inside = subst (LieInRanges needs) (sym added_keys) (inside_more needs named keys index need less read lists.inside before.inside);
      complete = subst (AreReportedBetween h q p rank (take (index + 1) needs)) (sym added_keys) (complete_more h here q p rank needs named keys index need before.moves.kept c.requires.within c.requires.order less read lists before.complete);
      values =
          let table = below (take p h) rank in
          let stand = subst (TellsValues (below (take p here) rank)) c.in-Listed.is c.in_ok-changes.ensures.values in
          subst (HaveValues table) (sym added)
          (all_of_both (λ (d : Change). d.value ≡ value_at d.key table) told changes.items before.values (subst (λ (t : Table). HaveValues t changes.items) (below_longer h here p rank before.moves.kept c.requires.within) stand));
      bare = λ all.
          let bare = bare_read h here q p needs index need range before.moves.kept c.requires.within less read same all in
          let changed = lists_changed h here q p need range answer changes before.moves.kept c.requires.within c.requires.order c.in-Listed.is same (c.in_ok-changes.ensures.bare bare) in
          flat_map_more (λ (n : Need). changed_keys q p n.range h) named (change_keys c.append.new.self.items) needs index need less read (added_keys ∙ ap (λ l. named ++ l) changed) (before.bare all);
      bare_cost = λ all.
          let bare = bare_read h here q p needs index need range before.moves.kept c.requires.within less read same all in
          let cost = steps_changed h here q p need range c.loop-need.steps c.ask.new.steps before.moves.kept c.requires.within c.requires.order same (c.in_ok-changes.ensures.bare_cost bare) in
          let more = asking_more h q p needs index need less read in
          let so_far = before.bare_cost all in
          omega arith;
      quiet = quiet_next h here q p rank c.loop-need.quiet c.quiet_after-quiet.result range changes.items c.as_slice.result.now before.moves.kept c.requires.within c.requires.order
          (subst (TellsChanges here q p rank range) c.in-Listed.is c.in_ok-changes.ensures.exact)
          (λ all. subst (TellsExactly (changed_keys q p range here)) c.in-Listed.is (c.in_ok-changes.ensures.bare all))
          c.as_slice.ensures.value c.quiet_after-quiet.ensures before.quiet;
      moves = moves_trans g.R.Reader.list g.R.Reader.floor g.R.Reader.went c.args.reader.now c.loop-need.reader c.ask.new.reader (g.met.R.Reader.went_trans c.args.reader.now c.loop-need.reader c.ask.new.reader) before.moves c.in_ok-changes.ensures.moves;
      counted = let one = c.in_ok-changes.ensures.counted in let so_far = before.counted in omega arith;
      least =
          let one : c.loop-need.steps + 1 ≤ c.ask.new.steps = subst (TellsAtCost c.loop-need.steps c.ask.new.steps) c.in-Listed.is c.in_ok-changes.ensures.cost in
          let so_far = before.least in
          omega arith;
    }
