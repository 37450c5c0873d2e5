use Rattle.std.proofs.Common.{◌≡◌, ◌+◌, ◌-◌, ◌<◌, ◌≤◌, flat_map, length, map, take, refl, sym, ap, ◌∙◌, subst, arith}
use Rattle.std.proofs.lemmas.Result.{IfOk-weaker}
use Rattle.growing_history.proofs.PrefixLemmas.{prefix_length, take_prefix}
use Rattle.semantics.specs.Texts.{pairs_within}
use Rattle.semantics.specs.Outputs.{out}
use Rattle.semantics.specs.States.{below}
use Rattle.layering.specs.Parts.{JoinTo}
use Rattle.cell_slots.proofs.AdvancedLemmas.{on_ok_always}
use Rattle.cell_slots.specs.Slots.{StandsAs}
use Rattle.join_eval.proofs.MovesLemmas.{moves_trans}
use Rattle.cell_slots.proofs.DeclaredLemmas.{stands_over}
use Rattle.rank_layers.proofs.JoinLemmas.{cost_of_join, ok_for_all, output_over, parts_output}
use Rattle.rank_layers.proofs.outputs.read_join.Goals as goal

pub read_parts-requires-clause-within : goal.read_parts-requires-clause-within
read_parts-requires-clause-within g c = omega (arith, c.requires.within, prefix_length (g.R.Reader.list c.args.reader.now) (g.R.Reader.list c.cover.new.reader) c.cover.ensures.moves.kept)

pub read_parts-requires-clause-above : goal.read_parts-requires-clause-above
read_parts-requires-clause-above g c = subst (λ n. n ≤ c.args.query.p) (sym c.cover.ensures.moves.same_floor) c.requires.above

pub read_parts-requires-clause-entered : goal.read_parts-requires-clause-entered
read_parts-requires-clause-entered g c = c.cover.ensures.moves.entered c.requires.entered

pub read_parts-requires-clause-stands : goal.read_parts-requires-clause-stands
read_parts-requires-clause-stands g c =
    let list = g.R.Reader.list in
    (c.requires.reached.join, stands_over (list c.args.reader.now) (list c.cover.new.reader) c.args.query.p c.args.query.at c.args.query.rank c.requires.reached.join c.requires.within c.cover.ensures.moves.kept c.requires.reached.stands)

-- ---- in very many parts

pub read_many-requires-clause-within : goal.read_many-requires-clause-within
read_many-requires-clause-within g c = omega (arith, c.requires.within, prefix_length (g.R.Reader.list c.args.reader.now) (g.R.Reader.list c.cover.new.reader) c.cover.ensures.moves.kept)

pub read_many-requires-clause-above : goal.read_many-requires-clause-above
read_many-requires-clause-above g c = subst (λ n. n ≤ c.args.query.p) (sym c.cover.ensures.moves.same_floor) c.requires.above

pub read_many-requires-clause-entered : goal.read_many-requires-clause-entered
read_many-requires-clause-entered g c = c.cover.ensures.moves.entered c.requires.entered

pub read_many-requires-clause-stands : goal.read_many-requires-clause-stands
read_many-requires-clause-stands g c =
    let list = g.R.Reader.list in
    (c.requires.reached.join, stands_over (list c.args.reader.now) (list c.cover.new.reader) c.args.query.p c.args.query.at c.args.query.rank c.requires.reached.join c.requires.within c.cover.ensures.moves.kept c.requires.reached.stands)

pub read_many-requires-clause-joins : goal.read_many-requires-clause-joins
read_many-requires-clause-joins g c = subst (λ parts. JoinTo c.args.range.now (map g.C.RangeCache.range_of parts)) (sym c.as_slice-all.ensures.value) c.in_ok-parts.ensures.parts

pub returns-then-are_too_many-clause-output : goal.returns-then-are_too_many-clause-output
returns-then-are_too_many-clause-output g c =
    let list = g.R.Reader.list in
    IfOk-weaker c.read_many.result _ _ (λ pairs is.
    output_over (list c.args.reader.now) (list c.cover.new.reader) c.args.query.p c.args.query.at c.args.query.rank c.args.range.now pairs.items c.requires.within c.cover.ensures.moves.kept is) c.read_many.ensures.output

pub returns-then-are_too_many-clause-moves : goal.returns-then-are_too_many-clause-moves
returns-then-are_too_many-clause-moves g c =
    moves_trans g.R.Reader.list g.R.Reader.floor (g.C.RangeCache.left (c.args.query.rank + 1)) c.args.reader.now c.cover.new.reader c.read_many.new.reader
    (g.met.C.RangeCache.left_trans (c.args.query.rank + 1) c.args.reader.now c.cover.new.reader c.read_many.new.reader) c.cover.ensures.moves c.read_many.ensures.moves

pub returns-then-are_too_many-clause-spent : goal.returns-then-are_too_many-clause-spent
returns-then-are_too_many-clause-spent g c =
    let list = g.R.Reader.list in
    let a = c.args.reader.now in let b = c.cover.new.reader in let d = c.read_many.new.reader in
    let at = c.args.query.at in let rank = c.args.query.rank in let p = c.args.query.p in let range = c.args.range.now in
    let added = c.read_many.new.steps - c.args.steps.now in
    let many : 64 < length c.as_slice-all.result.now = c.are_too_many.ensures.many c.if-are_too_many.true in
    let long : length c.as_slice-all.result.now ≡ length c.in_ok-parts.parts.items = ap length c.as_slice-all.ensures.value in
    ok_for_all c.read_many.result (StandsAs (list a) p at rank) (λ j. g.C.RangeCache.cost_one a d at rank p range j added)
    (λ j stands. on_ok_always c.read_many.result (g.met.C.RangeCache.cost_of_parts a b d at rank p range c.in_ok-parts.parts.items j added stands c.in_ok-parts.ensures.covered (λ one. omega (arith, many, one, long))))

-- ---- in few

pub returns-clause-output : goal.returns-clause-output
returns-clause-output g c =
    let list = g.R.Reader.list in
    IfOk-weaker c.read_parts.result _ _ (λ pairs is j stands.
    is j (stands_over (list c.args.reader.now) (list c.cover.new.reader) c.args.query.p c.args.query.at c.args.query.rank j c.requires.within c.cover.ensures.moves.kept stands)
    ∙ ap (flat_map (λ part. pairs_within (g.C.RangeCache.range_of part) (out j (below (take c.args.query.p (list c.cover.new.reader)) c.args.query.rank)))) c.as_slice-all.ensures.value
    ∙ parts_output g.C.RangeCache.range_of c.args.range.now c.in_ok-parts.parts.items j (below (take c.args.query.p (list c.cover.new.reader)) c.args.query.rank) c.in_ok-parts.ensures.parts
    ∙ ap (λ l. pairs_within c.args.range.now (out j (below l c.args.query.rank))) (take_prefix c.args.query.p (list c.args.reader.now) (list c.cover.new.reader) c.requires.within c.cover.ensures.moves.kept)) c.read_parts.ensures.output

pub returns-clause-moves : goal.returns-clause-moves
returns-clause-moves g c =
    moves_trans g.R.Reader.list g.R.Reader.floor (g.C.RangeCache.left (c.args.query.rank + 1)) c.args.reader.now c.cover.new.reader c.read_parts.new.reader
    (g.met.C.RangeCache.left_trans (c.args.query.rank + 1) c.args.reader.now c.cover.new.reader c.read_parts.new.reader) c.cover.ensures.moves c.read_parts.ensures.moves

pub returns-clause-spent : goal.returns-clause-spent
returns-clause-spent g c =
    let list = g.R.Reader.list in
    let a = c.args.reader.now in let b = c.cover.new.reader in let d = c.read_parts.new.reader in
    let at = c.args.query.at in let rank = c.args.query.rank in let p = c.args.query.p in let range = c.args.range.now in
    let added = c.read_parts.new.steps - c.args.steps.now in
    ok_for_all c.read_parts.result (StandsAs (list a) p at rank) (λ j. g.C.RangeCache.cost_one a d at rank p range j added)
    (λ j stands.
    let rows = length (pairs_within range (out j (below (take p (list a)) rank))) in
    cost_of_join (λ v. v.items) c.read_parts.result (g.C.RangeCache.covered a b at rank p range) (λ part n. g.C.RangeCache.took b d at rank p part n added) (g.C.RangeCache.cost_one a d at rank p range j added) c.in_ok-parts.parts.items rows
    c.in_ok-parts.ensures.covered
    (λ part is. c.read_parts.ensures.took part (c.as_slice-all.ensures.value ∙ is))
    (IfOk-weaker c.read_parts.result _ _ (λ pairs is. ap length (is j stands)) (returns-clause-output g c))
    (λ part covered took. g.met.C.RangeCache.cost_of_part a b d at rank p range part j rows added c.requires.within c.cover.ensures.moves.kept stands refl covered took)
    (λ several covered. g.met.C.RangeCache.cost_of_parts a b d at rank p range c.in_ok-parts.parts.items j added stands covered several))
