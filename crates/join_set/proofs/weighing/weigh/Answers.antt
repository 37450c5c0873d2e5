use Rattle.std.proofs.Common.{◌∙◌, ap, sym, length, nat_lt, le-leb}
use Rattle.std.specs.List.{list_any}
use Rattle.std.proofs.lemmas.Result.{err_from_is_err_and}
use Rattle.join_set.proofs.CauseLemmas.{cause-slots, cause-sources, cause-clash, fault-cycle, cause-deep, cause-many, cause-none, few_below}
use Rattle.join_set.proofs.weighing.weigh.Goals as goal

pub returns-then-not-keeps_slot_rule-clause-err : goal.returns-then-not-keeps_slot_rule-clause-err
returns-then-not-keeps_slot_rule-clause-err c = cause-slots c.args.joins.now c.args.at c.args.join.now (sym c.keeps_slot_rule.ensures ∙ c.if-not-keeps_slot_rule.true)

pub returns-then-not-keeps_source_rule-clause-err : goal.returns-then-not-keeps_source_rule-clause-err
returns-then-not-keeps_source_rule-clause-err c =
    cause-sources c.args.joins.now c.args.at c.args.join.now (sym c.keeps_slot_rule.ensures ∙ c.if-not-keeps_slot_rule.false) (sym c.keeps_source_rule.ensures ∙ c.if-not-keeps_source_rule.true)

pub returns-in-Some-clause-err : goal.returns-in-Some-clause-err
returns-in-Some-clause-err c =
    cause-clash c.args.joins.now c.args.at c.args.join.now c.in-Some.position (sym c.keeps_slot_rule.ensures ∙ c.if-not-keeps_slot_rule.false) (sym c.keeps_source_rule.ensures ∙ c.if-not-keeps_source_rule.false)
    (sym c.clash.ensures ∙ c.in-Some.is)

pub returns-in_err-ranks-clause-err : goal.returns-in_err-ranks-clause-err
returns-in_err-ranks-clause-err c =
    let p = err_from_is_err_and c.from_residual.result c.from_residual.ensures.1 in
    rw (p.1, p.2) (fault-cycle c.args.joins.now c.args.at c.args.join.now c.in_err-ranks.field-0.0 (sym c.keeps_slot_rule.ensures ∙ c.if-not-keeps_slot_rule.false) (sym c.keeps_source_rule.ensures ∙ c.if-not-keeps_source_rule.false)
    (sym c.clash.ensures ∙ c.in_default.is) c.in_err-ranks.ensures.err)

pub returns-then-are_deep-clause-err : goal.returns-then-are_deep-clause-err
returns-then-are_deep-clause-err c =
    cause-deep c.args.joins.now c.args.at c.args.join.now (sym c.keeps_slot_rule.ensures ∙ c.if-not-keeps_slot_rule.false) (sym c.keeps_source_rule.ensures ∙ c.if-not-keeps_source_rule.false)
    (sym c.clash.ensures ∙ c.in_default.is)
    c.in_ok-ranks.ensures.ok.acyclic
    (sym (ap (λ rs. list_any (nat_lt 7) rs) (c.as_slice.ensures.value ∙ c.in_ok-ranks.ensures.ok.exact)) ∙ sym c.are_deep.ensures ∙ c.if-are_deep.true)

pub returns-then-joins-ge-MAX_JOINS-clause-err : goal.returns-then-joins-ge-MAX_JOINS-clause-err
returns-then-joins-ge-MAX_JOINS-clause-err c =
    cause-many c.args.joins.now c.args.at c.args.join.now (sym c.keeps_slot_rule.ensures ∙ c.if-not-keeps_slot_rule.false) (sym c.keeps_source_rule.ensures ∙ c.if-not-keeps_source_rule.false)
    (sym c.clash.ensures ∙ c.in_default.is)
    c.in_ok-ranks.ensures.ok.acyclic
    (sym (ap (λ rs. list_any (nat_lt 7) rs) (c.as_slice.ensures.value ∙ c.in_ok-ranks.ensures.ok.exact)) ∙ sym c.are_deep.ensures ∙ c.if-are_deep.false)
    (le-leb 64 (length c.args.joins.now) c.if-joins-ge-MAX_JOINS.true)

pub returns-clause-free : goal.returns-clause-free
returns-clause-free c =
    cause-none c.args.joins.now c.args.at c.args.join.now (sym c.keeps_slot_rule.ensures ∙ c.if-not-keeps_slot_rule.false) (sym c.keeps_source_rule.ensures ∙ c.if-not-keeps_source_rule.false)
    (sym c.clash.ensures ∙ c.in_default.is)
    c.in_ok-ranks.ensures.ok.acyclic
    (sym (ap (λ rs. list_any (nat_lt 7) rs) (c.as_slice.ensures.value ∙ c.in_ok-ranks.ensures.ok.exact)) ∙ sym c.are_deep.ensures ∙ c.if-are_deep.false)
    (few_below 64 (length c.args.joins.now) c.if-joins-ge-MAX_JOINS.false)
