use Rattle.std.proofs.Common.{◌≡◌, ◌+◌, ◌-◌, ◌≤◌, length, drop, refl, sym, ap, ◌∙◌, subst, arith}
use Rattle.std.proofs.lemmas.List.{length-drop, drop-drop}
use Rattle.join_set.specs.Summaries.{Summary, StandsFor}
use Rattle.write_history.specs.Stored.{Stored}
use Rattle.write_history.proofs.Numbering.{numbered_as, numbered_less, within_log}
use Rattle.write_history.proofs.log.Log.drop_to.Goals as goal

pub settle-requires-clause-rises : goal.settle-requires-clause-rises
settle-requires-clause-rises c =
    let known = within_log c.args.self.now c.args.floor c.requires in
    let lacks = ap (λ (s : Stored). s.lacks) c.self.view_is in
    omega (arith, known.0, lacks, c.self.invariant.2)

pub settle-requires-clause-within : goal.settle-requires-clause-within
settle-requires-clause-within c =
    let known = within_log c.args.self.now c.args.floor c.requires in
    let lacks = ap (λ (s : Stored). s.lacks) c.self.view_is in
    let long = ap (λ (s : Stored). length s.entries) c.self.view_is in
    omega (arith, known.1, lacks, long, c.self.invariant.0)

pub invariant_of-self : goal.invariant_of-self
invariant_of-self c =
    let inside = c.self.inside in
    let floor = c.args.floor in
    let known = within_log c.args.self.now floor c.requires in
    let lacks = ap (λ (s : Stored). s.lacks) c.self.view_is in
    let long = ap (λ (s : Stored). length s.entries) c.self.view_is in
    let order : inside.entries.lacks ≤ floor = omega (arith, known.0, lacks) in
    let within : floor ≤ inside.entries.lacks + length inside.entries.entries = omega (arith, known.1, lacks, long) in
    let left = drop (floor - inside.entries.lacks) inside.entries.entries in
    let new = c.drop_to.new.self in
    let fewer = ap length c.drop_to.ensures.entries ∙ length-drop (floor - inside.entries.lacks) inside.entries.entries in
    let numbers = c.drop_upto.new.self in (
      omega (arith, c.self.invariant.0, order, within, fewer, c.drop_to.ensures.lacks, ap (λ (s : Summary). s.length) c.settle.ensures.exact),
      numbered_as floor new.lacks left new.entries numbers numbers c.drop_to.ensures.lacks c.drop_to.ensures.entries
          (numbered_less inside.entries.lacks floor inside.entries.entries inside.numbers numbers order within c.self.invariant.1 c.drop_upto.ensures) (λ part. refl),
      omega (arith, ap (λ (s : Summary). s.floor) c.settle.ensures.exact, c.drop_to.ensures.lacks),
    )

pub returns : goal.returns
returns c h lacks is low within =
    let inside = c.self.inside in
    let floor = c.args.floor in
    let lacked : inside.entries.lacks ≡ lacks = ap (λ (s : Stored). s.lacks) c.self.view_is ∙ is.lacked in
    let entries : inside.entries.entries ≡ drop lacks h = ap (λ (s : Stored). s.entries) c.self.view_is ∙ is.entries in
    let whole : lacks + (floor - lacks) ≡ floor = omega arith in
    record {
      within = within;
      lacked = c.drop_to.ensures.lacks;
      entries =
          c.drop_to.ensures.entries ∙ (λ i. drop (floor - lacked i) (entries i)) ∙ drop-drop (floor - lacks) lacks h ∙ ap (λ n. drop n h) whole;
      stands = c.settle.ensures.history h (subst (λ (s : Summary). StandsFor s h) (sym (ap (λ (s : Stored). s.summary) c.self.view_is)) is.stands);
    }
