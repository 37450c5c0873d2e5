-- A line of entries: how many writes there are after it.
use Rattle.std.proofs.Common.{◌≡◌, ◌+◌, length, true, refl, sym, ap, ap₂, ◌∙◌, inr, arith}
use Rattle.protocol.specs.Batches.{Batch}
use Rattle.follow_node.specs.FedLines.{of_entries, fed_line}
use Rattle.follow_node.specs.HomeLines.{plain_line}
use Rattle.follow_node.specs.Feeders.{FeederView, given}
use Rattle.follow_node.specs.declared.replica.Taken.TheVariants.{Done, OutOfMemory}
use Rattle.follow_node.specs.Pulls.{is_next}
use Rattle.follow_node.proofs.LineTakes.{taken_length, heeds_next, took_from}
use Rattle.follow_node.proofs.feeder.Feeder.take_line.Goals as goal

pub returns-in-Done-clause-taken : goal.returns-in-Done-clause-taken
returns-in-Done-clause-taken g c =
    let f = c.args.self.now in
    let view = c.self.view_is in
    let found = c.in-Ok-Entries in
    let b : Batch = record { from = found.from; position = found.position; entries = found.entries.items } in
    let is : fed_line f.line ≡ of_entries b = ap fed_line (sym (c.line.ensures.line ∙ ap (λ (v : FeederView). v.line) view)) ∙ sym found.ensures ∙ ap plain_line found.field-0-is in
    let count : c.len.result ≡ length found.entries.items = c.len.ensures ∙ found.entries.ok.0 in
    let next : is_next c.args.first f.asked found.from found.position (length found.entries.items) ≡ true =
    ap₂ (λ asked count. is_next c.args.first asked found.from found.position count) (sym (ap (λ (v : FeederView). v.asked) view)) (sym count) ∙ sym c.may_take.ensures ∙ c.if-not-may_take.false in
    let took = c.in-Done.ensures.taken in (
      (
        took.0,
        record {
          batch = b;
          heeds = heeds_next c.args.first f b is next;
          took = took_from (g.R.Replica.writes c.args.replica.now) (g.R.Replica.writes c.take_entries.new.replica) found.entries.items Done took.0 c.self.inside.taken f.taken (ap (λ (v : FeederView). v.taken) view) took.2;
        },
        c.unwrap_or.ensures,
      ),
      refl,
      ap (λ (v : FeederView). v.ended) view ∙ c.requires.open,
    )

pub returns-in-Refused-clause-given : goal.returns-in-Refused-clause-given
returns-in-Refused-clause-given g c =
    let took = c.take_entries.ensures.taken in
    let more = taken_length _ _ _ took.0 _ took.2 in
    let before = c.requires.given in
    let same = ap given c.self.view_is in
    let count = took.1 in
    omega arith

pub returns-in-OutOfMemory-clause-taken : goal.returns-in-OutOfMemory-clause-taken
returns-in-OutOfMemory-clause-taken g c =
    let f = c.args.self.now in
    let view = c.self.view_is in
    let found = c.in-Ok-Entries in
    let b : Batch = record { from = found.from; position = found.position; entries = found.entries.items } in
    let is : fed_line f.line ≡ of_entries b = ap fed_line (sym (c.line.ensures.line ∙ ap (λ (v : FeederView). v.line) view)) ∙ sym found.ensures ∙ ap plain_line found.field-0-is in
    let count : c.len.result ≡ length found.entries.items = c.len.ensures ∙ found.entries.ok.0 in
    let next : is_next c.args.first f.asked found.from found.position (length found.entries.items) ≡ true =
    ap₂ (λ asked count. is_next c.args.first asked found.from found.position count) (sym (ap (λ (v : FeederView). v.asked) view)) (sym count) ∙ sym c.may_take.ensures ∙ c.if-not-may_take.false in
    let took = c.in-OutOfMemory.ensures.taken in (
      inr (
        took.0,
        took.1 ∙ ap (λ (v : FeederView). v.taken + took.0) view,
        record {
          batch = b;
          heeds = heeds_next c.args.first f b is next;
          took = took_from (g.R.Replica.writes c.args.replica.now) (g.R.Replica.writes c.take_entries.new.replica) found.entries.items (OutOfMemory c.in-OutOfMemory.memory) took.0 c.self.inside.taken f.taken (ap (λ (v : FeederView). v.taken) view) took.2;
        },
      ),
      ap (λ (v : FeederView). v.line) view,
      ap (λ (v : FeederView). v.asked) view,
      ap (λ (v : FeederView). v.kept) view ∙ c.requires.kept,
      ap (λ (v : FeederView). v.ended) view ∙ c.requires.open,
    )

pub returns-in-OutOfMemory-clause-given : goal.returns-in-OutOfMemory-clause-given
returns-in-OutOfMemory-clause-given g c =
    let took = c.take_entries.ensures.taken in
    let more = taken_length _ _ _ took.0 _ took.2 in
    let before = c.requires.given in
    let same = ap given c.self.view_is in
    let count = took.1 in
    omega arith
