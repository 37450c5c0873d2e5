use Rattle.std.proofs.Common.{◌≡◌, ◌+◌, ◌-◌, ◌/◌, ◌<◌, length, true, Less, Greater, sym, ap, ◌∙◌, subst, arith}
use Rattle.std.specs.Bool.{OnTrue}
use Rattle.std.proofs.lemmas.List.{length-map}
use Rattle.semantics.specs.Texts.{Text, text_cmp}
use Rattle.semantics.proofs.TableLemmas.{equal_by_tie}
use Rattle.join_rows.specs.Laid.{row_of, rows_of}
use Rattle.key_ranges.specs.Ranges.{is_below}
use Rattle.join_rows.specs.Found.{row_at, AllBelow}
use Rattle.join_rows.proofs.AllLemmas.{all_take}
use Rattle.join_rows.proofs.OrderedLemmas.{below_from_less, below_from_greater}
use Rattle.join_rows.proofs.FoundLemmas.{below_upto, above_upfrom, none_above}
use Rattle.join_rows.proofs.search.find.Goals as goal

pub loop-first-preserved-in-Less : goal.loop-first-preserved-in-Less
loop-first-preserved-in-Less c =
    let rows = rows_of c.args.bytes.now c.args.entries.now in
    let m = c.loop-first.first + (c.loop-first.end - c.loop-first.first) / 2 in
    let within : m < length rows = omega (arith, length-map c.args.entries.now (row_of c.args.bytes.now)) in
    let less : text_cmp (row_at m rows).0 c.args.key.now ≡ Less = ap (λ (k : Text). text_cmp k c.args.key.now) (sym c.key_at.ensures) ∙ sym c.cmp.ensures ∙ c.in-Less.is in record {
      order = omega arith;
      within = omega arith;
      below = below_upto c.args.key.now rows m c.requires.rows.ascending within (below_from_less (row_at m rows).0 c.args.key.now less);
      above = c.loop-first.invariant.above;
    }

pub returns-in-Equal : goal.returns-in-Equal
returns-in-Equal c =
    let rows = rows_of c.args.bytes.now c.args.entries.now in
    let m = c.loop-first.first + (c.loop-first.end - c.loop-first.first) / 2 in record {
      inside = omega (arith, length-map c.args.entries.now (row_of c.args.bytes.now));
      is = equal_by_tie (row_at m rows).0 c.args.key.now (ap (λ (k : Text). text_cmp k c.args.key.now) (sym c.key_at.ensures) ∙ sym c.cmp.ensures ∙ c.in-Equal.is);
    }

pub loop-first-preserved : goal.loop-first-preserved
loop-first-preserved c =
    let rows = rows_of c.args.bytes.now c.args.entries.now in
    let m = c.loop-first.first + (c.loop-first.end - c.loop-first.first) / 2 in
    let within : m < length rows = omega (arith, length-map c.args.entries.now (row_of c.args.bytes.now)) in
    let more : text_cmp (row_at m rows).0 c.args.key.now ≡ Greater = ap (λ (k : Text). text_cmp k c.args.key.now) (sym c.key_at.ensures) ∙ sym c.cmp.ensures ∙ c.in-Greater.is in record {
      order = omega arith;
      within = omega arith;
      below = c.loop-first.invariant.below;
      above = above_upfrom c.args.key.now rows m c.requires.rows.ascending within (below_from_greater (row_at m rows).0 c.args.key.now more);
    }

pub returns-then-is_behind : goal.returns-then-is_behind
returns-then-is_behind c =
    let rows = rows_of c.args.bytes.now c.args.entries.now in
    let count : length rows ≡ length c.args.entries.now = length-map c.args.entries.now (row_of c.args.bytes.now) in record {
      inside = omega (arith, count);
      below = all_take (λ (row : Text × Text). is_below row.0 c.args.key.now ≡ true) (length c.args.entries.now) rows
          (subst (λ b. OnTrue b (AllBelow c.args.key.now rows)) c.if-is_behind.true c.is_behind.ensures);
      above = none_above c.args.key.now rows (length c.args.entries.now) (omega (arith, count));
    }
