-- What was read between two rounds of meetings.
use Rattle.std.proofs.Common.{◌≡◌, ℕ, List, [], get_or, refl, sym, ◌∙◌, subst, arith}
use Rattle.std.specs.Prelude.{codes}
use Rattle.semantics.specs.Texts.{Text}
use Rattle.semantics.specs.Histories.{History, IsPrefix}
use Rattle.growing_history.proofs.PrefixLemmas.{prefix_refl, prefix_trans}
use Rattle.write_history.specs.Entries.{IsRecorded, written_by}
use Rattle.write_history.specs.Passes.{PassView, own}
use Rattle.write_history.proofs.Entering.{written_by-between, IsRecorded-prefix}
use Rattle.pequod_cache.specs.Adding.{HasAdded, OnlyReads}
use Rattle.pequod_cache.specs.Meeting.{HaveMet}
use Rattle.pequod_cache.proofs.AddingLemmas.{none_more, reads_added}
use Rattle.pequod_cache.proofs.MeetLemmas.{has_all_of}
use Rattle.load_run.specs.Holdings.{HoldsOwn, IsHeldBetween, AreHeldBetween, IsHeldOf, AreHeldOf}
use Rattle.load_run.specs.declared.held.Held.{Held}
use Rattle.load_run.specs.declared.text.Tables.{Tables}

-- ---- reads one after another

-- between two histories is between two that are further apart
held_wider : (low lower high higher : History) (prefix : Text) (held : Held) → IsPrefix lower low → IsPrefix high higher → IsHeldBetween low high prefix held → IsHeldBetween lower higher prefix held
held_wider low lower high higher prefix held down up is = record {
  seen = is.seen;
  begins = prefix_trans lower low is.seen down is.begins;
  within = prefix_trans is.seen high higher is.within up;
  holds = is.holds;
}

pub tables_between : (a b c d e f : PassView) (tables : Tables) → OnlyReads a b → OnlyReads b c → OnlyReads c d → OnlyReads d e → OnlyReads e f →
    IsHeldBetween a.view b.view (codes "s|") tables.s → IsHeldBetween b.view c.view (codes "p|") tables.p → IsHeldBetween c.view d.view (codes "v|") tables.v →
    IsHeldBetween d.view e.view (codes "t|") tables.t → IsHeldBetween e.view f.view (codes "karma|") tables.karma → AreHeldBetween a.view f.view tables
tables_between a b c d e f tables one two three four five s p v t karma =
    let to_c = prefix_trans a.view b.view c.view one.goes_on.begins two.goes_on.begins in
    let to_d = prefix_trans a.view c.view d.view to_c three.goes_on.begins in
    let to_e = prefix_trans a.view d.view e.view to_d four.goes_on.begins in
    let from_d = prefix_trans d.view e.view f.view four.goes_on.begins five.goes_on.begins in
    let from_c = prefix_trans c.view d.view f.view three.goes_on.begins from_d in
    let from_b = prefix_trans b.view c.view f.view two.goes_on.begins from_c in
    record {
      s = held_wider a.view a.view b.view f.view _ tables.s (prefix_refl a.view) from_b s;
      p = held_wider b.view a.view c.view f.view _ tables.p one.goes_on.begins from_c p;
      v = held_wider c.view a.view d.view f.view _ tables.v to_c from_d v;
      t = held_wider d.view a.view e.view f.view _ tables.t to_d five.goes_on.begins t;
      karma = held_wider e.view a.view f.view f.view _ tables.karma to_e (prefix_refl f.view) karma;
    }

-- ---- what was read

-- what was read between two rounds of meetings was read after exactly what the clients had written
holds_own : (first met read : PassView) (others early late : List PassView) (high seen : History) → HasAdded [] first met → HaveMet first.view met.view others early → OnlyReads met read →
    HaveMet read.view high early late → IsPrefix met.view seen → IsPrefix seen read.view → HoldsOwn first others seen
holds_own first met read others early late high seen added before reads after begins within =
    let number : ℕ = first.number in
    let counted = before.counted in
    let of_met : written_by number met.view ≡ own first = none_more number first met refl added in
    let of_read : written_by number read.view ≡ written_by number met.view = none_more number met read added.same_number (reads_added met read reads) in
    record {
      of_first = record {
        within = prefix_trans first.view met.view seen added.begins begins;
        own = sym (written_by-between number met.view seen read.view begins within of_read) ∙ of_read ∙ of_met;
        recorded = subst (λ (n : ℕ). IsRecorded n seen) (reads.goes_on.same_writers ∙ added.same_writers) (IsRecorded-prefix read.writers seen read.view within reads.goes_on.recorded);
      };
      of_others = λ i d less.
          has_all_of first.view met.view read.view high seen (get_or others i d) (get_or early i d) (get_or late i d) (before.each i d d less) (after.each i d d (omega arith)) begins within;
    }

held_own : (first met read : PassView) (others early late : List PassView) (high : History) (prefix : Text) (held : Held) → HasAdded [] first met → HaveMet first.view met.view others early → OnlyReads met read →
    HaveMet read.view high early late → IsHeldBetween met.view read.view prefix held → IsHeldOf first others prefix held
held_own first met read others early late high prefix held added before reads after is = record {
  seen = is.seen;
  whole = holds_own first met read others early late high is.seen added before reads after is.begins is.within;
  holds = is.holds;
}

pub all_held : (first met read : PassView) (others early late : List PassView) (high : History) (tables : Tables) → HasAdded [] first met → HaveMet first.view met.view others early → OnlyReads met read →
    HaveMet read.view high early late → AreHeldBetween met.view read.view tables → AreHeldOf first others tables
all_held first met read others early late high tables added before reads after are = record {
  s = held_own first met read others early late high _ tables.s added before reads after are.s;
  p = held_own first met read others early late high _ tables.p added before reads after are.p;
  v = held_own first met read others early late high _ tables.v added before reads after are.v;
  t = held_own first met read others early late high _ tables.t added before reads after are.t;
  karma = held_own first met read others early late high _ tables.karma added before reads after are.karma;
}
