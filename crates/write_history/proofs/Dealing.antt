-- Numbers are dealt and notes are read, and the rule holds at the start.
use Rattle.std.proofs.Common.{◌≡◌, ◌≢◌, ℕ, ◌+◌, [], ◌∷◌, ◌++◌, set, None, refl, sym, ap, ◌∙◌, subst, inl, arith}
use mathlib.Core.Option.{some}
use lib.ListN.{get_elem?}
use Rattle.atomic_table.specs.Table.{keeps, Allows, Splits, Joins, opening}
use Rattle.atomic_table.proofs.Lists.{set_else, set_again}
use Rattle.semantics.specs.Histories.{History, IsPrefix}
use Rattle.write_history.specs.Entries.{IsRecorded, written_by}
use Rattle.write_history.specs.Stored.{Stored, IsLog}
use Rattle.write_history.specs.Marks.{IsMarked}
use Rattle.write_history.specs.Seats.{HasOwn, KnowsKinds, HasMark, Apart, role_left, role_dealt, mark_dealt}
use Rattle.write_history.specs.Rule.{Fits, Keeps, dealer, first_words}
use Rattle.write_history.specs.Steps.{Sat, dealing, dealt, note_of, read_note, longer, informed, agreed}
use Rattle.write_history.specs.declared.known.Kinds.{Kinds}
use Rattle.write_history.specs.declared.known.Known.{Known}
use Rattle.write_history.specs.declared.known.Role.{Role}
use Rattle.write_history.specs.declared.known.Role.TheVariants.{Deals, Numbered, Notes}
use Rattle.write_history.proofs.Seating.{all_set, at_none, all_end, each_end}
use Rattle.write_history.proofs.Entering.{prefix_nil, written_by-between, IsRecorded-nil, IsRecorded-prefix, prefix_longer, prefix_longer_second, longer_either}
use Rattle.write_history.proofs.Fitting.{apart_left, apart_left_first, apart_dealt, apart_dealt_first, lt_next, apart_note, own_of_more}
use Rattle.write_history.specs.Lines.{lines}
use Rattle.write_history.proofs.Marking.{low_of, lower, mark_of_first, first_words_are}
use Rattle.write_history.proofs.Keeping.{loaded, turns, comes, quiet}

module _ (kinds : Kinds) where
  pub agrees : (slots id : ℕ) (m : Sat) (number : ℕ) → m.0.role ≡ Numbered number → m.0.held ≡ None → Allows (Keeps kinds) slots id m 0 (λ n. n) (agreed m)
  agrees slots id m number numbered nothing s k deep at small =
      let fit = k.fits id m.0 at in
      let knows : m.0.kinds ≡ kinds = subst (KnowsKinds kinds m.0.kinds) numbered fit.knows in
      let more : History = longer m.0.seen m.0.told in
      let all : IsPrefix more k.history = longer_either (λ es. IsPrefix es k.history) m.0.seen m.0.told fit.seen fit.told in
      let begins : IsPrefix m.0.seen more = prefix_longer m.0.seen m.0.told k.history fit.seen fit.told in
      let own : HasOwn k.history m.0.seen (Numbered number) = subst (HasOwn k.history m.0.seen) numbered fit.own in
      let still : written_by number k.history ≡ written_by number more = written_by-between number m.0.seen more k.history begins all own in
      let w : Known = record m.0 { seen = more; told = [] } in (
        w,
        keeps,
        tt,
        loaded kinds s 0 s.homes (set s.views id w) (quiet kinds s k id m.0 w at nothing nothing refl (record {
          knows = fit.knows;
          seen = all;
          told = prefix_nil k.history;
          marked = fit.marked;
          own = own_of_more k.history m.0.seen more m.0.role begins all fit.own;
          reached = fit.reached;
        })),
        record {
          begins = begins;
          told = prefix_longer_second m.0.seen m.0.told k.history fit.seen fit.told;
          own = subst (HasOwn more m.0.seen) (sym numbered) (sym still ∙ own);
          low = lower m.0.mark k.floor m.0.floor fit.reached (low_of kinds k.marks number k.floor m.0.mark k.allowing (subst (λ r. HasMark kinds k.marks r m.0.mark) numbered fit.marked));
          recorded = subst (λ (n : Kinds). IsRecorded n.writers more) (sym knows) (IsRecorded-prefix kinds.writers more k.history all k.recorded);
          is = refl;
        },
      )

  pub deals : (id : ℕ) (v : Known) (next : ℕ) → v.role ≡ Deals next → v.held ≡ None → Splits (Keeps kinds) id v (dealing v) (dealt v)
  unfolding turns
  deals id v next deal nothing s k at =
      let fit = k.fits id v at in
      let left_is : (dealing v).role ≡ Deals (next + 1) = ap role_left deal in
      let dealt_is : (dealt v).role ≡ Numbered next = ap role_dealt deal in
      let own : HasOwn k.history v.seen (Deals next) = subst (HasOwn k.history v.seen) deal fit.own in
      let knows : v.kinds ≡ kinds = subst (KnowsKinds kinds v.kinds) deal fit.knows in
      let words : HasMark kinds k.marks (Deals next) v.mark = subst (λ r. HasMark kinds k.marks r v.mark) deal fit.marked in
      let away : (seat : ℕ) (u : Known) → seat ≢ id → get_elem? s.views seat ≡ some u → Apart u.role (Deals next) × Apart (Deals next) u.role =
      λ seat u other at'. (subst (Apart u.role) deal (k.apart seat id u v other at' at), subst (λ r. Apart r u.role) deal (k.apart id seat v u (λ e. other (sym e)) at at')) in
      let left : Keeps kinds record { words = s.words; homes = s.homes; views = set s.views id (dealing v) } =
      turns kinds s k id v (dealing v) at nothing nothing
      (λ seat u other at'. let a = away seat u other at' in (
        subst (Apart u.role) (sym left_is) (apart_left u.role next a.0),
        subst (λ r. Apart r u.role) (sym left_is) (apart_left_first u.role next a.1),
      ))
      (record {
        knows = subst (KnowsKinds kinds v.kinds) (sym left_is) knows;
        marked = subst (λ r. HasMark kinds k.marks r v.mark) (sym left_is) (λ n past short. words n (omega arith) short);
        seen = fit.seen;
        told = fit.told;
        own = subst (HasOwn k.history v.seen) (sym left_is) (λ n past. own n (omega arith));
        reached = fit.reached;
      }) in
      comes kinds record { words = s.words; homes = s.homes; views = set s.views id (dealing v) } left (dealt v) refl
      (all_set (λ seat u. Apart u.role (dealt v).role × Apart (dealt v).role u.role) s.views id (dealing v)
      (subst (λ (x : Role × Role). Apart x.0 x.1 × Apart x.1 x.0) (λ i. (sym left_is i, sym dealt_is i)) (lt_next next, lt_next next))
      (λ seat u other at'. let a = away seat u other at' in (
        subst (Apart u.role) (sym dealt_is) (apart_dealt u.role next a.0),
        subst (λ r. Apart r u.role) (sym dealt_is) (apart_dealt_first u.role next a.1),
      )))
      (record {
        knows = subst (KnowsKinds kinds v.kinds) (sym dealt_is) knows;
        marked = subst (λ r. HasMark kinds left.marks r (dealt v).mark) (sym dealt_is) (subst (IsMarked kinds left.marks next) (λ j. mark_dealt (sym knows j) (sym deal j)) (mark_of_first kinds left.marks next (words next (omega arith))));
        seen = prefix_nil left.history;
        told = prefix_nil left.history;
        own = subst (HasOwn left.history []) (sym dealt_is) (own next (omega arith));
        reached = omega arith;
      })

  pub notes : (id : ℕ) (v : Known) → v.held ≡ None → Splits (Keeps kinds) id v v (note_of v)
  notes id v nothing s k at =
      let fit = k.fits id v at in
      subst (λ vs. Keeps kinds record { words = s.words; homes = s.homes; views = vs ++ note_of v ∷ [] }) (sym (set_again s.views id v at))
      (comes kinds s k (note_of v) refl (λ seat u at'. (apart_note u.role, tt))
      (record { knows = tt; marked = tt; seen = fit.seen; told = prefix_nil k.history; own = tt; reached = fit.reached }))

  pub informs : (id other : ℕ) (v w : Known) → v.held ≡ None → w.held ≡ None → w.role ≡ Notes → Joins (Keeps kinds) id v other w (informed v w) read_note
  informs id other v w nothing none_w note s k at apart at' =
      let fit = k.fits id v at in
      let told = k.fits other w (sym (set_else s.views id other (informed v w) apart) ∙ at') in
      let next : Keeps kinds record { words = s.words; homes = s.homes; views = set s.views id (informed v w) } =
      quiet kinds s k id v (informed v w) at nothing nothing refl (record {
        knows = fit.knows;
        seen = fit.seen;
        marked = fit.marked;
        told = told.seen;
        own = fit.own;
        reached = let a = fit.reached in let b = told.reached in omega arith;
      }) in
      quiet kinds record { words = s.words; homes = s.homes; views = set s.views id (informed v w) } next other w read_note at' none_w refl (sym note)
      (record { knows = tt; marked = tt; seen = prefix_nil next.history; told = prefix_nil next.history; own = tt; reached = omega arith })

  -- the table at the start
  pub opens : (log : Stored) → IsLog [] 0 log → Keeps kinds (opening (lines (0 ∷ 0 ∷ 0 ∷ 0 ∷ first_words kinds)) (log ∷ []) (dealer kinds))
  opens log is_log = record {
    history = [];
    turn = 0;
    floor = 0;
    marks = first_words kinds;
    words = refl;
    counted = omega arith;
    enough = (first_words_are kinds).0;
    allowing = λ n less. omega arith;
    recorded = IsRecorded-nil kinds.writers;
    fits = all_end (λ seat u. Fits kinds (first_words kinds) [] 0 u) [] (dealer kinds)
        (record { knows = refl; marked = λ n past short. (first_words_are kinds).1 n short; seen = prefix_nil []; told = prefix_nil []; own = λ number past. refl; reached = omega arith })
        (λ seat u at. absurd (at_none seat u at));
    apart = each_end (λ (u : Known) (u' : Known). Apart u.role u'.role) [] (dealer kinds) (λ seat other u u' away at. absurd (at_none seat u at)) (λ seat u at. absurd (at_none seat u at));
    place = inl (record {
      free = refl;
      log = log;
      home = refl;
      is_log = is_log;
      nobody = all_end (λ seat u. u.held ≡ None) [] (dealer kinds) refl (λ seat u at. absurd (at_none seat u at));
    });
  }
