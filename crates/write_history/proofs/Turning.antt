-- The turn is taken and given back, and under it the history is looked at and gets an entry more.
use Rattle.std.proofs.Common.{length-set, ◌≡◌, ◌≢◌, ℕ, ◌+◌, ◌<◌, ◌≤◌, ◌==◌, [], ◌∷◌, ◌++◌, length, set, get_or, take, drop, Some, None, refl, sym, ap, ◌∙◌, subst, ⊎_elim, inl, inr, arith}
use mathlib.Core.Option.{some, none}
use lib.ListN.{get_elem?}
use prog.Atomic.{either}
use Rattle.std.proofs.lemmas.List.{length-append, take-append-drop, take-append-le}
use Rattle.atomic_table.specs.Table.{keeps, takes, gives, homes_after, Allows}
use Rattle.atomic_table.proofs.Lists.{set_again, exchanged}
use Rattle.semantics.specs.Histories.{Entry, History, IsPrefix}
use Rattle.semantics.specs.Verdicts.{verdict}
use Rattle.growing_history.specs.Entered.{IsWrite}
use Rattle.growing_history.proofs.PrefixLemmas.{prefix_refl, prefix_trans}
use Rattle.write_history.specs.Entries.{IsRecorded}
use Rattle.write_history.specs.Stored.{Stored, IsLog}
use Rattle.write_history.specs.Marks.{before}
use Rattle.write_history.specs.Seats.{HasOwn, KnowsKinds, HasMark, Apart}
use Rattle.write_history.specs.Rule.{Fits, IsFree, IsTaken, Holds, Keeps}
use Rattle.write_history.specs.Steps.{Sat, took, freed, held_or, held_by, looked, stored_in, whole_by, entered}
use Rattle.write_history.specs.declared.known.Kinds.{Kinds}
use Rattle.write_history.specs.declared.known.Known.{Known}
use Rattle.write_history.specs.declared.known.Role.TheVariants.{Numbered}
use Rattle.write_history.proofs.Seating.{all_set, at_below}
use Rattle.write_history.proofs.Entering.{prefix_more, IsRecorded-push}
use Rattle.write_history.proofs.Fitting.{taken_set, own_of_all, fits_after}
use Rattle.write_history.specs.Lines.{lines}
use Rattle.write_history.proofs.Marking.{before_more, low_of}
use Rattle.write_history.proofs.Keeping.{loaded, apart_set, fits_set, mine}

-- the log with an entry more, by its holder, is the whole history with it
pub whole_is : (m : Sat) (h : History) (log : Stored) (e : Entry) → m.0.held ≡ Some h → m.1 ≡ (0, log) ∷ [] → m.0.lacks ≤ length h → IsLog (h ++ e ∷ []) m.0.lacks log → whole_by m ≡ h ++ e ∷ []
whole_is m h log e held has low is_log =
    let known : held_by m.0 ≡ h = ap (held_or []) held in
    let more : History = h ++ e ∷ [] in
    (λ i. take m.0.lacks (known i) ++ stored_in (has i))
    ∙ ap (λ es. take m.0.lacks h ++ es) is_log.entries
    ∙ ap (λ es. es ++ drop m.0.lacks more) (sym (take-append-le m.0.lacks h (e ∷ []) low))
    ∙ take-append-drop m.0.lacks more

-- a turn that was found free is taken, and one that was taken stays so
pub exchange_takes : (n : ℕ) → 0 < either (n == 0) 1 n
exchange_takes n = exchanged n 0 1 (λ k. 0 < k) (λ is_zero. omega arith) (λ isnt_zero. omega arith)

module _ (kinds : Kinds) where
  pub takes_turn : (slots id : ℕ) (m : Sat) (number : ℕ) (f : ℕ → ℕ) → m.0.role ≡ Numbered number → m.0.held ≡ None → ((n : ℕ) → 0 < f n) → Allows (Keeps kinds) slots id m 8 f (took m)
  takes_turn slots id m number f numbered nothing positive s k deep at small =
      let first : get_or s.words 8 0 ≡ k.turn = ap (λ ws. get_or ws 8 0) k.words in
      let turn : ℕ = f (get_or s.words 8 0) in
      let fit = k.fits id m.0 at in
      let knows : m.0.kinds ≡ kinds = subst (KnowsKinds kinds m.0.kinds) numbered fit.knows in
      ⊎_elim
      (λ (free : IsFree k.history k.floor k.turn s.homes s.views).
      let w : Known = record m.0 { held = Some k.history; lacks = k.floor; passed = 0; low = 0 } in (
        w,
        takes 0 free.log,
        ap (λ hs. get_elem? hs 0) free.home,
        record {
          history = k.history;
          turn = turn;
          floor = k.floor;
          marks = k.marks;
          words = ap (λ ws. set ws 8 turn) k.words;
          counted = k.counted;
          enough = k.enough;
          allowing = k.allowing;
          recorded = k.recorded;
          fits = fits_set kinds s k id w (record { knows = fit.knows; marked = fit.marked; seen = fit.seen; told = fit.told; own = fit.own; reached = fit.reached });
          apart = apart_set kinds s k id m.0 w at refl;
          place = inr (record {
            taken = positive (get_or s.words 8 0);
            away = ap (λ hs. set hs 0 none) free.home;
            holder = id;
            seated = let less = at_below s.views id m.0 at in omega (arith, length-set s.views id w);
            holds = λ u at'. all_set (λ seat u. seat ≡ id → Holds kinds k.marks k.history k.floor u) s.views id w
                (λ same. record { held = refl; lacks = refl; counted = omega arith; passed = λ n less. absurd (omega arith) }) (λ seat u apart at'' same. absurd (apart same)) id u at' refl;
            others = λ seat u other at'. all_set (λ seat u. seat ≢ id → u.held ≡ None) s.views id w (λ away. absurd (away refl)) (λ seat u apart at'' away. free.nobody seat u at'') seat u at' other;
          });
        },
        (
          (λ is_zero. record {
            history = k.history;
            floor = k.floor;
            log = free.log;
            low = low_of kinds k.marks number k.floor m.0.mark k.allowing (subst (λ r. HasMark kinds k.marks r m.0.mark) numbered fit.marked);
            reached = fit.reached;
            is_log = free.is_log;
            recorded = subst (λ (n : Kinds). IsRecorded n.writers k.history) (sym knows) k.recorded;
            begins = fit.seen;
            own = fit.own;
            is = refl;
          }),
          (λ isnt_zero. absurd (isnt_zero (first ∙ free.free))),
        ),
      ))
      (λ (taken : IsTaken kinds k.marks k.history k.floor k.turn s.homes s.views). (
        m.0,
        keeps,
        tt,
        subst (λ vs. Keeps kinds record { words = set s.words 8 turn; homes = s.homes; views = vs }) (sym (set_again s.views id m.0 at)) (record {
          history = k.history;
          turn = turn;
          floor = k.floor;
          marks = k.marks;
          words = ap (λ ws. set ws 8 turn) k.words;
          counted = k.counted;
          enough = k.enough;
          allowing = k.allowing;
          recorded = k.recorded;
          fits = k.fits;
          apart = k.apart;
          place = inr (record { taken = positive (get_or s.words 8 0); away = taken.away; holder = taken.holder; seated = taken.seated; holds = taken.holds; others = taken.others });
        }),
        (
          (λ is_zero. let some_turn = taken.taken in absurd (omega arith)),
          (λ isnt_zero. refl),
        ),
      ))
      k.place

  pub frees_turn : (slots id : ℕ) (m : Sat) (h : History) (log : Stored) → m.0.held ≡ Some h → m.1 ≡ (0, log) ∷ [] → IsLog h m.0.lacks log → Allows (Keeps kinds) slots id m 8 (λ n. 0) (freed m)
  frees_turn slots id m h log held has is_log s k deep at small =
      let t = mine kinds s k id m.0 h at held in
      let taken = t.0 in
      let fit = k.fits id m.0 at in
      let w : Known = record m.0 { held = None } in (
        w,
        gives,
        tt,
        record {
          history = k.history;
          turn = 0;
          floor = k.floor;
          marks = k.marks;
          words = ap (λ ws. set ws 8 0) k.words;
          counted = k.counted;
          enough = k.enough;
          allowing = k.allowing;
          recorded = k.recorded;
          fits = fits_set kinds s k id w (record { knows = fit.knows; marked = fit.marked; seen = fit.seen; told = fit.told; own = fit.own; reached = fit.reached });
          apart = apart_set kinds s k id m.0 w at refl;
          place = inl (record {
            free = refl;
            log = log;
            home = ap (λ c. homes_after s.homes c gives) has ∙ ap (λ hs. set hs 0 (some log)) taken.away;
            is_log = subst (λ (x : History × ℕ). IsLog x.0 x.1 log) (λ i. (sym t.2 i, t.3.lacks i)) is_log;
            nobody = all_set (λ seat u. u.held ≡ None) s.views id w refl (λ seat u apart at'. taken.others seat u (λ same. apart (same ∙ t.1)) at');
          });
        },
        refl,
      )

  -- ---- under the turn

  pub looks : (slots id : ℕ) (m : Sat) (h : History) → m.0.held ≡ Some h → Allows (Keeps kinds) slots id m 16 (λ n. n) (looked m)
  looks slots id m h held s k deep at small =
      let t = mine kinds s k id m.0 h at held in
      let fit = k.fits id m.0 at in
      let known : held_by m.0 ≡ k.history = ap (held_or []) held ∙ sym t.2 in
      let found : get_or s.words 16 0 ≡ length k.history = ap (λ ws. get_or ws 16 0) k.words in
      let low_enough : m.0.lacks ≤ before (get_or s.words 16 0) = subst (λ (x : ℕ × ℕ). x.0 ≤ before x.1) (λ j. (sym t.3.lacks j, sym found j)) k.counted in
      let w : Known = record m.0 { seen = held_by m.0; passed = 0; low = before (get_or s.words 16 0) } in (
        w,
        keeps,
        tt,
        loaded kinds s 16 s.homes (set s.views id w) (record {
          history = k.history;
          turn = k.turn;
          floor = k.floor;
          marks = k.marks;
          words = k.words;
          counted = k.counted;
          enough = k.enough;
          allowing = k.allowing;
          recorded = k.recorded;
          fits = fits_set kinds s k id w (record {
            knows = fit.knows;
            marked = fit.marked;
            seen = subst (λ es. IsPrefix es k.history) (sym known) (prefix_refl k.history);
            told = fit.told;
            own = subst (λ es. HasOwn k.history es m.0.role) (sym known) (own_of_all k.history m.0.seen m.0.role fit.own);
            reached = fit.reached;
          });
          apart = apart_set kinds s k id m.0 w at refl;
          place = inr (taken_set kinds k.marks k.marks k.history k.history k.floor k.floor k.turn s.homes s.views id w t.0 t.1 (record {
            held = held ∙ ap (λ es. Some es) (sym t.2);
            lacks = t.3.lacks;
            counted = subst (λ n. before n ≤ before (length k.history)) (sym found) (omega arith);
            passed = λ n less. absurd (omega arith);
          }));
        }),
        (found ∙ ap length (sym known), low_enough, refl),
      )

  pub enters : (slots id : ℕ) (m : Sat) (number : ℕ) (h : History) (log : Stored) (e : Entry) (new : ℕ) → m.0.role ≡ Numbered number → m.0.held ≡ Some h → m.1 ≡ (0, log) ∷ [] →
      m.0.lacks ≤ length h → IsLog (h ++ e ∷ []) m.0.lacks log → e.client ≡ number → number < m.0.kinds.writers → verdict e.write h ≡ None → IsWrite e.write → new ≡ length h + 1 →
      Allows (Keeps kinds) slots id m 16 (λ n. new) (λ n. entered m new)
  enters slots id m number h log e new numbered held has low is_log by below free write count s k deep at small =
      let t = mine kinds s k id m.0 h at held in
      let fit = k.fits id m.0 at in
      let knows : m.0.kinds ≡ kinds = subst (KnowsKinds kinds m.0.kinds) numbered fit.knows in
      let more : History = k.history ++ e ∷ [] in
      let same : more ≡ whole_by m = ap (λ es. es ++ e ∷ []) t.2 ∙ sym (whole_is m h log e held has low is_log) in
      let long : new ≡ length more = count ∙ ap (λ es. length es + 1) (sym t.2) ∙ sym (length-append k.history (e ∷ [])) in
      let longer_now : length k.history ≤ length more = omega (arith, length-append k.history (e ∷ [])) in
      let allows = before_more (length k.history) (length more) longer_now in
      let mine_now = t.3 in
      let same_kinds : number < kinds.writers = subst (λ (n : Kinds). number < n.writers) knows below in
      let w : Known = record m.0 { seen = more; held = Some more } in (
        w,
        keeps,
        tt,
        record {
          history = more;
          turn = k.turn;
          floor = k.floor;
          marks = k.marks;
          words = ap (λ ws. set ws 16 new) k.words ∙ ap (λ n. lines (0 ∷ k.turn ∷ n ∷ k.floor ∷ k.marks)) long;
          counted = let c = k.counted in omega arith;
          enough = k.enough;
          allowing = k.allowing;
          recorded = IsRecorded-push kinds.writers k.history e k.recorded (ap (λ es. verdict e.write es) t.2 ∙ free) write (subst (λ n. n < kinds.writers) (sym by) same_kinds);
          fits = all_set (λ seat u. Fits kinds k.marks more k.floor u) s.views id w
              (record {
                knows = fit.knows;
                marked = fit.marked;
                seen = prefix_refl more;
                told = prefix_trans m.0.told k.history more fit.told (prefix_more k.history (e ∷ []));
                own = subst (HasOwn more more) (sym numbered) refl;
                reached = fit.reached;
              })
              (λ seat u away at'. fits_after kinds k.marks k.history k.floor number e u by (subst (Apart u.role) numbered (k.apart seat id u m.0 away at' at)) (k.fits seat u at'));
          apart = apart_set kinds s k id m.0 w at refl;
          place = inr (taken_set kinds k.marks k.marks k.history more k.floor k.floor k.turn s.homes s.views id w t.0 t.1 (record { held = refl; lacks = mine_now.lacks; counted = let c = mine_now.counted in omega arith; passed = mine_now.passed }));
        },
        ap (λ es. (record m.0 { seen = es; held = Some es }, m.1)) same,
      )
