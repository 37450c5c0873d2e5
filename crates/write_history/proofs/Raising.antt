-- The words of the passes are looked at and change, and the floor rises.
use Rattle.std.proofs.Common.{length-set, ◌≡◌, ℕ, suc, min, ◌+◌, ◌<◌, ◌≤◌, List, [], ◌∷◌, length, set, get_or, Some, None, refl, sym, ap, ◌∙◌, subst, inr, arith}
use lib.Seq.{get_or-set_same}
use Rattle.atomic_table.specs.Table.{State, keeps, Allows}
use Rattle.semantics.specs.Histories.{History}
use Rattle.write_history.specs.Stored.{Stored}
use Rattle.write_history.specs.Marks.{before, words_of, allowed, AllAllow, IsMarked}
use Rattle.write_history.specs.Seats.{KnowsKinds, HasMark, Apart}
use Rattle.write_history.specs.Rule.{Fits, Keeps}
use Rattle.write_history.specs.Steps.{Sat, held_or, held_by, passing, raised, pinned, marked, reread}
use Rattle.write_history.specs.declared.known.Kinds.{Kinds}
use Rattle.write_history.specs.declared.known.Known.{Known}
use Rattle.write_history.specs.declared.known.Mark.{Mark}
use Rattle.write_history.specs.declared.known.Mark.TheVariants.{Free, Pinned}
use Rattle.write_history.specs.declared.known.Role.{Role}
use Rattle.write_history.specs.declared.known.Role.TheVariants.{Numbered}
use Rattle.write_history.proofs.Seating.{all_set}
use Rattle.write_history.proofs.Fitting.{place_set, taken_set, place_words}
use Rattle.write_history.specs.Lines.{lines}
use Rattle.write_history.proofs.Lines.{mark_at, get_line, set_line}
use Rattle.write_history.proofs.Marking.{allowed_pin, allow_set, allow_more, allow_next, has_mark_else, low_of, min_first, min_second}
use Rattle.write_history.proofs.Keeping.{loaded, apart_set, fits_set, quiet, mine}

module _ (kinds : Kinds) where
  -- a word of a pass, among all words
  word_at : (s : State Stored Known) (k : Keeps kinds s) (number : ℕ) → get_or s.words (mark_at number) 0 ≡ get_or k.marks number 0
  word_at s k number = ap (λ ws. get_or ws (mark_at number) 0) k.words ∙ get_line (suc (suc (suc (suc number)))) (0 ∷ k.turn ∷ length k.history ∷ k.floor ∷ k.marks)

  word_set : (s : State Stored Known) (k : Keeps kinds s) (number x : ℕ) → set s.words (mark_at number) x ≡ lines (0 ∷ k.turn ∷ length k.history ∷ k.floor ∷ set k.marks number x)
  word_set s k number x = ap (λ ws. set ws (mark_at number) x) k.words ∙ set_line (suc (suc (suc (suc number)))) x (0 ∷ k.turn ∷ length k.history ∷ k.floor ∷ k.marks)

  -- the next word of a pass is looked at under the turn
  pub passes : (slots id : ℕ) (m : Sat) (number : ℕ) (h : History) → m.0.role ≡ Numbered number → m.0.held ≡ Some h → m.0.passed < words_of m.0.kinds → Allows (Keeps kinds) slots id m (mark_at m.0.passed) (λ n. n) (passing m)
  passes slots id m number h numbered held short s k deep at small =
      let t = mine kinds s k id m.0 h at held in
      let fit = k.fits id m.0 at in
      let has = t.3 in
      let i : ℕ = m.0.passed in
      let found : ℕ = get_or s.words (mark_at i) 0 in
      let knows : m.0.kinds ≡ kinds = subst (KnowsKinds kinds m.0.kinds) numbered fit.knows in
      let least : ℕ = min m.0.low (allowed m.0.kinds i found) in
      let under : least ≤ m.0.low = min_first m.0.low (allowed m.0.kinds i found) in
      let within : least ≤ allowed kinds i (get_or k.marks i 0) =
      subst (λ (x : Kinds × ℕ). least ≤ allowed x.0 i x.1) (λ j. (knows j, word_at s k i j)) (min_second m.0.low (allowed m.0.kinds i found)) in
      let lacks_less : m.0.lacks ≤ allowed m.0.kinds i found =
      subst (λ (x : Kinds × (ℕ × ℕ)). x.1.0 ≤ allowed x.0 i x.1.1) (λ j. (sym knows j, (sym has.lacks j, sym (word_at s k i) j)))
      (k.allowing i (subst (λ n. i < words_of n) knows short)) in
      let w : Known = record m.0 { passed = i + 1; low = least } in (
        w,
        keeps,
        tt,
        loaded kinds s (mark_at i) s.homes (set s.views id w) (record {
          history = k.history;
          turn = k.turn;
          floor = k.floor;
          marks = k.marks;
          words = k.words;
          counted = k.counted;
          enough = k.enough;
          allowing = k.allowing;
          recorded = k.recorded;
          fits = fits_set kinds s k id w (record { knows = fit.knows; marked = fit.marked; seen = fit.seen; told = fit.told; own = fit.own; reached = fit.reached });
          apart = apart_set kinds s k id m.0 w at refl;
          place = inr (taken_set kinds k.marks k.marks k.history k.history k.floor k.floor k.turn s.homes s.views id w t.0 t.1 (record {
            held = has.held;
            lacks = has.lacks;
            counted = let c = has.counted in omega arith;
            passed = allow_next kinds i m.0.low least k.marks under within has.passed;
          }));
        }),
        (lacks_less, refl),
      )

  -- the floor is raised to one that all words allow, under the turn
  pub raises : (slots id : ℕ) (m : Sat) (number : ℕ) (h : History) → m.0.role ≡ Numbered number → m.0.held ≡ Some h → m.0.passed ≡ words_of m.0.kinds → m.0.lacks ≤ m.0.low →
      Allows (Keeps kinds) slots id m 24 (λ n. m.0.low) (raised m)
  raises slots id m number h numbered held all more s k deep at small =
      let t = mine kinds s k id m.0 h at held in
      let fit = k.fits id m.0 at in
      let has = t.3 in
      let low : ℕ = m.0.low in
      let knows : m.0.kinds ≡ kinds = subst (KnowsKinds kinds m.0.kinds) numbered fit.knows in
      let rises : k.floor ≤ low = subst (λ f. f ≤ low) has.lacks more in
      let every : AllAllow kinds (words_of kinds) low k.marks = subst (λ n. AllAllow kinds n low k.marks) (all ∙ ap words_of knows) has.passed in
      let w : Known = record m.0 { floor = low; lacks = low } in (
        w,
        keeps,
        tt,
        record {
          history = k.history;
          turn = k.turn;
          floor = low;
          marks = k.marks;
          words = ap (λ ws. set ws 24 low) k.words;
          counted = has.counted;
          enough = k.enough;
          allowing = every;
          recorded = k.recorded;
          fits = all_set (λ seat u. Fits kinds k.marks k.history low u) s.views id w
              (record { knows = fit.knows; marked = fit.marked; seen = fit.seen; told = fit.told; own = fit.own; reached = omega arith })
              (λ seat u apart at'. let old = k.fits seat u at' in record { knows = old.knows; marked = old.marked; seen = old.seen; told = old.told; own = old.own; reached = let r = old.reached in omega arith });
          apart = apart_set kinds s k id m.0 w at refl;
          place = inr (taken_set kinds k.marks k.marks k.history k.history k.floor low k.turn s.homes s.views id w t.0 t.1 (record { held = has.held; lacks = refl; counted = has.counted; passed = has.passed }));
        },
        (low_of kinds k.marks number low m.0.mark every (subst (λ r. HasMark kinds k.marks r m.0.mark) numbered fit.marked), refl),
      )

  -- a pass that has the turn is pinned after all entries
  pub pins_down : (slots id : ℕ) (m : Sat) (number : ℕ) (h : History) → m.0.role ≡ Numbered number → m.0.held ≡ Some h → m.0.mark ≡ Free → Allows (Keeps kinds) slots id m (mark_at number) (λ n. length h) (pinned m)
  pins_down slots id m number h numbered held free s k deep at small =
      let t = mine kinds s k id m.0 h at held in
      let fit = k.fits id m.0 at in
      let has = t.3 in
      let known : held_by m.0 ≡ h = ap (held_or []) held in
      let old : IsMarked kinds k.marks number Free = subst (λ (x : Role × Mark). HasMark kinds k.marks x.0 x.1) (λ j. (numbered j, free j)) fit.marked in
      let short : number < length k.marks = let e = k.enough in let o = old.0 in omega arith in
      let fits_now : k.floor ≤ allowed kinds number (length h) =
      subst (λ n. k.floor ≤ n) (sym (allowed_pin kinds number (length h) old.0)) (subst (λ (es : History). k.floor ≤ before (length es)) t.2 k.counted) in
      let words : List ℕ = set k.marks number (length h) in
      let w : Known = record m.0 { mark = Pinned (length (held_by m.0)); passed = 0 } in (
        w,
        keeps,
        tt,
        record {
          history = k.history;
          turn = k.turn;
          floor = k.floor;
          marks = words;
          words = word_set s k number (length h);
          counted = k.counted;
          enough = length-set k.marks number (length h) ∙ k.enough;
          allowing = allow_set kinds (words_of kinds) k.floor k.marks number (length h) short fits_now k.allowing;
          recorded = k.recorded;
          fits = all_set (λ seat u. Fits kinds words k.history k.floor u) s.views id w
              (record {
                knows = fit.knows;
                marked = subst (λ r. HasMark kinds words r w.mark) (sym numbered) (old.0, get_or-set_same k.marks number (length h) 0 short ∙ ap length (sym known));
                seen = fit.seen;
                told = fit.told;
                own = fit.own;
                reached = fit.reached;
              })
              (λ seat u away at'. let was = k.fits seat u at' in record {
                knows = was.knows;
                marked = has_mark_else kinds k.marks number (length h) u.role u.mark (subst (Apart u.role) numbered (k.apart seat id u m.0 away at' at)) was.marked;
                seen = was.seen;
                told = was.told;
                own = was.own;
                reached = was.reached;
              });
          apart = apart_set kinds s k id m.0 w at refl;
          place = inr (taken_set kinds k.marks words k.history k.history k.floor k.floor k.turn s.homes s.views id w t.0 t.1 (record { held = has.held; lacks = has.lacks; counted = has.counted; passed = λ n less. absurd (omega arith) }));
        },
        refl,
      )

  -- a pass gives its word another value, which allows no less, between calls
  pub remarks : (slots id : ℕ) (m : Sat) (number x : ℕ) (mark : Mark) → m.0.role ≡ Numbered number → m.0.held ≡ None → number < words_of m.0.kinds
      → ((words : List ℕ) → IsMarked m.0.kinds words number m.0.mark → allowed m.0.kinds number (get_or words number 0) ≤ allowed m.0.kinds number x)
      → ((words : List ℕ) → get_or words number 0 ≡ x → IsMarked m.0.kinds words number mark)
      → Allows (Keeps kinds) slots id m (mark_at number) (λ n. x) (marked mark m)
  remarks slots id m number x mark numbered nothing there more after s k deep at small =
      let fit = k.fits id m.0 at in
      let knows : m.0.kinds ≡ kinds = subst (KnowsKinds kinds m.0.kinds) numbered fit.knows in
      let old : IsMarked kinds k.marks number m.0.mark = subst (λ r. HasMark kinds k.marks r m.0.mark) numbered fit.marked in
      let short : number < length k.marks = subst (λ n. number < n) (ap words_of knows ∙ sym k.enough) there in
      let words : List ℕ = set k.marks number x in
      let allows : allowed kinds number (get_or k.marks number 0) ≤ allowed kinds number x =
      subst (λ (n : Kinds). IsMarked n k.marks number m.0.mark → allowed n number (get_or k.marks number 0) ≤ allowed n number x) knows (more k.marks) old in
      let is : IsMarked kinds words number mark = subst (λ (n : Kinds). get_or words number 0 ≡ x → IsMarked n words number mark) knows (after words) (get_or-set_same k.marks number x 0 short) in
      let w : Known = record m.0 { mark = mark } in (
        w,
        keeps,
        tt,
        record {
          history = k.history;
          turn = k.turn;
          floor = k.floor;
          marks = words;
          words = word_set s k number x;
          counted = k.counted;
          enough = length-set k.marks number x ∙ k.enough;
          allowing = allow_more kinds (words_of kinds) k.floor k.marks number x allows short k.allowing;
          recorded = k.recorded;
          fits = all_set (λ seat u. Fits kinds words k.history k.floor u) s.views id w
              (record { knows = fit.knows; marked = subst (λ r. HasMark kinds words r mark) (sym numbered) is; seen = fit.seen; told = fit.told; own = fit.own; reached = fit.reached })
              (λ seat u away at'. let was = k.fits seat u at' in record {
                knows = was.knows;
                marked = has_mark_else kinds k.marks number x u.role u.mark (subst (Apart u.role) numbered (k.apart seat id u m.0 away at' at)) was.marked;
                seen = was.seen;
                told = was.told;
                own = was.own;
                reached = was.reached;
              });
          apart = apart_set kinds s k id m.0 w at refl;
          place = place_words kinds k.marks words k.history k.floor k.turn s.homes (set s.views id w) (λ count low under all. allow_more kinds count low k.marks number x allows short all)
              (place_set kinds k.marks k.history k.floor k.turn s.homes s.views id m.0 w at nothing nothing k.place);
        },
        refl,
      )

  -- a pass looks at its own word, between calls
  pub rereads : (slots id : ℕ) (m : Sat) (number : ℕ) → m.0.role ≡ Numbered number → m.0.held ≡ None → Allows (Keeps kinds) slots id m (mark_at number) (λ n. n) (reread m)
  rereads slots id m number numbered nothing s k deep at small =
      let fit = k.fits id m.0 at in
      let is : IsMarked kinds k.marks number m.0.mark = subst (λ r. HasMark kinds k.marks r m.0.mark) numbered fit.marked in (
        m.0,
        keeps,
        tt,
        loaded kinds s (mark_at number) s.homes (set s.views id m.0) (quiet kinds s k id m.0 m.0 at nothing nothing refl fit),
        (
          (λ position pinned.
              let here : IsMarked kinds k.marks number (Pinned position) = subst (IsMarked kinds k.marks number) pinned is in
              word_at s k number ∙ here.1),
          refl,
        ),
      )
