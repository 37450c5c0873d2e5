-- The joins that a joins file declares.
use Rattle.std.proofs.Common.{◌≡◌, ℕ, zero, suc, ◌+◌, ◌≤◌, List, [], ◌∷◌, ◌++◌, length, take, map, Bool, true, false, refl, sym, ap, ◌∙◌, subst, arith}
use Rattle.std.specs.Prelude.{slice_get, option_map, Option, Some, None, Result, Ok, Err}
use Rattle.std.proofs.lemmas.List.{length-map, map-append, take_all}
use Rattle.std.proofs.lemmas.Option.{none-some, same_Some}
use Rattle.semantics.specs.Texts.{Text}
use Rattle.semantics.specs.Joins.{Join}
use Rattle.semantics.specs.Histories.{declare, DeclaredJoin, Entry, History, joins_of}
use Rattle.semantics.specs.Verdicts.{AllEntered, Cause, verdict}
use Rattle.semantics.proofs.AdmissibleSets.{joins_of-push}
use Rattle.semantics.proofs.EnteredLemmas.{AllEntered-nil, AllEntered-push}
use Rattle.protocol.specs.JoinsFile.{is_skipped, declare_line, declare_lines, file_lines, file_history}
use Rattle.joins_file.specs.Declarations.{join_of_line}
use Rattle.joins_file.proofs.DeclareLemmas.{declare_line-skipped, declare_line-syntax, declare_line-refused, declare_line-enters, declare_lines-enters, declare_lines-refused}
use Rattle.server.specs.Staffs.{declared, AreDeclarable}
use Rattle.pequod_commands.specs.Serves.{AreOfFile}

-- ---- the joins of a set, one after another

-- one join more
pub joins_more : (xs : List DeclaredJoin) (i : ℕ) (j : Join) → option_map (λ s. s.join) (slice_get xs i) ≡ Some j →
    take (i + 1) (map (λ s. s.join) xs) ≡ take i (map (λ s. s.join) xs) ++ j ∷ []
joins_more [] i j e = absurd (none-some j e)
joins_more (x ∷ xs) zero j e =
    let one : zero + 1 ≡ suc zero = omega arith in
    ap (λ m. take m (x.join ∷ map (λ s. s.join) xs)) one ∙ ap (λ k. k ∷ []) (same_Some x.join j e)
joins_more (x ∷ xs) (suc i) j e =
    let next : suc i + 1 ≡ suc (i + 1) = omega arith in
    ap (λ m. take m (x.join ∷ map (λ s. s.join) xs)) next ∙ ap (λ ys. x.join ∷ ys) (joins_more xs i j e)

-- all of them
pub joins_all : (xs : List DeclaredJoin) (n : ℕ) → length xs ≤ n → take n (map (λ s. s.join) xs) ≡ map (λ s. s.join) xs
joins_all xs n enough = take_all n (map (λ s. s.join) xs) (omega (arith, enough, length-map xs (λ (s : DeclaredJoin). s.join)))

-- ---- what lines declare

-- a history of the declarations of its joins alone, by the number 0, each of which entered
record IsOfJoins (h : History) : Type 0 where
  entered : AllEntered h
  alone : declared (map (λ s. s.join) (joins_of h)) ≡ h

none_declared : IsOfJoins []
none_declared = record { entered = AllEntered-nil; alone = refl }

one_declared : (h : History) (j : Join) → IsOfJoins h → verdict (declare j) h ≡ None → IsOfJoins (h ++ record { client = 0; write = declare j } ∷ [])
one_declared h j of free =
    let entry : Entry = record { client = 0; write = declare j } in
    let last : DeclaredJoin = record { position = length h + 1; join = j } in
    record {
      entered = AllEntered-push h entry of.entered free;
      alone =
          ap (λ joins. declared (map (λ s. s.join) joins)) (joins_of-push h entry)
          ∙ ap declared (map-append (λ (s : DeclaredJoin). s.join) (joins_of h) (last ∷ []))
          ∙ map-append (λ (join : Join). let e : Entry = record { client = 0; write = declare join } in e) (map (λ s. s.join) (joins_of h)) (j ∷ [])
          ∙ ap (λ (l : History). l ++ entry ∷ []) of.alone;
    }

-- what is given is one, and no refusal
ok_same : {E : Type 0} (r : Result History E) (h more : History) → r ≡ Ok h → r ≡ Ok more → h ≡ more
ok_same r h more one other = let both : Ok h ≡ Ok more = sym one ∙ other in cc

not_ok : {E : Type 0} (r : Result History E) (name : E) (more : History) → r ≡ Err name → r ≡ Ok more → ⊥
not_ok r name more one other = let both : Err name ≡ Ok more = sym one ∙ other in absurd (cc)

-- a line adds a declaration or none
line_declares : (line : Text) (h more : History) (skipped : Bool) (join : Option Join) → is_skipped line ≡ skipped → join_of_line line ≡ join → declare_line line h ≡ Ok more → IsOfJoins h → IsOfJoins more
line_declares line h more true join s j is of = subst IsOfJoins (ok_same (declare_line line h) h more (declare_line-skipped line h s) is) of
line_declares line h more false None s j is of = absurd (not_ok (declare_line line h) _ more (declare_line-syntax line h s j) is)
line_declares line h more false (Some join) s j is of = by (verdict (declare join) h) refl
  where
    by : (cause : Option Cause) → verdict (declare join) h ≡ cause → IsOfJoins more
    by None v = subst IsOfJoins (ok_same (declare_line line h) _ more (declare_line-enters line h join s j v) is) (one_declared h join of v)
    by (Some cause) v = absurd (not_ok (declare_line line h) _ more (declare_line-refused line h join cause s j v) is)

-- so do lines
lines_declare : (number : ℕ) (h more : History) (lines : List Text) → declare_lines number h lines ≡ Ok more → IsOfJoins h → IsOfJoins more
lines_declare number h more [] is of = subst IsOfJoins (ok_same (declare_lines number h []) h more refl is) of
lines_declare number h more (line ∷ lines) is of = by (declare_line line h) refl (λ next rest first. lines_declare (number + 1) next more lines rest first)
  where
    by : (given : Result History Text) → declare_line line h ≡ given → ((next : History) → declare_lines (number + 1) next lines ≡ Ok more → IsOfJoins next → IsOfJoins more) → IsOfJoins more
    by (Err name) d others = absurd (not_ok (declare_lines number h (line ∷ lines)) _ more (declare_lines-refused number h (line ∷ lines) lines line name refl d) is)
    by (Ok next) d others =
        others next (sym (declare_lines-enters number h next (line ∷ lines) lines line refl d) ∙ is) (line_declares line h next (is_skipped line) (join_of_line line) refl refl d of)

-- and so does a joins file
file_declares : (bytes : Text) (h : History) → file_history bytes ≡ Ok h → IsOfJoins h
unfolding file_history
file_declares bytes h is = lines_declare 1 [] h (file_lines bytes) is none_declared

-- the joins of its set are those that it declares
pub joins_of_file : (bytes : Text) (h : History) (joins : List Join) → file_history bytes ≡ Ok h → joins ≡ map (λ s. s.join) (joins_of h) → AreOfFile bytes joins
joins_of_file bytes h joins is same = record { history = h; is = is; same = ap declared same ∙ (file_declares bytes h is).alone }

-- and each has nothing against it after those before it
pub are_declarable : (bytes : Text) (joins : List Join) → AreOfFile bytes joins → AreDeclarable joins
are_declarable bytes joins of = subst AllEntered (sym of.same) (file_declares bytes of.history of.is).entered
