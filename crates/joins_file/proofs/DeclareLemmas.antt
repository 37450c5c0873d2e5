-- What a line declares after a history, and what lines declare.
use Rattle.std.proofs.Common.{◌≡◌, ℕ, ◌+◌, List, [], ◌∷◌, ◌++◌, Bool, true, false, refl, sym, ap, ◌∙◌}
use Rattle.std.specs.Prelude.{Some, None, Result, Ok, Err, codes}
use Rattle.std.specs.Result.{result_ok}
use Rattle.std.specs.Str.{IsUtf8, is_utf8}
use Rattle.std.proofs.lemmas.Str.{IsUtf8-from_is_utf8, is_utf8-from_IsUtf8}
use Rattle.std.proofs.lemmas.Option.{none-some, same_Some}
use Rattle.semantics.specs.Texts.{Text}
use Rattle.semantics.specs.Joins.{Join}
use Rattle.semantics.specs.Histories.{declare, History}
use Rattle.semantics.specs.Verdicts.{Cause, verdict}
use Rattle.protocol.specs.JoinText.{read_join}
use Rattle.protocol.specs.JoinsFile.{is_skipped, cause_name, declare_line, declare_lines}
use Rattle.joins_file.specs.Declarations.{join_of_line}

-- ---- the join of a line

no_text_by : (line : Text) (utf8 : Bool) → is_utf8 line ≡ utf8 → ¬ (IsUtf8 line) → join_of_line line ≡ None
no_text_by line true e bad = absurd (bad (IsUtf8-from_is_utf8 line e))
no_text_by line false e bad = rw e

-- a line that is no UTF-8 is no join
pub join_of_line-no_text : (line : Text) → ¬ (IsUtf8 line) → join_of_line line ≡ None
join_of_line-no_text line bad = no_text_by line (is_utf8 line) refl bad

-- another line is the join that it is read as
pub join_of_line-text : (line text : Text) (given : Result Join ℕ) → IsUtf8 line → text ≡ line → read_join text ≡ given → join_of_line line ≡ result_ok given
join_of_line-text line text given utf8 same e = rw (is_utf8-from_IsUtf8 line utf8) (ap (λ t. result_ok (read_join t)) (sym same) ∙ ap result_ok e)

-- ---- a line

pub declare_line-skipped : (line : Text) (h : History) → is_skipped line ≡ true → declare_line line h ≡ Ok h
declare_line-skipped line h e = rw e

-- a line that is no join text
syntax_by : (line : Text) (h : History) (utf8 : Bool) (given : Result Join ℕ) → is_utf8 line ≡ utf8 → read_join line ≡ given → is_skipped line ≡ false → join_of_line line ≡ None →
    declare_line line h ≡ Err (codes "syntax")
syntax_by line h false given u r s none = rw (s, u)
syntax_by line h true (Ok j) u r s none = let found : join_of_line line ≡ Some j = rw (u, r) in absurd (none-some j (sym none ∙ found))
syntax_by line h true (Err at) u r s none = rw (s, u, r)

pub declare_line-syntax : (line : Text) (h : History) → is_skipped line ≡ false → join_of_line line ≡ None → declare_line line h ≡ Err (codes "syntax")
declare_line-syntax line h s none = syntax_by line h (is_utf8 line) (read_join line) refl refl s none

-- a line that is a join text, by what the verdict makes of it
refused_by : (line : Text) (h : History) (j : Join) (cause : Cause) (utf8 : Bool) (given : Result Join ℕ) → is_utf8 line ≡ utf8 → read_join line ≡ given → is_skipped line ≡ false →
    join_of_line line ≡ Some j → verdict (declare j) h ≡ Some cause → declare_line line h ≡ Err (cause_name cause)
refused_by line h j cause false given u r s some v = let none : join_of_line line ≡ None = rw u in absurd (none-some j (sym none ∙ some))
refused_by line h j cause true (Err at) u r s some v = let none : join_of_line line ≡ None = rw (u, r) in absurd (none-some j (sym none ∙ some))
refused_by line h j cause true (Ok k) u r s some v =
    let found : join_of_line line ≡ Some k = rw (u, r) in
    let same : k ≡ j = same_Some k j (sym found ∙ some) in
    rw (s, u, r, same, v)

pub declare_line-refused : (line : Text) (h : History) (j : Join) (cause : Cause) → is_skipped line ≡ false → join_of_line line ≡ Some j → verdict (declare j) h ≡ Some cause →
    declare_line line h ≡ Err (cause_name cause)
declare_line-refused line h j cause s some v = refused_by line h j cause (is_utf8 line) (read_join line) refl refl s some v

entered_by : (line : Text) (h : History) (j : Join) (utf8 : Bool) (given : Result Join ℕ) → is_utf8 line ≡ utf8 → read_join line ≡ given → is_skipped line ≡ false →
    join_of_line line ≡ Some j → verdict (declare j) h ≡ None → declare_line line h ≡ Ok (h ++ record { client = 0; write = declare j } ∷ [])
entered_by line h j false given u r s some v = let none : join_of_line line ≡ None = rw u in absurd (none-some j (sym none ∙ some))
entered_by line h j true (Err at) u r s some v = let none : join_of_line line ≡ None = rw (u, r) in absurd (none-some j (sym none ∙ some))
entered_by line h j true (Ok k) u r s some v =
    let found : join_of_line line ≡ Some k = rw (u, r) in
    let same : k ≡ j = same_Some k j (sym found ∙ some) in
    rw (s, u, r, same, v)

pub declare_line-enters : (line : Text) (h : History) (j : Join) → is_skipped line ≡ false → join_of_line line ≡ Some j → verdict (declare j) h ≡ None →
    declare_line line h ≡ Ok (h ++ record { client = 0; write = declare j } ∷ [])
declare_line-enters line h j s some v = entered_by line h j (is_utf8 line) (read_join line) refl refl s some v

-- ---- lines

-- the first line is declared, and the others after it
pub declare_lines-enters : (number : ℕ) (h more : History) (lines others : List Text) (line : Text) → lines ≡ line ∷ others → declare_line line h ≡ Ok more →
    declare_lines number h lines ≡ declare_lines (number + 1) more others
declare_lines-enters number h more lines others line e entered = rw (e, entered)

-- the first line is refused
pub declare_lines-refused : (number : ℕ) (h : History) (lines others : List Text) (line name : Text) → lines ≡ line ∷ others → declare_line line h ≡ Err name →
    declare_lines number h lines ≡ Err (number, name)
declare_lines-refused number h lines others line name e refused = rw (e, refused)

-- no line is left
pub declare_lines-end : (number : ℕ) (h : History) (lines : List Text) → lines ≡ [] → declare_lines number h lines ≡ Ok h
declare_lines-end number h lines e = rw e
