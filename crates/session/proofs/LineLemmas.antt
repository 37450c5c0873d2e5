-- How a link that is served line by line goes on, and how serving it ends.
use Rattle.std.proofs.Common.{◌≡◌, ℕ, ◌^◌, ◌<◌, ◌≤◌, List, [], ◌∷◌, ◌++◌, length, take, Bool, true, false, refl, sym, ap, ap₂, ◌∙◌, subst, arith, append-nil, append_assoc, inl, inr}
use Rattle.std.specs.Prelude.{Option}
use Rattle.std.proofs.lemmas.Bool.{le-leb}
use Rattle.std.proofs.lemmas.Grind.{flat_map-append}
use Rattle.semantics.specs.Texts.{Text}
use Rattle.semantics.specs.Histories.{History}
use Rattle.protocol.specs.Lines.{last_line, long_mark, lines_of}
use Rattle.protocol.specs.Replies.{Reply, long, bye, reply_text}
use Rattle.protocol.specs.Transcript.{reply_texts}
use Rattle.protocol.specs.Session.{Serves, is_bye, BeginLines, NothingLeft, Link, AllServed, ServedTo, CutsText, Served, read_fault, spent}
use Rattle.protocol.proofs.Cuts.{lines_of-line, lines_of-rest}
use Rattle.session.specs.declared.end.End.{End}
use Rattle.session.specs.declared.end.End.TheVariants.{Closed, Quit, Long, ReadFault, WriteFault, Spent, OutOfMemory}
use Rattle.session.specs.Ends.{plain_end}
use Rattle.session.specs.Serving.{onto_all, IsShortLine, GoesOn, EndsAmongLines}
use Rattle.session.proofs.ToldLemmas.{serves_nothing, serves-append, no_bye-append}

-- what a link gave and took, and what it has left
abbrev pub link_of : History → History → ℕ → Text → Text → Option Text → Link
link_of before after client bytes written left = record { before = before; after = after; client = client; bytes = bytes; written = written; left = left }

-- the text of one reply
pub reply_texts-one : (reply : Reply) → reply_texts (reply ∷ []) ≡ reply_text reply
reply_texts-one reply = append-nil (reply_text reply)

-- ---- how it goes on

-- at first no byte was given
pub goes_on_at_first : (view : History) (client : ℕ) → GoesOn view view client [] [] []
goes_on_at_first view client = record {
  lines = [];
  replies = [];
  cut = λ more ended. refl;
  serves = serves_nothing view client;
  no_bye = refl;
  texts = refl;
}

-- bytes that go to the line under way
pub goes_on_in_line : (view : History) (client : ℕ) (bytes line : Text) → line ≡ bytes → GoesOn view view client bytes [] line
goes_on_in_line view client bytes line same = record {
  lines = [];
  replies = [];
  cut = λ more ended. ap (λ t. lines_of (t ++ more) ended) (sym same);
  serves = serves_nothing view client;
  no_bye = refl;
  texts = refl;
}

-- a line that ended and was served
goes_on_after : (before after : History) (client : ℕ) (bytes line : Text) (reply : Reply) → IsShortLine line → bytes ≡ line ++ 10 ∷ [] →
    Serves before after client (line ∷ []) (reply ∷ []) → is_bye reply ≡ false → GoesOn before after client bytes (reply_text reply) []
goes_on_after before after client bytes line reply is_line same served on = record {
  lines = line ∷ [];
  replies = reply ∷ [];
  cut = λ more ended.
      ap (λ t. lines_of (t ++ more) ended) same ∙ ap (λ t. lines_of t ended) (append_assoc line (10 ∷ []) more)
      ∙ lines_of-line line more ended is_line.no_feed is_line.short;
  serves = served;
  no_bye = rw on refl;
  texts = sym (reply_texts-one reply);
}

-- the same, where the next line is empty
pub goes_on_after_line : (before after : History) (client : ℕ) (bytes line next : Text) (reply : Reply) → IsShortLine line → bytes ≡ line ++ 10 ∷ [] →
    Serves before after client (line ∷ []) (reply ∷ []) → is_bye reply ≡ false → next ≡ [] → GoesOn before after client bytes (reply_text reply) next
goes_on_after_line before after client bytes line next reply is_line same served on empty =
    subst (GoesOn before after client bytes (reply_text reply)) (sym empty) (goes_on_after before after client bytes line reply is_line same served on)

-- the lines of more bytes, behind those so far
cut_on : (bytes line more line' : Text) (lines lines' : List Text) →
    ((rest : Text) (ended : Bool) → lines_of (bytes ++ rest) ended ≡ onto_all lines (lines_of (line ++ rest) ended)) →
    ((rest : Text) (ended : Bool) → lines_of ((line ++ more) ++ rest) ended ≡ onto_all lines' (lines_of (line' ++ rest) ended)) →
    (rest : Text) (ended : Bool) → lines_of ((bytes ++ more) ++ rest) ended ≡ onto_all (lines ++ lines') (lines_of (line' ++ rest) ended)
cut_on bytes line more line' lines lines' first second rest ended =
    let cut = lines_of (line' ++ rest) ended in
    ap (λ t. lines_of t ended) (append_assoc bytes more rest) ∙ first (more ++ rest) ended
    ∙ ap (λ t. onto_all lines (lines_of t ended)) (sym (append_assoc line more rest)) ∙ ap (onto_all lines) (second rest ended)
    ∙ ap (λ all. record { lines = all; long = cut.long }) (sym (append_assoc lines lines' cut.lines))

-- more bytes, behind those so far
pub goes_on_then : (before between after : History) (client : ℕ) (bytes written line more written' line' : Text) →
    GoesOn before between client bytes written line → GoesOn between after client (line ++ more) written' line' →
    GoesOn before after client (bytes ++ more) (written ++ written') line'
goes_on_then before between after client bytes written line more written' line' so_far next = record {
  lines = so_far.lines ++ next.lines;
  replies = so_far.replies ++ next.replies;
  cut = cut_on bytes line more line' so_far.lines next.lines so_far.cut next.cut;
  serves = serves-append before between after client so_far.lines next.lines so_far.replies next.replies so_far.serves next.serves;
  no_bye = no_bye-append so_far.replies next.replies so_far.no_bye next.no_bye;
  texts = ap₂ (λ s t. s ++ t) so_far.texts next.texts ∙ sym (flat_map-append reply_text so_far.replies next.replies);
}

-- ---- the parts of an end, behind what was served so far

all_served_then : (before between after : History) (client : ℕ) (bytes written line more w w' : Text) (left : Option Text) (ended : Bool) (replies : List Reply) →
    (so_far : GoesOn before between client bytes written line) → AllServed (link_of between after client (line ++ more) w left) ended replies →
    AllServed (link_of before after client (bytes ++ more) w' left) ended (so_far.replies ++ replies)
all_served_then before between after client bytes written line more w w' left ended replies so_far all = record {
  serves =
      subst (λ lines. Serves before after client lines (so_far.replies ++ replies)) (sym (ap (λ cut. cut.lines) (so_far.cut more ended)))
      (serves-append before between after client so_far.lines _ so_far.replies replies so_far.serves all.serves);
  no_bye = no_bye-append so_far.replies replies so_far.no_bye all.no_bye;
}

begin_then : (bytes line more : Text) (ended : Bool) (lines lines' : List Text) →
    lines_of (bytes ++ more) ended ≡ onto_all lines (lines_of (line ++ more) ended) → BeginLines (line ++ more) ended lines' → BeginLines (bytes ++ more) ended (lines ++ lines')
begin_then bytes line more ended lines lines' cut begin =
    (begin.0, ap (λ c. c.lines) cut ∙ ap (λ l. lines ++ l) begin.1 ∙ sym (append_assoc lines lines' begin.0))

served_to_then : (before between after : History) (client : ℕ) (bytes written line more w w' : Text) (left : Option Text) (replies : List Reply) (last : Reply) →
    (so_far : GoesOn before between client bytes written line) → ServedTo (link_of between after client (line ++ more) w left) replies last →
    ServedTo (link_of before after client (bytes ++ more) w' left) (so_far.replies ++ replies) last
served_to_then before between after client bytes written line more w w' left replies last so_far to = record {
  ended = to.ended;
  at_end = to.at_end;
  lines = so_far.lines ++ to.lines;
  begin = begin_then bytes line more to.ended so_far.lines to.lines (so_far.cut more to.ended) to.begin;
  serves =
      subst (Serves before after client (so_far.lines ++ to.lines)) (sym (append_assoc so_far.replies replies (last ∷ [])))
      (serves-append before between after client so_far.lines to.lines so_far.replies (replies ++ last ∷ []) so_far.serves to.serves);
  no_bye = no_bye-append so_far.replies replies so_far.no_bye to.no_bye;
}

texts_then : (written written' : Text) (replies others : List Reply) → written ≡ reply_texts replies → written' ≡ reply_texts others → written ++ written' ≡ reply_texts (replies ++ others)
texts_then written written' replies others first second = ap₂ (λ s t. s ++ t) first second ∙ sym (flat_map-append reply_text replies others)

last_texts_then : (written written' : Text) (replies others : List Reply) (last : Reply) → written ≡ reply_texts replies → written' ≡ reply_texts (others ++ last ∷ []) →
    written ++ written' ≡ reply_texts ((replies ++ others) ++ last ∷ [])
last_texts_then written written' replies others last first second =
    texts_then written written' replies (others ++ last ∷ []) first second ∙ ap reply_texts (sym (append_assoc replies others (last ∷ [])))

cuts_text_then : (written written' : Text) (replies others : List Reply) (last : Reply) → written ≡ reply_texts replies → CutsText written' others last →
    CutsText (written ++ written') (replies ++ others) last
cuts_text_then written written' replies others last first cuts = (
  cuts.0,
  cuts.1,
  ap₂ (λ s t. s ++ t) first cuts.2 ∙ sym (append_assoc (reply_texts replies) (reply_texts others) (take cuts.0 (reply_text last)))
      ∙ ap (λ t. t ++ take cuts.0 (reply_text last)) (sym (flat_map-append reply_text replies others)),
)

long_then : (bytes line more : Text) (ended marked : Bool) (lines : List Text) → lines_of (bytes ++ more) ended ≡ onto_all lines (lines_of (line ++ more) ended) →
    (lines_of (line ++ more) ended).long ≡ marked → (lines_of (bytes ++ more) ended).long ≡ marked
long_then bytes line more ended marked lines cut is = ap (λ c. c.long) cut ∙ is

-- serving that ends among the lines ends so behind what was served so far
pub ends_then : (end : End) (before between after : History) (client : ℕ) (bytes written line more written' : Text) (left : Option Text) →
    GoesOn before between client bytes written line → EndsAmongLines end (link_of between after client (line ++ more) written' left) →
    EndsAmongLines end (link_of before after client (bytes ++ more) (written ++ written') left)
ends_then Closed before between after client bytes written line more written' left so_far (replies, all, short, texts, nothing) = (
  so_far.replies ++ replies,
  all_served_then before between after client bytes written line more written' (written ++ written') left true replies so_far all,
  long_then bytes line more true false so_far.lines (so_far.cut more true) short,
  texts_then written written' so_far.replies replies so_far.texts texts,
  nothing,
)
ends_then Quit before between after client bytes written line more written' left so_far (replies, to, texts) = (
  so_far.replies ++ replies,
  served_to_then before between after client bytes written line more written' (written ++ written') left replies bye so_far to,
  last_texts_then written written' so_far.replies replies bye so_far.texts texts,
)
ends_then Long before between after client bytes written line more written' left so_far (replies, all, is_long, texts) = (
  so_far.replies ++ replies,
  all_served_then before between after client bytes written line more written' (written ++ written') left false replies so_far all,
  long_then bytes line more false true so_far.lines (so_far.cut more false) is_long,
  last_texts_then written written' so_far.replies replies long so_far.texts texts,
)
ends_then ReadFault before between after client bytes written line more written' left so_far ends = ends
ends_then WriteFault before between after client bytes written line more written' left so_far (inl (replies, last, to, cuts)) =
    inl (
      so_far.replies ++ replies,
      last,
      served_to_then before between after client bytes written line more written' (written ++ written') left replies last so_far to,
      cuts_text_then written written' so_far.replies replies last so_far.texts cuts,
    )
ends_then WriteFault before between after client bytes written line more written' left so_far (inr (replies, all, is_long, cuts)) =
    inr (
      so_far.replies ++ replies,
      all_served_then before between after client bytes written line more written' (written ++ written') left false replies so_far all,
      long_then bytes line more false true so_far.lines (so_far.cut more false) is_long,
      cuts_text_then written written' so_far.replies replies long so_far.texts cuts,
    )
ends_then Spent before between after client bytes written line more written' left so_far ends = ends
ends_then (OutOfMemory _) before between after client bytes written line more written' left so_far ends = ends

-- ---- how serving ends at one line

-- the line is the first of the bytes
abbrev pub IsFirst : Text → Bool → Text → Type 0
IsFirst bytes ended line = BeginLines bytes ended (line ∷ [])

-- a line that a byte 10 ends is the first
pub first_by_feed : (bytes line rest : Text) → IsShortLine line → bytes ≡ line ++ 10 ∷ rest → IsFirst bytes false line
first_by_feed bytes line rest is_line same = (
  (lines_of rest false).lines,
  ap (λ t. (lines_of t false).lines) same ∙ ap (λ c. c.lines) (lines_of-line line rest false is_line.no_feed is_line.short),
)

-- a last line that no byte 10 ends, where it is not empty
pub last_line-some : (line : Text) → 0 < length line → last_line true line ≡ record { lines = line ∷ []; long = false }
last_line-some line some = rw (le-leb 1 (length line) some) refl

-- a last line that no byte 10 ends is cut at the end
pub lines_of-last : (line : Text) → IsShortLine line → 0 < length line → lines_of line true ≡ record { lines = line ∷ []; long = false }
lines_of-last line is_line some = lines_of-rest line true is_line.no_feed is_line.short ∙ last_line-some line some

pub first_at_end : (line : Text) → IsShortLine line → 0 < length line → IsFirst line true line
first_at_end line is_line some = ([], ap (λ c. c.lines) (lines_of-last line is_line some))

served_to_first : (before after : History) (client : ℕ) (bytes written line : Text) (left : Option Text) (ended : Bool) (reply : Reply) →
    IsFirst bytes ended line → (ended ≡ true → NothingLeft left) → Serves before after client (line ∷ []) (reply ∷ []) →
    ServedTo (link_of before after client bytes written left) [] reply
served_to_first before after client bytes written line left ended reply first at_end served =
    record { ended = ended; at_end = at_end; lines = line ∷ []; begin = first; serves = served; no_bye = refl }

-- a line that was answered by `bye`
pub ends_by_bye : (before after : History) (client : ℕ) (bytes line : Text) (left : Option Text) (ended : Bool) (reply : Reply) →
    IsFirst bytes ended line → (ended ≡ true → NothingLeft left) → Serves before after client (line ∷ []) (reply ∷ []) → reply ≡ bye →
    EndsAmongLines Quit (link_of before after client bytes (reply_text reply) left)
ends_by_bye before after client bytes line left ended reply first at_end served e =
    let at_bye = subst (λ r. Serves before after client (line ∷ []) (r ∷ [])) e served in
    ([], served_to_first before after client bytes (reply_text reply) line left ended bye first at_end at_bye, ap reply_text e ∙ sym (reply_texts-one bye))

-- a line whose reply was written in part
pub ends_by_write_fault : (before after : History) (client : ℕ) (bytes line : Text) (left : Option Text) (ended : Bool) (reply : Reply) (n : ℕ) →
    IsFirst bytes ended line → (ended ≡ true → NothingLeft left) → Serves before after client (line ∷ []) (reply ∷ []) → n < length (reply_text reply) →
    EndsAmongLines WriteFault (link_of before after client bytes (take n (reply_text reply)) left)
ends_by_write_fault before after client bytes line left ended reply n first at_end served part =
    inl ([], reply, served_to_first before after client bytes (take n (reply_text reply)) line left ended reply first at_end served, (n, part, refl))

-- nothing was served before the line that is too long
served_none : (view : History) (client : ℕ) (bytes written : Text) (left : Option Text) → lines_of bytes false ≡ long_mark →
    AllServed (link_of view view client bytes written left) false []
served_none view client bytes written left is_long = record {
  serves = subst (λ lines. Serves view view client lines []) (sym (ap (λ c. c.lines) is_long)) (serves_nothing view client);
  no_bye = refl;
}

-- a line that is too long, which was written
pub ends_by_long : (view : History) (client : ℕ) (bytes : Text) (left : Option Text) → lines_of bytes false ≡ long_mark →
    EndsAmongLines Long (link_of view view client bytes (reply_text long) left)
ends_by_long view client bytes left is_long =
    ([], served_none view client bytes (reply_text long) left is_long, ap (λ c. c.long) is_long, sym (reply_texts-one long))

-- a line that is too long, which was written in part
pub ends_by_long_fault : (view : History) (client : ℕ) (bytes : Text) (left : Option Text) (n : ℕ) → lines_of bytes false ≡ long_mark → n < length (reply_text long) →
    EndsAmongLines WriteFault (link_of view view client bytes (take n (reply_text long)) left)
ends_by_long_fault view client bytes left n is_long part =
    inr ([], served_none view client bytes (take n (reply_text long)) left is_long, ap (λ c. c.long) is_long, (n, part, refl))

-- the link is at its end, and no line is under way
pub ends_closed_empty : (view : History) (client : ℕ) (left : Option Text) → NothingLeft left → EndsAmongLines Closed (link_of view view client [] [] left)
ends_closed_empty view client left nothing =
    let none : lines_of [] true ≡ record { lines = []; long = false } = lines_of-rest [] true refl (omega arith) in (
      [],
      record {
        serves = subst (λ lines. Serves view view client lines []) (sym (ap (λ c. c.lines) none)) (serves_nothing view client);
        no_bye = refl;
      },
      ap (λ c. c.long) none,
      refl,
      nothing,
    )

-- the link is at its end, and the line under way was served
pub ends_closed : (before after : History) (client : ℕ) (line : Text) (left : Option Text) (reply : Reply) → IsShortLine line → 0 < length line → NothingLeft left →
    Serves before after client (line ∷ []) (reply ∷ []) → is_bye reply ≡ false → EndsAmongLines Closed (link_of before after client line (reply_text reply) left)
ends_closed before after client line left reply is_line some nothing served on =
    let one = lines_of-last line is_line some in (
      reply ∷ [],
      record {
        serves = subst (λ lines. Serves before after client lines (reply ∷ [])) (sym (ap (λ c. c.lines) one)) served;
        no_bye = rw on refl;
      },
      ap (λ c. c.long) one,
      sym (reply_texts-one reply),
      nothing,
    )

-- ---- the other ends

-- what goes on has served every line of the bytes so far
pub all_served_so_far : (before now : History) (client : ℕ) (bytes written line : Text) (left : Option Text) → IsShortLine line → (so_far : GoesOn before now client bytes written line) →
    AllServed (link_of before now client bytes written left) false so_far.replies × ((lines_of bytes false).long ≡ false)
all_served_so_far before now client bytes written line left is_line so_far =
    let cut : lines_of bytes false ≡ record { lines = so_far.lines; long = false } =
    ap (λ t. lines_of t false) (sym (append-nil bytes)) ∙ so_far.cut [] false ∙ ap (λ t. onto_all so_far.lines (lines_of t false)) (append-nil line)
    ∙ ap (onto_all so_far.lines) (lines_of-rest line false is_line.no_feed is_line.short) ∙ ap (λ all. record { lines = all; long = false }) (append-nil so_far.lines) in (
      record {
        serves = subst (λ lines. Serves before now client lines so_far.replies) (sym (ap (λ c. c.lines) cut)) so_far.serves;
        no_bye = so_far.no_bye;
      },
      ap (λ c. c.long) cut,
    )

-- a read failed
pub ends_by_read_fault : (before now : History) (client : ℕ) (bytes written line : Text) (left : Option Text) → IsShortLine line → GoesOn before now client bytes written line →
    Served read_fault (link_of before now client bytes written left)
ends_by_read_fault before now client bytes written line left is_line so_far =
    let all = all_served_so_far before now client bytes written line left is_line so_far in
    (so_far.replies, all.0, all.1, so_far.texts)

-- bytes were given 2^40 times
pub ends_spent : (before now : History) (client : ℕ) (bytes written line : Text) (left : Option Text) → IsShortLine line → GoesOn before now client bytes written line →
    2 ^ 40 ≤ length bytes → Served spent (link_of before now client bytes written left)
ends_spent before now client bytes written line left is_line so_far many =
    let all = all_served_so_far before now client bytes written line left is_line so_far in
    (so_far.replies, all.0, all.1, so_far.texts, many)

-- an end among the lines is the end that the definitions name
pub ends_served : (end : End) (link : Link) → EndsAmongLines end link → Served (plain_end end) link
ends_served Closed link ends = ends
ends_served Quit link ends = ends
ends_served Long link ends = ends
ends_served ReadFault link ends = absurd ends
ends_served WriteFault link ends = ends
ends_served Spent link ends = absurd ends
ends_served (OutOfMemory _) link ends = absurd ends
