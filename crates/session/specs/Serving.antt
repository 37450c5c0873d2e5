-- A link that is served line by line: how far it has come, and how serving ends among the lines.
use Rattle.std.specs.Prelude.{◌≡◌, ℕ, ◌^◌, ◌<◌, ◌≤◌, ◌⊎◌, List, ◌++◌, length, Bool, false, Option, Result, Ok, Err, ⊤}
use Rattle.std.specs.List.{list_any}
use Rattle.semantics.specs.Texts.{Text}
use Rattle.semantics.specs.Histories.{History}
use Rattle.protocol.specs.Lines.{line_limit, Cut, lines_of}
use Rattle.protocol.specs.Replies.{Reply, done, answered, refused, gone, ahead, changed, fed, unread, long, memory, bye, reply_text}
use Rattle.protocol.specs.Transcript.{reply_texts}
use Rattle.protocol.specs.Session.{Serves, NoBye, is_bye, Link, Served, closed, quit_line, long_line, write_fault}
use Rattle.pq_io.specs.Streams.{Took, TookProperPrefix}
use Rattle.request_codec.specs.Feeding.{is_feed}
use Rattle.session.specs.declared.end.End.{End}
use Rattle.session.specs.declared.end.End.TheVariants.{Closed, Quit, Long, ReadFault, WriteFault, Spent, OutOfMemory}

-- lines before those of a cut
abbrev pub onto_all : List Text → Cut → Cut
onto_all lines cut = record { lines = lines ++ cut.lines; long = cut.long }

-- a text that may be a line: it has no byte 10, and is not too long
pub record IsShortLine (line : Text) : Type 0 where
  pub no_feed : list_any is_feed line ≡ false
  pub short : length line ≤ line_limit

-- the bytes so far are lines and then the line under way, whatever comes next; each line was served, none by `bye`, and the texts of the replies were written
pub record GoesOn (before now : History) (client : ℕ) (bytes written line : Text) : Type 0 where
  pub lines : List Text
  pub replies : List Reply
  pub cut : (more : Text) (ended : Bool) → lines_of (bytes ++ more) ended ≡ onto_all lines (lines_of (line ++ more) ended)
  pub serves : Serves before now client lines replies
  pub no_bye : NoBye replies
  pub texts : written ≡ reply_texts replies

-- serving ends among the lines, by no fault of reading: how the link is left
abbrev pub EndsAmongLines : End → Link → Type 0
EndsAmongLines Closed link = Served closed link
EndsAmongLines Quit link = Served quit_line link
EndsAmongLines Long link = Served long_line link
EndsAmongLines ReadFault link = ⊥
EndsAmongLines WriteFault link = Served write_fault link
EndsAmongLines Spent link = ⊥
EndsAmongLines (OutOfMemory _) link = ⊥

-- a reply is sent as itself, or as `memory` where it is not `done`
abbrev pub IsSentAs : Reply → Reply → Type 0
IsSentAs (done n) sent = sent ≡ done n
IsSentAs (answered a) sent = (sent ≡ answered a) ⊎ (sent ≡ memory)
IsSentAs (refused n cause) sent = (sent ≡ refused n cause) ⊎ (sent ≡ memory)
IsSentAs (gone n) sent = (sent ≡ gone n) ⊎ (sent ≡ memory)
IsSentAs (ahead n) sent = (sent ≡ ahead n) ⊎ (sent ≡ memory)
IsSentAs (changed from n listed) sent = (sent ≡ changed from n listed) ⊎ (sent ≡ memory)
IsSentAs (fed from n listed) sent = (sent ≡ fed from n listed) ⊎ (sent ≡ memory)
IsSentAs (unread fault) sent = (sent ≡ unread fault) ⊎ (sent ≡ memory)
IsSentAs long sent = (sent ≡ long) ⊎ (sent ≡ memory)
IsSentAs memory sent = sent ≡ memory
IsSentAs bye sent = (sent ≡ bye) ⊎ (sent ≡ memory)

-- the position of an entered write is below 2^48
abbrev pub HasSmallPosition : Reply → Type 0
HasSmallPosition (done n) = n < 2 ^ 48
HasSmallPosition (answered a) = ⊤
HasSmallPosition (refused n cause) = ⊤
HasSmallPosition (gone n) = ⊤
HasSmallPosition (ahead n) = ⊤
HasSmallPosition (changed from n listed) = ⊤
HasSmallPosition (fed from n listed) = ⊤
HasSmallPosition (unread fault) = ⊤
HasSmallPosition long = ⊤
HasSmallPosition memory = ⊤
HasSmallPosition bye = ⊤

-- the reply is neither `done` nor `bye`
abbrev pub IsPlain : Reply → Type 0
IsPlain (done n) = ⊥
IsPlain (answered a) = ⊤
IsPlain (refused n cause) = ⊤
IsPlain (gone n) = ⊤
IsPlain (ahead n) = ⊤
IsPlain (changed from n listed) = ⊤
IsPlain (fed from n listed) = ⊤
IsPlain (unread fault) = ⊤
IsPlain long = ⊤
IsPlain memory = ⊤
IsPlain bye = ⊥

-- what sending a reply leaves: its text was written, and it is `bye` exactly where serving ends; or a write failed, and a part of the text was written
abbrev pub Sends : {A : Type 0} → Result A End → Option Text → Option Text → Reply → Type 0
Sends (Ok x) old new reply = Took old new (reply_text reply) × (is_bye reply ≡ false)
Sends (Err Closed) old new reply = ⊥
Sends (Err Quit) old new reply = Took old new (reply_text reply) × (reply ≡ bye)
Sends (Err Long) old new reply = ⊥
Sends (Err ReadFault) old new reply = ⊥
Sends (Err WriteFault) old new reply = TookProperPrefix old new (reply_text reply)
Sends (Err Spent) old new reply = ⊥
Sends (Err (OutOfMemory _)) old new reply = ⊥
