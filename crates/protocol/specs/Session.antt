-- What is served on one link: the lines that are taken, their replies, and the bytes that are written, at each end.
use Rattle.std.specs.Prelude.{◌≡◌, ℕ, ◌^◌, ◌<◌, ◌≤◌, ◌⊎◌, List, [], ◌∷◌, ◌++◌, length, map, take, Bool, true, false, Option, Some, None, Result, Ok, Err, ⊤}
use Rattle.std.specs.List.{AllZip, list_any}
use Rattle.semantics.specs.Histories.{History}
use Rattle.protocol.specs.Lines.{Bytes, lines_of}
use Rattle.protocol.specs.Requests.{Request, write, read, earlier, quit, LineFault, request_of}
use Rattle.protocol.specs.Replies.{Reply, done, answered, refused, gone, ahead, changed, fed, unread, long, memory, bye, reply_text}
use Rattle.protocol.specs.Told.{Told}
use Rattle.protocol.specs.Transcript.{reply_texts}

-- a line that is no request is answered by its fault, and `quit` by `bye`, unless no memory is found for it; what answers a write, a read or a question about an earlier position is said by `Told`
abbrev pub AnswersLine : Result Request LineFault → Reply → Type 0
AnswersLine (Err fault) reply = (reply ≡ unread fault) ⊎ (reply ≡ memory)
AnswersLine (Ok (write w)) reply = ⊤
AnswersLine (Ok (read r)) reply = ⊤
AnswersLine (Ok (earlier e)) reply = ⊤
AnswersLine (Ok quit) reply = (reply ≡ bye) ⊎ (reply ≡ memory)

-- a write, a read or a question about an earlier position with its reply
abbrev told_of : Result Request LineFault → Reply → List (Request × Reply)
told_of (Err fault) reply = []
told_of (Ok (write w)) reply = (write w, reply) ∷ []
told_of (Ok (read r)) reply = (read r, reply) ∷ []
told_of (Ok (earlier e)) reply = (earlier e, reply) ∷ []
told_of (Ok quit) reply = []

-- those among lines, with their replies
abbrev pub told_pairs : List Bytes → List Reply → List (Request × Reply)
told_pairs [] replies = []
told_pairs (line ∷ lines) [] = []
told_pairs (line ∷ lines) (reply ∷ replies) = told_of (request_of line) reply ++ told_pairs lines replies

-- each line has one reply, in order, and `Told` holds for the writes, the reads and the questions about earlier positions among them
pub record Serves (before after : History) (client : ℕ) (lines : List Bytes) (replies : List Reply) : Type 0 where
  pub each : AllZip (λ line reply. AnswersLine (request_of line) reply) lines replies
  pub told : Told before after client (map (λ p. p.0) (told_pairs lines replies)) (map (λ p. p.1) (told_pairs lines replies))

-- the lines are the first ones of the bytes
abbrev pub BeginLines : Bytes → Bool → List Bytes → Type 0
BeginLines bytes ended lines = (rest : List Bytes) × ((lines_of bytes ended).lines ≡ lines ++ rest)

abbrev pub is_bye : Reply → Bool
is_bye (done n) = false
is_bye (answered a) = false
is_bye (refused n cause) = false
is_bye (gone n) = false
is_bye (ahead n) = false
is_bye (changed from n changes) = false
is_bye (fed from n es) = false
is_bye (unread fault) = false
is_bye long = false
is_bye memory = false
is_bye bye = true

-- no reply is `bye`
abbrev pub NoBye : List Reply → Type 0
NoBye replies = list_any is_bye replies ≡ false

-- where it is told what is left, nothing is
abbrev pub NothingLeft : Option Bytes → Type 0
NothingLeft None = ⊤
NothingLeft (Some bytes) = bytes ≡ []

-- how serving a link ends
pub data Ending : Type 0 where
  closed : Ending
  quit_line : Ending
  long_line : Ending
  read_fault : Ending
  write_fault : Ending
  spent : Ending
  no_memory : Ending

-- what every end has in common: the views, the client, the bytes that the link gave and took, and what it has left
pub record Link : Type 0 where
  pub before : History
  pub after : History
  pub client : ℕ
  pub bytes : Bytes
  pub written : Bytes
  pub left : Option Bytes

-- every line was answered, none of them by `bye`, and the texts of the replies were written
pub record AllServed (link : Link) (ended : Bool) (replies : List Reply) : Type 0 where
  pub serves : Serves link.before link.after link.client (lines_of link.bytes ended).lines replies
  pub no_bye : NoBye replies

-- the first lines were answered, the last of them by this reply, and none before by `bye`
pub record ServedTo (link : Link) (replies : List Reply) (last : Reply) : Type 0 where
  pub ended : Bool
  pub at_end : ended ≡ true → NothingLeft link.left
  pub lines : List Bytes
  pub begin : BeginLines link.bytes ended lines
  pub serves : Serves link.before link.after link.client lines (replies ++ last ∷ [])
  pub no_bye : NoBye replies

-- of the last text a part that is not the whole was written, after the texts of the replies before
abbrev pub CutsText : Bytes → List Reply → Reply → Type 0
CutsText written replies last = (n : ℕ) × (n < length (reply_text last)) × (written ≡ reply_texts replies ++ take n (reply_text last))

-- how a link is left at each end
abbrev pub Served : Ending → Link → Type 0
Served closed link = (replies : List Reply) × AllServed link true replies × ((lines_of link.bytes true).long ≡ false) × (link.written ≡ reply_texts replies) × NothingLeft link.left
Served quit_line link = (replies : List Reply) × ServedTo link replies bye × (link.written ≡ reply_texts (replies ++ bye ∷ []))
Served long_line link = (replies : List Reply) × AllServed link false replies × ((lines_of link.bytes false).long ≡ true) × (link.written ≡ reply_texts (replies ++ long ∷ []))
Served read_fault link = (replies : List Reply) × AllServed link false replies × ((lines_of link.bytes false).long ≡ false) × (link.written ≡ reply_texts replies)
Served write_fault link =
    ((replies : List Reply) × (last : Reply) × ServedTo link replies last × CutsText link.written replies last)
    ⊎ ((replies : List Reply) × AllServed link false replies × ((lines_of link.bytes false).long ≡ true) × CutsText link.written replies long)
Served spent link = (replies : List Reply) × AllServed link false replies × ((lines_of link.bytes false).long ≡ false) × (link.written ≡ reply_texts replies) × (2 ^ 40 ≤ length link.bytes)
Served no_memory link = (link.bytes ≡ []) × (link.written ≡ []) × (link.after ≡ link.before)
