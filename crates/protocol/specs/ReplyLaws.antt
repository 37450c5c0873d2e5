-- Laws on the texts of replies.
use Rattle.std.specs.Prelude.{◌≡◌, ℕ, ◌<◌, ◌^◌, ◌==◌, [], ◌∷◌, ◌++◌, false, Ok, ⊤}
use Rattle.std.specs.List.{list_any, AllByRecursion}
use Rattle.semantics.specs.Texts.{Text}
use Rattle.semantics.specs.Joins.{Join}
use Rattle.semantics.specs.Histories.{Write, put, remove, declare, drop_join, Entry}
use Rattle.semantics.specs.Verdicts.{Cause, computed, full, nojoin, slots, sources, clash, cycle, deep, many}
use Rattle.semantics.specs.Answers.{Answer, found, absent, pairs}
use Rattle.protocol.specs.JoinText.{read_join, canonical_text}
use Rattle.protocol.specs.Requests.{LineFault, json, form, key, value, range, syntax}
use Rattle.protocol.specs.Replies.{Reply, done, answered, refused, gone, ahead, changed, fed, unread, long, memory, bye, reply_text}

abbrev pub IsSmall : ℕ → Type 0
IsSmall n = n < 2 ^ 64

abbrev pub HasSmallCause : Cause → Type 0
HasSmallCause (computed position) = IsSmall position
HasSmallCause full = ⊤
HasSmallCause nojoin = ⊤
HasSmallCause slots = ⊤
HasSmallCause sources = ⊤
HasSmallCause (clash position) = IsSmall position
HasSmallCause (cycle positions) = AllByRecursion IsSmall positions
HasSmallCause deep = ⊤
HasSmallCause many = ⊤

abbrev pub HasSmallFault : LineFault → Type 0
HasSmallFault json = ⊤
HasSmallFault form = ⊤
HasSmallFault key = ⊤
HasSmallFault value = ⊤
HasSmallFault range = ⊤
HasSmallFault (syntax at) = IsSmall at

abbrev pub HasSmallAnswer : Answer → Type 0
HasSmallAnswer (found n v) = IsSmall n
HasSmallAnswer (absent n) = IsSmall n
HasSmallAnswer (pairs n table) = IsSmall n

-- a join is read back from its canonical text, as each one is that was read from any
abbrev pub IsReadBack : Join → Type 0
IsReadBack j = read_join (canonical_text j) ≡ Ok j

abbrev pub HasSmallWrite : Write → Type 0
HasSmallWrite (put k v) = ⊤
HasSmallWrite (remove k) = ⊤
HasSmallWrite (declare j) = IsReadBack j
HasSmallWrite (drop_join n) = IsSmall n

abbrev pub HasSmallEntry : Entry → Type 0
HasSmallEntry e = IsSmall e.client × HasSmallWrite e.write

-- the numbers of a reply are below 2^64, and each join of its entries is read back from its text
abbrev pub HasSmallNumbers : Reply → Type 0
HasSmallNumbers (done n) = IsSmall n
HasSmallNumbers (answered a) = HasSmallAnswer a
HasSmallNumbers (refused n cause) = IsSmall n × HasSmallCause cause
HasSmallNumbers (gone n) = IsSmall n
HasSmallNumbers (ahead n) = IsSmall n
HasSmallNumbers (changed from n changes) = IsSmall from × IsSmall n
HasSmallNumbers (fed from n es) = IsSmall from × IsSmall n × AllByRecursion HasSmallEntry es
HasSmallNumbers (unread fault) = HasSmallFault fault
HasSmallNumbers long = ⊤
HasSmallNumbers memory = ⊤
HasSmallNumbers bye = ⊤

-- different replies have different texts
abbrev pub TextsDiffer : Type 0
TextsDiffer = (reply other : Reply) → HasSmallNumbers reply → HasSmallNumbers other → reply_text reply ≡ reply_text other → reply ≡ other

-- byte 10 stands at the end of a reply's text alone
abbrev pub TextIsLine : Type 0
TextIsLine = (reply : Reply) → (front : Text) × (reply_text reply ≡ front ++ 10 ∷ []) × (list_any (λ b. b == 10) front ≡ false)
