-- The canonical text of a join that was read is read as that join.
use Rattle.std.proofs.Common.{◌≡◌, ℕ, ◌+◌, ◌≤◌, Bool, true, false, nat_le, List, [], ◌∷◌, ◌++◌, length, map, filter, codes, Some, None, Ok, refl, sym, ap, ◌∙◌, subst, arith, length-append}
use Rattle.std.specs.List.{join_with_byte, AllByRecursion}
use Rattle.std.proofs.lemmas.Bool.{false_from_ne_true}
use Rattle.std.proofs.lemmas.List.{append-nil}
use Rattle.std.proofs.lemmas.List.Elements.{All-from_recursion, recursion_from_All}
use Rattle.std.proofs.lemmas.Option.{none-some}
use Rattle.semantics.specs.Texts.{Text, same}
use Rattle.semantics.specs.Patterns.{pieces}
use Rattle.semantics.specs.Joins.{Operator, Kind, push, pull, Source, Join}
use Rattle.semantics.proofs.PieceLemmas.{Lacks, equal_by_same, parts_of, join-pieces, pieces-join, pieces_lack}
use Rattle.protocol.specs.JoinText.{Token, placed, tokens, operator_of, read_pattern, read_sources, read_some_sources, read_kind, join_of_tokens, kind_words, source_words, pattern_print, canonical_text}
use Rattle.join_lang.specs.JoinTextLaws.{ReadsBack}
use Rattle.join_lang.proofs.SourceLemmas.{ok_is_no_err, accept_ok}
use Rattle.join_lang.proofs.ReadLemmas.{pattern_read}
use Rattle.join_lang.proofs.JoinLemmas.{short_text, read_is_short, text_of, onto_ok, sources_read, some_sources_read, JoinRead, join_read, join_back}

-- ---- room

-- the bytes of texts, with one behind each
abbrev room : List Text → ℕ
room [] = 0
room (t ∷ ts) = length t + 1 + room ts

room_joined : (c : ℕ) (t : Text) (ts : List Text) → length (join_with_byte c (t ∷ ts)) + 1 ≡ room (t ∷ ts)
room_joined c t [] = omega arith
room_joined c t (u ∷ us) =
    let more = room_joined c u us in
    omega (arith, length-append t (c ∷ join_with_byte c (u ∷ us)), more)

-- the pieces of a text take its room
room-pieces : (c : ℕ) (t : Text) → room (pieces c t) ≡ length t + 1
room-pieces c t =
    let parts = parts_of c t in
    ap room parts.2 ∙ sym (room_joined c parts.0 parts.1) ∙ ap (λ x. length x + 1) (ap (join_with_byte c) (sym parts.2) ∙ join-pieces c t)

-- whether a token has a byte
abbrev has_byte : Token → Bool
has_byte token = nat_le 1 (length token.text)

kept_room : (t : Token) (ts : List Token) (b : Bool) (n : ℕ) → has_byte t ≡ b → room (map text_of (filter has_byte ts)) ≤ n → room (map text_of (filter has_byte (t ∷ ts))) ≤ length t.text + 1 + n
kept_room t ts true n e h = rw e (omega (arith, h))
kept_room t ts false n e h = rw e (omega (arith, h))

-- tokens take no more room than the pieces
room_tokens : (at : ℕ) (ts : List Text) → room (map text_of (filter has_byte (placed at ts))) ≤ room ts
room_tokens at [] = omega arith
room_tokens at (t ∷ ts) = kept_room (record { at = at; text = t }) (placed (at + length t + 1) ts) (nat_le 1 (length t)) (room ts) refl (room_tokens (at + length t + 1) ts)

-- ---- tokens

-- what a token's text is
abbrev pub IsTokenText : Text → Type 0
IsTokenText t = (nat_le 1 (length t) ≡ true) × Lacks 32 t

kept_text : (t : Token) (ts : List Token) (b : Bool) → has_byte t ≡ b → Lacks 32 t.text → AllByRecursion IsTokenText (map text_of (filter has_byte ts)) → AllByRecursion IsTokenText (map text_of (filter has_byte (t ∷ ts)))
kept_text t ts true e h more = rw e ((e, h), more)
kept_text t ts false e h more = rw e more

token_texts : (at : ℕ) (ts : List Text) → AllByRecursion (Lacks 32) ts → AllByRecursion IsTokenText (map text_of (filter has_byte (placed at ts)))
token_texts at [] h = tt
token_texts at (t ∷ ts) h = kept_text (record { at = at; text = t }) (placed (at + length t + 1) ts) (nat_le 1 (length t)) refl h.0 (token_texts (at + length t + 1) ts h.1)

-- each token of a text has a byte and no space
tokens_of_text : (t : Text) → AllByRecursion IsTokenText (map text_of (tokens t))
tokens_of_text t = token_texts 0 (pieces 32 t) (recursion_from_All (Lacks 32) (pieces 32 t) (pieces_lack 32 t))

all_lack : (ts : List Text) → AllByRecursion IsTokenText ts → AllByRecursion (Lacks 32) ts
all_lack [] h = tt
all_lack (t ∷ ts) h = (h.0.1, all_lack ts h.1)

all_kept : (at : ℕ) (ts : List Text) → AllByRecursion IsTokenText ts → filter has_byte (placed at ts) ≡ placed at ts
all_kept at [] h = refl
all_kept at (t ∷ ts) h = rw h.0.0 (ap (λ us. record { at = at; text = t } ∷ us) (all_kept (at + length t + 1) ts h.1))

-- the tokens of texts behind spaces are those texts
pub tokens_joined : (t : Text) (ts : List Text) → AllByRecursion IsTokenText (t ∷ ts) → tokens (join_with_byte 32 (t ∷ ts)) ≡ placed 0 (t ∷ ts)
tokens_joined t ts h =
    ap (λ ps. filter has_byte (placed 0 ps)) (pieces-join 32 t ts (All-from_recursion (Lacks 32) (t ∷ ts) (all_lack (t ∷ ts) h))) ∙ all_kept 0 (t ∷ ts) h

-- the texts of texts that were placed
pub texts_placed : (at : ℕ) (ts : List Text) → map text_of (placed at ts) ≡ ts
texts_placed at [] = refl
texts_placed at (t ∷ ts) = ap (λ us. t ∷ us) (texts_placed (at + length t + 1) ts)

-- ---- sources at other offsets

-- tokens of the same texts, at whatever offsets
abbrev SameTexts : List Token → List Token → Type 0
SameTexts [] [] = Unit {0}
SameTexts [] (u ∷ us) = ⊥
SameTexts (t ∷ ts) [] = ⊥
SameTexts (t ∷ ts) (u ∷ us) = (t.text ≡ u.text) × SameTexts ts us

same_placed : (at : ℕ) (ts : List Token) → SameTexts ts (placed at (map text_of ts))
same_placed at [] = tt
same_placed at (t ∷ ts) = (refl, same_placed (at + length t.text + 1) ts)

-- sources are read the same from tokens of the same texts
sources_again : (end other : ℕ) (names more : List Text) (ts us : List Token) (ss : List Source) → SameTexts ts us → read_sources end names ts ≡ Ok (ss, more) → read_sources other names us ≡ Ok (ss, more)
sources_again end other names more [] [] ss e h = h
sources_again end other names more [] (u ∷ us) ss e h = absurd e
sources_again end other names more (o ∷ ts) [] ss e h = absurd e
sources_again end other names more (o ∷ []) (u ∷ us) ss e h =
    let w = accept_ok o (operator_of o.text) _ (ss, more) h in
    absurd (ok_is_no_err (ss, more) end (sym w.2))
sources_again end other names more (o ∷ p ∷ ts) (u ∷ []) ss e h = absurd e.1
sources_again end other names more (o ∷ p ∷ ts) (u ∷ v ∷ us) ss e h =
    let w = accept_ok o (operator_of o.text) _ (ss, more) h in
    let x = accept_ok p (read_pattern names p.text) _ (ss, more) w.2 in
    let y = onto_ok (record { operator = w.0; pattern = x.0.0 }) _ ss more x.2 in
    let operator = ap operator_of (sym e.0) ∙ w.1 in
    let pattern = ap (read_pattern names) (sym e.1.0) ∙ x.1 in
    let others = sources_again end other x.0.1 more ts us y.0 e.1.1 y.1 in
    rw (operator, pattern, others) (ap (λ s. Ok (s, more)) y.2)

-- ---- the kind

-- a text by which no operator goes
no_word : (t word : Text) (operator : Operator) → operator_of word ≡ None → operator_of t ≡ Some operator → same t word ≡ false
no_word t word operator none some = false_from_ne_true (same t word) (λ e. none-some operator (sym none ∙ ap operator_of (sym (equal_by_same t word e)) ∙ some))

-- what begins with an operator is pushed
kind_of_operator : (o : Token) (ts : List Token) (operator : Operator) → operator_of o.text ≡ Some operator → read_kind (o ∷ ts) ≡ (push, o ∷ ts)
kind_of_operator o ts operator h = rw (no_word o.text (codes "push") operator refl h, no_word o.text (codes "pull") operator refl h)

-- the first word of sources is an operator
first_operator : (end : ℕ) (names more : List Text) (o : Token) (ts : List Token) (ss : List Source) → read_sources end names (o ∷ ts) ≡ Ok (ss, more) → (operator : Operator) × (operator_of o.text ≡ Some operator)
first_operator end names more o [] ss h = let w = accept_ok o (operator_of o.text) _ (ss, more) h in (w.0, w.1)
first_operator end names more o (p ∷ ts) ss h = let w = accept_ok o (operator_of o.text) _ (ss, more) h in (w.0, w.1)

-- the kind's words and the tokens behind them
abbrev pub after_kind : Kind → List Token → List Text
after_kind kind ts = kind_words kind ++ map text_of ts

-- behind the kind's words stand the same sources
pub kind_again : (kind : Kind) (end other at : ℕ) (names more : List Text) (ts : List Token) (ss : List Source) → read_some_sources end names ts ≡ Ok (ss, more)
    → ((read_kind (placed at (after_kind kind ts))).0 ≡ kind) × (read_some_sources other names (read_kind (placed at (after_kind kind ts))).1 ≡ Ok (ss, more))
kind_again kind end other at names more [] ss h = absurd (ok_is_no_err (ss, more) end (sym h))
kind_again push end other at names more (t ∷ ts) ss h =
    let w = first_operator end names more t ts ss h in
    let o : Token = record { at = at; text = t.text } in
    let us = placed (at + length t.text + 1) (map text_of ts) in
    let k = kind_of_operator o us w.0 w.1 in
    let again = sources_again end other names more (t ∷ ts) (o ∷ us) ss (refl, same_placed (at + length t.text + 1) ts) h in
    (ap (λ x. x.0) k, ap (λ (x : Kind × List Token). read_some_sources other names x.1) k ∙ again)
kind_again pull end other at names more (t ∷ ts) ss h =
    (refl, sources_again end other names more (t ∷ ts) (placed (at + 4 + 1) (map text_of (t ∷ ts))) ss (same_placed (at + 4 + 1) (t ∷ ts)) h)

-- the kind's words and the sources take no more room than what was read, and are tokens
record KindRoom (rest : List Token) (kind : Kind) (ts : List Token) : Type 0 where
  fits : room (after_kind kind ts) ≤ room (map text_of rest)
  are : AllByRecursion IsTokenText (after_kind kind ts)

kind_room_by : (t : Token) (ts : List Token) (a b : Bool) → same t.text (codes "push") ≡ a → same t.text (codes "pull") ≡ b → AllByRecursion IsTokenText (map text_of (t ∷ ts))
    → KindRoom (t ∷ ts) (read_kind (t ∷ ts)).0 (read_kind (t ∷ ts)).1
kind_room_by t ts true b e f h = rw e (record { fits = omega arith; are = h.1 })
kind_room_by t ts false true e f h =
    let word = equal_by_same t.text (codes "pull") f in
    let long : length t.text ≡ 4 = ap length word in
    rw (e, f) (record { fits = omega arith; are = (subst IsTokenText word h.0, h.1) })
kind_room_by t ts false false e f h = rw (e, f) (record { fits = omega arith; are = h })

kind_room : (rest : List Token) → AllByRecursion IsTokenText (map text_of rest) → KindRoom rest (read_kind rest).0 (read_kind rest).1
kind_room [] h = record { fits = omega arith; are = tt }
kind_room (t ∷ ts) h = kind_room_by t ts (same t.text (codes "push")) (same t.text (codes "pull")) refl refl h

-- ---- the law

-- the words of a canonical text are the tokens that were read, but for `push`
canonical_words : (end : ℕ) (ts : List Token) (j : Join) (r : JoinRead end ts j) → canonical_text j ≡ join_with_byte 32 (r.first.text ∷ r.second.text ∷ after_kind j.kind (read_kind r.rest).1)
unfolding canonical_text
canonical_words end ts j r =
    let some = some_sources_read end r.names j.names (read_kind r.rest).1 j.sources r.sources in
    let sources = sources_read end r.names j.names (read_kind r.rest).1 j.sources some.0 in
    let output = pattern_read [] r.names r.first.text j.output r.output in
    let first : pattern_print j.names j.output ≡ r.first.text = ap (λ all. pattern_print all j.output) sources.read.grows ∙ output.read.prints sources.read.new in
    let others : source_words j.names j.sources ≡ map text_of (read_kind r.rest).1 = ap (λ all. source_words all j.sources) (sym (append-nil j.names)) ∙ sources.read.prints [] in
    ap (λ x. join_with_byte 32 (x ∷ codes "=" ∷ (kind_words j.kind ++ source_words j.names j.sources))) first
    ∙ ap (λ x. join_with_byte 32 (r.first.text ∷ x ∷ (kind_words j.kind ++ source_words j.names j.sources))) (sym r.equals)
    ∙ ap (λ x. join_with_byte 32 (r.first.text ∷ r.second.text ∷ (kind_words j.kind ++ x))) others

-- the canonical text of a join that was read is read as that join
pub reads_back : ReadsBack
reads_back t j h =
    let short = read_is_short t j h in
    let r = join_read (length t) (tokens t) j short.1 in
    let texts = ap (map text_of) r.tokens_are in
    let are = subst (AllByRecursion IsTokenText) texts (tokens_of_text t) in
    let kept = kind_room r.rest are.1.1 in
    let ks = (read_kind r.rest).1 in
    let kind : KindRoom r.rest j.kind ks = subst (λ k. KindRoom r.rest k ks) r.kind kept in
    let first = r.first.text in
    let second = r.second.text in
    let words = after_kind j.kind ks in
    let canonical = canonical_words (length t) (tokens t) j r in
    let all : AllByRecursion IsTokenText (first ∷ second ∷ words) = (are.0, (are.1.0, kind.are)) in
    let space : room (map text_of (tokens t)) ≤ length t + 1 = omega (arith, room_tokens 0 (pieces 32 t), room-pieces 32 t) in
    let had : room (map text_of (tokens t)) ≡ length first + 1 + (length second + 1 + room (map text_of r.rest)) = ap room texts in
    let joined : length (canonical_text j) + 1 ≡ room (first ∷ second ∷ words) = ap (λ x. length x + 1) canonical ∙ room_joined 32 first (second ∷ words) in
    let fits : length (canonical_text j) ≤ 4096 = omega (arith, kind.fits, short.0) in
    let end = length (canonical_text j) in
    let at = 0 + length first + 1 in
    let again = kind_again j.kind (length t) end (at + length second + 1) r.names j.names ks j.sources r.sources in
    let back = join_back end (record { at = 0; text = first }) (record { at = at; text = second }) (placed (at + length second + 1) words) r.names j r.output r.equals again.0 again.1 in
    short_text (canonical_text j) fits ∙ ap (join_of_tokens end) (ap tokens canonical ∙ tokens_joined first (second ∷ words) all) ∙ back
