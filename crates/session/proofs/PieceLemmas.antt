-- A piece that is taken line by line, and the end of a link.
use Rattle.std.proofs.Common.{◌≡◌, ℕ, ◌+◌, ◌-◌, ◌<◌, ◌≤◌, ◌==◌, eqb-true, length-drop, [], ◌∷◌, ◌++◌, length, take, drop, Bool, true, false, refl, sym, ap, ◌∙◌, subst, arith, append-nil, append_assoc}
use Rattle.std.specs.Prelude.{Option, Some, None, Err}
use Rattle.std.specs.Io.KnownBytes.{IsAtEnd}
use Rattle.std.proofs.Math.Seq.{take-add, take-length}
use Rattle.std.proofs.lemmas.List.{take-append-drop}
use Rattle.semantics.specs.Texts.{Text}
use Rattle.semantics.specs.Histories.{History}
use Rattle.protocol.specs.Replies.{Reply, reply_text}
use Rattle.protocol.specs.Session.{Serves, is_bye, NothingLeft}
use Rattle.pq_io.specs.Streams.{Took}
use Rattle.pq_io.proofs.StreamLemmas.{Took-nothing, Took-append, slice_from}
use Rattle.session.specs.declared.end.End.{End}
use Rattle.session.specs.declared.end.End.TheVariants.{Closed}
use Rattle.session.specs.Serving.{IsShortLine, GoesOn, EndsAmongLines, Sends}
use Rattle.session.proofs.LineLemmas.{link_of, goes_on_in_line, goes_on_then, ends_then, first_at_end, ends_closed, ends_closed_empty}
use Rattle.session.proofs.TakeLemmas.{EndsWith, ends_at_line}

-- bytes were written, and serving goes on with the line
abbrev pub GoesOnWith : History → History → ℕ → Text → Option Text → Option Text → Text → Type 0
GoesOnWith before now client bytes old new line = (written : Text) × Took old new written × GoesOn before now client bytes written line

-- before the first byte of a piece
pub with_first : (view : History) (client : ℕ) (piece : Text) (taken : Option Text) (line : Text) → GoesOnWith view view client (line ++ take 0 piece) taken taken line
with_first view client piece taken line = ([], Took-nothing taken, goes_on_in_line view client (line ++ take 0 piece) line (sym (append-nil line)))

-- more bytes, behind those so far
pub with_more : (before between after : History) (client client' : ℕ) (bytes more line line' : Text) (a b c : Option Text) → client' ≡ client →
    GoesOnWith before between client bytes a b line → GoesOnWith between after client' (line ++ more) b c line' → GoesOnWith before after client (bytes ++ more) a c line'
with_more before between after client client' bytes more line line' a b c same so_far next =
    let at_client = subst (λ n. GoesOn between after n (line ++ more) next.0 line') same next.2 in (
      so_far.0 ++ next.0,
      Took-append a b c so_far.0 next.0 so_far.1 next.1,
      goes_on_then before between after client bytes so_far.0 line more next.0 line' so_far.2 at_client,
    )

-- an end among more bytes, behind those so far
pub ends_with_more : (end : End) (before between after : History) (client client' : ℕ) (bytes more line : Text) (a b c left : Option Text) → client' ≡ client →
    GoesOnWith before between client bytes a b line → EndsWith end between after client' (line ++ more) b c left → EndsWith end before after client (bytes ++ more) a c left
ends_with_more end before between after client client' bytes more line a b c left same so_far next =
    let at_client = subst (λ n. EndsAmongLines end (link_of between after n (line ++ more) next.0 left)) same next.2 in (
      so_far.0 ++ next.0,
      Took-append a b c so_far.0 next.0 so_far.1 next.1,
      ends_then end before between after client bytes so_far.0 line more next.0 left so_far.2 at_client,
    )

-- bytes of a piece, in two parts
pub piece_parts : (line piece : Text) (m n : ℕ) → (line ++ take m piece) ++ take n (drop m piece) ≡ line ++ take (m + n) piece
piece_parts line piece m n = append_assoc line (take m piece) (take n (drop m piece)) ∙ ap (λ t. line ++ t) (sym (take-add m n piece))

-- a part of a piece and its rest
pub piece_rest : (line piece : Text) (m : ℕ) → (line ++ take m piece) ++ drop m piece ≡ line ++ piece
piece_rest line piece m = append_assoc line (take m piece) (drop m piece) ∙ ap (λ t. line ++ t) (take-append-drop m piece)

-- all bytes of a piece
pub piece_whole : (line piece : Text) (m : ℕ) → m ≤ length piece → length piece ≤ m → line ++ take m piece ≡ line ++ piece
piece_whole line piece m h k = let all : m ≡ length piece = omega arith in ap (λ n. line ++ take n piece) all ∙ ap (λ t. line ++ t) (take-length piece)

-- an end among no more bytes
pub ends_with_nothing : (end : End) (before between after : History) (client client' : ℕ) (bytes line : Text) (a b c left : Option Text) → client' ≡ client →
    GoesOnWith before between client bytes a b line → EndsWith end between after client' line b c left → EndsWith end before after client bytes a c left
ends_with_nothing end before between after client client' bytes line a b c left same so_far next =
    subst (λ t. EndsWith end before after client t a c left) (append-nil bytes)
    (ends_with_more end before between after client client' bytes [] line a b c left same so_far
    (subst (λ t. EndsWith end between after client' t b c left) (sym (append-nil line)) next))

-- ---- the end of a link

pub nothing_left : (left : Option Text) → IsAtEnd left → NothingLeft left
nothing_left None h = tt
nothing_left (Some bytes) h = h

-- no line is under way at the end
pub last_empty : (view : History) (client : ℕ) (line : Text) (taken left : Option Text) → IsAtEnd left → line ≡ [] → EndsWith Closed view view client line taken taken left
last_empty view client line taken left at_end empty =
    subst (λ t. EndsWith Closed view view client t taken taken left) (sym empty)
    ([], Took-nothing taken, ends_closed_empty view client left (nothing_left left at_end))

-- the line under way at the end was served
pub last_served : (before after : History) (client : ℕ) (line : Text) (old new left : Option Text) (sent : Reply) → IsShortLine line → 0 < length line → IsAtEnd left →
    Serves before after client (line ∷ []) (sent ∷ []) → Took old new (reply_text sent) → is_bye sent ≡ false → EndsWith Closed before after client line old new left
last_served before after client line old new left sent short some at_end served took on =
    (reply_text sent, took, ends_closed before after client line left sent short some (nothing_left left at_end) served on)

-- the line under way at the end was answered by `bye`, or its reply was not written whole
pub last_ends : (A : Type 0) (end : End) (before after : History) (client : ℕ) (line : Text) (old new left : Option Text) (sent : Reply) → IsShortLine line → 0 < length line → IsAtEnd left →
    Serves before after client (line ∷ []) (sent ∷ []) → Sends {A = A} (Err end) old new sent → EndsWith end before after client line old new left
last_ends A end before after client line old new left sent short some at_end served sends =
    ends_at_line A end before after client line line old new left true sent (first_at_end line short some) (λ _. nothing_left left at_end) served sends

-- a text is empty where that was tested
pub is_empty_text : (t : Text) (test : Bool) → test ≡ (length t == 0) → test ≡ true → t ≡ []
is_empty_text [] test e holds = refl
is_empty_text (b ∷ bs) test e holds = let none = eqb-true (length (b ∷ bs)) 0 (sym e ∙ holds) in absurd (omega arith)

-- a text is not empty where that was tested
pub is_some_text : (t : Text) (test : Bool) → test ≡ (length t == 0) → test ≡ false → 0 < length t
is_some_text [] test e fails = absurd (cc)
is_some_text (b ∷ bs) test e fails = omega arith

-- ---- a piece, line by line

-- one line more of a piece
pub with_more_of_piece : (before between after : History) (client client' : ℕ) (start piece line line' : Text) (m n : ℕ) (a b c : Option Text) → client' ≡ client →
    GoesOnWith before between client (start ++ take m piece) a b line → GoesOnWith between after client' (line ++ take n (take (length piece - m) (drop m piece))) b c line' →
    GoesOnWith before after client (start ++ take (m + n) piece) a c line'
with_more_of_piece before between after client client' start piece line line' m n a b c same so_far next =
    let rest = subst (λ t. GoesOnWith between after client' (line ++ take n t) b c line') (slice_from m piece) next in
    subst (λ t. GoesOnWith before after client t a c line') (piece_parts start piece m n)
    (with_more before between after client client' (start ++ take m piece) (take n (drop m piece)) line line' a b c same so_far rest)

-- an end among the rest of a piece
pub ends_with_rest : (end : End) (before between after : History) (client client' : ℕ) (start piece line : Text) (m : ℕ) (a b c left : Option Text) → client' ≡ client →
    GoesOnWith before between client (start ++ take m piece) a b line → EndsWith end between after client' (line ++ take (length piece - m) (drop m piece)) b c left →
    EndsWith end before after client (start ++ piece) a c left
ends_with_rest end before between after client client' start piece line m a b c left same so_far next =
    let rest = subst (λ t. EndsWith end between after client' (line ++ t) b c left) (slice_from m piece) next in
    subst (λ t. EndsWith end before after client t a c left) (piece_rest start piece m)
    (ends_with_more end before between after client client' (start ++ take m piece) (drop m piece) line a b c left same so_far rest)

-- the whole piece was taken
pub with_whole_piece : (before after : History) (client : ℕ) (start piece line : Text) (m : ℕ) (a b : Option Text) → m ≤ length piece → length piece ≤ m →
    GoesOnWith before after client (start ++ take m piece) a b line → GoesOnWith before after client (start ++ piece) a b line
with_whole_piece before after client start piece line m a b within past so_far =
    subst (λ t. GoesOnWith before after client t a b line) (piece_whole start piece m within past) so_far

-- the bytes that are taken stay within the piece
pub within_piece : (piece : Text) (m n : ℕ) → m ≤ length piece → n ≤ length (take (length piece - m) (drop m piece)) → m + n ≤ length piece
within_piece piece m n within more =
    let rest : n ≤ length (drop m piece) = subst (λ t. n ≤ length t) (slice_from m piece) more in
    omega (arith, rest, length-drop m piece)
