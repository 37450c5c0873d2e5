-- What the reads of a link gave so far, and how serving it ends.
use Rattle.std.proofs.Common.{◌≡◌, ℕ, ◌+◌, ◌^◌, ◌<◌, ◌≤◌, [], ◌++◌, length, take, refl, sym, subst, arith, append-nil, length-append}
use Rattle.std.specs.Prelude.{Option}
use Rattle.semantics.specs.Texts.{Text}
use Rattle.semantics.specs.Histories.{History}
use Rattle.protocol.specs.Session.{Served}
use Rattle.pq_io.specs.Streams.{Gave, Took}
use Rattle.pq_io.proofs.StreamLemmas.{Gave-nothing, Gave-append, Took-nothing}
use Rattle.session.specs.declared.end.End.{End}
use Rattle.session.specs.declared.end.End.TheVariants.{ReadFault, Spent, OutOfMemory}
use Rattle.session.specs.Ends.{plain_end}
use Rattle.session.specs.Serving.{IsShortLine}
use Rattle.session.proofs.LineLemmas.{link_of, goes_on_at_first, ends_by_read_fault, ends_spent, ends_served}
use Rattle.session.proofs.TakeLemmas.{EndsWith}
use Rattle.session.proofs.PieceLemmas.{GoesOnWith, with_more, ends_with_more, ends_with_nothing}

-- a link was served to this end
abbrev pub LinkServed : End → History → History → ℕ → Option Text → Option Text → Option Text → Option Text → Type 0
LinkServed end before after client left left' taken taken' =
    (bytes : Text) × (written : Text) × Gave left left' bytes × Took taken taken' written × Served (plain_end end) (link_of before after client bytes written left')

-- so many reads gave bytes, and serving goes on with the line
abbrev pub GivenWith : ℕ → History → History → ℕ → Option Text → Option Text → Option Text → Option Text → Text → Type 0
GivenWith count before now client left left' taken taken' line =
    (bytes : Text) × (count ≤ length bytes) × Gave left left' bytes × GoesOnWith before now client bytes taken taken' line

-- before the first read
pub given_first : (view : History) (client : ℕ) (left taken : Option Text) (line : Text) → line ≡ [] → GivenWith 0 view view client left left taken taken line
given_first view client left taken line empty =
    subst (GivenWith 0 view view client left left taken taken) (sym empty)
    ([], omega arith, Gave-nothing left, ([], Took-nothing taken, goes_on_at_first view client))

-- one read more
pub given_more : (count : ℕ) (before between after : History) (client client' : ℕ) (left left1 left2 left3 taken taken1 taken2 taken3 : Option Text) (line piece line' : Text) →
    client' ≡ client → taken2 ≡ taken1 → left3 ≡ left2 → 0 < length piece →
    GivenWith count before between client left left1 taken taken1 line → Gave left1 left2 piece → GoesOnWith between after client' (line ++ piece) taken2 taken3 line' →
    GivenWith (count + 1) before after client left left3 taken taken3 line'
given_more count before between after client client' left left1 left2 left3 taken taken1 taken2 taken3 line piece line' same same_taken same_left some (bytes, many, gave, so_far) more next =
    let from = subst (λ t. GoesOnWith between after client' (line ++ piece) t taken3 line') same_taken next in
    let given = Gave-append left left1 left2 bytes piece gave more in (
      bytes ++ piece,
      omega (arith, many, some, length-append bytes piece),
      subst (λ l. Gave left l (bytes ++ piece)) (sym same_left) given,
      with_more before between after client client' bytes piece line line' taken taken1 taken3 same so_far from,
    )

-- an end among the bytes of a read
pub given_ends : (end : End) (count : ℕ) (before between after : History) (client client' : ℕ) (left left1 left2 left3 taken taken1 taken2 taken3 : Option Text) (line piece : Text) →
    client' ≡ client → taken2 ≡ taken1 → left3 ≡ left2 →
    GivenWith count before between client left left1 taken taken1 line → Gave left1 left2 piece → EndsWith end between after client' (line ++ piece) taken2 taken3 left3 →
    LinkServed end before after client left left3 taken taken3
given_ends end count before between after client client' left left1 left2 left3 taken taken1 taken2 taken3 line piece same same_taken same_left (bytes, many, gave, so_far) more next =
    let from = subst (λ t. EndsWith end between after client' (line ++ piece) t taken3 left3) same_taken next in
    let given = Gave-append left left1 left2 bytes piece gave more in
    let ends = ends_with_more end before between after client client' bytes piece line taken taken1 taken3 left3 same so_far from in
    (bytes ++ piece, ends.0, subst (λ l. Gave left l (bytes ++ piece)) (sym same_left) given, ends.1, ends_served end _ ends.2)

-- an end at the end of the link
pub given_last : (end : End) (count : ℕ) (before between after : History) (client client' : ℕ) (left left1 left2 left3 taken taken1 taken2 taken3 : Option Text) (line last into : Text) (n : ℕ) →
    client' ≡ client → taken2 ≡ taken1 → left3 ≡ left2 → last ≡ line → n ≡ 0 →
    GivenWith count before between client left left1 taken taken1 line → Gave left1 left2 (take n into) → EndsWith end between after client' last taken2 taken3 left3 →
    LinkServed end before after client left left3 taken taken3
given_last end count before between after client client' left left1 left2 left3 taken taken1 taken2 taken3 line last into n same same_taken same_left same_line none (bytes, many, gave, so_far) more next =
    let whole = subst (λ t. EndsWith end between after client' t taken2 taken3 left3) same_line next in
    let from = subst (λ t. EndsWith end between after client' line t taken3 left3) same_taken whole in
    let nothing = subst (λ m. Gave left1 left2 (take m into)) none more in
    let given = subst (Gave left left2) (append-nil bytes) (Gave-append left left1 left2 bytes [] gave nothing) in
    let ends = ends_with_nothing end before between after client client' bytes line taken taken1 taken3 left3 same so_far from in
    (bytes, ends.0, subst (λ l. Gave left l bytes) (sym same_left) given, ends.1, ends_served end _ ends.2)

-- a read failed
pub given_read_fault : (count : ℕ) (before now : History) (client : ℕ) (left left1 left2 taken taken1 taken2 : Option Text) (line : Text) → IsShortLine line →
    taken2 ≡ taken1 → left2 ≡ left1 → GivenWith count before now client left left1 taken taken1 line → LinkServed ReadFault before now client left left2 taken taken2
given_read_fault count before now client left left1 left2 taken taken1 taken2 line short same_taken same_left (bytes, many, gave, so_far) = (
  bytes,
  so_far.0,
  subst (λ l. Gave left l bytes) (sym same_left) gave,
  subst (λ t. Took taken t so_far.0) (sym same_taken) so_far.1,
  ends_by_read_fault before now client bytes so_far.0 line left2 short so_far.2,
)

-- all reads gave bytes
pub given_spent : (count : ℕ) (before now : History) (client : ℕ) (left left1 taken taken1 : Option Text) (line : Text) → IsShortLine line → 2 ^ 40 ≤ count →
    GivenWith count before now client left left1 taken taken1 line → LinkServed Spent before now client left left1 taken taken1
given_spent count before now client left left1 taken taken1 line short all (bytes, many, gave, so_far) =
    (bytes, so_far.0, gave, so_far.1, ends_spent before now client bytes so_far.0 line left1 short so_far.2 (omega (arith, all, many)))

-- no memory was found at first
pub given_nothing : (view : History) (client : ℕ) (left taken : Option Text) → LinkServed (OutOfMemory tt) view view client left left taken taken
given_nothing view client left taken = ([], [], Gave-nothing left, Took-nothing taken, (refl, refl, refl))
