-- Keys and slots that were noted, one note more at a time.
use Rattle.std.proofs.Common.{◌≡◌, ℕ, ◌+◌, ◌<◌, List, [], ◌∷◌, ◌++◌, filter, flat_map, Bool, true, false, cond, nat_lt, refl, sym, ap, ◌∙◌, subst, append_assoc}
use Rattle.std.specs.BTreeSet.{insert_key}
use Rattle.std.proofs.lemmas.Bool.{lt-ltb}
use Rattle.std.proofs.lemmas.List.{append-nil}
use Rattle.std.proofs.lemmas.List.Elements.{filter-append}
use Rattle.std.proofs.lemmas.List.Concat.{flat_map-append}
use Rattle.semantics.specs.Texts.{Text, text_cmp, Range, within}
use Rattle.growing_history.specs.Changes.{in_order}
use Rattle.growing_history.proofs.OrderLemmas.{in_order-push}
use Rattle.kept_ranges.specs.Notes.{key, Note}
use Rattle.range_state.specs.NotesSince.{key_of, key_after, keys_since, GathersMore}

-- nothing more is gathered
pub gathers_none : (range : Range) (keys : List Text) → GathersMore range [] keys keys
gathers_none range keys before e = e ∙ ap (λ ts. in_order (filter (within range) ts)) (sym (append-nil before))

one_within : (b : Bool) (t : Text) (ts : List Text) → in_order (ts ++ cond b (t ∷ []) []) ≡ cond b (insert_key text_cmp (in_order ts) t) (in_order ts)
one_within true t ts = in_order-push ts t
one_within false t ts = ap in_order (append-nil ts)

-- one text more, which takes its place where it lies in the range
pub gathers_one : (range : Range) (t : Text) (keys : List Text) → GathersMore range (t ∷ []) keys (cond (within range t) (insert_key text_cmp keys t) keys)
gathers_one range t keys before e =
    ap (λ ks. cond (within range t) (insert_key text_cmp ks t) ks) e
    ∙ sym (one_within (within range t) t (filter (within range) before))
    ∙ ap in_order (sym (filter-append (within range) before (t ∷ [])))

-- one part and then another
pub gathers_both : (range : Range) (first rest old mid new : List Text) → GathersMore range first old mid → GathersMore range rest mid new → GathersMore range (first ++ rest) old new
gathers_both range first rest old mid new f g before e =
    g (before ++ first) (f before e) ∙ ap (λ ts. in_order (filter (within range) ts)) (append_assoc before first rest)

key_noted : (u : ℕ) (note : Note) (k : Text) → u < note.position → note.mark ≡ key k → key_after u note ≡ k ∷ []
key_noted u note k less e = ap (λ b. cond b (key_of note.mark) []) (lt-ltb u note.position less) ∙ ap key_of e

-- the key of a note that was made after a position, where it lies in the range
pub gathers_note : (range : Range) (u : ℕ) (note : Note) (k : Text) (old new : List Text) → u < note.position → note.mark ≡ key k → within range k ≡ true → new ≡ insert_key text_cmp old k
    → GathersMore range (key_after u note) old new
gathers_note range u note k old new less e inside made =
    subst (λ (p : List Text × List Text). GathersMore range p.0 old p.1)
    (λ i. (sym (key_noted u note k less e) i, sym (made ∙ sym (ap (λ b. cond b (insert_key text_cmp old k) old) inside)) i))
    (gathers_one range k old)

-- and where it lies outside, nothing more is gathered
pub gathers_outside : (range : Range) (u : ℕ) (note : Note) (k : Text) (keys : List Text) → u < note.position → note.mark ≡ key k → within range k ≡ false
    → GathersMore range (key_after u note) keys keys
gathers_outside range u note k keys less e outside =
    subst (λ (p : List Text × List Text). GathersMore range p.0 keys p.1)
    (λ i. (sym (key_noted u note k less e) i, ap (λ b. cond b (insert_key text_cmp keys k) keys) outside i))
    (gathers_one range k keys)

-- nor where the note was made before
pub gathers_earlier : (range : Range) (u : ℕ) (note : Note) (keys : List Text) → nat_lt u note.position ≡ false → GathersMore range (key_after u note) keys keys
gathers_earlier range u note keys not_later =
    subst (λ (b : Bool). GathersMore range (cond b (key_of note.mark) []) keys keys) (sym not_later) (gathers_none range keys)

-- the keys of two parts of a list of notes
pub gathers_all : (range : Range) (u : ℕ) (first rest notes : List Note) (mid new : List Text) → notes ≡ first ++ rest
    → GathersMore range (flat_map (key_after u) first) [] mid → GathersMore range (flat_map (key_after u) rest) mid new → new ≡ keys_since u range notes
gathers_all range u first rest notes mid new e f g =
    gathers_both range (flat_map (key_after u) first) (flat_map (key_after u) rest) [] mid new f g [] refl
    ∙ ap (λ ts. in_order (filter (within range) ts)) (sym (flat_map-append (key_after u) first rest))
    ∙ ap (λ ns. in_order (filter (within range) (flat_map (key_after u) ns))) (sym e)
