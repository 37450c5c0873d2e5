-- The slot of an output at which a bound ends, and what follows a whole text of it in a key.
use Rattle.std.proofs.Common.{◌≡◌, ℕ, ◌<◌, ◌≤◌, Bool, true, false, nat_le, List, [], ◌∷◌, ◌++◌, length, drop, Option, None, Some, refl, sym, ap, ◌∙◌, subst, arith, length-append, append_assoc, leb-true}
use Rattle.std.specs.List.{join_with_byte}
use Rattle.std.specs.Option.{IfSome}
use Rattle.std.proofs.Math.Seq.{drop-append_seam}
use Rattle.std.proofs.lemmas.List.{drop_all, drop_more}
use Rattle.std.proofs.lemmas.Option.{none-some, cond_some}
use Rattle.semantics.specs.Texts.{Text, bar}
use Rattle.semantics.specs.Patterns.{Segment, literal, slot, Pattern, fits, segments}
use Rattle.semantics.proofs.PieceLemmas.{Lacks, join-pieces, parts_of, pieces-append}
use Rattle.semantics.proofs.PatternLemmas.{SuitAll, Suits, fits_suit}
use Rattle.key_ranges.proofs.OpenLemmas.{wide_text}
use Rattle.cell_slots.specs.declared.slots.OpenSlot.{OpenSlot}
use Rattle.cell_slots.specs.Gaps.{fixed_width, FollowsSlot, is_none_left, IsOpenAt, LeavesOpen}

-- ---- what is left of a bound

-- segments of an output are left for what is left of a bound: they suit what is left of a key that fits the output and begins as the bound does
pub record IsLeft (output left : Pattern) (bound rest : Text) : Type 0 where
  pub before : Text
  pub is : bound ≡ before ++ rest
  pub suits : (key follows : Text) → fits output key ≡ true → key ≡ before ++ follows → SuitAll left (segments follows)

-- at first all are left
pub left_begin : (output : Pattern) (bound : Text) → IsLeft output output bound bound
left_begin output bound = record { before = []; is = refl; suits = λ key follows fit is. subst (λ t. SuitAll output (segments t)) is (fits_suit output key fit) }

-- a text, a first segment with `|` behind it, and what follows
behind_is : (before first follows : Text) → before ++ (first ++ bar ∷ follows) ≡ (before ++ (first ++ bar ∷ [])) ++ follows
behind_is before first follows = ap (λ t. before ++ t) (sym (append_assoc first (bar ∷ []) follows)) ∙ sym (append_assoc before (first ++ bar ∷ []) follows)

-- one segment more is behind
pub left_more : (output left : Pattern) (bound rest first behind : Text) (s : Segment) (more : Pattern) → left ≡ s ∷ more → rest ≡ first ++ bar ∷ behind → Lacks bar first → IsLeft output left bound rest → IsLeft output more bound behind
left_more output left bound rest first behind s more e r lacks h = record {
  before = h.before ++ (first ++ bar ∷ []);
  is = h.is ∙ ap (λ t. h.before ++ t) r ∙ behind_is h.before first behind;
  suits = λ key follows fit is.
      let all : SuitAll left (segments (first ++ bar ∷ follows)) = h.suits key (first ++ bar ∷ follows) fit (is ∙ sym (behind_is h.before first follows)) in
      (subst (λ ts. SuitAll (s ∷ more) ts) (pieces-append bar first follows lacks) (subst (λ p. SuitAll p (segments (first ++ bar ∷ follows))) e all)).1;
}

-- ---- what follows a whole text of a slot

no_text : (t : Text) → length t ≡ 0 → t ≡ []
no_text [] e = refl
no_text (b ∷ bs) e = absurd (omega (arith, e))

-- nothing where no segment is left
ends_there : (us : List Text) (w u behind : Text) → SuitAll [] us → join_with_byte bar (w ∷ us) ≡ u ++ behind → length w ≡ length u → behind ≡ []
ends_there [] w u behind h whole long =
    let same : w ≡ u ++ behind = whole in
    no_text behind (omega (arith, ap length same, length-append u behind, long))
ends_there (v ∷ vs) w u behind h whole long = absurd h

-- `|` and the others where some are
goes_on : (s : Segment) (ss : Pattern) (us : List Text) (w u behind : Text) → SuitAll (s ∷ ss) us → join_with_byte bar (w ∷ us) ≡ u ++ behind → length w ≡ length u → (rest : Text) × (behind ≡ bar ∷ rest)
goes_on s ss [] w u behind h whole long = absurd h
goes_on s ss (v ∷ vs) w u behind h whole long =
    let rest = join_with_byte bar (v ∷ vs) in
    (rest, sym (drop-append_seam u behind) ∙ ap (drop (length u)) (sym whole) ∙ ap (λ n. drop n (w ++ bar ∷ rest)) (sym long) ∙ drop-append_seam w (bar ∷ rest))

-- by what is left
follows_by : (more : Pattern) (us : List Text) (w u behind : Text) → SuitAll more us → join_with_byte bar (w ∷ us) ≡ u ++ behind → length w ≡ length u → FollowsSlot (is_none_left more) behind
follows_by [] us w u behind h whole long = ends_there us w u behind h whole long
follows_by (s ∷ ss) us w u behind h whole long = goes_on s ss us w u behind h whole long

-- a text that suits a slot of fixed width has its width
suits_width : (s : Segment) (n : ℕ) (t : Text) → fixed_width s ≡ Some n → Suits s t → length t ≡ n
suits_width (literal l) n t e h = absurd (none-some n e)
suits_width (slot place width) n t e h =
    let is = cond_some (nat_le 1 width) width n e in
    wide_text width t (leb-true 1 width is.0) h ∙ is.1

-- that is one at least
some_width : (s : Segment) (n : ℕ) → fixed_width s ≡ Some n → 1 ≤ n
some_width (literal l) n e = absurd (none-some n e)
some_width (slot place width) n e =
    let is = cond_some (nat_le 1 width) width n e in
    subst (λ m. 1 ≤ m) is.1 (leb-true 1 width is.0)

-- a rest that stands where a slot is left
leaves_open : (output left : Pattern) (bound rest : Text) (end : OpenSlot) (s : Segment) (more : Pattern) (is_last : Bool) → left ≡ s ∷ more → is_last ≡ is_none_left more → IsLeft output left bound rest → IsOpenAt s is_last rest end →
    LeavesOpen output bound end
leaves_open output left bound rest end s more is_last e last h at = record {
  before = h.before;
  is = h.is ∙ ap (λ t. h.before ++ t) (sym at.same_rest);
  some = some_width s end.width at.width;
  follows = λ key u behind fit is long.
      let w = parts_of bar (u ++ behind) in
      let all : SuitAll (s ∷ more) (w.0 ∷ w.1) = subst (λ ts. SuitAll (s ∷ more) ts) w.2 (subst (λ p. SuitAll p (segments (u ++ behind))) e (h.suits key (u ++ behind) fit is)) in
      subst (λ b. FollowsSlot b behind) (sym (at.same_last ∙ last))
      (follows_by more w.1 w.0 u behind all.1 (ap (join_with_byte bar) (sym w.2) ∙ join-pieces bar (u ++ behind)) (suits_width s end.width w.0 at.width all.0 ∙ sym long));
}

-- whatever such a rest is given by
pub if_leaves_open : (output left : Pattern) (bound rest : Text) (found : Option OpenSlot) (s : Segment) (more : Pattern) (is_last : Bool) → left ≡ s ∷ more → is_last ≡ is_none_left more → IsLeft output left bound rest →
    IfSome found (IsOpenAt s is_last rest) → IfSome found (LeavesOpen output bound)
if_leaves_open output left bound rest None s more is_last e last h at = tt
if_leaves_open output left bound rest (Some end) s more is_last e last h at = leaves_open output left bound rest end s more is_last e last h at

-- ---- the last segment

-- no segment is left behind the last place
pub none_behind : (p : Pattern) (n : ℕ) → length p ≤ n → true ≡ is_none_left (drop n p)
none_behind p n all = ap is_none_left (sym (drop_all n p all))

-- some are left behind another
pub some_behind : (p : Pattern) (n : ℕ) → n < length p → false ≡ is_none_left (drop n p)
some_behind p n fewer = ap is_none_left (sym (drop_more p n (literal []) fewer))
