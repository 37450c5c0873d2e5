-- Ranges that a cell follows, one more after another.
use Rattle.std.proofs.Common.{◌≡◌, ℕ, ◌+◌, ◌<◌, List, [], ◌∷◌, ◌++◌, get_or, take, drop, length, Contains, inl, inr, refl, sym, subst}
use Rattle.std.specs.List.{AllByRecursion}
use Rattle.std.proofs.lemmas.List.{take-append-drop, take_more}
use Rattle.semantics.specs.Texts.{Range}
use Rattle.semantics.proofs.Members.{AllByRecursion-append}
use Rattle.semantics.proofs.MemberLemmas.{Has, has_from_contains, contains_from_has, has_append_left, has_append_right, has_append_cases}
use Rattle.key_ranges.proofs.OrderLemmas.{up_to_itself}
use Rattle.shared_reader.specs.Following.{HaveWhole, IsOneMore}

-- what was among them is so with one more
stays_among : (old new : List Range) (range other : Range) → IsOneMore old range new → Contains old other → Contains new other
stays_among old new range other more among =
    let parts : Has (take more.place old ++ drop more.place old) other = subst (λ rs. Has rs other) (sym (take-append-drop more.place old)) (has_from_contains old other among) in
    subst (λ rs. Contains rs other) (sym more.is)
    (contains_from_has (take more.place old ++ range ∷ drop more.place old) other
    (elim (has_append_cases (take more.place old) (drop more.place old) other parts) [
      | inl front ↦ has_append_left (take more.place old) (range ∷ drop more.place old) other front
      | inr back ↦ has_append_right (take more.place old) (range ∷ drop more.place old) other (has_append_right (range ∷ []) (drop more.place old) other back)
    ]))

-- what lay in one of them still does
pub still_whole : (old new : List Range) (range part : Range) → IsOneMore old range new → HaveWhole old part → HaveWhole new part
still_whole old new range part more have = record { other = have.other; is_among = stays_among old new range have.other more have.is_among; has = have.has }

-- and so did all
pub all_still : (old new : List Range) (range : Range) (parts : List Range) → IsOneMore old range new → AllByRecursion (HaveWhole old) parts → AllByRecursion (HaveWhole new) parts
all_still old new range [] more all = tt
all_still old new range (part ∷ parts) more all = (still_whole old new range part more all.0, all_still old new range parts more all.1)

-- the one more has itself
pub new_whole : (old new : List Range) (range : Range) → IsOneMore old range new → HaveWhole new range
new_whole old new range more = record {
  other = range;
  is_among = subst (λ rs. Contains rs range) (sym more.is)
      (contains_from_has (take more.place old ++ range ∷ drop more.place old) range (has_append_right (take more.place old) (range ∷ drop more.place old) range (inl refl)));
  has = record { begins = up_to_itself range.low; ends = up_to_itself range.high };
}

-- one range after another lies in one of them
pub all_more : (have parts : List Range) (i : ℕ) (part : Range) → i < length parts → part ≡ get_or parts i part → AllByRecursion (HaveWhole have) (take i parts) → HaveWhole have part → AllByRecursion (HaveWhole have) (take (i + 1) parts)
all_more have parts i part less is all one =
    subst (AllByRecursion (HaveWhole have)) (sym (take_more parts i part less))
    (AllByRecursion-append (HaveWhole have) (take i parts) (get_or parts i part ∷ []) all (subst (HaveWhole have) is one, tt))
