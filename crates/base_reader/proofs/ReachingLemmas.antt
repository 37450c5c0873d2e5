-- The joins that a range reaches, found one after another.
use Rattle.std.proofs.Common.{◌≡◌, ◌&&◌, ℕ, zero, suc, ◌+◌, ◌<◌, ◌≤◌, List, [], ◌∷◌, ◌++◌, Bool, true, false, cond, eqb, filter, map, zip, not, length, take, slice_get, slice_index, Option, Some, option_map, refl, sym, ap, ◌∙◌, arith}
use Rattle.std.specs.Prelude.{nat_le}
use Rattle.std.specs.List.{list_all}
use Rattle.std.proofs.lemmas.Bool.{and_parts, false≢true}
use Rattle.std.proofs.lemmas.List.{take_more, take_all, append-nil}
use Rattle.std.proofs.lemmas.Option.{none-some, same_Some, slice_get_within, get_or_from_slice_get}
use Rattle.semantics.specs.Texts.{Text, Range, table_of}
use Rattle.semantics.specs.Histories.{DeclaredJoin}
use Rattle.semantics.specs.States.{ranks_of}
use Rattle.semantics.proofs.OfRankLemmas.{length-ranks_of}
use Rattle.growing_history.specs.Changes.{has_table, is_bare}
use Rattle.layering.specs.Reached.{reached, reaches}
use Rattle.layering.proofs.ReachLemmas.{reached_are_picked}
use Rattle.join_eval.specs.declared.between.Between.TheVariants.{Steady, Bare, Other}
use Rattle.join_set.specs.Sets.{Joins, bare_since, last_drop}
use Rattle.join_set.proofs.BareSinceLemmas.{bare_by_joins}
use Rattle.base_reader.specs.Reaching.{IsReachedAt, SaysBetween}

-- the positions of those of the first joins, beside their ranks, that have a rank and that a range reaches
pub picked : Range → ℕ → List (ℕ × DeclaredJoin) → List ℕ
picked range rank [] = []
picked range rank (p ∷ ps) = cond (eqb p.0 rank && reaches range p.1) (p.1.position ∷ picked range rank ps) (picked range rank ps)

map_by : (range : Range) (rank : ℕ) (p : ℕ × DeclaredJoin) (ps : List (ℕ × DeclaredJoin)) (b : Bool) → picked range rank ps ≡ map (λ s. s.position) (map (λ q. q.1) (filter (λ q. eqb q.0 rank && reaches range q.1) ps)) →
    cond b (p.1.position ∷ picked range rank ps) (picked range rank ps)
    ≡ map (λ s. s.position) (map (λ q. q.1) (cond b (p ∷ filter (λ q. eqb q.0 rank && reaches range q.1) ps) (filter (λ q. eqb q.0 rank && reaches range q.1) ps)))
map_by range rank p ps true h = ap (λ xs. p.1.position ∷ xs) h
map_by range rank p ps false h = h

picked_map : (range : Range) (rank : ℕ) (ps : List (ℕ × DeclaredJoin)) → picked range rank ps ≡ map (λ s. s.position) (map (λ p. p.1) (filter (λ p. eqb p.0 rank && reaches range p.1) ps))
unfolding picked
picked_map range rank [] = refl
picked_map range rank (p ∷ ps) = map_by range rank p ps (eqb p.0 rank && reaches range p.1) (picked_map range rank ps)

append_by : (range : Range) (rank : ℕ) (p : ℕ × DeclaredJoin) (ps qs : List (ℕ × DeclaredJoin)) (b : Bool) → picked range rank (ps ++ qs) ≡ picked range rank ps ++ picked range rank qs →
    cond b (p.1.position ∷ picked range rank (ps ++ qs)) (picked range rank (ps ++ qs)) ≡ cond b (p.1.position ∷ picked range rank ps) (picked range rank ps) ++ picked range rank qs
append_by range rank p ps qs true h = ap (λ xs. p.1.position ∷ xs) h
append_by range rank p ps qs false h = h

picked_append : (range : Range) (rank : ℕ) (ps qs : List (ℕ × DeclaredJoin)) → picked range rank (ps ++ qs) ≡ picked range rank ps ++ picked range rank qs
unfolding picked
picked_append range rank [] qs = refl
picked_append range rank (p ∷ ps) qs = append_by range rank p ps qs (eqb p.0 rank && reaches range p.1) (picked_append range rank ps qs)

-- no join yet
pub picked_none : (range : Range) (rank : ℕ) (joins : List DeclaredJoin) → picked range rank (take 0 (zip (ranks_of joins) joins)) ≡ []
unfolding picked
picked_none range rank joins = refl

stands : (joins : List DeclaredJoin) (i : ℕ) → i < length joins → (s : DeclaredJoin) × (slice_get joins i ≡ Some s)
stands [] i less = absurd (omega arith)
stands (s ∷ joins) zero less = (s, refl)
stands (s ∷ joins) (suc i) less = stands joins i (omega arith)

zip_at : (ns : List ℕ) (joins : List DeclaredJoin) (i : ℕ) (s : DeclaredJoin) → length ns ≡ length joins → slice_get joins i ≡ Some s → slice_get (zip ns joins) i ≡ Some (slice_index ns i, s)
zip_at ns [] i s same at = absurd (none-some s at)
zip_at [] (t ∷ joins) i s same at = absurd (omega (arith, same))
zip_at (n ∷ ns) (t ∷ joins) zero s same at = ap (λ (o : Option DeclaredJoin). option_map (λ x. (n, x)) o) at
zip_at (n ∷ ns) (t ∷ joins) (suc i) s same at = zip_at ns joins i s (omega (arith, same)) at

length_zip : (ns : List ℕ) (joins : List DeclaredJoin) → length ns ≡ length joins → length (zip ns joins) ≡ length joins
length_zip [] [] same = refl
length_zip (n ∷ ns) [] same = absurd (omega (arith, same))
length_zip [] (t ∷ joins) same = absurd (omega (arith, same))
length_zip (n ∷ ns) (t ∷ joins) same = ap suc (length_zip ns joins (omega (arith, same)))

taken_more : (range : Range) (rank : ℕ) (ps : List (ℕ × DeclaredJoin)) (i : ℕ) (p : ℕ × DeclaredJoin) → slice_get ps i ≡ Some p → picked range rank (take (i + 1) ps) ≡ picked range rank (take i ps) ++ picked range rank (p ∷ [])
taken_more range rank ps i p at =
    ap (picked range rank) (take_more ps i p (slice_get_within ps i p at) ∙ ap (λ x. take i ps ++ x ∷ []) (get_or_from_slice_get ps i p p at)) ∙ picked_append range rank (take i ps) (p ∷ [])

one : (range : Range) (rank : ℕ) (p : ℕ × DeclaredJoin) (b : Bool) → (eqb p.0 rank && reaches range p.1) ≡ b → picked range rank (p ∷ []) ≡ cond b (p.1.position ∷ []) []
unfolding picked
one range rank p b is = ap (λ x. cond x (p.1.position ∷ []) []) is

-- a join that is reached adds its position
pub picked_more : (range : Range) (rank : ℕ) (joins : List DeclaredJoin) (i at : ℕ) (old new : List ℕ) → i < length joins → IsReachedAt joins i rank range true → option_map (λ s. s.position) (slice_get joins i) ≡ Some at →
    new ≡ old ++ at ∷ [] → old ≡ picked range rank (take i (zip (ranks_of joins) joins)) → new ≡ picked range rank (take (i + 1) (zip (ranks_of joins) joins))
picked_more range rank joins i at old new less reached_here position is before =
    let w = stands joins i less in
    let there : w.0.position ≡ at = same_Some w.0.position at (sym (ap (option_map (λ s. s.position)) w.1) ∙ position) in
    is ∙ (λ k. before k ++ sym there k ∷ [])
    ∙ ap (λ xs. picked range rank (take i (zip (ranks_of joins) joins)) ++ xs) (sym (one range rank (slice_index (ranks_of joins) i, w.0) true (sym (reached_here w.0 w.1))))
    ∙ sym (taken_more range rank (zip (ranks_of joins) joins) i (slice_index (ranks_of joins) i, w.0) (zip_at (ranks_of joins) joins i w.0 (length-ranks_of joins) w.1))

-- another adds nothing
pub picked_same : (range : Range) (rank : ℕ) (joins : List DeclaredJoin) (i : ℕ) (old : List ℕ) → i < length joins → IsReachedAt joins i rank range false →
    old ≡ picked range rank (take i (zip (ranks_of joins) joins)) → old ≡ picked range rank (take (i + 1) (zip (ranks_of joins) joins))
picked_same range rank joins i old less passed before =
    let w = stands joins i less in
    before
    ∙ sym (append-nil (picked range rank (take i (zip (ranks_of joins) joins))))
    ∙ ap (λ xs. picked range rank (take i (zip (ranks_of joins) joins)) ++ xs) (sym (one range rank (slice_index (ranks_of joins) i, w.0) false (sym (passed w.0 w.1))))
    ∙ sym (taken_more range rank (zip (ranks_of joins) joins) i (slice_index (ranks_of joins) i, w.0) (zip_at (ranks_of joins) joins i w.0 (length-ranks_of joins) w.1))

-- past the last join they are those that the range reaches
pub picked_all : (range : Range) (rank : ℕ) (joins : List DeclaredJoin) (i : ℕ) (ats : List ℕ) → length joins ≤ i → ats ≡ picked range rank (take i (zip (ranks_of joins) joins)) →
    ats ≡ map (λ s. s.position) (reached range rank joins)
picked_all range rank joins i ats past is =
    is ∙ ap (picked range rank) (take_all i (zip (ranks_of joins) joins) (omega (arith, length_zip (ranks_of joins) joins (length-ranks_of joins))))
    ∙ picked_map range rank (zip (ranks_of joins) joins)
    ∙ ap (map (λ s. s.position)) (sym (reached_are_picked joins range rank))

-- ---- what is said of the joins between two positions

pub steady_between : (joins : Joins) (q : ℕ) (range : Range) → joins.changed ≤ q → SaysBetween joins q range Steady
steady_between joins q range upto h p floor above order within are = omega (arith, upto, are.changed)

pub bare_between : (joins : Joins) (q : ℕ) (range : Range) → bare_since q (table_of range.low) joins ≡ true → SaysBetween joins q range Bare
bare_between joins q range bare h p floor above order within are = (bare_by_joins floor joins h q p range above order within are).0 bare

pub other_between : (joins : Joins) (q : ℕ) (range : Range) → q < joins.changed → bare_since q (table_of range.low) joins ≡ false → SaysBetween joins q range Other
other_between joins q range later computed h p floor above order within are = (
  omega (arith, later, are.changed),
  λ bare. false≢true (sym computed ∙ (bare_by_joins floor joins h q p range above order within are).1 bare),
)

-- ---- bare ranges

-- no output is in a range's table where none was from some position on
pub bare_joins : (joins : Joins) (q : ℕ) (range : Range) (table : Text) → table ≡ table_of range.low → bare_since q table joins ≡ true → is_bare range joins.standing ≡ true
bare_joins joins q range table is bare =
    ap (λ t. list_all (λ (s : DeclaredJoin). not (has_table s.join.output t)) joins.standing) (sym is) ∙ (and_parts (list_all (λ (s : DeclaredJoin). not (has_table s.join.output table)) joins.standing) (nat_le (last_drop table joins.drops) q) bare).0
