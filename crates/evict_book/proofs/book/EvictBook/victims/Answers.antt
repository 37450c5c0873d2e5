use Rattle.std.proofs.Common.{◌≡◌, ◌<◌, ◌≤◌, [], ◌∷◌, ◌++◌, reverse, ap, ◌∙◌, arith}
use Rattle.evict_book.specs.Books.{Book, victims_of, without}
use Rattle.evict_book.proofs.BookLemmas.{NextGoes, next_goes, all_found}
use Rattle.evict_book.proofs.book.EvictBook.victims.Goals as goal

pub returns-then-left-limit : goal.returns-then-left-limit
returns-then-left-limit c =
    let limit : c.self.inside.limit ≡ c.args.self.now.limit = ap (λ (b : Book). b.limit) c.self.view_is in
    let from = c.from-limit.ensures in
    let test = c.if-left-limit.true in
    let fits : c.loop-other.left ≤ c.args.self.now.limit = omega arith in
    all_found c.args.self.now.limit c.loop-other.left (without c.args.id (reverse c.loop-other.other-iterator.iter) ++ (c.args.id, c.args.weight) ∷ []) c.loop-other.victims.items
    (victims_of c.args.self.now.limit (without c.args.id c.args.self.now.used ++ (c.args.id, c.args.weight) ∷ [])) fits c.loop-other.invariant.left c.loop-other.invariant.victims

pub overflow_sub-left : goal.overflow_sub-left
overflow_sub-left c =
    let limit : c.self.inside.limit ≡ c.args.self.now.limit = ap (λ (b : Book). b.limit) c.self.view_is in
    let from = c.from-limit.ensures in
    let test = c.if-left-limit.false in
    let above : c.args.self.now.limit < c.loop-other.left = omega arith in
    (next_goes c.args.id c.args.self.now.limit c.loop-other.left (c.in-Some.other.now, c.in-Some.other_weight.now) (c.args.id, c.args.weight) c.loop-other.other-iterator.iter c.next.new.self.iter c.loop-other.victims.items
    (victims_of c.args.self.now.limit (without c.args.id c.args.self.now.used ++ (c.args.id, c.args.weight) ∷ [])) c.in-Some.ensures.steps c.if-other-id.true above c.loop-other.invariant.left c.loop-other.invariant.victims).enough

pub loop-other-preserved-in-Continue-1 : goal.loop-other-preserved-in-Continue-1
loop-other-preserved-in-Continue-1 c =
    let limit : c.self.inside.limit ≡ c.args.self.now.limit = ap (λ (b : Book). b.limit) c.self.view_is in
    let from = c.from-limit.ensures in
    let test = c.if-left-limit.false in
    let above : c.args.self.now.limit < c.loop-other.left = omega arith in
    let more : NextGoes c.args.id c.args.self.now.limit c.loop-other.left (c.in-Some.other.now, c.in-Some.other_weight.now) (c.args.id, c.args.weight) c.next.new.self.iter c.loop-other.victims.items (victims_of c.args.self.now.limit (without c.args.id c.args.self.now.used ++ (c.args.id, c.args.weight) ∷ [])) =
    next_goes c.args.id c.args.self.now.limit c.loop-other.left (c.in-Some.other.now, c.in-Some.other_weight.now) (c.args.id, c.args.weight) c.loop-other.other-iterator.iter c.next.new.self.iter c.loop-other.victims.items
    (victims_of c.args.self.now.limit (without c.args.id c.args.self.now.used ++ (c.args.id, c.args.weight) ∷ [])) c.in-Some.ensures.steps c.if-other-id.true above c.loop-other.invariant.left c.loop-other.invariant.victims in
    record {
      victims = ap (λ l. l ++ victims_of c.args.self.now.limit (without c.args.id (reverse c.next.new.self.iter) ++ (c.args.id, c.args.weight) ∷ [])) c.in_ok-push.ensures.items ∙ more.victims;
      left = more.left_is;
    }
