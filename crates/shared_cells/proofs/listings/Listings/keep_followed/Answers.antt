use Rattle.std.proofs.Common.{ℕ, subst, rules}
use Rattle.std.proofs.lemmas.Map.Made.{filter_same_pairs}
use Rattle.range_set.specs.Held.{Held}
use Rattle.shared_cells.specs.declared.ranked_join.RankedJoin.{RankedJoin}
use Rattle.shared_cells.specs.Listings.{has_join, Listed, ListsFollowed}
use Rattle.shared_cells.proofs.ListingLemmas.{lists_followed}
use Rattle.shared_cells.proofs.listings.Listings.keep_followed.Goals as goal

pub returns : goal.returns
returns c =
    let old = c.self.inside.joins.entries in
    let left = filter_same_pairs _ (λ (e : RankedJoin × Held ℕ). has_join c.args.followed.now e.0) _ (λ k v b w f' t. search rules) old c.retain.new.self.entries c.retain.ensures.filtered in
    subst (λ (listed : Listed). ListsFollowed c.args.followed.now listed c.retain.new.self.entries) c.self.view_is (lists_followed c.args.followed.now old c.retain.new.self.entries left)
