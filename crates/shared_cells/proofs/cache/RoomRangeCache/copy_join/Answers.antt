use Rattle.shared_cells.proofs.cache.RoomRangeCache.copy_join.Goals as goal

pub join_at-requires-clause-stands : goal.join_at-requires-clause-stands
join_at-requires-clause-stands g c = (c.args.query.rank, c.requires.stands.0, c.requires.stands.1)
