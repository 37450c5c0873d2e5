use Rattle.std.proofs.Common.{◌≡◌, ◌-◌, ◌∙◌, ◌++◌, sym, ap, ap₂, length, take, min, arith}
use Rattle.protocol.specs.Lines.{line_limit}
use Rattle.std.proofs.lemmas.List.{length-take-le}
use Rattle.request_codec.proofs.FeedLemmas.{before_feed-le, line_fed-min, has_feed-line_fed, length-line_fed}
use Rattle.request_codec.specs.Feeding.{before_feed, room_behind, line_fed}
use Rattle.request_codec.proofs.lines.Lines.feed.Goals as goal

pub slice_bounds-fill-end : goal.slice_bounds-fill-end
slice_bounds-fill-end c = sym (length-take-le c.min.result c.args.piece.now (omega (arith, before_feed-le c.args.piece.now)))

becomes : (c : goal.After-self-1) → c.fill.new.bytes.items ≡ line_fed c.self.inside.bytes.items c.args.piece.now
becomes c =
    let size : c.len-room.result ≡ length c.self.inside.bytes.items = c.len-room.ensures ∙ c.self.inside.bytes.ok.0 in
    let least : c.min.result ≡ min (before_feed c.args.piece.now) (room_behind c.self.inside.bytes.items) =
    c.min.ensures ∙ ap₂ (λ m n. min m (line_limit - n)) c.before_line_end-before.ensures size in
    c.fill.ensures.items ∙ ap (λ n. c.self.inside.bytes.items ++ take n c.args.piece.now) least
    ∙ sym (line_fed-min c.self.inside.bytes.items c.args.piece.now c.self.invariant.short)

pub invariant_of-self : goal.invariant_of-self
invariant_of-self c =
    let e = becomes c in record {
      room = omega arith;
      short = rw e (length-line_fed c.self.inside.bytes.items c.args.piece.now);
      no_feed = rw e (has_feed-line_fed c.self.inside.bytes.items c.args.piece.now c.self.invariant.no_feed);
    }

pub returns-clause-line : goal.returns-clause-line
returns-clause-line c = becomes c ∙ ap (λ u. line_fed u.line c.args.piece.now) c.self.view_is
