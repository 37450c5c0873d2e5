use Rattle.std.proofs.Common.{◌≡◌, ◌-◌, length, subst, arith}
use Rattle.pq_io.specs.Doors.{doors_told}
use Rattle.pq_io.specs.Links.{link_told}
use Rattle.server.specs.Endings.{EndedAs}
use Rattle.server.proofs.opening.serve.Goals as goal

-- there are as many workers as were asked for
pub returns : goal.returns
returns g c =
    let told = link_told g.D.Wire.Link.left g.D.Wire.Link.taken g.D.Wire.Link.read_faults g.D.Wire.Link.write_faults in
    let tell = doors_told g.D.Doors.held g.D.Doors.returned g.D.Doors.opened g.D.Doors.faults in
    let seated = c.in-Ok.ensures.seated in
    let same : length c.in-Ok.seats.clients.items - 1 ≡ c.args.size.workers = omega arith in
    record {
      ended = subst (λ n. EndedAs told g.D.Wire.Link.tells tell n c.args.joins.items c.args.address.now c.args.doors.now c.serve_seats.new.doors c.serve_seats.result) same
          c.serve_seats.ensures.ended;
    }
