use Rattle.std.proofs.Common.{◌≡◌, ◌-◌, List, length, subst, arith}
use Rattle.semantics.specs.Joins.{Join}
use Rattle.pq_io.specs.Doors.{doors_told}
use Rattle.pq_io.specs.Links.{link_told}
use Rattle.server.specs.Staffs.{AreStaff}
use Rattle.server.specs.Endings.{EndedAs}
use Rattle.server.proofs.opening.serve_seats.Goals as goal

-- the joins that are declared are those that the type names
pub serve_doors-requires-clause-staff : goal.serve_doors-requires-clause-staff
serve_doors-requires-clause-staff g c = λ κs lives. subst (λ (joins : List Join). AreStaff g.N.Naming.history joins c.in-Ok.first c.in-Ok.workers.items) c.requires.declares c.in-Ok.ensures.staff

-- each client but the first is a worker's
pub returns : goal.returns
returns g c =
    let told = link_told g.D.Wire.Link.left g.D.Wire.Link.taken g.D.Wire.Link.read_faults g.D.Wire.Link.write_faults in
    let tell = doors_told g.D.Doors.held g.D.Doors.returned g.D.Doors.opened g.D.Doors.faults in
    let count = c.in-Ok.ensures.count in
    let same : length c.in-Ok.workers.items ≡ length c.args.seats.clients.items - 1 = omega arith in
    record {
      ended = subst (λ n. EndedAs told g.D.Wire.Link.tells tell n g.J.Declaring.joins c.args.address.text.now c.args.doors.now c.serve_doors.new.doors c.serve_doors.result) same
          c.serve_doors.ensures.ended;
    }
