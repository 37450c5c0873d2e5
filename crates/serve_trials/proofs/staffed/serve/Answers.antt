use Rattle.std.proofs.Common.{subst}
use Rattle.server.specs.Staffs.{AreStaff}
use Rattle.serve_trials.proofs.staffed.serve.Goals as goal

-- the joins that are declared are those that the type names
pub serve_doors-requires-clause-staff : goal.serve_doors-requires-clause-staff
serve_doors-requires-clause-staff g c = λ κs lives. subst (λ joins. AreStaff g.N.Naming.history joins c.in_ok-first.first c.in_ok-first.workers.items) c.requires.declares c.in_ok-first.ensures.staff
