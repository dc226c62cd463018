use Rattle.std.proofs.Common.{ap, ◌∙◌}
use Rattle.activity_net.specs.Network.{Listing}
use Rattle.rc_instance.specs.Schedule.{serial_schedule}
use Rattle.book_table.specs.Passes.{ClosedBook}
use Rattle.book_table.proofs.closed.Closed.into_schedule.Goals as goal

pub returns : goal.returns
returns c =
    let same = ap (λ (b : ClosedBook). b.listing) c.self.view_is in
    c.self.invariant.schedule ∙ ap (λ (l : Listing). serial_schedule l.network.project l.order) same
