use Rattle.std.proofs.Common.{length, ap, ◌∙◌, arith}
use Rattle.activity_net.specs.Network.{Listing}
use Rattle.rc_instance.specs.Schedule.{serial_schedule, start_at}
use Rattle.book_table.specs.Passes.{ClosedBook}
use Rattle.rc_instance.specs.Project.{activity_count}
use Rattle.rc_instance.proofs.FeasibleLaws.{length-serial_schedule}
use Rattle.book_table.proofs.closed.Closed.start.Goals as goal

pub start-requires : goal.start-requires
start-requires c =
    let same = ap (λ (b : ClosedBook). b.listing) c.self.view_is in
    let long = ap length c.self.invariant.schedule ∙ (length-serial_schedule _ _
    ∙ ap (λ (l : Listing). activity_count l.network.project) same) in
    (c.requires.0, omega (arith, long, c.requires.1))

pub returns : goal.returns
returns c =
    let same = ap (λ (b : ClosedBook). b.listing) c.self.view_is in
    c.start.ensures ∙ ap (λ s. start_at s c.args.activity)
    (c.self.invariant.schedule
    ∙ ap (λ (l : Listing). serial_schedule l.network.project l.order) same)
