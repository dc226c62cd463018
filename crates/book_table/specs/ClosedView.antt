-- How the fields of a closed book are seen.
use Rattle.std.specs.Prelude.{◌≡◌, length}
use Rattle.rc_instance.specs.Schedule.{serial_schedule}
use Rattle.book_rule.specs.Listed.{IsBookable, count, width, project_of}
use Rattle.book_rule.specs.Rule.{IsComplete}
use Rattle.book_table.specs.declared.closed.Closed.TheInside.{Inside as InsideClosed}
use Rattle.book_table.specs.Passes.{ClosedBook}

abbrev pub closed_of : InsideClosed → ClosedBook
closed_of closed = record { listing = closed.list.now; booked = closed.counts.items }

pub record KeepsSchedule (closed : InsideClosed) : Type 0 where
  pub bookable : IsBookable closed.list.now
  pub schedule : closed.schedule ≡ serial_schedule (project_of closed.list.now)
      closed.list.now.order
  pub complete : IsComplete closed.list.now closed.shut
  pub count_is : closed.positions ≡ count closed.list.now
  pub width_is : closed.words ≡ width closed.list.now
  pub counts : length closed.counts.items ≡ closed.passes
