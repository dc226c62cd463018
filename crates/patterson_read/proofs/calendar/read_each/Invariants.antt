use Rattle.std.proofs.Common.{◌≡◌, ◌-◌, []}
use Rattle.rc_edge.specs.Grammar.{more}
use Rattle.patterson_read.specs.Calendar.{next_change}
use Rattle.patterson_read.proofs.calendar.read_each.Given as goal

abbrev pub invariant-loop : goal.invariant-loop
invariant-loop l =
    let one = next_change l.resources in
    more one (l.count - l.counter) l.changes.items l.cursor ≡ more one l.count [] l.fn.cursor
