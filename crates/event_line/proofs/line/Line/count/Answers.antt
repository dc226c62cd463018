use Rattle.std.proofs.Common.{◌≤◌, length, subst, arith}
use Rattle.std.proofs.lemmas.List.{length-map}
use Rattle.rc_instance.specs.Project.{activity_count}
use Rattle.event_line.specs.Journal.{booking_of}
use Rattle.event_line.specs.Timeline.{Timeline}
use Rattle.event_line.proofs.JournalLaws.{entries_few}
use Rattle.event_line.proofs.line.Line.count.Goals as goal

pub overflow_cast-result : goal.overflow_cast-result
overflow_cast-result c =
    let inside = c.self.inside in
    let shown = c.self.invariant.shown in
    let few = entries_few inside.instance.now inside.axis.chain.periods
    (length inside.base.chain.periods) inside.entries.items shown.journal shown.once in
    let limit = c.self.invariant.limits.activities in
    omega arith

pub returns-clause-within : goal.returns-clause-within
returns-clause-within c =
    let inside = c.self.inside in
    let shown = c.self.invariant.shown in
    let few = entries_few inside.instance.now inside.axis.chain.periods
    (length inside.base.chain.periods) inside.entries.items shown.journal shown.once in
    subst (λ (v : Timeline). length v.bookings ≤ activity_count v.project) c.self.view_is
    (omega (arith, length-map inside.entries.items booking_of))
