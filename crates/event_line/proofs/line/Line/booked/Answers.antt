use Rattle.std.proofs.Common.{◌<◌, length, sym, subst, arith}
use Rattle.std.proofs.lemmas.List.{length-map}
use Rattle.rc_instance.specs.Project.{IsActivity}
use Rattle.event_line.specs.declared.entry.Entry.{Entry}
use Rattle.event_line.specs.Journal.{booking_of}
use Rattle.event_line.specs.Timeline.{Timeline}
use Rattle.event_line.proofs.JournalLaws.{journal_all}
use Rattle.event_line.proofs.line.Line.booked.Goals as goal

pub returns-clause-activity : goal.returns-clause-activity
returns-clause-activity c =
    let inside = c.self.inside in
    let project = inside.instance.now in
    let entries = inside.entries.items in
    let entry = c.index-entry.result.now in
    let within : c.args.index < length entries =
    omega (
      arith,
      length-map entries booking_of,
      subst (λ (v : Timeline). c.args.index < length v.bookings) (sym c.self.view_is) c.requires,
    ) in
    let all = journal_all project inside.axis.chain.periods (length inside.base.chain.periods)
    entries c.self.invariant.shown.journal in
    let is = subst (λ (e : Entry). IsActivity project e.activity) (sym c.index-entry.ensures)
    (all c.args.index entry within).0.activity in
    subst (λ (v : Timeline). IsActivity v.project entry.activity) c.self.view_is is
