use Rattle.std.proofs.Common.{refl, subst, ◌∙◌}
use Rattle.rc_instance.specs.Project.{activity_count}
use Rattle.activity_net.specs.Network.{Network}
use Rattle.rcpsp_run.specs.Live.{lines_for, TakesLive}
use Rattle.rcpsp_run.specs.Sinks.{SinkAt}
use Rattle.rcpsp_run.proofs.LiveLaws.{notes-early, notes-passed, notes-late, asked-lines}
use Rattle.rcpsp_run.proofs.commands.schedule.schedule_of.Goals as goal

pub returns-in_err-list-clause-noted : goal.returns-in_err-list-clause-noted
returns-in_err-list-clause-noted g c =
    notes-early _ _ _ _ _ _ c.from_residual.ensures.0 refl c.requires

pub returns-in_err-list-2-clause-noted : goal.returns-in_err-list-2-clause-noted
returns-in_err-list-2-clause-noted g c =
    notes-early _ _ _ _ _ _ c.from_residual-in_err-list-2.ensures.0 refl c.requires

pub returns-in_err-schedule-clause-noted : goal.returns-in_err-schedule-clause-noted
returns-in_err-schedule-clause-noted g c =
    notes-passed _ _ _ _ _ _ c.in_err-schedule.field-0.0 _
    c.from_residual-in_err-schedule.ensures.1 c.in_err-schedule.ensures.noted

pub returns-in_err-schedule-2-clause-noted : goal.returns-in_err-schedule-2-clause-noted
returns-in_err-schedule-2-clause-noted g c =
    let positions = activity_count c.in_ok-list-2.list.network.project in
    let live = c.args.command.now.live in
    notes-late _ _ (lines_for live positions) _ _ _ _
    c.from_residual-in_err-schedule-2.ensures.1 (asked-lines live positions)
    c.in_ok-schedule.ensures.noted.told

pub returns-clause-noted : goal.returns-clause-noted
returns-clause-noted g c =
    let asked = c.args.command.now.live in
    let before : SinkAt = record {
      held = g.N.Sink.held c.args.note.now;
      faults = g.N.Sink.faults c.args.note.now;
      failing = g.N.Sink.failing c.args.note.now;
      room = g.N.Sink.room c.args.note.now;
    } in
    let after : SinkAt = record {
      held = g.N.Sink.held c.scheduled.new.note;
      faults = g.N.Sink.faults c.scheduled.new.note;
      failing = g.N.Sink.failing c.scheduled.new.note;
      room = g.N.Sink.room c.scheduled.new.note;
    } in
    let network = c.in_ok-list-2.ensures.network ∙ c.in_ok-list.ensures.net in
    record {
      told =
          subst (λ (n : Network). TakesLive (lines_for asked (activity_count n.project)) before after
          c.scheduled.new.failed) network c.in_ok-schedule.ensures.noted.told;
      refused = tt;
    }
