use Rattle.std.proofs.Common.{Option, refl, ap, sym, subst, ◌∙◌, length-append, arith}
use Rattle.rc_instance.specs.Project.{Project, activity_count}
use Rattle.rcpsp_run.specs.declared.answer.LiveLines.{LiveLines}
use Rattle.rcpsp_run.specs.Answer.{Answer}
use Rattle.rcpsp_run.specs.Steps.List.{order_names}
use Rattle.rcpsp_run.specs.Commands.Schedule.{calendar_names, schedule_told}
use Rattle.rcpsp_run.specs.Live.{lines_for, TakesLive}
use Rattle.rcpsp_run.specs.Sinks.{SinkAt}
use Rattle.rcpsp_run.proofs.LiveLaws.{notes-early, notes-passed, notes-late, asked-lines}
use Rattle.rcpsp_run.proofs.commands.schedule.schedule_answer.Goals as goal

pub numbers_in-requires-clause-each : goal.numbers_in-requires-clause-each
numbers_in-requires-clause-each g c =
    let command = c.args.command.now in
    let split = length-append (order_names command.order) (calendar_names command.calendar) in
    omega (arith, c.requires.each, split)

pub returns-in_err-instance-clause-noted : goal.returns-in_err-instance-clause-noted
returns-in_err-instance-clause-noted g c =
    notes-early _ _ _ _ _ _ c.from_residual.ensures.0 refl c.requires.well

pub returns-in_err-numbers-clause-noted : goal.returns-in_err-numbers-clause-noted
returns-in_err-numbers-clause-noted g c =
    notes-early _ _ _ _ _ _ c.from_residual-in_err-numbers.ensures.0 refl c.requires.well

pub returns-in_err-instance-2-clause-noted : goal.returns-in_err-instance-2-clause-noted
returns-in_err-instance-2-clause-noted g c =
    notes-early _ _ _ _ _ _ c.from_residual-in_err-instance-2.ensures.0 refl c.requires.well

pub returns-in_err-net-clause-noted : goal.returns-in_err-net-clause-noted
returns-in_err-net-clause-noted g c =
    notes-early _ _ _ _ _ _ c.from_residual-in_err-net.ensures.0 refl c.requires.well

pub returns-in_err-schedule-clause-noted : goal.returns-in_err-schedule-clause-noted
returns-in_err-schedule-clause-noted g c =
    notes-passed _ _ _ _ _ _ c.in_err-schedule.field-0.0 _
    c.from_residual-in_err-schedule.ensures.1 c.in_err-schedule.ensures.noted

pub returns-in_err-answer-clause-noted : goal.returns-in_err-answer-clause-noted
returns-in_err-answer-clause-noted g c =
    let positions = activity_count c.in_ok-net.net.project in
    let live = c.args.command.now.live in
    notes-late _ _ (lines_for live positions) _ _ _ _
    c.from_residual-in_err-answer.ensures.1 (asked-lines live positions)
    c.in_ok-schedule.ensures.noted.told

pub returns-clause-noted : goal.returns-clause-noted
returns-clause-noted g c =
    let asked = c.args.command.now.live in
    let before : SinkAt = record {
      held = g.N.Sink.held c.args.note.now;
      faults = g.N.Sink.faults c.args.note.now;
      failing = g.N.Sink.failing c.args.note.now;
      room = g.N.Sink.room c.args.note.now;
    } in
    let after : SinkAt = record {
      held = g.N.Sink.held c.schedule_of.new.note;
      faults = g.N.Sink.faults c.schedule_of.new.note;
      failing = g.N.Sink.failing c.schedule_of.new.note;
      room = g.N.Sink.room c.schedule_of.new.note;
    } in
    let lines = ap (λ (a : Answer). a.live) c.in_ok-answer.ensures
    ∙ ap (λ (p : Project). lines_for asked (activity_count p)) c.instance-2.ensures.value in
    record {
      told =
          subst (λ (l : Option LiveLines). TakesLive l before after c.schedule_of.new.failed)
          (sym lines) c.in_ok-schedule.ensures.noted.told;
      refused = tt;
    }

pub returns-clause-printed : goal.returns-clause-printed
returns-clause-printed g c =
    let starts = c.in_ok-schedule.schedule in
    record {
      project = c.in_ok-net.net.project;
      starts = starts;
      feasible = c.in_ok-schedule.ensures.feasible;
      shown =
          c.in_ok-answer.ensures
          ∙ ap (λ (p : Project). schedule_told c.args.command.now p starts) c.instance-2.ensures.value;
    }
