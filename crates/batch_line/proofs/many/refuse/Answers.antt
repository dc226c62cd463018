use Rattle.std.proofs.Common.{inl, subst, ◌∙◌}
use Rattle.rcpsp_run.specs.Sinks.{SinkAt, Tells}
use Rattle.batch_line.proofs.many.refuse.Goals as goal

pub returns-in-Ok-clause-said : goal.returns-in-Ok-clause-said
returns-in-Ok-clause-said g c =
    let before : SinkAt = record {
      held = g.N.Sink.held c.args.note.now;
      faults = g.N.Sink.faults c.args.note.now;
      failing = g.N.Sink.failing c.args.note.now;
      room = g.N.Sink.room c.args.note.now;
    } in
    let after : SinkAt = record {
      held = g.N.Sink.held c.tell.new.note;
      faults = g.N.Sink.faults c.tell.new.note;
      failing = g.N.Sink.failing c.tell.new.note;
      room = g.N.Sink.room c.tell.new.note;
    } in
    let line = c.as_bytes.ensures.value ∙ c.in-Ok.ensures.ok in
    inl (c.status.ensures, subst (Tells before after) line c.tell.ensures.tells)
