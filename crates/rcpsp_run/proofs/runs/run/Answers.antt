use Rattle.std.proofs.Common.{◌≡◌, refl, map, string_bytes, ◌∙◌}
use Rattle.rcpsp_run.specs.Answer.{answer_view}
use Rattle.rcpsp_run.specs.Run.{Ends, EndsStand}
use Rattle.rcpsp_run.specs.Sinks.{SinkAt}
use Rattle.rcpsp_run.proofs.EndLaws.{promises-written, unwritten-any, unwritten-written}
use Rattle.rcpsp_run.proofs.RefusedLaws.{promises-refused}
use Rattle.rcpsp_run.proofs.runs.run.Goals as goal

pub returns-in-Ok-clause-promises : goal.returns-in-Ok-clause-promises
returns-in-Ok-clause-promises g c =
    let words = map string_bytes c.args.words.now in
    let comes = c.in-Ok.ensures.comes in
    let before : Ends = record {
      files = record {
        told = g.F.Files.told c.args.files.now;
        failing = g.F.Files.failing c.args.files.now;
        faults = g.F.Files.faults c.args.files.now;
        long = g.F.Files.long c.args.files.now;
        fetches = g.F.Files.fetches c.args.files.now;
      };
      out = record {
        held = g.O.Sink.held c.args.out.now;
        faults = g.O.Sink.faults c.args.out.now;
        failing = g.O.Sink.failing c.args.out.now;
        room = g.O.Sink.room c.args.out.now;
      };
      note = record {
        held = g.N.Sink.held c.args.note.now;
        faults = g.N.Sink.faults c.args.note.now;
        failing = g.N.Sink.failing c.args.note.now;
        room = g.N.Sink.room c.args.note.now;
      };
    } in
    let mid : SinkAt = record {
      held = g.N.Sink.held c.decide.new.note;
      faults = g.N.Sink.faults c.decide.new.note;
      failing = g.N.Sink.failing c.decide.new.note;
      room = g.N.Sink.room c.decide.new.note;
    } in
    let after : Ends = record {
      files = record {
        told = g.F.Files.told c.decide.new.files;
        failing = g.F.Files.failing c.decide.new.files;
        faults = g.F.Files.faults c.decide.new.files;
        long = g.F.Files.long c.decide.new.files;
        fetches = g.F.Files.fetches c.decide.new.files;
      };
      out = record {
        held = g.O.Sink.held c.write.new.out;
        faults = g.O.Sink.faults c.write.new.out;
        failing = g.O.Sink.failing c.write.new.out;
        room = g.O.Sink.room c.write.new.out;
      };
      note = record {
        held = g.N.Sink.held c.write.new.note;
        faults = g.N.Sink.faults c.write.new.note;
        failing = g.N.Sink.failing c.write.new.note;
        room = g.N.Sink.room c.write.new.note;
      };
    } in
    let stands : EndsStand before after = record {
      told = comes.told;
      failing = comes.failing;
      out_failing = c.write.ensures.out_failing;
      out_room = c.write.ensures.out_room;
      note_failing = c.write.ensures.failing ∙ c.decide.ensures.failing;
      note_room = c.write.ensures.room ∙ c.decide.ensures.room;
    } in
    promises-written words before after (answer_view c.in-Ok.answer) comes.stand comes.all comes.gives
    c.in-Ok.ensures.printed stands mid c.decide.new.failed c.write.result c.in-Ok.ensures.noted.told
    c.write.ensures.written

pub returns-in-Err-clause-promises : goal.returns-in-Err-clause-promises
returns-in-Err-clause-promises g c =
    let words = map string_bytes c.args.words.now in
    let refusal = c.in-Err.refusal in
    let comes = c.in-Err.ensures.comes in
    let before : Ends = record {
      files = record {
        told = g.F.Files.told c.args.files.now;
        failing = g.F.Files.failing c.args.files.now;
        faults = g.F.Files.faults c.args.files.now;
        long = g.F.Files.long c.args.files.now;
        fetches = g.F.Files.fetches c.args.files.now;
      };
      out = record {
        held = g.O.Sink.held c.args.out.now;
        faults = g.O.Sink.faults c.args.out.now;
        failing = g.O.Sink.failing c.args.out.now;
        room = g.O.Sink.room c.args.out.now;
      };
      note = record {
        held = g.N.Sink.held c.args.note.now;
        faults = g.N.Sink.faults c.args.note.now;
        failing = g.N.Sink.failing c.args.note.now;
        room = g.N.Sink.room c.args.note.now;
      };
    } in
    let mid : SinkAt = record {
      held = g.N.Sink.held c.decide.new.note;
      faults = g.N.Sink.faults c.decide.new.note;
      failing = g.N.Sink.failing c.decide.new.note;
      room = g.N.Sink.room c.decide.new.note;
    } in
    let after : Ends = record {
      files = record {
        told = g.F.Files.told c.decide.new.files;
        failing = g.F.Files.failing c.decide.new.files;
        faults = g.F.Files.faults c.decide.new.files;
        long = g.F.Files.long c.decide.new.files;
        fetches = g.F.Files.fetches c.decide.new.files;
      };
      out = before.out;
      note = record {
        held = g.N.Sink.held c.refuse.new.note;
        faults = g.N.Sink.faults c.refuse.new.note;
        failing = g.N.Sink.failing c.refuse.new.note;
        room = g.N.Sink.room c.refuse.new.note;
      };
    } in
    let stands : EndsStand before after = record {
      told = comes.told;
      failing = comes.failing;
      out_failing = refl;
      out_room = refl;
      note_failing = c.refuse.ensures.failing ∙ c.decide.ensures.failing;
      note_room = c.refuse.ensures.room ∙ c.decide.ensures.room;
    } in
    promises-refused _ words before after mid c.decide.new.failed c.refuse.result refusal comes.cause
    comes.most c.in-Err.ensures.words comes.gives c.in-Err.ensures.noted.refused
    c.refuse.ensures.said refl stands

pub returns-in-Ok-clause-unwritten : goal.returns-in-Ok-clause-unwritten
returns-in-Ok-clause-unwritten g c =
    unwritten-written (c.write.new.out ≡ c.args.out.now) (answer_view c.in-Ok.answer)
    c.decide.new.failed _ _ _ _ c.write.result c.write.ensures.written

pub returns-in-Err-clause-unwritten : goal.returns-in-Err-clause-unwritten
returns-in-Err-clause-unwritten g c =
    unwritten-any (c.args.out.now ≡ c.args.out.now) c.refuse.result refl
