use Rattle.std.proofs.Common.{refl, map, string_bytes}
use Rattle.rcpsp_words.specs.Many.{many_of}
use Rattle.rcpsp_run.specs.Run.{Ends, EndsStand}
use Rattle.batch_line.specs.declared.joined.Joined.{Joined as Made}
use Rattle.batch_line.specs.Runs.{joined_view}
use Rattle.batch_line.proofs.WrittenLaws.{promises_written}
use Rattle.batch_line.proofs.RefusedLaws.{promises_refused, refuses_some}
use Rattle.batch_line.proofs.many.run_many.Goals as goal

pub returns-in-Ok-clause-promises : goal.returns-in-Ok-clause-promises
returns-in-Ok-clause-promises g c =
    let words = map string_bytes c.args.words.now in
    let comes = c.in-Ok.ensures.comes in
    let before : Ends = record {
      files = record {
        told = g.F.Files.told c.args.files.now;
        failing = g.F.Files.failing c.args.files.now;
        faults = g.F.Files.faults c.args.files.now;
        long = g.F.Files.long c.args.files.now;
        fetches = g.F.Files.fetches c.args.files.now;
      };
      out = record {
        held = g.O.Sink.held c.args.out.now;
        faults = g.O.Sink.faults c.args.out.now;
        failing = g.O.Sink.failing c.args.out.now;
        room = g.O.Sink.room c.args.out.now;
      };
      note = record {
        held = g.N.Sink.held c.args.note.now;
        faults = g.N.Sink.faults c.args.note.now;
        failing = g.N.Sink.failing c.args.note.now;
        room = g.N.Sink.room c.args.note.now;
      };
    } in
    let after : Ends = record {
      files = record {
        told = g.F.Files.told c.decide.new.files;
        failing = g.F.Files.failing c.decide.new.files;
        faults = g.F.Files.faults c.decide.new.files;
        long = g.F.Files.long c.decide.new.files;
        fetches = g.F.Files.fetches c.decide.new.files;
      };
      out = record {
        held = g.O.Sink.held c.write.new.out;
        faults = g.O.Sink.faults c.write.new.out;
        failing = g.O.Sink.failing c.write.new.out;
        room = g.O.Sink.room c.write.new.out;
      };
      note = record {
        held = g.N.Sink.held c.write.new.note;
        faults = g.N.Sink.faults c.write.new.note;
        failing = g.N.Sink.failing c.write.new.note;
        room = g.N.Sink.room c.write.new.note;
      };
    } in
    let stands : EndsStand before after = record {
      told = comes.told;
      failing = comes.failing;
      out_failing = c.write.ensures.out_failing;
      out_room = c.write.ensures.out_room;
      note_failing = c.write.ensures.failing;
      note_room = c.write.ensures.room;
    } in
    let some = refuses_some (many_of words) c.in-Ok.joined c.in-Ok.ensures.refused in
    promises_written words before after (joined_view c.in-Ok.joined) c.in-Ok.ensures.ends
    comes.stand comes.all comes.gives some stands c.write.result c.write.ensures.written

pub returns-in-Err-clause-promises : goal.returns-in-Err-clause-promises
returns-in-Err-clause-promises g c =
    let words = map string_bytes c.args.words.now in
    let comes = c.in-Err.ensures.comes in
    let before : Ends = record {
      files = record {
        told = g.F.Files.told c.args.files.now;
        failing = g.F.Files.failing c.args.files.now;
        faults = g.F.Files.faults c.args.files.now;
        long = g.F.Files.long c.args.files.now;
        fetches = g.F.Files.fetches c.args.files.now;
      };
      out = record {
        held = g.O.Sink.held c.args.out.now;
        faults = g.O.Sink.faults c.args.out.now;
        failing = g.O.Sink.failing c.args.out.now;
        room = g.O.Sink.room c.args.out.now;
      };
      note = record {
        held = g.N.Sink.held c.args.note.now;
        faults = g.N.Sink.faults c.args.note.now;
        failing = g.N.Sink.failing c.args.note.now;
        room = g.N.Sink.room c.args.note.now;
      };
    } in
    let after : Ends = record {
      files = record {
        told = g.F.Files.told c.decide.new.files;
        failing = g.F.Files.failing c.decide.new.files;
        faults = g.F.Files.faults c.decide.new.files;
        long = g.F.Files.long c.decide.new.files;
        fetches = g.F.Files.fetches c.decide.new.files;
      };
      out = before.out;
      note = record {
        held = g.N.Sink.held c.refuse.new.note;
        faults = g.N.Sink.faults c.refuse.new.note;
        failing = g.N.Sink.failing c.refuse.new.note;
        room = g.N.Sink.room c.refuse.new.note;
      };
    } in
    let stands : EndsStand before after = record {
      told = comes.told;
      failing = comes.failing;
      out_failing = refl;
      out_room = refl;
      note_failing = c.refuse.ensures.failing;
      note_room = c.refuse.ensures.room;
    } in
    promises_refused words before after refl stands comes.most Made c.in-Err.refusal c.refuse.result
    comes.cause c.in-Err.ensures.refused comes.gives c.refuse.ensures.said
