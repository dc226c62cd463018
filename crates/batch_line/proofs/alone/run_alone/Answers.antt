use Rattle.std.proofs.Common.{ℕ, ◌+◌, List, [], ◌∷◌, map, string_bytes, length, Option, Some, unwrap_or, refl, ap, sym, ◌∙◌, subst, arith}
use Rattle.rc_edge.specs.MemSink.{bytes_of}
use Rattle.batch_line.specs.Batch.{IsEnding}
use Rattle.batch_line.proofs.AloneCases.{alone_ends}
use Rattle.batch_line.proofs.AloneLaws.{is_alone}
use Rattle.batch_line.proofs.QuietLaws.{files_quiet, sink_quiet}
use Rattle.batch_line.proofs.RoomLaws.{alone_room}
use Rattle.batch_line.proofs.alone.run_alone.Goals as goal

pub returns-clause-came : goal.returns-clause-came
returns-clause-came g c =
    let run = c.run-status.ensures.promises in
    let name = c.args.name.now in
    let bytes = c.args.bytes.now in
    let stand = run.stand in
    let list = λ (o : Option (List ℕ)). unwrap_or o [] in
    let number = λ (o : Option ℕ). unwrap_or o 0 in
    let pairs = λ (o : Option (List (List ℕ × List ℕ))). unwrap_or o [] in
    let told = ap pairs stand.told ∙ c.in_ok-files.ensures.file in
    let none = ap list stand.failing ∙ c.in_ok-files.ensures.failing in
    let out_none = ap list stand.out_failing ∙ c.in_ok-out.ensures.failing in
    let note_none = ap list stand.note_failing ∙ c.in_ok-note.ensures.failing in
    let out_room = ap number stand.out_room ∙ c.in_ok-out.ensures.room in
    let note_room = ap number stand.note_room ∙ c.in_ok-note.ensures.room in
    let room = alone_room name bytes 65536 (length name + 16384) c.requires.plain c.requires.short
    (omega arith) (omega arith) in
    let is = is_alone name ((name, bytes) ∷ []) (bytes_of c.run-status.new.out) (bytes_of c.run-status.new.note)
    65536 (length name + 16384) run
    (ap (map string_bytes) c.deref.ensures.value ∙ c.in_ok-words.ensures)
    (ap (λ (x : List (List ℕ × List ℕ)). Some x) c.in_ok-files.ensures.file)
    (files_quiet c.run-status.new.files name bytes _ told none)
    (sink_quiet c.run-status.new.out _ _ out_none out_room)
    (sink_quiet c.run-status.new.note _ _ note_none note_room)
    room
    (ap (λ (x : List ℕ). Some x) c.in_ok-out.ensures.empty) refl
    (ap (λ (x : List ℕ). Some x) c.in_ok-note.ensures.empty) refl c.in_default.not-Memory in
    record {
      status = is.0;
      text = c.in_ok-text.ensures ∙ is.1;
      line = c.in_ok-line.ensures ∙ is.2;
    }

pub returns-clause-ends : goal.returns-clause-ends
returns-clause-ends g c =
    let came = returns-clause-came g c in
    subst IsEnding (sym came.status)
    (alone_ends c.args.name.now c.args.bytes.now c.requires.plain c.requires.short)
