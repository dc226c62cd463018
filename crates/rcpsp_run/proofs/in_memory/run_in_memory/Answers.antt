use Rattle.std.proofs.Common.{◌≡◌, ◌⊎◌, ◌<◌, [], length, map, string_bytes, Some, IsSome, refl, sym, subst, ap, ◌∙◌, arith}
use Rattle.rc_edge.specs.Files.{pairs_of, file_of}
use Rattle.rc_edge.specs.MemFiles.{contents_of, failing_of, refused_of}
use Rattle.rc_edge.specs.MemSink.{bytes_of, room_of, failing_of as failing_puts}
use Rattle.rcpsp_run.specs.declared.status.Status.TheVariants.{Memory as OutOfMemory}
use Rattle.rcpsp_run.specs.Answer.{Answer, ending}
use Rattle.rcpsp_run.specs.Live.{HasRoomFor}
use Rattle.rcpsp_run.specs.Outcome.{outcome}
use Rattle.rcpsp_run.proofs.MemoryLaws.{if_ok, calm-in_memory, ends-in_memory}
use Rattle.rcpsp_run.proofs.RoomLaws.{some_same}
use Rattle.rcpsp_run.proofs.in_memory.run_in_memory.Goals as goal

pub returns : goal.returns
returns g c =
    let words = map string_bytes c.args.words.now in
    let pairs = pairs_of c.args.files.items in
    let before = c.new-files.result in
    let after = c.run.new.files in
    let out = c.run.new.out in
    let stand = c.run.ensures.promises.stand in
    let told : contents_of after ≡ contents_of before =
    some_same (contents_of after) (contents_of before) stand.told in
    let unfailing : failing_of after ≡ [] =
    some_same (failing_of after) (failing_of before) stand.failing
    ∙ (c.new-files.ensures.failing ∙ c.new.ensures.items) in
    let none : refused_of after ≡ 0 = after.clean (after.failing.ok.0 ∙ ap length unfailing) in
    let steady : failing_puts out ≡ [] =
    some_same (failing_puts out) (failing_puts c.in_ok-out.out) stand.out_failing
    ∙ (c.in_ok-out.ensures.failing ∙ c.new-2.ensures.items) in
    let room : room_of out ≡ c.args.room =
    some_same (room_of out) (room_of c.in_ok-out.out) stand.out_room ∙ c.in_ok-out.ensures.room in
    let empty : bytes_of c.in_ok-out.out ≡ [] = c.in_ok-out.ensures.untouched.bytes in
    let note = c.run.new.note in
    let steady_note : failing_puts note ≡ [] =
    some_same (failing_puts note) (failing_puts c.in_ok-note.note) stand.note_failing
    ∙ (c.in_ok-note.ensures.failing ∙ c.new-4.ensures.items) in
    let note_room : room_of note ≡ 30000 =
    some_same (room_of note) (room_of c.in_ok-note.note) stand.note_room ∙ c.in_ok-note.ensures.room in
    if_ok (outcome words pairs)
    (λ (answer : Answer). length answer.text < c.args.room → HasRoomFor answer.live 30000
    → (c.run.result ≡ ending answer) ⊎ (c.run.result ≡ OutOfMemory))
    (λ answer is fits fits_note. ends-in_memory words pairs _ _ c.run.result c.run.ensures.promises
    answer (bytes_of c.in_ok-out.out) (bytes_of out) (bytes_of note) c.args.room 30000
    (ap Some c.new-files.ensures.contents) refl refl
    (ap Some c.in_ok-note.ensures.untouched.bytes) refl
    (λ name there. calm-in_memory before after name told none
    (subst (λ ps. IsSome (file_of ps name)) (sym c.new-files.ensures.contents) there))
    (λ some. sym out.bytes.ok.0
    ∙ (out.clean (out.failing.ok.0 ∙ ap length steady) some ∙ room))
    (λ some. sym note.bytes.ok.0
    ∙ (note.clean (note.failing.ok.0 ∙ ap length steady_note) some ∙ note_room))
    is (omega (arith, fits, ap length empty)) fits_note)
