-- A run over files and an output in memory, where nothing is to fail, ends as the definition says.
use Rattle.std.proofs.Common.{◌≡◌, ◌⊎◌, inl, inr, ℕ, ◌+◌, ◌<◌, ◌≤◌, List, [], ◌∷◌, length, All, arith, min, is_some, ◌-◌, ◌^◌, if◌then◌else◌}
use Rattle.std.proofs.Common.{Option, None, Some, IfSome, IsSome, Result, Ok, Err, IfOk, IsOkAnd, refl, subst}
use Rattle.std.specs.Option.{option_map}
use Rattle.std.proofs.lemmas.List.Elements.{All-nil, All-cons, All-weaker}
use Rattle.rc_instance.specs.Results.{◌>>=◌}
use Rattle.rc_edge.specs.Faults.{Rose}
use Rattle.rc_edge.specs.Files.{file_of}
use Rattle.rc_edge.specs.MemFiles.{contents_of, refused_of, absent_of, faults_of}
use Rattle.rc_edge.specs.declared.mem_files.MemFiles.{MemFiles}
use Rattle.rcpsp_words.specs.declared.words.Options.{Options}
use Rattle.rcpsp_words.specs.Words.{options_of}
use Rattle.rcpsp_run.specs.declared.answer.LiveLines.{LiveLines}
use Rattle.rcpsp_run.specs.declared.status.Status.{Status}
use Rattle.rcpsp_run.specs.declared.status.Status.TheVariants.{WriteFault, Memory}
use Rattle.rcpsp_run.specs.declared.refusal.Refusal.{Refusal}
use Rattle.rcpsp_run.specs.Answer.{Answer, ending}
use Rattle.rcpsp_run.specs.Commands.{command_names, answer_of}
use Rattle.rcpsp_run.specs.Live.{asked_by, HasRoomFor}
use Rattle.rcpsp_run.specs.Outcome.{contents, within_limit, names_of, options_outcome, outcome}
use Rattle.rcpsp_run.specs.Run.{Ends, AreCalm, Agrees, AreOutcomes, GainsPart, IsCaused, LiveRose, NoteGains, OutputGains, Promises}
use Rattle.rcpsp_run.proofs.RoomLaws.{gained-few, room-keeps}

-- there is a file of each name
abbrev AreThere : List (List ℕ × List ℕ) → List (List ℕ) → Type 0
AreThere pairs names = All (λ name. IsSome (file_of pairs name)) names

-- what is done with a value that there is
value_of : {A B : Type 0} (given : Result A Refusal) (f : A → Result B Refusal) (b : B)
    → (given >>= f) ≡ Ok b → (a : A) × (given ≡ Ok a) × (f a ≡ Ok b)
value_of (Ok a) f b is = (a, refl, is)
value_of (Err refusal) f b is = absurd cc

-- contents come of files that are there
contents-there : (pairs : List (List ℕ × List ℕ)) (names texts : List (List ℕ))
    → contents pairs names ≡ Ok texts → AreThere pairs names
unfolding contents
contents-there pairs [] texts are = All-nil (λ name. IsSome (file_of pairs name))
contents-there pairs (name ∷ names) texts are =
    let one = value_of (within_limit name (file_of pairs name))
    (λ text. contents pairs names >>= (λ texts. Ok (text ∷ texts))) texts are in
    let others = value_of (contents pairs names) (λ texts. Ok (one.0 ∷ texts)) texts one.2 in
    All-cons (λ name. IsSome (file_of pairs name)) name names
    (is_there (file_of pairs name) one.0 one.1)
    (contents-there pairs names others.0 others.1)
  where
    is_there : (file : Option (List ℕ)) (text : List ℕ) → within_limit name file ≡ Ok text
        → IsSome file
    is_there None text is = absurd cc
    is_there (Some bytes) text is = refl

-- where there is an outcome, so are the files that the words name
names-there : (pairs : List (List ℕ × List ℕ)) (options : Option Options) (answer : Answer)
    → options_outcome pairs options ≡ Ok answer → AreThere pairs (names_of options)
names-there pairs None answer is = absurd cc
names-there pairs (Some options) answer is =
    let given = value_of (contents pairs (command_names options.command))
    (answer_of options.command) answer is in
    contents-there pairs (command_names options.command) given.0 given.1

-- what each value has, a result has where it has a value
pub if_ok : {X E : Type 0} (result : Result X E) (P : X → Type 0) → ((x : X) → result ≡ Ok x → P x)
    → IfOk result P
if_ok (Ok x) P each = each x refl
if_ok (Err fault) P each = tt

-- over files in memory of which no fetch failed by its number, no count of a name that is there
-- rises
pub calm-in_memory : (before after : MemFiles) (name : List ℕ)
    → contents_of after ≡ contents_of before
    → refused_of after ≡ 0 → IsSome (file_of (contents_of before) name)
    → Rose (faults_of before name) (faults_of after name) → ⊥
calm-in_memory before after name same none there rose =
    let P : List (List ℕ × List ℕ) → Type 0 =
    λ pairs. min
    ((if is_some (file_of (contents_of before) name) then refused_of before
    else min (refused_of before + absent_of before) (2 ^ 64 - 1)) + 1) (2 ^ 64 - 1)
    ≤ (if is_some (file_of pairs name) then refused_of after
    else min (refused_of after + absent_of after) (2 ^ 64 - 1)) in
    let risen = rw there at (subst P same rose) in
    absurd (omega (arith, risen, none))

-- the status is that of the outcome, unless memory ran out or the output could not be written
by_status : (status : Status) (answer : Answer) → Agrees (Ok answer) status
    → (status ≡ WriteFault → ⊥)
    → (status ≡ ending answer) ⊎ (status ≡ Memory)
by_status Memory answer agrees written = inr refl
by_status WriteFault answer agrees written = absurd (written refl)
by_status status answer agrees written = inl agrees

-- the names that words give, and how often they ask to be told
abbrev named : List (List ℕ) → List (List ℕ)
named words = names_of (options_of words)

abbrev asked : List (List ℕ) → Option ℕ
asked words = asked_by (options_of words)

-- an output with room for the text is written, and so is a note with room for its lines
pub ends-in_memory : (words : List (List ℕ)) (pairs : List (List ℕ × List ℕ)) (before after : Ends)
    (status : Status) → Promises words before after status
    → (answer : Answer) (held held' noted' : List ℕ) (room note_room : ℕ)
    → before.files.told ≡ Some pairs → before.out.held ≡ Some held → after.out.held ≡ Some held'
    → before.note.held ≡ Some [] → after.note.held ≡ Some noted'
    → ((name : List ℕ) → IsSome (file_of pairs name)
    → Rose (before.files.faults name) (after.files.faults name) → ⊥)
    → (0 < after.out.faults → length held' ≡ room)
    → (0 < after.note.faults → length noted' ≡ note_room)
    → outcome words pairs ≡ Ok answer → length held + length answer.text < room
    → HasRoomFor answer.live note_room
    → (status ≡ ending answer) ⊎ (status ≡ Memory)
ends-in_memory words pairs before after status promises answer held held' noted' room note_room told
    old new old_note new_note calm full full_note is fits fits_note =
    by_status status answer (subst (λ given. Agrees given status) is (agrees are_calm)) is_written
  where
    are_calm : AreCalm (named words) before.files after.files
    are_calm = All-weaker (λ name. IsSome (file_of pairs name))
        (λ name. Rose (before.files.faults name) (after.files.faults name) → ⊥) calm
        (named words) (names-there pairs (options_of words) answer is)

    agrees : AreCalm (named words) before.files after.files → Agrees (outcome words pairs) status
    agrees = subst (λ t. IfSome t
        (λ pairs. AreCalm (named words) before.files after.files → Agrees (outcome words pairs)
        status)) told promises.agrees

    -- the output had no room left
    out_full : OutputGains (option_map (outcome words) before.files.told) before.out after.out
        WriteFault → Rose before.out.faults after.out.faults → ⊥
    out_full output rose =
        let given =
        subst (λ t. OutputGains (option_map (outcome words) t) before.out after.out WriteFault)
        told output in
        let part =
        subst (λ r. IsOkAnd r
        (λ answer. GainsPart before.out after.out answer.text)) is given in
        let few = gained-few before.out.held after.out.held held held' answer.text old new part.part in
        absurd (omega (arith, few, full (omega (arith, rose)), fits))

    -- nor had the note
    note_full : NoteGains (named words) (asked words) (option_map (outcome words) before.files.told)
        before after WriteFault → LiveRose (asked words) before.note after.note → ⊥
    note_full notes rose =
        let outcomes = subst (λ t. AreOutcomes (option_map (outcome words) t) notes.0) told notes.2 in
        let same : answer.live ≡ notes.0 =
        subst (λ r. IsOkAnd r (λ answer. answer.live ≡ notes.0)) is outcomes in
        room-keeps (asked words) notes.0 before.note after.note noted' note_room rose notes.1
        (subst (λ (l : Option LiveLines). HasRoomFor l note_room) same fits_note) notes.3 old_note
        new_note full_note

    is_written : status ≡ WriteFault → ⊥
    is_written fails =
        let caused = subst (IsCaused (named words) (asked words) before after) fails
        promises.causes in
        let output =
        subst (OutputGains (option_map (outcome words) before.files.told) before.out after.out)
        fails promises.output in
        let notes =
        subst (NoteGains (named words) (asked words) (option_map (outcome words) before.files.told)
        before after) fails promises.notes in
        elim caused.1 [
          | inl rose ↦ out_full output rose
          | inr live ↦ note_full notes live
        ]
