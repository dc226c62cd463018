-- What the run of one file over its own sinks leaves as it was.
use Rattle.std.proofs.Common.{◌≡◌, ◌≢◌, ℕ, ◌+◌, ◌-◌, ◌<◌, ◌≤◌, ◌^◌, List, [], ◌∷◌, length, vec_len, take, min, true, false, Option, None, Some, IfSome, unwrap_or, is_some, Result, Err, All, refl, sym, ap, ◌∙◌, subst, arith}
use Rattle.std.specs.Prelude.{if◌then◌else◌}
use Rattle.std.specs.Str.{bytes_eq}
use Rattle.std.proofs.lemmas.List.{length-take}
use Rattle.std.proofs.lemmas.List.Elements.{All-nil, All-cons, All-weaker}
use Rattle.std.proofs.lemmas.Slice.Eq.{bytes_eq-Decides}
use Rattle.rc_edge.specs.Faults.{Rose}
use Rattle.rc_edge.specs.Files.{file_of}
use Rattle.rc_edge.specs.Sink.{Gains, GainsPrefix}
use Rattle.rc_edge.specs.MemFiles.{contents_of, refused_of, absent_of}
use Rattle.rc_edge.specs.MemFiles as files
use Rattle.rc_edge.specs.MemSink.{bytes_of, room_of}
use Rattle.rc_edge.specs.MemSink as sinks
use Rattle.rc_edge.specs.declared.mem_files.MemFiles.{MemFiles}
use Rattle.rc_edge.specs.declared.mem_sink.MemSink.{MemSink}
use Rattle.rcpsp_words.specs.declared.words.Options.{Options}
use Rattle.rcpsp_words.specs.Words.{options_of}
use Rattle.rcpsp_words.specs.Many.{plain_words, IsPlain}
use Rattle.rcpsp_words.proofs.PlainLaws.{plain_words_say}
use Rattle.rcpsp_run.specs.declared.status.Status.{Status}
use Rattle.rcpsp_run.specs.declared.status.Status.TheVariants as statuses
use Rattle.rcpsp_run.specs.declared.refusal.Refusal.{Refusal}
use Rattle.rcpsp_run.specs.declared.refusal.Refusal.TheVariants.{Words, CannotRead, TooLarge, BadText, BadPlan, Cycle, BadList, Misfit, Memory}
use Rattle.rcpsp_run.specs.Answer.{Answer}
use Rattle.rcpsp_run.specs.Refusal.{status_of}
use Rattle.rcpsp_run.specs.Causes.{FilesAt, HasCause, Explains}
use Rattle.rcpsp_run.specs.Commands.{command_names}
use Rattle.rcpsp_run.specs.Live.{live_asked, asked_by, AreAsked, TakesLive}
use Rattle.rcpsp_run.specs.Outcome.{names_of}
use Rattle.rcpsp_run.specs.Run.{AreCalm}
use Rattle.rcpsp_run.specs.Sinks.{SinkAt}
use Rattle.rcpsp_run.proofs.RunLaws.{not_refused}

-- no file but the one is named
names_said : (name : List ℕ) (said : Option Options) → IfSome said (IsPlain name)
    → All (λ given. given ≡ name) (names_of said)
names_said name None plain = All-nil (λ given. given ≡ name)
names_said name (Some options) plain =
    subst (λ (o : Options). All (λ given. given ≡ name) (command_names o.command)) (sym plain.1)
    (All-cons (λ given. given ≡ name) name [] refl (All-nil (λ given. given ≡ name)))

pub only_name : (name : List ℕ)
    → All (λ given. given ≡ name) (names_of (options_of (plain_words name)))
only_name name = names_said name (options_of (plain_words name)) (plain_words_say name)

-- no lines are asked for that tell how far the workers have come
asked_said : (name : List ℕ) (said : Option Options) → IfSome said (IsPlain name)
    → asked_by said ≡ None
asked_said name None plain = refl
asked_said name (Some options) plain = ap (λ (o : Options). live_asked o.command) plain.1

pub none_asked : (name : List ℕ) → asked_by (options_of (plain_words name)) ≡ None
none_asked name = asked_said name (options_of (plain_words name)) (plain_words_say name)

-- so the note stands where the run was done
pub quiet_lines : (asked : Option ℕ) (lines : Option _) (before after : SinkAt)
    → asked ≡ None → AreAsked asked lines → TakesLive lines before after false → after ≡ before
quiet_lines asked None before after none same takes = takes.0
quiet_lines asked (Some lines) before after none same takes =
    let wrong = same ∙ none in
    absurd cc

-- so where its count did not rise, none did
pub calm : (name : List ℕ) (before after : FilesAt)
    → (Rose (before.faults name) (after.faults name) → ⊥)
    → AreCalm (names_of (options_of (plain_words name))) before after
calm name before after quiet =
    let IsQuiet : List ℕ → Type 0 = λ n. Rose (before.faults n) (after.faults n) → ⊥ in
    All-weaker (λ given. given ≡ name) IsQuiet (λ given same. subst IsQuiet (sym same) quiet)
    (names_of (options_of (plain_words name))) (only_name name)

-- files that fail at no call have no fault at a name that is there
pub files_quiet : (f : MemFiles) (name bytes : List ℕ) (before : ℕ)
    → contents_of f ≡ (name, bytes) ∷ [] → files.failing_of f ≡ []
    → Rose before (files.faults_of f name) → ⊥
files_quiet f name bytes before contents none rose =
    let same : bytes_eq name name ≡ true = (bytes_eq-Decides name name).1 refl in
    let clean : refused_of f ≡ 0 = f.clean (f.failing.ok.0 ∙ ap length none) in
    let count : files.faults_of f name ≡ refused_of f =
    ap (λ (pairs : List (List ℕ × List ℕ)). if is_some (file_of pairs name) then refused_of f
    else min (refused_of f + absent_of f) (2 ^ 64 - 1)) contents
    ∙ rw same refl in
    omega arith

-- nor has a sink with room left
pub sink_quiet : (s : MemSink) (before room : ℕ) → sinks.failing_of s ≡ [] → room_of s ≡ room
    → length (bytes_of s) < room → Rose before (sinks.faults_of s) → ⊥
sink_quiet s before room none is left rose =
    let some : 0 < sinks.faults_of s = omega arith in
    let full : vec_len s.bytes ≡ room_of s = s.clean (s.failing.ok.0 ∙ ap length none) some in
    let size = s.bytes.ok.0 in
    omega arith

-- what a sink gained that had nothing
pub gained : (before after : Option (List ℕ)) (bytes held : List ℕ) → before ≡ Some []
    → after ≡ Some held → Gains before after bytes → held ≡ bytes
gained before after bytes held empty now gains =
    let all : after ≡ Some bytes =
    subst (λ (b : Option (List ℕ)). Gains b after bytes) empty gains in
    ap (λ (b : Option (List ℕ)). unwrap_or b []) (sym now ∙ all)

-- what it has where it gained nothing
pub unchanged : (before after : Option (List ℕ)) (held : List ℕ) → before ≡ Some []
    → after ≡ Some held → after ≡ before → held ≡ []
unchanged before after held empty now same =
    ap (λ (b : Option (List ℕ)). unwrap_or b []) (sym now ∙ (same ∙ empty))

-- a prefix of what it was to gain is no longer than that
pub prefix_short : (before after : Option (List ℕ)) (bytes held : List ℕ) → before ≡ Some []
    → after ≡ Some held → GainsPrefix before after bytes → length held ≤ length bytes
prefix_short before after bytes held empty now part =
    let is : held ≡ take part.0 bytes =
    gained before after (take part.0 bytes) held empty now part.2 in
    omega (arith, ap length is, length-take part.0 bytes)

-- a refusal that is no want of memory is that of the outcome
pub explained : (names : List (List ℕ)) (before after : FilesAt) (o : Result Answer Refusal)
    (status : Status) (refusal : Refusal) → status ≢ statuses.Memory → AreCalm names before after
    → status_of refusal ≡ status → HasCause names before after refusal → Explains refusal o
    → o ≡ Err refusal
explained names before after o status Words other still is cause explains = explains
explained names before after o status (CannotRead name) other still is cause explains =
    absurd (not_refused names before after name still cause)
explained names before after o status (TooLarge name) other still is cause explains = explains
explained names before after o status (BadText name fault) other still is cause explains = explains
explained names before after o status (BadPlan name fault) other still is cause explains = explains
explained names before after o status (Cycle ring) other still is cause explains = explains
explained names before after o status (BadList fault) other still is cause explains = explains
explained names before after o status (Misfit misfit) other still is cause explains = explains
explained names before after o status Memory other still is cause explains = absurd (other (sym is))
