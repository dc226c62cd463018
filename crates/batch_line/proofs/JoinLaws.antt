-- The runs of many files, joined, are what the files come to.
use Rattle.std.proofs.Common.{◌≡◌, ℕ, suc, Bool, true, false, List, [], ◌∷◌, ◌++◌, length, map, Option, None, Some, IfSome, Result, Ok, Err, slice_get, refl, sym, ap, ◌∙◌, subst, arith}
use Rattle.std.specs.Prelude.{if◌then◌else◌, nat_lt}
use Rattle.std.specs.Str.{bytes_eq}
use Rattle.std.specs.declared.vec.Vec.{Vec}
use Rattle.std.specs.declared.alloc.Global.{Global}
use Rattle.std.proofs.lemmas.List.Concat.{flat_map-cons}
use Rattle.std.proofs.lemmas.Slice.Eq.{bytes_eq-Decides}
use Rattle.rc_instance.specs.Results.{◌>>=◌}
use Rattle.rc_instance.specs.declared.limits.TheConstants.{MAX_FILE_BYTES}
use Rattle.rc_edge.specs.Files.{file_of}
use Rattle.rcpsp_words.specs.declared.words.Options.{Options}
use Rattle.rcpsp_words.specs.declared.commands.Command.TheVariants.{Schedule}
use Rattle.rcpsp_words.specs.Words.{options_of}
use Rattle.rcpsp_words.specs.Many.{plain_words, plain_command, IsPlain}
use Rattle.rcpsp_words.proofs.PlainLaws.{plain_words_say}
use Rattle.rcpsp_run.specs.declared.refusal.Refusal.{Refusal}
use Rattle.rcpsp_run.specs.declared.refusal.Refusal.TheVariants.{TooLarge}
use Rattle.rcpsp_run.specs.Commands.{answer_of}
use Rattle.rcpsp_run.specs.Outcome.{within_limit, contents, command_outcome, options_outcome}
use Rattle.batch_line.specs.declared.ran.Ran.{Ran}
use Rattle.rcpsp_run.specs.declared.status.Status.{Status}
use Rattle.rcpsp_run.specs.declared.status.Status.TheVariants as statuses
use Rattle.batch_line.specs.Batch.{Joined, IsEnding, alone, status_in, text_in, head_line, CameTo, part_of, batch_text, or_else, batch_status}
use Rattle.batch_line.specs.Runs.{IsRunOf, IsJoinedOf, ran_status, ran_part, ran_text}

-- the text of one file is that of its pair
contents_same : (one other : List (List ℕ × List ℕ)) (name : List ℕ)
    → file_of one name ≡ file_of other name
    → contents one (name ∷ []) ≡ contents other (name ∷ [])
unfolding contents
contents_same one other name same =
    ap (λ (file : Option (List ℕ)). within_limit name file
    >>= (λ text. Ok [] >>= (λ texts. Ok (text ∷ texts)))) same

said_same : (one other : List (List ℕ × List ℕ)) (name : List ℕ) (said : Option Options)
    → IfSome said (IsPlain name) → file_of one name ≡ file_of other name
    → options_outcome one said ≡ options_outcome other said
said_same one other name None plain same = refl
said_same one other name (Some options) plain same =
    subst (λ (o : Options). command_outcome one o.command ≡ command_outcome other o.command)
    (sym plain.1)
    (ap (λ (texts : Result (List (List ℕ)) Refusal).
    texts >>= answer_of (Schedule (plain_command name plain.0)))
    (contents_same one other name same))

-- one file comes to the same beside others
pub alone_same : (pairs : List (List ℕ × List ℕ)) (name bytes : List ℕ)
    → file_of pairs name ≡ Some bytes → alone pairs name ≡ alone ((name, bytes) ∷ []) name
alone_same pairs name bytes there =
    let same : bytes_eq name name ≡ true = (bytes_eq-Decides name name).1 refl in
    let here : file_of ((name, bytes) ∷ []) name ≡ Some bytes = rw same refl in
    said_same pairs ((name, bytes) ∷ []) name (options_of (plain_words name)) (plain_words_say name)
    (there ∙ sym here)

-- the text of the first file, and those of the others
abbrev AreTexts : Option (List ℕ) → Result (List (List ℕ)) Refusal → List (List ℕ) → Type 0
AreTexts file later [] = ⊥
AreTexts file later (text ∷ texts) = (file ≡ Some text) × (later ≡ Ok texts)

first_text : (bytes : List ℕ) (refusal : Refusal) (beyond : Bool)
    (later : Result (List (List ℕ)) Refusal) (texts : List (List ℕ))
    → ((if beyond then Err refusal else Ok bytes)
    >>= (λ text. later >>= (λ others. Ok (text ∷ others)))) ≡ Ok texts
    → AreTexts (Some bytes) later texts
first_text bytes refusal true later texts all = absurd cc
first_text bytes refusal false (Err other) texts all = absurd cc
first_text bytes refusal false (Ok others) [] all = absurd cc
first_text bytes refusal false (Ok others) (text ∷ texts) all = (cc, cc)

first_file : (name : List ℕ) (file : Option (List ℕ)) (later : Result (List (List ℕ)) Refusal)
    (texts : List (List ℕ))
    → (within_limit name file >>= (λ text. later >>= (λ others. Ok (text ∷ others)))) ≡ Ok texts
    → AreTexts file later texts
first_file name None later texts all = absurd cc
first_file name (Some bytes) later texts all =
    first_text bytes (TooLarge name) (nat_lt MAX_FILE_BYTES (length bytes)) later texts all

contents_first : (pairs : List (List ℕ × List ℕ)) (name : List ℕ) (names texts : List (List ℕ))
    → contents pairs (name ∷ names) ≡ Ok texts
    → AreTexts (file_of pairs name) (contents pairs names) texts
unfolding contents
contents_first pairs name names texts all =
    first_file name (file_of pairs name) (contents pairs names) texts all

-- each run stands in its place, so they join to what the files come to
pub joined_come : (pairs : List (List ℕ × List ℕ)) (names : List (List ℕ))
    (texts : List (Vec ℕ Global)) (rans : List Ran)
    → contents pairs names ≡ Ok (map (λ text. text.items) texts) → length rans ≡ length names
    → ((place : ℕ) (ran : Ran) → slice_get rans place ≡ Some ran → IsRunOf names texts place ran)
    → (ran_status rans ≡ batch_status pairs names) × (ran_text names rans ≡ batch_text pairs names)
joined_come pairs [] texts [] all size runs = (refl, refl)
joined_come pairs [] texts (ran ∷ rans) all size runs = absurd (omega arith)
joined_come pairs (name ∷ names) texts [] all size runs = absurd (omega arith)
joined_come pairs (name ∷ names) [] (ran ∷ rans) all size runs =
    absurd (contents_first pairs name names [] all)
joined_come pairs (name ∷ names) (text ∷ texts) (ran ∷ rans) all size runs =
    let first = contents_first pairs name names (map (λ t. t.items) (text ∷ texts)) all in
    let one = (runs 0 ran refl name text refl refl).0 in
    let came : CameTo (alone pairs name) ran = subst (λ o. CameTo o ran)
    (sym (alone_same pairs name text.items first.0)) one in
    let later = joined_come pairs names texts rans first.1 (omega arith)
    (λ place other at n t named known. runs (suc place) other at n t named known) in
    let part : ran_part name ran ≡ part_of name (alone pairs name) =
    ap (λ (l : List ℕ). head_line name ++ l ++ ran.line.items) came.text
    ∙ ap (λ (l : List ℕ). head_line name ++ text_in (alone pairs name) ++ l) came.line in (
      ap (λ s. or_else s (ran_status rans)) came.status
          ∙ ap (or_else (status_in (alone pairs name))) later.0,
      ap (λ (l : List ℕ). l ++ ran_text names rans) part
          ∙ (ap (λ (l : List ℕ). part_of name (alone pairs name) ++ l) later.1
          ∙ sym (flat_map-cons (λ n. part_of n (alone pairs n)) name names)),
    )

abbrev outcome_as : Status → List ℕ → Result Joined Refusal
outcome_as status text = Ok (record { status = status; text = text })

-- so what is joined is what the names come to
pub joined_of_runs : (names : List (List ℕ)) (texts : List (Vec ℕ Global)) (rans : List Ran)
    (status : Status) (text : List ℕ) → length rans ≡ length names
    → ((place : ℕ) (ran : Ran) → slice_get rans place ≡ Some ran → IsRunOf names texts place ran)
    → status ≡ ran_status rans → text ≡ ran_text names rans
    → IsJoinedOf names texts (record { status = status; text = text })
joined_of_runs names texts rans status text size runs ended written pairs all =
    let come = joined_come pairs names texts rans all size runs in
    ap (λ (c : Result (List (List ℕ)) Refusal).
    c >>= (λ _. outcome_as (batch_status pairs names) (batch_text pairs names))) all
    ∙ (ap (λ (s : Status). outcome_as s (batch_text pairs names)) (sym (ended ∙ come.0))
    ∙ ap (λ (t : List ℕ). outcome_as status t) (sym (written ∙ come.1)))

-- the status of the first run that is not done is one of the four
else_ends : (ended later : Status) → IsEnding ended → IsEnding later
    → IsEnding (or_else ended later)
else_ends statuses.Done later is others = others
else_ends statuses.BadText later is others = tt
else_ends statuses.Cycle later is others = tt
else_ends statuses.BadList later is others = absurd is
else_ends statuses.Words later is others = absurd is
else_ends statuses.Misfit later is others = tt
else_ends statuses.Violated later is others = absurd is
else_ends statuses.ReadFault later is others = absurd is
else_ends statuses.WriteFault later is others = absurd is
else_ends statuses.Memory later is others = absurd is
else_ends statuses.TooLarge later is others = absurd is

pub runs_end : (names : List (List ℕ)) (texts : List (Vec ℕ Global)) (rans : List Ran)
    → length rans ≡ length names → length texts ≡ length names
    → ((place : ℕ) (ran : Ran) → slice_get rans place ≡ Some ran → IsRunOf names texts place ran)
    → IsEnding (ran_status rans)
runs_end names texts [] size count runs = tt
runs_end [] texts (ran ∷ rans) size count runs = absurd (omega arith)
runs_end (name ∷ names) [] (ran ∷ rans) size count runs = absurd (omega arith)
runs_end (name ∷ names) (text ∷ texts) (ran ∷ rans) size count runs =
    else_ends ran.status (ran_status rans) (runs 0 ran refl name text refl refl).1
    (runs_end names texts rans (omega arith) (omega arith)
    (λ place other at n t named known. runs (suc place) other at n t named known))
