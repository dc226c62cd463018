-- What many files come to: the runs of each alone, one after the other.
use Rattle.std.specs.Prelude.{◌≡◌, ℕ, List, [], ◌∷◌, ◌++◌, Option, None, Some, IsSome, Result, Ok, Err, codes}
use Rattle.std.specs.List.{flat_map}
use Rattle.rc_instance.specs.Results.{◌>>=◌}
use Rattle.rcpsp_words.specs.Words.{options_of}
use Rattle.rcpsp_words.specs.Many.{Many, plain_words, many_of}
use Rattle.rcpsp_run.specs.declared.status.Status.{Status}
use Rattle.rcpsp_run.specs.declared.status.Status.TheVariants as statuses
use Rattle.rcpsp_run.specs.declared.refusal.Refusal.{Refusal}
use Rattle.rcpsp_run.specs.declared.refusal.Refusal.TheVariants.{Words}
use Rattle.rcpsp_run.specs.Answer.{Answer, ending}
use Rattle.rcpsp_run.specs.Refusal.{status_of, line_of}
use Rattle.rcpsp_run.specs.Outcome.{outcome, contents}
use Rattle.batch_line.specs.declared.ran.Ran.{Ran}

-- the words say that this file is scheduled alone
abbrev pub IsPlainName : List ℕ → Type 0
IsPlainName name = IsSome (options_of (plain_words name))

-- what one file comes to, scheduled alone
abbrev pub alone : List (List ℕ × List ℕ) → List ℕ → Result Answer Refusal
alone pairs name = outcome (plain_words name) pairs

-- the status, the text and the line of an outcome
abbrev pub status_in : Result Answer Refusal → Status
status_in (Ok answer) = ending answer
status_in (Err refusal) = status_of refusal

abbrev pub text_in : Result Answer Refusal → List ℕ
text_in (Ok answer) = answer.text
text_in (Err refusal) = []

abbrev pub line_in : Result Answer Refusal → List ℕ
line_in (Ok answer) = []
line_in (Err refusal) = line_of refusal

-- a run came to this outcome
pub record CameTo (outcome : Result Answer Refusal) (ran : Ran) : Type 0 where
  pub status : ran.status ≡ status_in outcome
  pub text : ran.text.items ≡ text_in outcome
  pub line : ran.line.items ≡ line_in outcome

-- the line above what a file comes to
abbrev pub head_line : List ℕ → List ℕ
head_line name = codes "== " ++ name ++ codes "\n"

-- what is printed of a file: its name, then its text or the line of its refusal
abbrev pub part_of : List ℕ → Result Answer Refusal → List ℕ
part_of name outcome = head_line name ++ text_in outcome ++ line_in outcome

-- what is printed of many
abbrev pub batch_text : List (List ℕ × List ℕ) → List (List ℕ) → List ℕ
batch_text pairs names = flat_map (λ name. part_of name (alone pairs name)) names

-- a status, unless it is `Done`, and else another
abbrev pub or_else : Status → Status → Status
or_else statuses.Done later = later
or_else ended later = ended

-- the status of the first that is not `Done`
abbrev pub batch_status : List (List ℕ × List ℕ) → List (List ℕ) → Status
batch_status pairs [] = statuses.Done
batch_status pairs (name ∷ names) =
    or_else (status_in (alone pairs name)) (batch_status pairs names)

-- how a file can end that is there within the limit, scheduled alone, and so how many such files
-- can
abbrev pub IsEnding : Status → Type 0
IsEnding statuses.Done = Unit {0}
IsEnding statuses.BadText = Unit {0}
IsEnding statuses.Cycle = Unit {0}
IsEnding statuses.Misfit = Unit {0}
IsEnding _ = ⊥

-- the status and the text of many files
pub record Joined : Type 0 where
  pub status : Status
  pub text : List ℕ

-- what many files come to: all are fetched first
abbrev pub batch_outcome : List (List ℕ × List ℕ) → List (List ℕ) → Result Joined Refusal
batch_outcome pairs names =
    contents pairs names >>= (λ _. Ok (record {
      status = batch_status pairs names;
      text = batch_text pairs names;
    }))

-- the names that the words give, in the order in which their files are fetched
abbrev pub names_said : Option Many → List (List ℕ)
names_said None = []
names_said (Some many) = many.names

-- what the words come to, where they say something
abbrev pub said_outcome : List (List ℕ × List ℕ) → Option Many → Result Joined Refusal
said_outcome pairs None = Err Words
said_outcome pairs (Some many) = batch_outcome pairs many.names

-- what words and files come to
abbrev pub many_outcome : List (List ℕ) → List (List ℕ × List ℕ) → Result Joined Refusal
many_outcome words pairs = said_outcome pairs (many_of words)
