-- The `.sm` format of PSPLIB, single mode: a preamble, and three sections of numbers.
--
-- The preamble gives n and K. A section begins with its head, a line; the line after it is a title,
-- which is
-- passed over unless it begins with a digit. The numbers follow, whatever the line ends. The
-- precedence relations
-- have for each job from 1 to n its number, its modes, the number of its successors and those; the
-- requests its
-- number, its mode, its duration and K demands; the availabilities K capacities. Nothing follows.
-- Blank lines and
-- rulers are passed over everywhere. The fault is the first in order of the text, at its token.
use Rattle.std.specs.Prelude.{ℕ, ◌+◌, not, ◌==◌, if◌then◌else◌, codes, List, [], length, map, Option, None, Some, Result, Ok, Err}
use Rattle.std.specs.List.{flat_map, sum_by}
use Rattle.rc_instance.specs.Project.{Project}
use Rattle.rc_instance.specs.Parts.{made}
use Rattle.rc_edge.specs.declared.text_number.Number.{Number}
use Rattle.rc_edge.specs.declared.text_fault.TextFault.{TextFault}
use Rattle.rc_edge.specs.declared.text_fault.TextKind.{TextKind}
use Rattle.rc_edge.specs.declared.text_fault.TextKind.TheVariants.{Expected, WrongJobNumber, MultiMode, Trailing, Ended, TooManyChanges, ResourceOutOfRange, PeriodOutOfRange, NotRising, Instance}
use Rattle.rc_edge.specs.declared.text_fault.Item.{Item}
use Rattle.rc_edge.specs.declared.text_fault.Item.TheVariants.{Requests, Availabilities}
use Rattle.rc_edge.specs.Tokens.{Token}
use Rattle.rc_edge.specs.Grammar.{◌>>=◌, refuse_if, more}
use Rattle.rc_edge.specs.Entries as entries
use Rattle.rc_edge.specs.Source.{next_capacity, demand_due, duration_due, successor_due}
use Rattle.psplib_read.specs.declared.preamble.Head.{Head}
use Rattle.psplib_read.specs.Lines.{Line, says, first_at, begins_with_digit}
use Rattle.psplib_read.specs.Left.{Left, whole, next_line, next_in_line, next_token, past_line}
use Rattle.psplib_read.specs.Preamble.{token_number, head_due}

-- a number, which the next token is
abbrev pub number_from : ℕ → Option (Token × Left) → Result (Number × Left) TextFault
number_from size None = Err (record { kind = Ended; at = size })
number_from size (Some next) = do
  number ← token_number next.0
  Ok (number, next.1)

unfoldable pub number_due : Left → Result (Number × Left) TextFault
number_due left = number_from left.size (next_token left)

-- a number that has to be this one
unfoldable pub same_due : ℕ → TextKind → Left → Result Left TextFault
same_due value kind left = do
  number ← number_due left
  same ← refuse_if (not (number.0.value == value)) kind number.0.at
  Ok number.1

-- the number of a job, and its mode or how many it has, which is 1
unfoldable pub job_due : ℕ → Left → Result Left TextFault
job_due job left = do
  named ← same_due job WrongJobNumber left
  same_due 1 MultiMode named

-- the successors of a job
unfoldable pub successors : Head → ℕ → Left → Result (List ℕ × Left) TextFault
successors head job left = do
  named ← job_due job left
  count ← number_due named
  more (λ _. successor_due number_due head.jobs job) count.0.value [] count.1

-- those of the next job, after the lists found
abbrev pub next_successors : Head → List (List ℕ) → Left → Result (List ℕ × Left) TextFault
next_successors head found = successors head (length found + 1)

-- what the text says of the work of a job
pub record Request : Type 0 where
  pub duration : ℕ
  pub demands : List ℕ

-- that of a job with its number; those before it have durations of the sum `before`
unfoldable pub request : Head → ℕ → ℕ → Left → Result (Request × Left) TextFault
request head job before left = do
  named ← job_due job left
  duration ← duration_due number_due before named
  demands ← more (λ _. demand_due number_due) head.resources [] duration.1
  Ok (record { duration = duration.0; demands = demands.0 }, demands.1)

-- that of the next job, after those found
abbrev pub next_request : Head → List Request → Left → Result (Request × Left) TextFault
next_request head found = request head (length found + 1) (sum_by (λ r. r.duration) found)

-- the line after the head of a section passed over, where it does not begin with a digit
abbrev pub past_title_of : Left → Option (Line × Left) → Left
past_title_of left None = left
past_title_of left (Some next) = if begins_with_digit next.0 then next.1 else past_line next.1

unfoldable pub past_title : Left → Left
past_title left = past_title_of left (next_line left)

-- the next token is the first of a line whose key begins with a word; that line and the title after
-- it are passed over
abbrev pub head_line : List ℕ → Item → ℕ → Option (Line × Left) → Result Left TextFault
head_line word item size None = Err (record { kind = Ended; at = size })
head_line word item size (Some next) = do
  other ← refuse_if (not (says word next.0)) (Expected item) (first_at next.0)
  Ok (past_title (past_line next.1))

abbrev pub section_after : List ℕ → Item → Left → Option (Token × Left) → Result Left TextFault
section_after word item left None = head_line word item left.size (next_line left)
section_after word item left (Some next) = Err (record { kind = Expected item; at = next.0.at })

unfoldable pub section_due : List ℕ → Item → Left → Result Left TextFault
section_due word item left = section_after word item left (next_in_line left)

-- nothing, at the end of the text
abbrev pub nothing_after : Option (Token × Left) → Result (Unit {0}) TextFault
nothing_after None = Ok tt
nothing_after (Some next) = Err (record { kind = Trailing; at = next.0.at })

abbrev pub nothing : Left → Result (Unit {0}) TextFault
nothing left = nothing_after (next_token left)

-- what a whole text says
pub record Text : Type 0 where
  pub capacities : List ℕ
  pub requests : List Request
  pub successors : List (List ℕ)

unfoldable pub text_due : Left → Result Text TextFault
text_due left = do
  head ← head_due left
  successors ← more (next_successors head.0) head.0.jobs [] (past_title head.1)
  begun ← section_due (codes "requests/durations") Requests successors.1
  requests ← more (next_request head.0) head.0.jobs [] begun
  begun ← section_due (codes "resourceavailabilities") Availabilities requests.1
  capacities ← more (next_capacity number_due) head.0.resources [] begun
  end ← nothing capacities.1
  Ok (record { capacities = capacities.0; requests = requests.0; successors = successors.0 })

-- its instance
abbrev pub project_of : Text → Project
project_of text = made text.capacities (map (λ r. r.duration) text.requests)
    (flat_map (λ r. r.demands) text.requests) text.successors

-- the instance of the bytes of a text, or the first fault
unfoldable pub read_instance : List ℕ → Result Project TextFault
read_instance bytes = do
  text ← text_due (whole bytes)
  Ok (project_of text)

-- the kinds of the faults of such texts, and want of memory
abbrev pub IsKind : TextKind → Type 0
IsKind TooManyChanges = ⊥
IsKind ResourceOutOfRange = ⊥
IsKind PeriodOutOfRange = ⊥
IsKind NotRising = ⊥
IsKind (Instance fault) = entries.IsLimit fault
IsKind kind = Unit {0}
