-- The `.rcp` format: a stream of numbers, whatever the line ends.
--
-- First n and K; then K capacities; then for each activity from 1 to n its duration, K demands, the
-- number of its
-- successors, and that many successors. Nothing follows. The fault is the first that comes, at its
-- token.
use Rattle.std.specs.Prelude.{ℕ, ◌+◌, List, [], length, map, Result, Ok}
use Rattle.std.specs.List.{flat_map, sum_by}
use Rattle.rc_instance.specs.Project.{Project}
use Rattle.rc_instance.specs.Parts.{made}
use Rattle.rc_edge.specs.declared.text_fault.TextFault.{TextFault}
use Rattle.rc_edge.specs.declared.text_fault.TextKind.{TextKind}
use Rattle.rc_edge.specs.declared.text_fault.TextKind.TheVariants.{NotANumber, NumberTooLarge, Trailing, Ended, Instance, Memory}
use Rattle.rc_edge.specs.Grammar.{◌>>=◌, more}
use Rattle.rc_edge.specs.Entries as entries
use Rattle.rc_edge.specs.Source.{next_capacity, demand_due, duration_due, successor_due}
use Rattle.patterson_read.specs.declared.head.Head.{Head}
use Rattle.patterson_read.specs.Left.{Left, whole, number_due, nothing}

-- what the text says of one activity
pub record Activity : Type 0 where
  pub duration : ℕ
  pub demands : List ℕ
  pub successors : List ℕ

-- n and K
unfoldable pub head_due : Left → Result (Head × Left) TextFault
head_due left = do
  first ← number_due left
  activities ← entries.activity_count first.0
  second ← number_due first.1
  resources ← entries.resource_count second.0
  Ok (record { activities = activities; resources = resources }, second.1)

-- an activity with its number; those before it have durations of the sum `before`
unfoldable pub activity_due : Head → ℕ → ℕ → Left → Result (Activity × Left) TextFault
activity_due head number before left = do
  duration ← duration_due number_due before left
  demands ← more (λ _. demand_due number_due) head.resources [] duration.1
  count ← number_due demands.1
  successors ← more (λ _. successor_due number_due head.activities number) count.0.value [] count.1
  Ok (
    record { duration = duration.0; demands = demands.0; successors = successors.0 },
    successors.1,
  )

-- the next activity, after those found
abbrev pub next_activity : Head → List Activity → Left → Result (Activity × Left) TextFault
next_activity head found = activity_due head (length found + 1) (sum_by (λ a. a.duration) found)

-- what a whole text says
pub record Text : Type 0 where
  pub capacities : List ℕ
  pub activities : List Activity

unfoldable pub text_due : Left → Result Text TextFault
text_due left = do
  head ← head_due left
  capacities ← more (next_capacity number_due) head.0.resources [] head.1
  activities ← more (next_activity head.0) head.0.activities [] capacities.1
  end ← nothing activities.1
  Ok (record { capacities = capacities.0; activities = activities.0 })

-- its instance
abbrev pub project_of : Text → Project
project_of text =
    made text.capacities (map (λ a. a.duration) text.activities)
    (flat_map (λ a. a.demands) text.activities) (map (λ a. a.successors) text.activities)

-- the instance of the bytes of a text, or the first fault
unfoldable pub read_instance : List ℕ → Result Project TextFault
read_instance bytes = do
  text ← text_due (whole bytes)
  Ok (project_of text)

-- the kinds of the faults of such texts, and want of memory
abbrev pub IsKind : TextKind → Type 0
IsKind NotANumber = Unit {0}
IsKind NumberTooLarge = Unit {0}
IsKind Trailing = Unit {0}
IsKind Ended = Unit {0}
IsKind (Instance fault) = entries.IsLimit fault
IsKind Memory = Unit {0}
IsKind kind = ⊥
