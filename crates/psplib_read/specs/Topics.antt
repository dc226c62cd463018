-- What a preamble tells topic by topic, and not line by line: of each topic the first line counts,
-- and of all
-- faults the one of least offset.
use Rattle.std.specs.Prelude.{ℕ, Bool, false, not, ◌==◌, nat_le, if◌then◌else◌, List, [], ◌∷◌, ◌++◌, Option, None, Some, Result, Ok, Err}
use Rattle.std.specs.List.{find, flat_map, before_first, after_first}
use Rattle.std.specs.Option.{option_map, option_or}
use Rattle.rc_edge.specs.declared.text_number.Number.{Number}
use Rattle.rc_edge.specs.declared.text_fault.TextFault.{TextFault}
use Rattle.rc_edge.specs.declared.text_fault.TextKind.TheVariants.{ManyProjects, NotRenewable, Ended}
use Rattle.rc_edge.specs.Grammar.{◌>>=◌, refuse_if}
use Rattle.rc_edge.specs.Entries as entries
use Rattle.psplib_read.specs.declared.preamble.Head.{Head}
use Rattle.psplib_read.specs.declared.preamble.Topic.{Topic}
use Rattle.psplib_read.specs.declared.preamble.Topic.TheVariants.{Projects, Jobs, Renewable, Nonrenewable, DoublyConstrained}
use Rattle.psplib_read.specs.Lines.{Line, first_at}
use Rattle.psplib_read.specs.Left.{Left}
use Rattle.psplib_read.specs.Preamble.{value_of, topic_of, head_of, ends_preamble, with_lines}

abbrev pub topics : List Topic
topics = Projects ∷ Jobs ∷ Renewable ∷ Nonrenewable ∷ DoublyConstrained ∷ []

-- their places
abbrev pub place_of : Topic → ℕ
place_of Projects = 0
place_of Jobs = 1
place_of Renewable = 2
place_of Nonrenewable = 3
place_of DoublyConstrained = 4

-- whether a line is about a topic
abbrev pub is_topic : Topic → Option Topic → Bool
is_topic topic None = false
is_topic topic (Some other) = place_of topic == place_of other

abbrev pub is_about : Topic → Line → Bool
is_about topic line = is_topic topic (topic_of line)

-- the number of a topic: there is one project, and no resource of another kind
abbrev pub tested : Topic → Number → Result ℕ TextFault
tested Projects number = do
  one ← refuse_if (not (number.value == 1)) ManyProjects number.at
  Ok number.value
tested Jobs number = entries.activity_count number
tested Renewable number = entries.resource_count number
tested Nonrenewable number = do
  none ← refuse_if (not (number.value == 0)) NotRenewable number.at
  Ok number.value
tested DoublyConstrained number = do
  none ← refuse_if (not (number.value == 0)) NotRenewable number.at
  Ok number.value

-- what a line tells of a topic
abbrev pub told_by : Topic → Line → Result ℕ TextFault
told_by topic line = value_of line >>= tested topic

-- what lines tell of it, if they do: what the first of them tells that is about it
abbrev pub told : Topic → List Line → Option (Result ℕ TextFault)
told topic lines = option_map (told_by topic) (find (is_about topic) lines)

-- the number that is told
abbrev pub number_told : Option (Result ℕ TextFault) → Option ℕ
number_told None = None
number_told (Some (Ok number)) = Some number
number_told (Some (Err fault)) = None

-- the fault, if there is one
abbrev pub faults_of : {A : Type 0} → Result A TextFault → List TextFault
faults_of (Ok x) = []
faults_of (Err fault) = fault ∷ []

abbrev pub faults_told : Option (Result ℕ TextFault) → List TextFault
faults_told None = []
faults_told (Some told) = faults_of told

-- the fault of least offset, and of those with the same offset the first
abbrev pub earlier : TextFault → Option TextFault → Option TextFault
earlier fault None = Some fault
earlier fault (Some other) = Some (if nat_le fault.at other.at then fault else other)

unfoldable pub earliest : List TextFault → Option TextFault
earliest [] = None
earliest (fault ∷ faults) = earlier fault (earliest faults)

-- what was read, unless there is a fault
abbrev pub unless : {A : Type 0} → Result A TextFault → Option TextFault → Result A TextFault
unless read None = read
unless read (Some fault) = Err fault

-- the end of the preamble: the line that ends it, and the lines after that one; or the end of the
-- text
abbrev pub end_due : ℕ → Option ℕ → Option ℕ → Option Line → List Line
    → Result (Head × Left) TextFault
end_due size jobs renewable None after = Err (record { kind = Ended; at = size })
end_due size jobs renewable (Some line) after = head_of jobs renewable (first_at line) >>=
    with_lines size after

-- n and K, and what is left, where these numbers and these faults of topics are told
abbrev pub ended : ℕ → Option ℕ → Option ℕ → (Topic → List TextFault) → Option Line → List Line
    → Result (Head × Left) TextFault
ended size jobs renewable faults line after =
    let end = end_due size jobs renewable line after in
    unless end (earliest (flat_map faults topics ++ faults_of end))

unfoldable pub head_by_topic : ℕ → List Line → Result (Head × Left) TextFault
head_by_topic size lines =
    let before = before_first ends_preamble lines in
    ended size (number_told (told Jobs before)) (number_told (told Renewable before))
    (λ topic. faults_told (told topic before))
    (find ends_preamble lines) (after_first ends_preamble lines)
