-- The preamble: the lines before the head of the precedence relations. Of the lines with a colon
-- some
-- are read, the first of each topic alone; all others are passed over.
use Rattle.std.specs.Prelude.{ℕ, Bool, true, false, not, ◌==◌, if◌then◌else◌, codes, List, [], ◌∷◌, Option, None, Some, Result, Ok, Err}
use Rattle.rc_edge.specs.declared.text_number.Number.{Number}
use Rattle.rc_edge.specs.declared.text_fault.TextFault.{TextFault}
use Rattle.rc_edge.specs.declared.text_fault.TextKind.TheVariants.{NotANumber, Expected, ManyProjects, NotRenewable, Ended}
use Rattle.rc_edge.specs.declared.text_fault.Item.TheVariants as items
use Rattle.rc_edge.specs.Tokens.{Token}
use Rattle.rc_edge.specs.Numbers.{number_of}
use Rattle.rc_edge.specs.Grammar.{◌>>=◌, refuse_if, number_in}
use Rattle.rc_edge.specs.Entries as entries
use Rattle.psplib_read.specs.declared.preamble.Head.{Head}
use Rattle.psplib_read.specs.declared.preamble.Topic.{Topic}
use Rattle.psplib_read.specs.declared.preamble.Topic.TheVariants.{Projects, Jobs, Renewable, Nonrenewable, DoublyConstrained}
use Rattle.psplib_read.specs.declared.preamble.Preamble.{Preamble}
use Rattle.psplib_read.specs.Lines.{Line, has_colon, says, first_at, values_in, first_of, line_end}
use Rattle.psplib_read.specs.Left.{Left}

-- the number that a token is
unfoldable pub token_number : Token → Result Number TextFault
token_number token = do
  number ← number_in token [] (number_of token.text)
  Ok number.0

-- the value of a line: the first token after its first colon
abbrev pub value_in : Line → Option Token → Result Number TextFault
value_in line None = Err (record { kind = NotANumber; at = line_end line })
value_in line (Some token) = token_number token

unfoldable pub value_of : Line → Result Number TextFault
value_of line = value_in line (first_of (values_in line))

-- what a line of the preamble is about, if it is read
unfoldable pub topic_of : Line → Option Topic
topic_of line =
    if not (has_colon line) then None
    else if says (codes "projects") line then Some Projects
    else if says (codes "jobs") line then Some Jobs
    else if says (codes "-renewable") line then Some Renewable
    else if says (codes "-nonrenewable") line then Some Nonrenewable
    else if says (codes "-doublyconstrained") line then Some DoublyConstrained
    else None

-- no line was read yet
abbrev pub nothing_read : Preamble
nothing_read = record {
  projects = false;
  jobs = None;
  renewable = None;
  nonrenewable = false;
  doubly_constrained = false;
}

abbrev pub is_given : Option ℕ → Bool
is_given None = false
is_given (Some n) = true

-- whether a line of this topic was read
unfoldable pub was_read : Topic → Preamble → Bool
was_read Projects preamble = preamble.projects
was_read Jobs preamble = is_given preamble.jobs
was_read Renewable preamble = is_given preamble.renewable
was_read Nonrenewable preamble = preamble.nonrenewable
was_read DoublyConstrained preamble = preamble.doubly_constrained

-- there is one project, n jobs, K renewable resources, and no resource of another kind
unfoldable pub with_value : Topic → Number → Preamble → Result Preamble TextFault
with_value Projects number preamble = do
  one ← refuse_if (not (number.value == 1)) ManyProjects number.at
  Ok (record preamble { projects = true })
with_value Jobs number preamble = do
  count ← entries.activity_count number
  Ok (record preamble { jobs = Some count })
with_value Renewable number preamble = do
  count ← entries.resource_count number
  Ok (record preamble { renewable = Some count })
with_value Nonrenewable number preamble = do
  none ← refuse_if (not (number.value == 0)) NotRenewable number.at
  Ok (record preamble { nonrenewable = true })
with_value DoublyConstrained number preamble = do
  none ← refuse_if (not (number.value == 0)) NotRenewable number.at
  Ok (record preamble { doubly_constrained = true })

-- a line of a topic, of which the first alone is read
unfoldable pub with_topic : Topic → Line → Preamble → Result Preamble TextFault
with_topic topic line preamble =
    if was_read topic preamble then Ok preamble
    else do
      number ← value_of line
      with_value topic number preamble

-- one line more
abbrev pub with_line_on : Option Topic → Line → Preamble → Result Preamble TextFault
with_line_on None line preamble = Ok preamble
with_line_on (Some topic) line preamble = with_topic topic line preamble

unfoldable pub with_line : Line → Preamble → Result Preamble TextFault
with_line line preamble = with_line_on (topic_of line) line preamble

-- n and K, which the preamble must have given when its end is found; `at` is the offset of that end
abbrev pub head_of : Option ℕ → Option ℕ → ℕ → Result Head TextFault
head_of None renewable at = Err (record { kind = Expected items.Jobs; at = at })
head_of (Some jobs) None at = Err (record { kind = Expected items.Renewable; at = at })
head_of (Some jobs) (Some resources) at = Ok (record { jobs = jobs; resources = resources })

-- the line that ends the preamble
abbrev pub ends_preamble : Line → Bool
ends_preamble line = says (codes "precedencerelations") line

-- n and K with the lines that are left
abbrev pub with_lines : ℕ → List Line → Head → Result (Head × Left) TextFault
with_lines size lines head = Ok (head, record { size = size; tokens = []; lines = lines })

-- the lines up to the end of the preamble, after what was read before them
unfoldable pub preamble_in : ℕ → Preamble → List Line → Result (Head × Left) TextFault
preamble_in size preamble [] = Err (record { kind = Ended; at = size })
preamble_in size preamble (line ∷ lines) =
    if ends_preamble line then head_of preamble.jobs preamble.renewable (first_at line) >>=
    with_lines size lines
    else with_line line preamble >>= λ next. preamble_in size next lines

-- n and K, and what is left after the preamble and the head of the precedence relations
abbrev pub head_due : Left → Result (Head × Left) TextFault
head_due left = preamble_in left.size nothing_read left.lines
