-- The kinds of faults that the format has.
use Rattle.std.proofs.Common.{◌≡◌, ◌⊎◌, inl, inr, ℕ, ◌+◌, Bool, true, false, List, [], ◌∷◌, length, Result, Option, None, Some, Ok, Err, codes, subst, sym, ap}
use Rattle.std.specs.List.{sum_by}
use Rattle.std.specs.Prelude.{if◌then◌else◌}
use Rattle.rc_edge.specs.declared.text_number.Number.{Number}
use Rattle.rc_edge.specs.declared.number.NumberFault.{NumberFault}
use Rattle.rc_edge.specs.declared.number.NumberFault.TheVariants as numbers
use Rattle.rc_edge.specs.declared.text_fault.TextFault.{TextFault}
use Rattle.rc_edge.specs.declared.text_fault.TextKind.{TextKind}
use Rattle.rc_edge.specs.declared.text_fault.TextKind.TheVariants.{WrongJobNumber, MultiMode}
use Rattle.rc_edge.specs.declared.text_fault.Item.{Item}
use Rattle.rc_edge.specs.declared.text_fault.Item.TheVariants.{Requests, Availabilities}
use Rattle.rc_edge.specs.Tokens.{Token}
use Rattle.rc_edge.specs.Numbers.{number_of}
use Rattle.rc_edge.specs.Grammar.{◌>>=◌, more, number_in, out_of_memory}
use Rattle.rc_edge.proofs.FaultLaws.{EachFault, EachFault-ok, EachFault-err, EachFault-bind, EachFault-refuse_if, EachFault-more, AllowsLimits, EachFault-activity_count, EachFault-resource_count}
use Rattle.rc_edge.proofs.SourceLaws.{EachFault-capacities, EachFault-demands, EachFault-duration_due, EachFault-successors}
use Rattle.psplib_read.specs.declared.preamble.Head.{Head}
use Rattle.psplib_read.specs.declared.preamble.Topic.{Topic}
use Rattle.psplib_read.specs.declared.preamble.Topic.TheVariants.{Projects, Jobs, Renewable, Nonrenewable, DoublyConstrained}
use Rattle.psplib_read.specs.declared.preamble.Preamble.{Preamble}
use Rattle.psplib_read.specs.Lines.{Line, first_at, values_in, first_of}
use Rattle.psplib_read.specs.Left.{Left, whole, next_line, next_in_line, next_token}
use Rattle.psplib_read.specs.Preamble.{token_number, value_in, value_of, topic_of, was_read, with_value, with_topic, with_line_on, with_line, nothing_read, head_of, with_lines, ends_preamble, preamble_in}
use Rattle.psplib_read.specs.Sm.{number_from, number_due, same_due, job_due, successors, next_successors, request, next_request, past_title, head_line, section_after, section_due, nothing_after, nothing, text_due, read_instance, project_of, IsKind}

-- the faults of a text of this format
abbrev IsFault : TextFault → Type 0
IsFault fault = IsKind fault.kind

limits : AllowsLimits IsFault
limits fault at is = is

token_kinds : (token : Token) → EachFault IsFault (token_number token)
unfolding token_number
token_kinds token = EachFault-bind IsFault _ _ (by_number (number_of token.text))
    (λ number. EachFault-ok IsFault number.0)
  where
    by_number : (number : Result ℕ NumberFault) → EachFault IsFault (number_in token [] number)
    by_number (Ok value) = EachFault-ok IsFault _
    by_number (Err numbers.NotANumber) = EachFault-err IsFault _ tt
    by_number (Err numbers.NumberTooLarge) = EachFault-err IsFault _ tt

number_kinds : (left : Left) → EachFault IsFault (number_due left)
unfolding number_due
number_kinds left = by_token (next_token left)
  where
    by_token : (token : Option (Token × Left)) → EachFault IsFault (number_from left.size token)
    by_token None = EachFault-err IsFault _ tt
    by_token (Some next) = EachFault-bind IsFault _ _ (token_kinds next.0)
        (λ number. EachFault-ok IsFault _)

-- the numbers of the preamble
value_kinds : (topic : Topic) (number : Number) (preamble : Preamble)
    → EachFault IsFault (with_value topic number preamble)
unfolding with_value
value_kinds Projects number preamble = EachFault-bind IsFault _ _
    (EachFault-refuse_if IsFault _ _ number.at tt) (λ one. EachFault-ok IsFault _)
value_kinds Jobs number preamble = EachFault-bind IsFault _ _
    (EachFault-activity_count IsFault limits number) (λ count. EachFault-ok IsFault _)
value_kinds Renewable number preamble = EachFault-bind IsFault _ _
    (EachFault-resource_count IsFault limits number) (λ count. EachFault-ok IsFault _)
value_kinds Nonrenewable number preamble = EachFault-bind IsFault _ _
    (EachFault-refuse_if IsFault _ _ number.at tt) (λ none. EachFault-ok IsFault _)
value_kinds DoublyConstrained number preamble = EachFault-bind IsFault _ _
    (EachFault-refuse_if IsFault _ _ number.at tt) (λ none. EachFault-ok IsFault _)

value_of_kinds : (line : Line) → EachFault IsFault (value_of line)
unfolding value_of
value_of_kinds line = by_token (first_of (values_in line))
  where
    by_token : (token : Option Token) → EachFault IsFault (value_in line token)
    by_token None = EachFault-err IsFault _ tt
    by_token (Some token) = token_kinds token

topic_kinds : (topic : Topic) (line : Line) (preamble : Preamble)
    → EachFault IsFault (with_topic topic line preamble)
unfolding with_topic
topic_kinds topic line preamble = by_test (was_read topic preamble)
  where
    by_test : (known : Bool) → EachFault IsFault (if known then Ok preamble else
        (value_of line >>= λ number. with_value topic number preamble))
    by_test true = EachFault-ok IsFault preamble
    by_test false = EachFault-bind IsFault _ _ (value_of_kinds line)
        (λ number. value_kinds topic number preamble)

line_kinds : (line : Line) (preamble : Preamble) → EachFault IsFault (with_line line preamble)
unfolding with_line
line_kinds line preamble = by_topic (topic_of line)
  where
    by_topic : (topic : Option Topic) → EachFault IsFault (with_line_on topic line preamble)
    by_topic None = EachFault-ok IsFault preamble
    by_topic (Some topic) = topic_kinds topic line preamble

head_kinds : (jobs renewable : Option ℕ) (at : ℕ) → EachFault IsFault (head_of jobs renewable at)
head_kinds None renewable at = EachFault-err IsFault _ tt
head_kinds (Some jobs) None at = EachFault-err IsFault _ tt
head_kinds (Some jobs) (Some resources) at = EachFault-ok IsFault _

preamble_kinds : (size : ℕ) (preamble : Preamble) (lines : List Line)
    → EachFault IsFault (preamble_in size preamble lines)
unfolding preamble_in
preamble_kinds size preamble [] = EachFault-err IsFault _ tt
preamble_kinds size preamble (line ∷ lines) = by_test (ends_preamble line)
    (λ next. preamble_kinds size next lines)
  where
    by_test : (ends : Bool) → ((next : Preamble) → EachFault IsFault (preamble_in size next lines))
        → EachFault IsFault (if ends then head_of preamble.jobs preamble.renewable (first_at line)
        >>= with_lines size lines
        else with_line line preamble >>= λ next. preamble_in size next lines)
    by_test true others =
        EachFault-bind IsFault _ (with_lines size lines)
        (head_kinds preamble.jobs preamble.renewable (first_at line))
        (λ head. EachFault-ok IsFault _)
    by_test false others = EachFault-bind IsFault _ _ (line_kinds line preamble) others

-- the numbers of the sections
same_kinds : (value : ℕ) (kind : TextKind) (left : Left) → IsKind kind
    → EachFault IsFault (same_due value kind left)
unfolding same_due
same_kinds value kind left is =
    EachFault-bind IsFault _ _ (number_kinds left) (λ number.
    EachFault-bind IsFault _ _ (EachFault-refuse_if IsFault _ kind number.0.at is)
    (λ same. EachFault-ok IsFault number.1))

job_kinds : (job : ℕ) (left : Left) → EachFault IsFault (job_due job left)
unfolding job_due
job_kinds job left = EachFault-bind IsFault _ _ (same_kinds job WrongJobNumber left tt)
    (λ named. same_kinds 1 MultiMode named tt)

successors_kinds : (head : Head) (job : ℕ) (left : Left)
    → EachFault IsFault (successors head job left)
unfolding successors
successors_kinds head job left =
    let each = EachFault-successors IsFault number_due number_kinds limits head.jobs job in
    EachFault-bind IsFault _ _ (job_kinds job left) (λ named.
    EachFault-bind IsFault _ _ (number_kinds named) (λ count. each count.0.value count.1))

request_kinds : (head : Head) (job before : ℕ) (left : Left)
    → EachFault IsFault (request head job before left)
unfolding request
request_kinds head job before left =
    let duration = EachFault-duration_due IsFault number_due number_kinds limits before in
    let demands = EachFault-demands IsFault number_due number_kinds head.resources in
    EachFault-bind IsFault _ _ (job_kinds job left) (λ named.
    EachFault-bind IsFault _ _ (duration named) (λ first.
    EachFault-bind IsFault _ _ (demands first.1) (λ demands. EachFault-ok IsFault _)))

-- the head of a section
section_kinds : (word : List ℕ) (item : Item) (left : Left) → EachFault IsFault
    (section_due word item left)
unfolding section_due
section_kinds word item left = by_token (next_in_line left)
  where
    by_line : (line : Option (Line × Left)) → EachFault IsFault (head_line word item left.size line)
    by_line None = EachFault-err IsFault _ tt
    by_line (Some next) = EachFault-bind IsFault _ _
        (EachFault-refuse_if IsFault _ _ (first_at next.0) tt) (λ other. EachFault-ok IsFault _)

    by_token : (token : Option (Token × Left)) → EachFault IsFault
        (section_after word item left token)
    by_token None = by_line (next_line left)
    by_token (Some next) = EachFault-err IsFault _ tt

nothing_kinds : (left : Left) → EachFault IsFault (nothing left)
nothing_kinds left = by_token (next_token left)
  where
    by_token : (token : Option (Token × Left)) → EachFault IsFault (nothing_after token)
    by_token None = EachFault-ok IsFault tt
    by_token (Some next) = EachFault-err IsFault _ tt

relations_kinds : (head : Head) (left : Left)
    → EachFault IsFault (more (next_successors head) head.jobs [] left)
relations_kinds head left =
    EachFault-more IsFault (next_successors head)
    (λ found rest. successors_kinds head (length found + 1) rest) head.jobs [] left

requests_kinds : (head : Head) (left : Left)
    → EachFault IsFault (more (next_request head) head.jobs [] left)
requests_kinds head left =
    EachFault-more IsFault (next_request head)
    (λ found rest. request_kinds head (length found + 1) (sum_by (λ r. r.duration) found) rest)
    head.jobs [] left

text_kinds : (left : Left) → EachFault IsFault (text_due left)
unfolding text_due
text_kinds left =
    let preamble = preamble_kinds left.size nothing_read left.lines in
    let work = section_kinds (codes "requests/durations") Requests in
    let room = section_kinds (codes "resourceavailabilities") Availabilities in
    let capacities = EachFault-capacities IsFault number_due number_kinds limits in
    EachFault-bind IsFault _ _ preamble (λ head.
    EachFault-bind IsFault _ _ (relations_kinds head.0 (past_title head.1)) (λ successors.
    EachFault-bind IsFault _ _ (work successors.1) (λ turned.
    EachFault-bind IsFault _ _ (requests_kinds head.0 turned) (λ requests.
    EachFault-bind IsFault _ _ (room requests.1) (λ last.
    EachFault-bind IsFault _ _ (capacities head.0.resources last) (λ capacities.
    EachFault-bind IsFault _ _ (nothing_kinds capacities.1) (λ end. EachFault-ok IsFault _)))))))

-- a fault of a text, or want of memory, is of one of these kinds
pub kind_is : (bytes : List ℕ) (fault : TextFault)
    → (read_instance bytes ≡ Err fault) ⊎ (fault ≡ out_of_memory) → IsKind fault.kind
unfolding read_instance
kind_is bytes fault (inl read) =
    EachFault-bind IsFault (text_due (whole bytes)) (λ text. Ok (project_of text))
    (text_kinds (whole bytes)) (λ text. EachFault-ok IsFault (project_of text)) fault read
kind_is bytes fault (inr memory) =
    subst (λ (kind : TextKind). IsKind kind) (sym (ap (λ (f : TextFault). f.kind) memory)) tt
