-- What a text in the `.sm` format gives: an instance within the limits with small demands, or a
-- fault in the text.
use Rattle.std.proofs.Common.{◌≡◌, ℕ, ◌+◌, ◌-◌, ◌<◌, ◌≤◌, ◌^◌, Bool, true, false, not, nat_eq, List, [], ◌∷◌, length, map, Option, None, Some, Result, Ok, Err, sym, subst, arith, All, codes}
use Rattle.std.specs.Prelude.{if◌then◌else◌}
use Rattle.std.specs.List.{flat_map, sum_by, position_or_len}
use Rattle.std.specs.Option.{option_and_then}
use Rattle.std.proofs.lemmas.List.{length-map, length-drop}
use Rattle.std.proofs.lemmas.List.Elements.{All-nil, All-cons, All-head, All-tail, All-map, All-weaker}
use Rattle.std.proofs.lemmas.List.Sums.{sum-map, prefix_len-le-length}
use Rattle.rc_instance.specs.Project.{Project}
use Rattle.rc_instance.specs.Parts.{made}
use Rattle.rc_instance.specs.Calendar.{IsWithinLimits}
use Rattle.rc_instance.specs.declared.limits.TheConstants.{MAX_DURATION_SUM}
use Rattle.rc_edge.specs.declared.number.NumberFault.{NumberFault}
use Rattle.rc_edge.specs.declared.number.NumberFault.TheVariants as faults
use Rattle.rc_edge.specs.declared.text_number.Number.{Number}
use Rattle.rc_edge.specs.declared.text_fault.TextFault.{TextFault}
use Rattle.rc_edge.specs.declared.text_fault.TextKind.{TextKind}
use Rattle.rc_edge.specs.declared.text_fault.TextKind.TheVariants.{ManyProjects, NotRenewable, WrongJobNumber, MultiMode, Expected}
use Rattle.rc_edge.specs.declared.text_fault.Item.{Item}
use Rattle.rc_edge.specs.declared.text_fault.Item.TheVariants.{Requests, Availabilities}
use Rattle.rc_edge.specs.Tokens.{Token, tokens_of, is_white}
use Rattle.rc_edge.specs.Numbers.{number_of}
use Rattle.rc_edge.specs.Grammar.{◌>>=◌, number_in, more}
use Rattle.rc_edge.specs.Source.{next_capacity, demand_due, duration_due, successor_due}
use Rattle.rc_edge.proofs.GrammarLaws.{bind_ok, ok_is}
use Rattle.rc_edge.proofs.PartsLaws.{length-flat_map}
use Rattle.psplib_read.specs.declared.preamble.Head.{Head}
use Rattle.psplib_read.specs.declared.preamble.Topic.{Topic}
use Rattle.psplib_read.specs.declared.preamble.Topic.TheVariants.{Projects, Jobs, Renewable, Nonrenewable, DoublyConstrained}
use Rattle.psplib_read.specs.declared.preamble.Preamble.{Preamble}
use Rattle.psplib_read.specs.Lines.{Line, is_colon, lines_of, first_at, moved, tokens_in, after_colon, values_in, first_of, line_end, says, begins_with_digit}
use Rattle.psplib_read.specs.Left.{Left, whole, line_in, next_line, token_in, next_in_line, token_or_next, next_token, past_line}
use Rattle.psplib_read.specs.Preamble.{token_number, value_in, value_of, topic_of, was_read, with_value, with_topic, with_line_on, with_line, nothing_read, head_of, with_lines, ends_preamble, preamble_in}
use Rattle.psplib_read.specs.Sm.{number_from, number_due, same_due, job_due, successors, next_successors, Request, request, next_request, past_title_of, past_title, head_line, section_after, section_due, nothing_after, nothing, Text, text_due, project_of, read_instance}
use Rattle.psplib_read.proofs.FaultPlaceLaws.{IsSpread, lines_are_spread}
use Rattle.psplib_read.proofs.TextLaws.{IsText, text_is}
use Rattle.text_bounds.proofs.KeepLaws.{Keeps, keeps_then, keeps_if, keeps_fault, keeps_value, IsNumberOf, number_small, IsNumber, AreWithin, activities_keep, resources_keep, more_keep, duration_next, capacities_next, demands_next, successors_next, flat_all}
use Rattle.text_bounds.proofs.PlaceLaws.{tokens_within}
use Rattle.text_bounds.proofs.FitLaws.{IsFit, within_limits}

-- a line ends within the bound
abbrev Ends : ℕ → Line → Type 0
Ends bound line = line_end line ≤ bound

-- what is left of a text stands within the bound
record IsIn (bound : ℕ) (left : Left) : Type 0 where
  size : left.size ≤ bound
  tokens : All (λ token. token.at ≤ bound) left.tokens
  lines : All (Ends bound) left.lines

-- the tokens of some bytes that begin at an offset
moved_within : (bound from : ℕ) (bytes : List ℕ) → from + length bytes ≤ bound
    → All (λ token. token.at ≤ bound) (map (moved from) (tokens_of bytes))
moved_within bound from bytes within =
    All-map (λ (t : Token). t.at ≤ bound) (moved from) (tokens_of bytes)
    (All-weaker (λ (t : Token). t.at < 0 + length bytes) (λ (t : Token). from + t.at ≤ bound)
    (λ t below. omega (arith, below, within)) (tokens_of bytes) (tokens_within false 0 bytes))

line_tokens : (bound : ℕ) (line : Line) → Ends bound line
    → All (λ token. token.at ≤ bound) (tokens_in line)
unfolding tokens_in
line_tokens bound line ends = moved_within bound line.at line.text ends

line_values : (bound : ℕ) (line : Line) → Ends bound line
    → All (λ token. token.at ≤ bound) (values_in line)
unfolding values_in
line_values bound line ends =
    let from = line.at + (length line.text - length (after_colon line)) in
    let short = length-drop (position_or_len is_colon line.text + 1) line.text in
    moved_within bound from (after_colon line) (omega (arith, ends, short))

-- the first token of a line begins at most at its end
first_within : (bound : ℕ) (line : Line) → Ends bound line → first_at line ≤ bound
unfolding first_at
first_within bound line ends =
    omega (arith, ends, prefix_len-le-length (λ b. not (not (is_white b))) line.text)

-- what is left after a line
abbrev AreNext : ℕ → Option (Line × Left) → Type 0
AreNext bound None = Unit {0}
AreNext bound (Some next) = Ends bound next.0 × IsIn bound next.1

line_next : (bound : ℕ) (left : Left) → IsIn bound left → AreNext bound (next_line left)
unfolding next_line
line_next bound left within = by_lines left.lines within.lines
  where
    by_lines : (lines : List Line) → All (Ends bound) lines → AreNext bound (line_in left lines)
    by_lines [] all = tt
    by_lines (line ∷ lines) all =
        let here = All-head (Ends bound) line lines all in (
          here,
          record {
            size = within.size;
            tokens = line_tokens bound line here;
            lines = All-tail (Ends bound) line lines all;
          },
        )

-- and after a token
abbrev IsNext : ℕ → Option (Token × Left) → Type 0
IsNext bound None = Unit {0}
IsNext bound (Some next) = (next.0.at ≤ bound) × IsIn bound next.1

in_line_next : (bound : ℕ) (left : Left) → IsIn bound left → IsNext bound (next_in_line left)
unfolding next_in_line
in_line_next bound left within = by_tokens left.tokens within.tokens
  where
    by_tokens : (tokens : List Token) → All (λ t. t.at ≤ bound) tokens
        → IsNext bound (token_in left tokens)
    by_tokens [] all = tt
    by_tokens (token ∷ tokens) all =
        let P : Token → Type 0 = λ t. t.at ≤ bound in (
          All-head P token tokens all,
          record {
            size = within.size;
            tokens = All-tail P token tokens all;
            lines = within.lines;
          },
        )

token_next : (bound : ℕ) (left : Left) → IsIn bound left → IsNext bound (next_token left)
unfolding next_token
token_next bound left within =
    by_token (next_in_line left) (in_line_next bound left within)
  where
    by_line : (next : Option (Line × Left)) → AreNext bound next
        → IsNext bound (option_and_then (λ next. next_in_line next.1) next)
    by_line None is = tt
    by_line (Some next) is = in_line_next bound next.1 is.1

    by_token : (token : Option (Token × Left)) → IsNext bound token
        → IsNext bound (token_or_next left token)
    by_token None is = by_line (next_line left) (line_next bound left within)
    by_token (Some next) is = is

-- a number stands where its token does
token_keeps : (bound : ℕ) (token : Token) → token.at ≤ bound
    → Keeps bound (IsNumber bound) (token_number token)
unfolding token_number
token_keeps bound token here = by_number (number_of token.text) (number_small token.text)
  where
    by_number : (number : Result ℕ NumberFault) → IsNumberOf number
        → Keeps bound (IsNumber bound) (number_in token [] number >>= (λ number. Ok number.0))
    by_number (Ok value) small = (here, small)
    by_number (Err faults.NotANumber) small = here
    by_number (Err faults.NumberTooLarge) small = here

number_next : (bound : ℕ) (left : Left) → IsIn bound left
    → Keeps bound (AreWithin bound (IsIn bound)) (number_due left)
unfolding number_due
number_next bound left within = by_token (next_token left) (token_next bound left within)
  where
    by_token : (token : Option (Token × Left)) → IsNext bound token
        → Keeps bound (AreWithin bound (IsIn bound))
        (number_from left.size token)
    by_token None is = within.size
    by_token (Some next) is =
        keeps_then bound (IsNumber bound) (AreWithin bound (IsIn bound))
        (token_number next.0) _ (token_keeps bound next.0 is.0) (λ number good. (good, is.1))

-- the numbers of the preamble
value_keeps : (bound : ℕ) (line : Line) → Ends bound line
    → Keeps bound (IsNumber bound) (value_of line)
unfolding value_of
value_keeps bound line ends = by_tokens (values_in line) (line_values bound line ends)
  where
    by_tokens : (tokens : List Token) → All (λ t. t.at ≤ bound) tokens
        → Keeps bound (IsNumber bound) (value_in line (first_of tokens))
    by_tokens [] all = ends
    by_tokens (token ∷ tokens) all =
        token_keeps bound token (All-head (λ (t : Token). t.at ≤ bound) token tokens all)

tested_keeps : (bound : ℕ) (topic : Topic) (number : Number) (preamble : Preamble)
    → IsNumber bound number → Keeps bound (λ _. Unit {0}) (with_value topic number preamble)
unfolding with_value
tested_keeps bound Projects number preamble is =
    keeps_then bound (λ _. Unit {0}) (λ _. Unit {0}) _ _
    (keeps_if bound (not (nat_eq number.value 1)) ManyProjects number.at is.0) (λ one _. tt)
tested_keeps bound Jobs number preamble is =
    keeps_then bound (λ _. Unit {0}) (λ _. Unit {0}) _ _ (activities_keep bound number is)
    (λ count _. tt)
tested_keeps bound Renewable number preamble is =
    keeps_then bound (λ _. Unit {0}) (λ _. Unit {0}) _ _ (resources_keep bound number is)
    (λ count _. tt)
tested_keeps bound Nonrenewable number preamble is =
    keeps_then bound (λ _. Unit {0}) (λ _. Unit {0}) _ _
    (keeps_if bound (not (nat_eq number.value 0)) NotRenewable number.at is.0) (λ none _. tt)
tested_keeps bound DoublyConstrained number preamble is =
    keeps_then bound (λ _. Unit {0}) (λ _. Unit {0}) _ _
    (keeps_if bound (not (nat_eq number.value 0)) NotRenewable number.at is.0) (λ none _. tt)

line_keeps : (bound : ℕ) (line : Line) (preamble : Preamble) → Ends bound line
    → Keeps bound (λ _. Unit {0}) (with_line line preamble)
unfolding with_line with_topic
line_keeps bound line preamble ends = by_topic (topic_of line)
  where
    by_test : (topic : Topic) (known : Bool) → Keeps bound (λ _. Unit {0})
        (if known then Ok preamble
        else (value_of line >>= (λ number. with_value topic number preamble)))
    by_test topic true = tt
    by_test topic false =
        keeps_then bound (IsNumber bound) (λ _. Unit {0}) (value_of line) _
        (value_keeps bound line ends) (λ number is. tested_keeps bound topic number preamble is)

    by_topic : (topic : Option Topic)
        → Keeps bound (λ _. Unit {0}) (with_line_on topic line preamble)
    by_topic None = tt
    by_topic (Some topic) = by_test topic (was_read topic preamble)

head_keeps : (bound : ℕ) (jobs renewable : Option ℕ) (at : ℕ) → at ≤ bound
    → Keeps bound (λ _. Unit {0}) (head_of jobs renewable at)
head_keeps bound None renewable at within = within
head_keeps bound (Some jobs) None at within = within
head_keeps bound (Some jobs) (Some resources) at within = tt

preamble_next : (bound size : ℕ) (preamble : Preamble) (lines : List Line) → size ≤ bound
    → All (Ends bound) lines
    → Keeps bound (λ next. IsIn bound next.1) (preamble_in size preamble lines)
unfolding preamble_in
preamble_next bound size preamble [] within all = within
preamble_next bound size preamble (line ∷ lines) within all =
    let here = All-head (Ends bound) line lines all in
    let rest = All-tail (Ends bound) line lines all in
    let ended : Keeps bound (λ next. IsIn bound next.1)
    (head_of preamble.jobs preamble.renewable (first_at line) >>= with_lines size lines) =
    keeps_then bound (λ _. Unit {0}) (λ next. IsIn bound next.1)
    (head_of preamble.jobs preamble.renewable (first_at line)) (with_lines size lines)
    (head_keeps bound preamble.jobs preamble.renewable (first_at line)
    (first_within bound line here))
    (λ head _. record {
      size = within;
      tokens = All-nil (λ (t : Token). t.at ≤ bound);
      lines = rest;
    }) in
    let goes_on : Keeps bound (λ next. IsIn bound next.1)
    (with_line line preamble >>= (λ next. preamble_in size next lines)) =
    keeps_then bound (λ _. Unit {0}) (λ next. IsIn bound next.1) (with_line line preamble) _
    (line_keeps bound line preamble here)
    (λ next _. preamble_next bound size next lines within rest) in
    elim (ends_preamble line)
    as (λ b. Keeps bound (λ next. IsIn bound next.1)
    (if b then (head_of preamble.jobs preamble.renewable (first_at line) >>= with_lines size lines)
    else (with_line line preamble >>= (λ next. preamble_in size next lines))))
    [ true ↦ ended | false ↦ goes_on ]

-- the numbers of the sections
same_next : (bound value : ℕ) (kind : TextKind) (left : Left) → IsIn bound left
    → Keeps bound (IsIn bound) (same_due value kind left)
unfolding same_due
same_next bound value kind left within =
    keeps_then bound (AreWithin bound (IsIn bound)) (IsIn bound)
    (number_due left) _ (number_next bound left within) (λ number is.
    keeps_then bound (λ _. Unit {0}) (IsIn bound) _ _
    (keeps_if bound (not (nat_eq number.0.value value)) kind number.0.at is.0.0) (λ same _. is.1))

job_next : (bound job : ℕ) (left : Left) → IsIn bound left
    → Keeps bound (IsIn bound) (job_due job left)
unfolding job_due
job_next bound job left within =
    keeps_then bound (IsIn bound) (IsIn bound) (same_due job WrongJobNumber left) _
    (same_next bound job WrongJobNumber left within)
    (λ named is. same_next bound 1 MultiMode named is)

relation_next : (bound : ℕ) (head : Head) (job : ℕ) (left : Left) → IsIn bound left
    → Keeps bound (λ next. Unit {0} × IsIn bound next.1) (successors head job left)
unfolding successors
relation_next bound head job left within =
    keeps_then bound (IsIn bound) (λ next. Unit {0} × IsIn bound next.1) (job_due job left) _
    (job_next bound job left within) (λ named is.
    keeps_then bound (AreWithin bound (IsIn bound))
    (λ next. Unit {0} × IsIn bound next.1) (number_due named) _ (number_next bound named is)
    (λ count counted. weaker_next bound
    (more (λ _. successor_due number_due head.jobs job) count.0.value [] count.1)
    (successors_next bound (IsIn bound) number_due (number_next bound) head.jobs job
    count.0.value count.1 counted.1)))
  where
    weaker_next : (bound : ℕ) (read : Result (List ℕ × Left) TextFault)
        → Keeps bound (λ all. All (λ _. Unit {0}) all.0 × IsIn bound all.1) read
        → Keeps bound (λ next. Unit {0} × IsIn bound next.1) read
    weaker_next bound (Ok all) is = (tt, is.1)
    weaker_next bound (Err fault) is = is

-- the work of a job has small demands
abbrev IsModest : Request → Type 0
IsModest request = All (λ d. d < 2 ^ 32) request.demands

request_next : (bound : ℕ) (head : Head) (job before : ℕ) (left : Left) → IsIn bound left
    → Keeps bound (λ next. IsModest next.0 × IsIn bound next.1) (request head job before left)
unfolding request
request_next bound head job before left within =
    keeps_then bound (IsIn bound) (λ next. IsModest next.0 × IsIn bound next.1) (job_due job left) _
    (job_next bound job left within) (λ named is.
    keeps_then bound (λ next. IsIn bound next.1) (λ next. IsModest next.0 × IsIn bound next.1)
    (duration_due number_due before named) _
    (duration_next bound (IsIn bound) number_due (number_next bound) before named is)
    (λ duration after.
    keeps_then bound (λ all. All (λ d. d < 2 ^ 32) all.0 × IsIn bound all.1)
    (λ next. IsModest next.0 × IsIn bound next.1)
    (more (λ _. demand_due number_due) head.resources [] duration.1) _
    (demands_next bound (IsIn bound) number_due (number_next bound) head.resources duration.1 after)
    (λ demands modest. modest)))

-- a line passed over leaves what stands within the bound
passed_in : (bound : ℕ) (left : Left) → IsIn bound left → IsIn bound (past_line left)
unfolding past_line
passed_in bound left within = record {
  size = within.size;
  tokens = All-nil (λ (t : Token). t.at ≤ bound);
  lines = within.lines;
}

title_in : (bound : ℕ) (left : Left) → IsIn bound left → IsIn bound (past_title left)
unfolding past_title
title_in bound left within = by_line (next_line left) (line_next bound left within)
  where
    by_line : (next : Option (Line × Left)) → AreNext bound next
        → IsIn bound (past_title_of left next)
    by_line None is = within
    by_line (Some next) is =
        elim (begins_with_digit next.0)
        as (λ b. IsIn bound (if b then next.1 else past_line next.1))
        [ true ↦ is.1 | false ↦ passed_in bound next.1 is.1 ]

section_next : (bound : ℕ) (word : List ℕ) (item : Item) (left : Left) → IsIn bound left
    → Keeps bound (IsIn bound) (section_due word item left)
unfolding section_due
section_next bound word item left within =
    by_token (next_in_line left) (in_line_next bound left within)
  where
    by_line : (next : Option (Line × Left)) → AreNext bound next
        → Keeps bound (IsIn bound) (head_line word item left.size next)
    by_line None is = within.size
    by_line (Some next) is =
        keeps_then bound (λ _. Unit {0}) (IsIn bound) _ _
        (keeps_if bound (not (says word next.0)) (Expected item) (first_at next.0)
        (first_within bound next.0 is.0))
        (λ other _. title_in bound (past_line next.1) (passed_in bound next.1 is.1))

    by_token : (token : Option (Token × Left)) → IsNext bound token
        → Keeps bound (IsIn bound) (section_after word item left token)
    by_token None is = by_line (next_line left) (line_next bound left within)
    by_token (Some next) is = is.0

nothing_next : (bound : ℕ) (left : Left) → IsIn bound left
    → Keeps bound (λ _. Unit {0}) (nothing left)
nothing_next bound left within = by_token (next_token left) (token_next bound left within)
  where
    by_token : (token : Option (Token × Left)) → IsNext bound token
        → Keeps bound (λ _. Unit {0}) (nothing_after token)
    by_token None is = tt
    by_token (Some next) is = is.0

-- what a whole text says
abbrev AreModest : Text → Type 0
AreModest text = All IsModest text.requests

text_next : (bound : ℕ) (left : Left) → IsIn bound left
    → Keeps bound AreModest (text_due left)
unfolding text_due
text_next bound left within =
    keeps_then bound (λ next. IsIn bound next.1) AreModest
    (preamble_in left.size nothing_read left.lines) _
    (preamble_next bound left.size nothing_read left.lines within.size within.lines)
    (λ head after.
    keeps_then bound (λ all. All (λ _. Unit {0}) all.0 × IsIn bound all.1) AreModest
    (more (next_successors head.0) head.0.jobs [] (past_title head.1)) _
    (more_keep bound (IsIn bound) (λ (list : List ℕ). Unit {0}) (next_successors head.0)
    (λ found rest there. relation_next bound head.0 (length found + 1) rest there) head.0.jobs []
    (past_title head.1) (All-nil (λ (list : List ℕ). Unit {0})) (title_in bound head.1 after))
    (λ successors rest.
    keeps_then bound (IsIn bound) AreModest
    (section_due (codes "requests/durations") Requests successors.1) _
    (section_next bound (codes "requests/durations") Requests successors.1 rest.1)
    (λ begun there.
    keeps_then bound (λ all. All IsModest all.0 × IsIn bound all.1) AreModest
    (more (next_request head.0) head.0.jobs [] begun) _
    (more_keep bound (IsIn bound) IsModest (next_request head.0)
    (λ found rest there. request_next bound head.0 (length found + 1)
    (sum_by (λ r. r.duration) found) rest there) head.0.jobs [] begun (All-nil IsModest) there)
    (λ requests modest.
    keeps_then bound (IsIn bound) AreModest
    (section_due (codes "resourceavailabilities") Availabilities requests.1) _
    (section_next bound (codes "resourceavailabilities") Availabilities requests.1 modest.1)
    (λ begun here.
    keeps_then bound (λ all. All (λ _. Unit {0}) all.0 × IsIn bound all.1) AreModest
    (more (next_capacity number_due) head.0.resources [] begun) _
    (capacities_next bound (IsIn bound) number_due (number_next bound) head.0.resources begun here)
    (λ capacities last.
    keeps_then bound (λ _. Unit {0}) AreModest (nothing capacities.1) _
    (nothing_next bound capacities.1 last.1) (λ end _. modest.0)))))))

-- lines that are spread end within the text
spread_end : (size : ℕ) (lines : List Line) → IsSpread size lines → All (Ends size) lines
spread_end size [] spread = All-nil (Ends size)
spread_end size (line ∷ lines) spread =
    All-cons (Ends size) line lines spread.0 (spread_end size lines spread.2)

whole_within : (bytes : List ℕ) → IsIn (length bytes) (whole bytes)
whole_within bytes = record {
  size = omega arith;
  tokens = All-nil (λ (t : Token). t.at ≤ length bytes);
  lines = spread_end (length bytes) (lines_of bytes) (lines_are_spread bytes);
}

-- the instance of a text that is accepted
text_limits : (text : Text) → IsText text → IsWithinLimits (project_of text)
text_limits text is =
    within_limits text.capacities (map (λ r. r.duration) text.requests)
    (flat_map (λ r. r.demands) text.requests) text.successors (length text.requests)
    (length-map text.requests (λ (r : Request). r.duration)) is.some is.few is.resources
    is.capacities is.successors
    (subst (λ (s : ℕ). s ≤ MAX_DURATION_SUM)
    (sym (sum-map (λ (r : Request). r.duration) text.requests)) is.short)
    is.lists
    (length-flat_map (λ (r : Request). r.demands) (length text.capacities) text.requests is.demands)

text_fit : (text : Text) → IsText text → AreModest text → IsFit (project_of text)
unfolding made
text_fit text is modest = record {
  limits = text_limits text is;
  modest = flat_all (λ d. d < 2 ^ 32) (λ (r : Request). r.demands) text.requests modest;
}

pub sm_fit : (bytes : List ℕ) (project : Project) → read_instance bytes ≡ Ok project
    → IsFit project
unfolding read_instance
sm_fit bytes project read =
    let found = bind_ok (text_due (whole bytes)) (λ text. Ok (project_of text)) project read in
    let modest = keeps_value (length bytes) AreModest (text_due (whole bytes)) found.0
    (text_next (length bytes) (whole bytes) (whole_within bytes)) found.1 in
    subst IsFit (ok_is (project_of found.0) project found.2)
    (text_fit found.0 (text_is (whole bytes) found.0 found.1) modest)

pub sm_fault : (bytes : List ℕ) (fault : TextFault) → read_instance bytes ≡ Err fault
    → fault.at ≤ length bytes
unfolding read_instance
sm_fault bytes fault read =
    keeps_fault (length bytes) (λ (p : Project). Unit {0})
    (text_due (whole bytes) >>= (λ text. Ok (project_of text))) fault
    (keeps_then (length bytes) AreModest (λ (p : Project). Unit {0})
    (text_due (whole bytes)) (λ text. Ok (project_of text))
    (text_next (length bytes) (whole bytes) (whole_within bytes)) (λ text _. tt)) read
