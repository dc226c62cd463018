-- A preamble, read line by line, gives what it tells topic by topic.
use Rattle.std.proofs.Common.{◌≡◌, ◌⊎◌, inl, inr, ℕ, suc, ◌+◌, ◌<◌, ◌≤◌, Bool, true, false, not, nat_eq, List, [], ◌∷◌, ◌++◌, length, Option, None, Some, Result, Ok, Err, refl, sym, ap, subst, ◌∙◌, arith, All}
use Rattle.std.specs.Prelude.{nat_le, if◌then◌else◌}
use Rattle.std.specs.List.{find, flat_map, before_first, after_first, position_or_len}
use Rattle.std.specs.Option.{option_or}
use Rattle.std.proofs.lemmas.Bool.{cases_Bool, le-leb, lt-leb}
use Rattle.std.proofs.lemmas.List.Elements.{All-nil, All-head, All-tail, All-append, All-weaker, All-take}
use Rattle.rc_edge.specs.declared.text_number.Number.{Number}
use Rattle.rc_edge.specs.declared.text_fault.TextFault.{TextFault}
use Rattle.rc_edge.specs.declared.text_fault.TextKind.TheVariants.{ManyProjects, NotRenewable}
use Rattle.rc_edge.specs.Grammar.{◌>>=◌, refuse_if}
use Rattle.psplib_read.specs.declared.preamble.Head.{Head}
use Rattle.psplib_read.specs.declared.preamble.Topic.{Topic}
use Rattle.psplib_read.specs.declared.preamble.Topic.TheVariants.{Projects, Jobs, Renewable, Nonrenewable, DoublyConstrained}
use Rattle.psplib_read.specs.declared.preamble.Preamble.{Preamble}
use Rattle.psplib_read.specs.Lines.{Line, first_at, line_end, lines_of}
use Rattle.psplib_read.specs.Left.{Left, whole}
use Rattle.psplib_read.specs.Preamble.{value_of, topic_of, is_given, was_read, with_value, with_topic, with_line_on, with_line, nothing_read, head_of, ends_preamble, preamble_in, head_due, with_lines}
use Rattle.psplib_read.specs.Topics.{topics, is_topic, is_about, tested, told_by, told, number_told, faults_of, faults_told, earlier, earliest, unless, end_due, ended, head_by_topic}
use Rattle.psplib_read.proofs.FaultPlaceLaws.{IsSpread, told_within, told_later, end_later, lines_are_spread}

-- what lines tell of a topic, unless a line before them was about it
abbrev unread : Preamble → Topic → List Line → Option (Result ℕ TextFault)
unread known topic lines = if was_read topic known then None else told topic lines

-- the rest of a preamble by topic, of which some are known: the lines before its end, the line that
-- ends
-- it, and the lines after that
abbrev rest_by_topic : ℕ → Preamble → List Line → Option Line → List Line
    → Result (Head × Left) TextFault
rest_by_topic size known before line after =
    ended size (option_or known.jobs (number_told (unread known Jobs before)))
    (option_or known.renewable (number_told (unread known Renewable before)))
    (λ topic. faults_told (unread known topic before)) line after

abbrev by_topic : ℕ → Preamble → List Line → Result (Head × Left) TextFault
by_topic size known lines =
    rest_by_topic size known (before_first ends_preamble lines) (find ends_preamble lines)
    (after_first ends_preamble lines)

-- a line that does not end the preamble stands before its end
before_step : (line : Line) (lines : List Line) → ends_preamble line ≡ false
    → before_first ends_preamble (line ∷ lines) ≡ line ∷ before_first ends_preamble lines
before_step line lines goes_on =
    let place = position_or_len ends_preamble lines in
    let one : 1 + place ≡ suc place = omega arith in
    rw (goes_on, one) refl

after_step : (line : Line) (lines : List Line) → ends_preamble line ≡ false
    → after_first ends_preamble (line ∷ lines) ≡ after_first ends_preamble lines
after_step line lines goes_on =
    let place = position_or_len ends_preamble lines in
    let one : 1 + place + 1 ≡ suc (place + 1) = omega arith in
    rw (goes_on, one) refl

find_step : (line : Line) (lines : List Line) → ends_preamble line ≡ false
    → find ends_preamble (line ∷ lines) ≡ find ends_preamble lines
find_step line lines goes_on = rw goes_on refl

step : (size : ℕ) (known : Preamble) (line : Line) (lines : List Line)
    → ends_preamble line ≡ false
    → by_topic size known (line ∷ lines)
    ≡ rest_by_topic size known (line ∷ before_first ends_preamble lines) (find ends_preamble lines)
    (after_first ends_preamble lines)
step size known line lines goes_on =
    let before = before_step line lines goes_on in
    let end = find_step line lines goes_on in
    let after = after_step line lines goes_on in
    ap (λ (b : List Line). rest_by_topic size known b (find ends_preamble (line ∷ lines))
    (after_first ends_preamble (line ∷ lines))) before
    ∙ (ap (λ (e : Option Line). rest_by_topic size known (line ∷ before_first ends_preamble lines) e
    (after_first ends_preamble (line ∷ lines))) end
    ∙ ap (λ (a : List Line). rest_by_topic size known (line ∷ before_first ends_preamble lines)
    (find ends_preamble lines) a) after)

-- a line is passed over for a topic that is known, or that it is not about
abbrev IsPassed : Preamble → Line → Topic → Type 0
IsPassed known line topic = (was_read topic known ≡ true) ⊎ (is_about topic line ≡ false)

passed : (known : Preamble) (topic : Topic) (line : Line) (before : List Line)
    → IsPassed known line topic → unread known topic (line ∷ before) ≡ unread known topic before
passed known topic line before (inl read) = rw read refl
passed known topic line before (inr other) = rw other refl

rest_passed : (size : ℕ) (known : Preamble) (line : Line) (before : List Line)
    (end : Option Line) (after : List Line) → ((topic : Topic) → IsPassed known line topic)
    → rest_by_topic size known (line ∷ before) end after
    ≡ rest_by_topic size known before end after
rest_passed size known line before end after all =
    let same = λ (topic : Topic). passed known topic line before (all topic) in
    rw (same Projects, same Jobs, same Renewable, same Nonrenewable, same DoublyConstrained) refl

-- a line about a known topic is passed over for each topic
known_passed : (topic other : Topic) (known : Preamble) → was_read other known ≡ true
    → (was_read topic known ≡ true) ⊎ (is_topic topic (Some other) ≡ false)
known_passed Projects Projects known read = inl read
known_passed Jobs Jobs known read = inl read
known_passed Renewable Renewable known read = inl read
known_passed Nonrenewable Nonrenewable known read = inl read
known_passed DoublyConstrained DoublyConstrained known read = inl read
known_passed topic other known read = inr refl

-- the preamble with the number of a topic noted
abbrev noted : Topic → ℕ → Preamble → Preamble
noted Projects number known = record known { projects = true }
noted Jobs number known = record known { jobs = Some number }
noted Renewable number known = record known { renewable = Some number }
noted Nonrenewable number known = record known { nonrenewable = true }
noted DoublyConstrained number known = record known { doubly_constrained = true }

bind_assoc : {A B C : Type 0} (read : Result A TextFault) (f : A → Result B TextFault)
    (g : B → Result C TextFault) → (read >>= f >>= g) ≡ (read >>= λ x. f x >>= g)
bind_assoc (Ok x) f g = refl
bind_assoc (Err fault) f g = refl

-- a number is noted where its test passes
with_value-is : (topic : Topic) (number : Number) (known : Preamble)
    → with_value topic number known
    ≡ (tested topic number >>= λ n. Ok (noted topic n known))
unfolding with_value
with_value-is Projects number known =
    sym (bind_assoc (refuse_if (not (nat_eq number.value 1)) ManyProjects number.at)
    (λ one. Ok number.value) (λ n. Ok (noted Projects n known)))
with_value-is Jobs number known = refl
with_value-is Renewable number known = refl
with_value-is Nonrenewable number known =
    sym (bind_assoc (refuse_if (not (nat_eq number.value 0)) NotRenewable number.at)
    (λ none. Ok number.value) (λ n. Ok (noted Nonrenewable n known)))
with_value-is DoublyConstrained number known =
    sym (bind_assoc (refuse_if (not (nat_eq number.value 0)) NotRenewable number.at)
    (λ none. Ok number.value) (λ n. Ok (noted DoublyConstrained n known)))

with_topic-is : (topic : Topic) (line : Line) (known : Preamble) → was_read topic known ≡ false
    → with_topic topic line known ≡ (told_by topic line >>= λ n. Ok (noted topic n known))
unfolding with_topic
with_topic-is topic line known new = rw new (by_value (value_of line))
  where
    by_value : (value : Result Number TextFault)
        → (value >>= λ number. with_value topic number known)
        ≡ (value >>= tested topic >>= λ n. Ok (noted topic n known))
    by_value (Ok number) = with_value-is topic number known
    by_value (Err fault) = refl

not_given : (number : Option ℕ) → is_given number ≡ false → number ≡ None
not_given None new = refl
not_given (Some n) new = absurd cc

-- once the number of a line is noted, the line is passed over
rest_noted : (size : ℕ) (known : Preamble) (topic : Topic) (n : ℕ) (line : Line)
    (before : List Line) (end : Option Line) (after : List Line) → topic_of line ≡ Some topic
    → was_read topic known ≡ false → told_by topic line ≡ Ok n
    → rest_by_topic size known (line ∷ before) end after
    ≡ rest_by_topic size (noted topic n known) before end after
unfolding was_read
rest_noted size known Projects n line before end after about new tells =
    rw (about, new, tells) refl
rest_noted size known Jobs n line before end after about new tells =
    let none = not_given known.jobs new in rw (about, none, tells) refl
rest_noted size known Renewable n line before end after about new tells =
    let none = not_given known.renewable new in rw (about, none, tells) refl
rest_noted size known Nonrenewable n line before end after about new tells =
    rw (about, new, tells) refl
rest_noted size known DoublyConstrained n line before end after about new tells =
    rw (about, new, tells) refl

-- a fault that is the first of those with the least offset
abbrev IsEarliest : TextFault → List TextFault → Type 0
IsEarliest fault [] = ⊥
IsEarliest fault (other ∷ others) =
    ((other ≡ fault) × All (λ later. fault.at ≤ later.at) others)
    ⊎ ((fault.at < other.at) × IsEarliest fault others)

-- faults after it
abbrev AreLater : TextFault → List TextFault → Type 0
AreLater fault faults = All (λ later. fault.at < later.at) faults

are_later : (fault : TextFault) (faults : List TextFault) → AreLater fault faults
    → All (λ later. fault.at ≤ later.at) faults
are_later fault faults later =
    All-weaker (λ (f : TextFault). fault.at < f.at) (λ (f : TextFault). fault.at ≤ f.at)
    (λ f below. omega (arith, below)) faults later

-- what holds of each fault holds of the earliest
abbrev HoldsOf : (TextFault → Type 0) → Option TextFault → Type 0
HoldsOf P None = Unit {0}
HoldsOf P (Some fault) = P fault

earlier_holds : (P : TextFault → Type 0) (fault : TextFault) (others : Option TextFault) → P fault
    → HoldsOf P others → HoldsOf P (earlier fault others)
earlier_holds P fault None here rest = here
earlier_holds P fault (Some other) here rest =
    elim (nat_le fault.at other.at) as (λ b. P (if b then fault else other))
    [ true ↦ here | false ↦ rest ]

earliest_holds : (P : TextFault → Type 0) (faults : List TextFault) → All P faults
    → HoldsOf P (earliest faults)
unfolding earliest
earliest_holds P [] all = tt
earliest_holds P (fault ∷ faults) all =
    earlier_holds P fault (earliest faults) (All-head P fault faults all)
    (earliest_holds P faults (All-tail P fault faults all))

-- a fault before later ones is the earliest
before_all : (fault : TextFault) (others : Option TextFault)
    → HoldsOf (λ later. fault.at ≤ later.at) others → earlier fault others ≡ Some fault
before_all fault None late = refl
before_all fault (Some other) late = rw (le-leb fault.at other.at late) refl

earliest_is : (fault : TextFault) (faults : List TextFault) → IsEarliest fault faults
    → earliest faults ≡ Some fault
unfolding earliest
earliest_is fault [] is = absurd is
earliest_is fault (other ∷ others) (inl here) =
    let late = earliest_holds (λ later. fault.at ≤ later.at) others here.1 in
    rw here.0 (before_all fault (earliest others) late)
earliest_is fault (other ∷ others) (inr there) =
    rw (earliest_is fault others there.1, lt-leb other.at fault.at there.0) refl

earliest_here : (fault : TextFault) (xs ys : List TextFault) → IsEarliest fault xs
    → All (λ later. fault.at ≤ later.at) ys → IsEarliest fault (xs ++ ys)
earliest_here fault [] ys is late = absurd is
earliest_here fault (x ∷ xs) ys (inl here) late =
    inl (here.0, All-append (λ (later : TextFault). fault.at ≤ later.at) xs ys here.1 late)
earliest_here fault (x ∷ xs) ys (inr there) late =
    inr (there.0, earliest_here fault xs ys there.1 late)

earliest_before : (fault : TextFault) (xs ys : List TextFault) → AreLater fault xs
    → IsEarliest fault ys → IsEarliest fault (xs ++ ys)
earliest_before fault [] ys later is = is
earliest_before fault (x ∷ xs) ys later is =
    let P = λ (other : TextFault). fault.at < other.at in
    inr (All-head P x xs later, earliest_before fault xs ys (All-tail P x xs later) is)

flat_later : (fault : TextFault) (faults : Topic → List TextFault) (list : List Topic)
    → ((topic : Topic) → AreLater fault (faults topic)) → AreLater fault (flat_map faults list)
flat_later fault faults [] later = All-nil (λ other. fault.at < other.at)
flat_later fault faults (topic ∷ list) later =
    All-append (λ (other : TextFault). fault.at < other.at) (faults topic) (flat_map faults list)
    (later topic) (flat_later fault faults list later)

alone_before : (fault : TextFault) (faults : Topic → List TextFault) (list : List Topic)
    → ((topic : Topic) → AreLater fault (faults topic))
    → IsEarliest fault (fault ∷ flat_map faults list)
alone_before fault faults list later =
    inl (refl, are_later fault (flat_map faults list) (flat_later fault faults list later))

-- the fault of a line about a topic that no line before told of comes first
first_told : (known : Preamble) (topic : Topic) (fault : TextFault) (line : Line)
    (before : List Line) → topic_of line ≡ Some topic → was_read topic known ≡ false
    → told_by topic line ≡ Err fault
    → ((t : Topic) → AreLater fault (faults_told (unread known t before)))
    → IsEarliest fault (flat_map (λ t. faults_told (unread known t (line ∷ before))) topics)
unfolding was_read
first_told known Projects fault line before about new tells later =
    let faults = λ (t : Topic). faults_told (unread known t before) in
    rw (about, new, tells) (alone_before fault faults
    (Jobs ∷ Renewable ∷ Nonrenewable ∷ DoublyConstrained ∷ []) later)
first_told known Jobs fault line before about new tells later =
    let faults = λ (t : Topic). faults_told (unread known t before) in
    let rest = Renewable ∷ Nonrenewable ∷ DoublyConstrained ∷ [] in
    let here = alone_before fault faults rest later in
    rw (about, new, tells) (earliest_before fault (faults Projects)
    (fault ∷ flat_map faults rest) (later Projects) here)
first_told known Renewable fault line before about new tells later =
    let faults = λ (t : Topic). faults_told (unread known t before) in
    let rest = Nonrenewable ∷ DoublyConstrained ∷ [] in
    let here = fault ∷ flat_map faults rest in
    let jobs = earliest_before fault (faults Jobs) here (later Jobs)
    (alone_before fault faults rest later) in
    rw (about, new, tells) (earliest_before fault (faults Projects) (faults Jobs ++ here)
    (later Projects) jobs)
first_told known Nonrenewable fault line before about new tells later =
    let faults = λ (t : Topic). faults_told (unread known t before) in
    let rest = DoublyConstrained ∷ [] in
    let here = fault ∷ flat_map faults rest in
    let renewable = earliest_before fault (faults Renewable) here (later Renewable)
    (alone_before fault faults rest later) in
    let jobs = earliest_before fault (faults Jobs) (faults Renewable ++ here) (later Jobs)
    renewable in
    rw (about, new, tells) (earliest_before fault (faults Projects)
    (faults Jobs ++ (faults Renewable ++ here)) (later Projects) jobs)
first_told known DoublyConstrained fault line before about new tells later =
    let faults = λ (t : Topic). faults_told (unread known t before) in
    let here = fault ∷ [] in
    let other = earliest_before fault (faults Nonrenewable) here (later Nonrenewable)
    (alone_before fault faults [] later) in
    let renewable = earliest_before fault (faults Renewable) (faults Nonrenewable ++ here)
    (later Renewable) other in
    let jobs = earliest_before fault (faults Jobs)
    (faults Renewable ++ (faults Nonrenewable ++ here)) (later Jobs) renewable in
    rw (about, new, tells) (earliest_before fault (faults Projects)
    (faults Jobs ++ (faults Renewable ++ (faults Nonrenewable ++ here))) (later Projects) jobs)

-- so it refuses the preamble
rest_refused : (size : ℕ) (known : Preamble) (topic : Topic) (fault : TextFault) (line : Line)
    (before : List Line) (end : Option Line) (after : List Line) → topic_of line ≡ Some topic
    → was_read topic known ≡ false → told_by topic line ≡ Err fault
    → ((t : Topic) → AreLater fault (faults_told (unread known t before)))
    → ((jobs renewable : Option ℕ) → All (λ later. fault.at ≤ later.at)
    (faults_of (end_due size jobs renewable end after)))
    → rest_by_topic size known (line ∷ before) end after ≡ Err fault
rest_refused size known topic fault line before end after about new tells later late =
    let jobs = option_or known.jobs (number_told (unread known Jobs (line ∷ before))) in
    let renewable = option_or known.renewable
    (number_told (unread known Renewable (line ∷ before))) in
    let faults = flat_map (λ (t : Topic). faults_told (unread known t (line ∷ before))) topics in
    let at_end = faults_of (end_due size jobs renewable end after) in
    let first = first_told known topic fault line before about new tells later in
    let all = earliest_here fault faults at_end first (late jobs renewable) in
    rw (earliest_is fault (faults ++ at_end) all) refl

-- where no topic has a fault, the end decides
end_alone : (end : Result (Head × Left) TextFault) → unless end (earliest (faults_of end)) ≡ end
unfolding earliest
end_alone (Ok head) = refl
end_alone (Err fault) = refl

ended_none : (size : ℕ) (jobs renewable : Option ℕ) (faults : Topic → List TextFault)
    (line : Option Line) (after : List Line) → ((topic : Topic) → faults topic ≡ [])
    → ended size jobs renewable faults line after ≡ end_due size jobs renewable line after
ended_none size jobs renewable faults line after none =
    rw (
      none Projects,
      none Jobs,
      none Renewable,
      none Nonrenewable,
      none DoublyConstrained,
    ) (end_alone (end_due size jobs renewable line after))

no_fault_told : (known : Preamble) (topic : Topic) → faults_told (unread known topic []) ≡ []
no_fault_told known topic =
    elim (was_read topic known) as (λ b. faults_told (if b then None else None) ≡ [])
    [ true ↦ refl | false ↦ refl ]

no_number_told : (known : Preamble) (topic : Topic) → number_told (unread known topic []) ≡ None
no_number_told known topic =
    elim (was_read topic known) as (λ b. number_told (if b then None else None) ≡ None)
    [ true ↦ refl | false ↦ refl ]

option_or-none : (number : Option ℕ) → option_or number None ≡ number
option_or-none None = refl
option_or-none (Some n) = refl

-- at the line that ends a preamble what is known decides
at_end : (size : ℕ) (known : Preamble) (line : Line) (lines : List Line)
    → ends_preamble line ≡ true
    → by_topic size known (line ∷ lines)
    ≡ (head_of known.jobs known.renewable (first_at line) >>= with_lines size lines)
at_end size known line lines ends =
    let opened : by_topic size known (line ∷ lines)
    ≡ rest_by_topic size known [] (Some line) lines = rw ends refl in
    let jobs = option_or known.jobs (number_told (unread known Jobs [])) in
    let renewable = option_or known.renewable (number_told (unread known Renewable [])) in
    let decided = ended_none size jobs renewable
    (λ topic. faults_told (unread known topic [])) (Some line) lines (no_fault_told known) in
    let jobs_are : jobs ≡ known.jobs =
    ap (option_or known.jobs) (no_number_told known Jobs) ∙ option_or-none known.jobs in
    let renewable_are : renewable ≡ known.renewable =
    ap (option_or known.renewable) (no_number_told known Renewable)
    ∙ option_or-none known.renewable in
    opened ∙ decided ∙ rw (jobs_are, renewable_are) refl

-- what lines that begin past a fault tell comes later
unread_later : (known : Preamble) (fault : TextFault) (bound : ℕ) (topic : Topic)
    (lines : List Line) → fault.at ≤ bound → All (λ line. bound < line.at) lines
    → AreLater fault (faults_told (unread known topic lines))
unread_later known fault bound topic lines upto past =
    let later = told_later bound topic lines past in
    let weaker = All-weaker (λ (f : TextFault). bound < f.at) (λ (f : TextFault). fault.at < f.at)
    (λ f below. omega (arith, below, upto)) (faults_told (told topic lines)) later in
    elim (was_read topic known)
    as (λ b. AreLater fault (faults_told (if b then None else told topic lines)))
    [ true ↦ All-nil (λ other. fault.at < other.at) | false ↦ weaker ]

-- a line that does not end the preamble tells what it tells of its topic
line_told : (size : ℕ) (known : Preamble) (line : Line) (lines : List Line)
    → IsSpread size (line ∷ lines)
    → ((next : Preamble) → preamble_in size next lines ≡ by_topic size next lines)
    → (with_line line known >>= λ next. preamble_in size next lines)
    ≡ rest_by_topic size known (line ∷ before_first ends_preamble lines)
    (find ends_preamble lines) (after_first ends_preamble lines)
unfolding with_line with_topic
line_told size known line lines spread others = by_topic_of (topic_of line) refl
  where
    by_told : (topic : Topic) (told : Result ℕ TextFault) → topic_of line ≡ Some topic
        → was_read topic known ≡ false → told_by topic line ≡ told
        → ((told >>= λ n. Ok (noted topic n known)) >>= λ next. preamble_in size next lines)
        ≡ rest_by_topic size known (line ∷ before_first ends_preamble lines)
        (find ends_preamble lines) (after_first ends_preamble lines)
    by_told topic (Ok n) about new tells =
        others (noted topic n known)
        ∙ sym (rest_noted size known topic n line (before_first ends_preamble lines)
        (find ends_preamble lines) (after_first ends_preamble lines) about new tells)
    by_told topic (Err fault) about new tells =
        let within = told_within topic line fault tells in
        let past = All-take (λ (l : Line). line_end line < l.at)
        (position_or_len ends_preamble lines) lines spread.1 in
        sym (rest_refused size known topic fault line (before_first ends_preamble lines)
        (find ends_preamble lines) (after_first ends_preamble lines) about new tells
        (λ t. unread_later known fault (line_end line) t (before_first ends_preamble lines)
        within past)
        (λ jobs renewable. end_later size fault.at jobs renewable lines
        (after_first ends_preamble lines) (line_end line) within spread.0 spread.1))

    by_known : (topic : Topic) → topic_of line ≡ Some topic
        → (was_read topic known ≡ true) ⊎ (was_read topic known ≡ false)
        → (with_topic topic line known >>= λ next. preamble_in size next lines)
        ≡ rest_by_topic size known (line ∷ before_first ends_preamble lines)
        (find ends_preamble lines) (after_first ends_preamble lines)
    by_known topic about (inl read) =
        rw read (others known ∙ sym (rest_passed size known line
        (before_first ends_preamble lines) (find ends_preamble lines)
        (after_first ends_preamble lines)
        (λ t. elim (known_passed t topic known read)
        [ inl seen ↦ inl seen | inr other ↦ inr (rw about other) ])))
    by_known topic about (inr new) =
        rw (with_topic-is topic line known new)
        (by_told topic (told_by topic line) about new refl)

    by_topic_of : (topic : Option Topic) → topic_of line ≡ topic
        → (with_line_on topic line known >>= λ next. preamble_in size next lines)
        ≡ rest_by_topic size known (line ∷ before_first ends_preamble lines)
        (find ends_preamble lines) (after_first ends_preamble lines)
    by_topic_of None about =
        others known ∙ sym (rest_passed size known line (before_first ends_preamble lines)
        (find ends_preamble lines) (after_first ends_preamble lines)
        (λ t. inr (rw about refl)))
    by_topic_of (Some topic) about = by_known topic about (cases_Bool (was_read topic known))

-- so line by line and topic by topic are the same
told_topically : (size : ℕ) (known : Preamble) (lines : List Line) → IsSpread size lines
    → preamble_in size known lines ≡ by_topic size known lines
unfolding preamble_in
told_topically size known [] spread =
    sym (ended_none size (option_or known.jobs (number_told (unread known Jobs [])))
    (option_or known.renewable (number_told (unread known Renewable [])))
    (λ topic. faults_told (unread known topic [])) None [] (no_fault_told known))
told_topically size known (line ∷ lines) spread =
    elim (cases_Bool (ends_preamble line)) [
      | inl ends ↦
          let read : preamble_in size known (line ∷ lines)
          ≡ (head_of known.jobs known.renewable (first_at line) >>= with_lines size lines) =
          rw ends refl in
          read ∙ sym (at_end size known line lines ends)
      | inr goes_on ↦
          let read : preamble_in size known (line ∷ lines)
          ≡ (with_line line known >>= λ next. preamble_in size next lines) = rw goes_on refl in
          let tells = line_told size known line lines spread
          (λ next. told_topically size next lines spread.2) in
          read ∙ tells ∙ sym (step size known line lines goes_on)
    ]

-- of a whole text
pub head_told : (bytes : List ℕ)
    → head_due (whole bytes) ≡ head_by_topic (length bytes) (lines_of bytes)
unfolding head_by_topic was_read
head_told bytes =
    told_topically (length bytes) nothing_read (lines_of bytes) (lines_are_spread bytes)
