-- Where the lines of a text stand, and the faults of a preamble.
use Rattle.std.proofs.Common.{◌≡◌, inl, inr, ℕ, suc, ◌+◌, ◌-◌, ◌<◌, ◌≤◌, Bool, true, false, not, nat_eq, nat_lt, List, [], ◌∷◌, length, map, take, Option, None, Some, Result, Ok, Err, refl, sym, ap, subst, arith, All}
use Rattle.std.specs.Prelude.{if◌then◌else◌}
use Rattle.std.specs.List.{find, filter, before_first, position_or_len}
use Rattle.std.specs.Option.{option_map}
use Rattle.std.specs.Io.BufRead.{strip_last, ends_with_byte}
use Rattle.std.proofs.lemmas.Bool.{cases_Bool, cases_lt, cond-true, cond-false}
use Rattle.std.proofs.lemmas.List.{length-take, length-drop}
use Rattle.std.proofs.lemmas.List.Elements.{All-nil, All-cons, All-head, All-tail, All-weaker, All-filter}
use Rattle.std.proofs.lemmas.List.Sums.{prefix_len-le-length}
use Rattle.rc_instance.specs.declared.limits.TheConstants.{MAX_ACTIVITIES, MAX_RESOURCES}
use Rattle.rc_instance.specs.declared.parts.InstanceFault.TheVariants.{NoActivity, TooManyActivities, TooManyResources}
use Rattle.rc_edge.specs.declared.text_number.Number.{Number}
use Rattle.rc_edge.specs.declared.number.NumberFault.{NumberFault}
use Rattle.rc_edge.specs.declared.number.NumberFault.TheVariants as numbers
use Rattle.rc_edge.specs.declared.text_fault.TextFault.{TextFault}
use Rattle.rc_edge.specs.declared.text_fault.TextKind.TheVariants.{ManyProjects, NotRenewable, Instance}
use Rattle.rc_edge.specs.Tokens.{is_white, Token, tokens_from, tokens_of}
use Rattle.rc_edge.specs.Numbers.{number_of}
use Rattle.rc_edge.specs.Grammar.{◌>>=◌, number_in, refuse_if}
use Rattle.rc_edge.specs.Entries as entries
use Rattle.rc_edge.proofs.FaultLaws.{EachFault, EachFault-ok, EachFault-bind, EachFault-refuse_if}
use Rattle.psplib_read.specs.declared.preamble.Topic.{Topic}
use Rattle.psplib_read.specs.declared.preamble.Topic.TheVariants.{Projects, Jobs, Renewable, Nonrenewable, DoublyConstrained}
use Rattle.psplib_read.specs.Lines.{Line, is_newline, is_colon, line_len, line_text, lines_from, is_silent, spoken, lines_of, first_at, line_end, moved, after_colon, values_in, first_of}
use Rattle.psplib_read.specs.Preamble.{token_number, value_in, value_of, topic_of, head_of, ends_preamble, with_lines}
use Rattle.psplib_read.specs.Topics.{is_about, tested, told_by, told, faults_of, faults_told, end_due}
use Rattle.psplib_read.proofs.LineLaws.{text_with_end, text_without_end}

-- lines one after the other, within a text of this size
abbrev pub IsSpread : ℕ → List Line → Type 0
IsSpread size [] = Unit {0}
IsSpread size (line ∷ lines) =
    (line_end line ≤ size) × All (λ later. line_end line < later.at) lines × IsSpread size lines

-- the lines of some bytes begin among them
begin_there : (inside : Bool) (at : ℕ) (bytes : List ℕ)
    → All (λ line. at ≤ line.at) (lines_from inside at bytes)
unfolding lines_from
begin_there inside at [] = All-nil (λ (line : Line). at ≤ line.at)
begin_there inside at (byte ∷ rest) =
    let others = lines_from (not (is_newline byte)) (suc at) rest in
    let later = All-weaker (λ (l : Line). suc at ≤ l.at) (λ (l : Line). at ≤ l.at)
    (λ l after. omega (arith, after)) others
    (begin_there (not (is_newline byte)) (suc at) rest) in
    by_place inside others later
  where
    by_place : (inside : Bool) (others : List Line) → All (λ line. at ≤ line.at) others
        → All (λ line. at ≤ line.at)
        (if inside then others else record { text = line_text (byte ∷ rest); at = at } ∷ others)
    by_place true others later = later
    by_place false others later =
        All-cons (λ (line : Line). at ≤ line.at)
        (record { text = line_text (byte ∷ rest); at = at }) others (omega arith) later

-- those after a line begin past its end
begin_past : (at : ℕ) (bytes : List ℕ)
    → All (λ line. at + line_len bytes < line.at) (lines_from true at bytes)
unfolding lines_from
begin_past at [] = All-nil (λ (line : Line). at + line_len [] < line.at)
begin_past at (byte ∷ rest) =
    elim (cases_Bool (is_newline byte)) [
      | inl newline ↦
          rw newline (All-weaker (λ (l : Line). suc at ≤ l.at) (λ (l : Line). at + 0 < l.at)
          (λ l after. omega (arith, after)) (lines_from false (suc at) rest)
          (begin_there false (suc at) rest))
      | inr other ↦
          rw other (All-weaker (λ (l : Line). suc at + line_len rest < l.at)
          (λ (l : Line). at + (1 + line_len rest) < l.at)
          (λ l after. omega (arith, after)) (lines_from true (suc at) rest)
          (begin_past (suc at) rest))
    ]

-- a line without its end is no longer
strip_last-le : (byte : ℕ) (xs : List ℕ) → length (strip_last byte xs) ≤ length xs
strip_last-le byte xs =
    elim (ends_with_byte byte xs)
    as (λ b. length (if b then take (length xs - 1) xs else xs) ≤ length xs)
    [ true ↦ omega (arith, length-take (length xs - 1) xs) | false ↦ omega arith ]

line_text-le : (bytes : List ℕ) → length (line_text bytes) ≤ line_len bytes
line_text-le bytes =
    elim (cases_lt (line_len bytes) (length bytes)) [
      | inl inside ↦
          let line = take (line_len bytes) bytes in
          let stripped = strip_last-le 13 line in
          let text = ap length (text_with_end bytes inside) in
          omega (arith, stripped, text, length-take (line_len bytes) bytes)
      | inr past ↦ omega (arith, past, ap length (text_without_end bytes past))
    ]

spread_from : (size : ℕ) (inside : Bool) (at : ℕ) (bytes : List ℕ) → at + length bytes ≤ size
    → IsSpread size (lines_from inside at bytes)
unfolding lines_from
spread_from size inside at [] within = tt
spread_from size true at (byte ∷ rest) within =
    spread_from size (not (is_newline byte)) (suc at) rest (omega (arith, within))
spread_from size false at (byte ∷ rest) within =
    let bytes = byte ∷ rest in
    let short = line_text-le bytes in
    let len = prefix_len-le-length (λ b. not (is_newline b)) bytes in
    let others = lines_from (not (is_newline byte)) (suc at) rest in
    let past = All-weaker (λ (l : Line). at + line_len bytes < l.at)
    (λ (l : Line). at + length (line_text bytes) < l.at)
    (λ l after. omega (arith, after, short)) others (begin_past at bytes) in (
      omega (arith, short, len, within),
      past,
      spread_from size (not (is_newline byte)) (suc at) rest (omega (arith, within)),
    )

spread_spoken : (size : ℕ) (lines : List Line) → IsSpread size lines → IsSpread size (spoken lines)
spread_spoken size [] spread = tt
spread_spoken size (line ∷ lines) spread =
    let others = spread_spoken size lines spread.2 in
    let past = All-filter (λ (l : Line). not (is_silent l)) (λ (l : Line). line_end line < l.at)
    lines spread.1 in
    elim (is_silent line)
    as (λ b. IsSpread size (if not b then line ∷ spoken lines else spoken lines))
    [ true ↦ others | false ↦ (spread.0, past, others) ]

-- the lines of a text are spread
pub lines_are_spread : (bytes : List ℕ) → IsSpread (length bytes) (lines_of bytes)
lines_are_spread bytes =
    spread_spoken (length bytes) (lines_from false 0 bytes)
    (spread_from (length bytes) false 0 bytes (omega arith))

-- tokens begin among their bytes
tokens_within : (inside : Bool) (at : ℕ) (bytes : List ℕ)
    → All (λ token. token.at < at + length bytes) (tokens_from inside at bytes)
unfolding tokens_from
tokens_within inside at [] = All-nil (λ (token : Token). token.at < at + length {A = ℕ} [])
tokens_within inside at (byte ∷ rest) =
    let others = tokens_from true (suc at) rest in
    let first : Token = record { text = before_first is_white (byte ∷ rest); at = at } in
    let white_rest = tokens_from false (suc at) rest in
    let black_rest = if inside then others else first ∷ others in
    let AreWithin : List Token → Type 0 =
    λ tokens. All (λ token. token.at < at + length (byte ∷ rest)) tokens in
    elim (cases_Bool (is_white byte)) [
      | inl white ↦
          subst AreWithin (sym (cond-true (is_white byte) white_rest black_rest white))
          (wider false (tokens_within false (suc at) rest))
      | inr black ↦
          subst AreWithin (sym (cond-false (is_white byte) white_rest black_rest black))
          (by_place inside (wider true (tokens_within true (suc at) rest)))
    ]
  where
    wider : (inside : Bool)
        → All (λ token. token.at < suc at + length rest) (tokens_from inside (suc at) rest)
        → All (λ token. token.at < at + length (byte ∷ rest)) (tokens_from inside (suc at) rest)
    wider inside all =
        All-weaker (λ (t : Token). t.at < suc at + length rest)
        (λ (t : Token). t.at < at + length (byte ∷ rest)) (λ t below. omega (arith, below))
        (tokens_from inside (suc at) rest) all

    by_place : (inside : Bool)
        → All (λ token. token.at < at + length (byte ∷ rest)) (tokens_from true (suc at) rest)
        → All (λ token. token.at < at + length (byte ∷ rest))
        (if inside then tokens_from true (suc at) rest
        else record { text = before_first is_white (byte ∷ rest); at = at }
        ∷ tokens_from true (suc at) rest)
    by_place true all = all
    by_place false all =
        All-cons (λ (t : Token). t.at < at + length (byte ∷ rest))
        (record { text = before_first is_white (byte ∷ rest); at = at })
        (tokens_from true (suc at) rest) (omega arith) all

-- an offset in a line, or just past it
abbrev IsIn : Line → ℕ → Type 0
IsIn line at = (line.at ≤ at) × (at ≤ line_end line)

-- the value of a line stands in it, and so does its fault
abbrev StandsIn : Line → Result Number TextFault → Type 0
StandsIn line (Ok number) = IsIn line number.at
StandsIn line (Err fault) = IsIn line fault.at

value_stands : (line : Line) → StandsIn line (value_of line)
unfolding value_of values_in token_number
value_stands line =
    by_tokens (tokens_of (after_colon line)) (tokens_within false 0 (after_colon line))
  where
    by_number : (token : Token) (number : Result ℕ NumberFault) → IsIn line token.at
        → StandsIn line (number_in token [] number >>= λ found. Ok found.0)
    by_number token (Ok value) inside = inside
    by_number token (Err numbers.NotANumber) inside = inside
    by_number token (Err numbers.NumberTooLarge) inside = inside

    by_tokens : (tokens : List Token)
        → All (λ token. token.at < 0 + length (after_colon line)) tokens
        → StandsIn line (value_in line (first_of (map
        (moved (line.at + (length line.text - length (after_colon line)))) tokens)))
    by_tokens [] all = (omega arith, omega arith)
    by_tokens (token ∷ tokens) all =
        let from = line.at + (length line.text - length (after_colon line)) in
        let inside = All-head (λ (t : Token). t.at < 0 + length (after_colon line)) token tokens
        all in
        let short = length-drop (position_or_len is_colon line.text + 1) line.text in
        by_number (moved from token) (number_of token.text)
        (omega arith, omega (arith, inside, short))

-- a test refuses a number at its offset
tested_there : (topic : Topic) (number : Number)
    → EachFault (λ fault. fault.at ≡ number.at) (tested topic number)
unfolding entries.activity_count entries.resource_count
tested_there Projects number =
    let P = λ (fault : TextFault). fault.at ≡ number.at in
    let other = not (nat_eq number.value 1) in
    EachFault-bind P (refuse_if other ManyProjects number.at) (λ one. Ok number.value)
    (EachFault-refuse_if P other ManyProjects number.at refl) (λ one. EachFault-ok P number.value)
tested_there Jobs number =
    let P = λ (fault : TextFault). fault.at ≡ number.at in
    let none = nat_eq number.value 0 in
    let many = nat_lt MAX_ACTIVITIES number.value in
    let no_activity = Instance NoActivity in
    let too_many = Instance (TooManyActivities number.value) in
    EachFault-bind P (refuse_if none no_activity number.at)
    (λ some. refuse_if many too_many number.at >>= λ few. Ok number.value)
    (EachFault-refuse_if P none no_activity number.at refl) (λ some.
    EachFault-bind P (refuse_if many too_many number.at) (λ few. Ok number.value)
    (EachFault-refuse_if P many too_many number.at refl) (λ few. EachFault-ok P number.value))
tested_there Renewable number =
    let P = λ (fault : TextFault). fault.at ≡ number.at in
    let many = nat_lt MAX_RESOURCES number.value in
    let too_many = Instance (TooManyResources number.value) in
    EachFault-bind P (refuse_if many too_many number.at) (λ few. Ok number.value)
    (EachFault-refuse_if P many too_many number.at refl) (λ few. EachFault-ok P number.value)
tested_there Nonrenewable number =
    let P = λ (fault : TextFault). fault.at ≡ number.at in
    let some = not (nat_eq number.value 0) in
    EachFault-bind P (refuse_if some NotRenewable number.at) (λ none. Ok number.value)
    (EachFault-refuse_if P some NotRenewable number.at refl) (λ none. EachFault-ok P number.value)
tested_there DoublyConstrained number =
    let P = λ (fault : TextFault). fault.at ≡ number.at in
    let some = not (nat_eq number.value 0) in
    EachFault-bind P (refuse_if some NotRenewable number.at) (λ none. Ok number.value)
    (EachFault-refuse_if P some NotRenewable number.at refl) (λ none. EachFault-ok P number.value)

-- the fault of a line stands in it
told_in : (topic : Topic) (line : Line) (fault : TextFault) → told_by topic line ≡ Err fault
    → IsIn line fault.at
told_in topic line fault tells = by_value (value_of line) (value_stands line) tells
  where
    by_value : (value : Result Number TextFault) → StandsIn line value
        → (value >>= tested topic) ≡ Err fault → IsIn line fault.at
    by_value (Ok number) stands refused =
        subst (IsIn line) (sym (tested_there topic number fault refused)) stands
    by_value (Err other) stands refused =
        let same : other ≡ fault = cc in
        subst (λ (f : TextFault). IsIn line f.at) same stands

pub told_within : (topic : Topic) (line : Line) (fault : TextFault)
    → told_by topic line ≡ Err fault → fault.at ≤ line_end line
told_within topic line fault tells = (told_in topic line fault tells).1

-- what lines past an offset tell comes after it
pub told_later : (bound : ℕ) (topic : Topic) (lines : List Line)
    → All (λ line. bound < line.at) lines
    → All (λ fault. bound < fault.at) (faults_told (told topic lines))
told_later bound topic [] past = All-nil (λ (fault : TextFault). bound < fault.at)
told_later bound topic (line ∷ lines) past =
    let P = λ (l : Line). bound < l.at in
    let here = All-head P line lines past in
    let others = told_later bound topic lines (All-tail P line lines past) in
    elim (is_about topic line)
    as (λ b. All (λ fault. bound < fault.at) (faults_told (option_map (told_by topic)
    (if b then Some line else find (is_about topic) lines))))
    [ true ↦ by_told (told_by topic line) here refl | false ↦ others ]
  where
    by_told : (told : Result ℕ TextFault) → bound < line.at → told_by topic line ≡ told
        → All (λ fault. bound < fault.at) (faults_of told)
    by_told (Ok number) here tells = All-nil (λ (fault : TextFault). bound < fault.at)
    by_told (Err fault) here tells =
        let after = (told_in topic line fault tells).0 in
        All-cons (λ (f : TextFault). bound < f.at) fault [] (omega (arith, here, after))
        (All-nil (λ (f : TextFault). bound < f.at))

-- what holds of each line holds of one that is found
abbrev HoldsOf : (Line → Type 0) → Option Line → Type 0
HoldsOf P None = Unit {0}
HoldsOf P (Some line) = P line

found_holds : (P : Line → Type 0) (test : Line → Bool) (lines : List Line) → All P lines
    → HoldsOf P (find test lines)
found_holds P test [] all = tt
found_holds P test (line ∷ lines) all =
    elim (test line) as (λ b. HoldsOf P (if b then Some line else find test lines)) [
      | true ↦ All-head P line lines all
      | false ↦ found_holds P test lines (All-tail P line lines all)
    ]

-- a fault at the end of the preamble does not come before what stands before the lines
pub end_later : (size least : ℕ) (jobs renewable : Option ℕ) (lines after : List Line)
    (bound : ℕ) → least ≤ bound → bound ≤ size → All (λ line. bound < line.at) lines
    → All (λ fault. least ≤ fault.at)
    (faults_of (end_due size jobs renewable (find ends_preamble lines) after))
unfolding first_at
end_later size least jobs renewable lines after bound below within past =
    by_line (find ends_preamble lines) (found_holds (λ line. bound < line.at) ends_preamble lines
    past)
  where
    one : (fault : TextFault) → least ≤ fault.at
        → All (λ fault. least ≤ fault.at) (fault ∷ [])
    one fault late =
        All-cons (λ (f : TextFault). least ≤ f.at) fault [] late
        (All-nil (λ (f : TextFault). least ≤ f.at))

    by_numbers : (jobs renewable : Option ℕ) (line : Line) → bound < line.at
        → All (λ fault. least ≤ fault.at)
        (faults_of (head_of jobs renewable (first_at line) >>= with_lines size after))
    by_numbers None renewable line past = one _ (omega (arith, below, past))
    by_numbers (Some n) None line past = one _ (omega (arith, below, past))
    by_numbers (Some n) (Some k) line past = All-nil (λ (f : TextFault). least ≤ f.at)

    by_line : (line : Option Line) → HoldsOf (λ line. bound < line.at) line
        → All (λ fault. least ≤ fault.at) (faults_of (end_due size jobs renewable line after))
    by_line None past = one _ (omega (arith, below, within))
    by_line (Some line) past = by_numbers jobs renewable line past
