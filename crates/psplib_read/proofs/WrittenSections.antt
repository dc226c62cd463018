-- What the grammar makes of the sections of a written text.
use Rattle.std.proofs.Common.{◌≡◌, ℕ, zero, suc, ◌+◌, ◌^◌, ◌<◌, ◌≤◌, Bool, true, false, List, [], ◌∷◌, ◌++◌, length, map, Ok, refl, sym, ap, subst, ◌∙◌, arith, append-nil, eq-eqb, All}
use Rattle.std.specs.Prelude.{slice_index}
use Rattle.std.specs.Char.{is_ascii_digit}
use Rattle.std.specs.List.{flat_map, sum_by, range_with_len}
use Rattle.std.specs.Fmt.{decimal}
use Rattle.std.proofs.lemmas.List.{length_push}
use Rattle.std.proofs.lemmas.List.Sums.{sum_by-cons, sum_by_push}
use Rattle.std.proofs.lemmas.List.Elements.{All-head, All-tail}
use Rattle.rc_instance.specs.declared.limits.TheConstants.{MAX_ACTIVITIES, MAX_CAPACITY, MAX_DURATION_SUM}
use Rattle.rc_instance.specs.Calendar.{AreSuccessors}
use Rattle.rc_instance.proofs.LimitLaws.{rising_length}
use Rattle.rc_edge.specs.declared.text_fault.Item.{Item}
use Rattle.rc_edge.specs.Tokens.{Token, tokens_of}
use Rattle.rc_edge.specs.Grammar.{more}
use Rattle.rc_edge.specs.Source.{capacity_due, next_capacity, demand_due, successor_due}
use Rattle.rc_edge.proofs.NumberedLaws.{AreSmall}
use Rattle.rc_edge.proofs.WrittenLaws.{texts, HasWords, number_of-decimal}
use Rattle.rc_edge.proofs.ReadBackLaws.{Leaves, Reads, ReadsEach, more_numbers_read}
use Rattle.rc_edge.proofs.SourceLaws.{ReadsNumbers, duration_reads, each_capacity, each_demand, each_successor}
use Rattle.psplib_read.specs.declared.preamble.Head.{Head}
use Rattle.psplib_read.specs.Lines.{Line, moved, tokens_in, indent, key_in, begins_with, begins_with_digit, says}
use Rattle.psplib_read.specs.Left.{Left, next_line, next_in_line, next_token, past_line}
use Rattle.psplib_read.specs.Preamble.{token_number}
use Rattle.psplib_read.specs.Sm.{number_due, same_due, job_due, successors, next_successors, Request, request, next_request, past_title, section_due, nothing}
use Rattle.psplib_read.specs.Written.{column}
use Rattle.psplib_read.proofs.WrittenLines.{line_texts}
use Rattle.psplib_read.proofs.WrittenWords.{job_line, job_line_words, columns_words}

-- in a line that has these words left; the lines after it have these texts
pub record InLine (later : List (List ℕ)) (left : Left) (words : List (List ℕ)) : Type 0 where
  pub words_left : texts left.tokens ≡ words
  pub lines_left : line_texts left.lines ≡ later

-- between lines, of which these are left
pub record AtLine (left : Left) (lines : List (List ℕ)) : Type 0 where
  pub nothing_left : left.tokens ≡ []
  pub lines_left : line_texts left.lines ≡ lines

-- at the end of a line
at_line : (later : List (List ℕ)) (left : Left) → InLine later left [] → AtLine left later
at_line later left shows =
    record { nothing_left = none left.tokens shows.words_left; lines_left = shows.lines_left }
  where
    none : (tokens : List Token) → texts tokens ≡ [] → tokens ≡ []
    none [] is = refl
    none (token ∷ tokens) is = absurd cc

-- the first of tokens whose words are known
pub record First (tokens : List Token) (word : List ℕ) (words : List (List ℕ)) : Type 0 where
  pub token : Token
  pub rest : List Token
  pub is : tokens ≡ token ∷ rest
  pub text : token.text ≡ word
  pub others : texts rest ≡ words

-- tokens with a word have a first one
pub first_is : (tokens : List Token) (word : List ℕ) (words : List (List ℕ))
    → texts tokens ≡ word ∷ words → First tokens word words
first_is [] word words is = absurd cc
first_is (token ∷ rest) word words is =
    record { token = token; rest = rest; is = refl; text = cc; others = cc }

-- the first of lines whose texts are known
pub record FirstLine (lines : List Line) (text : List ℕ) (later : List (List ℕ)) : Type 0 where
  pub line : Line
  pub rest : List Line
  pub is : lines ≡ line ∷ rest
  pub text_is : line.text ≡ text
  pub others : line_texts rest ≡ later

-- lines with a text have a first one
pub first_line_is : (lines : List Line) (text : List ℕ) (later : List (List ℕ))
    → line_texts lines ≡ text ∷ later → FirstLine lines text later
first_line_is [] text later is = absurd cc
first_line_is (line ∷ rest) text later is =
    record { line = line; rest = rest; is = refl; text_is = cc; others = cc }

-- tokens keep their texts where they are moved
pub moved_texts : (from : ℕ) (tokens : List Token) → texts (map (moved from) tokens) ≡ texts tokens
moved_texts from [] = refl
moved_texts from (token ∷ tokens) = ap (λ ts. token.text ∷ ts) (moved_texts from tokens)

-- the words of a line are those of its tokens
pub tokens_in_are : (line : Line) (words : List (List ℕ)) → HasWords line.text words
    → texts (tokens_in line) ≡ words
unfolding tokens_in
tokens_in_are line words are = moved_texts line.at (tokens_of line.text) ∙ are.has 0

-- the first token of the present line is the number that is due
number_first : (left : Left) (token : Token) (rest : List Token) (n : ℕ) → n < 2 ^ 32
    → left.tokens ≡ token ∷ rest → token.text ≡ decimal n
    → number_due left ≡ Ok (record { value = n; at = token.at }, record left { tokens = rest })
unfolding number_due next_token next_in_line token_number
number_first left token rest n small is text = rw (is, text, number_of-decimal n small) refl

-- the word of a number is read as that number
pub number_is_due : (later : List (List ℕ)) → ReadsNumbers (InLine later) number_due
number_is_due later left n words small shows =
    let first = first_is left.tokens (decimal n) words shows.words_left in
    record {
      at = first.token.at;
      rest = record left { tokens = first.rest };
      gives = number_first left first.token first.rest n small first.is first.text;
      shows = record { words_left = first.others; lines_left = shows.lines_left };
    }

-- a line that is opened at its first token: the next number is the same
pub record Opens (left : Left) (later : List (List ℕ)) (words : List (List ℕ)) : Type 0 where
  pub opened : Left
  pub same : number_due left ≡ number_due opened
  pub shows : InLine later opened words

-- between lines the first token of the next one is due
line_first : (left : Left) (line : Line) (lines : List Line) (token : Token) (rest : List Token)
    → left.tokens ≡ [] → left.lines ≡ line ∷ lines → tokens_in line ≡ token ∷ rest
    → number_due left ≡ number_due (record left { tokens = tokens_in line; lines = lines })
unfolding number_due next_token next_in_line next_line
line_first left line lines token rest nothing is begun = rw (nothing, is, begun) refl

-- a line with a word is opened
pub line_opens : (left : Left) (text word : List ℕ) (words later : List (List ℕ))
    → AtLine left (text ∷ later)
    → HasWords text (word ∷ words) → Opens left later (word ∷ words)
line_opens left text word words later shows are =
    let first = first_line_is left.lines text later shows.lines_left in
    let in_line = tokens_in_are first.line (word ∷ words)
    (subst (λ text. HasWords text (word ∷ words)) (sym first.text_is) are) in
    let begun = first_is (tokens_in first.line) word words in_line in
    record {
      opened = record left { tokens = tokens_in first.line; lines = first.rest };
      same = line_first left first.line first.rest begun.token begun.rest shows.nothing_left
          first.is begun.is;
      shows = record { words_left = in_line; lines_left = first.others };
    }

-- the number of a job and its one mode were read
record AfterJob (later : List (List ℕ)) (left : Left) (job : ℕ) (words : List (List ℕ)) : Type 0
  where
    rest : Left
    gives : job_due job left ≡ Ok rest
    shows : InLine later rest words

-- these two words are read so
job_is_due : (later : List (List ℕ)) (left : Left) (job : ℕ) (words : List (List ℕ)) → job < 2 ^ 32
    → InLine later left (decimal job ∷ decimal 1 ∷ words) → AfterJob later left job words
unfolding job_due same_due
job_is_due later left job words small shows =
    let named = number_is_due later left job (decimal 1 ∷ words) small shows in
    let mode = number_is_due later named.rest 1 words (omega arith) named.shows in
    record {
      rest = mode.rest;
      gives = rw (named.gives, eq-eqb job job refl, mode.gives) refl;
      shows = mode.shows;
    }

-- what stands at the first token of a line is the same once the line is opened
job_opens : (job : ℕ) (left opened : Left) → number_due left ≡ number_due opened
    → job_due job left ≡ job_due job opened
unfolding job_due same_due
job_opens job left opened same = rw same refl

-- so is a capacity
capacity_opens : (resource : ℕ) (left opened : Left) → number_due left ≡ number_due opened
    → capacity_due number_due resource left ≡ capacity_due number_due resource opened
unfolding capacity_due
capacity_opens resource left opened same = rw same refl

-- nothing more stands in the line
to_the_end : (later : List (List ℕ)) (left : Left) (words : List (List ℕ)) → InLine later left words
    → InLine later left (words ++ [])
to_the_end later left words shows = subst (InLine later left) (sym (append-nil words)) shows

-- the row of a job and its successors is read
pub relation_reads : (head : Head) (a : ℕ) (list : List ℕ) → a < 2 ^ 32 → head.jobs ≤ MAX_ACTIVITIES
    → AreSuccessors head.jobs list
    → Reads AtLine (successors head a) (job_line 8 10 4 a 1 (length list) list ∷ []) list
unfolding successors
relation_reads head a list small few are = record {
  reads = λ left later shows.
      let many : length list < 2 ^ 32 = omega (arith, rising_length head.jobs list are) in
      let numbers_small : AreSmall list = λ i d h. omega (arith, (are.within i d h).1) in
      let opens = line_opens left (job_line 8 10 4 a 1 (length list) list) (decimal a)
      (decimal 1 ∷ decimal (length list) ∷ map decimal list) later shows
      (job_line_words 8 10 4 a 1 (length list) list small (omega arith) many numbers_small) in
      let job = job_is_due later opens.opened a (decimal (length list) ∷ map decimal list) small
      opens.shows in
      let count = number_is_due later job.rest (length list) (map decimal list) many job.shows in
      let one = λ (_ : List ℕ). successor_due number_due head.jobs a in
      let each = each_successor (InLine later) number_due (number_is_due later) head.jobs a [] list
      are.within few in
      let all = more_numbers_read (InLine later) one (length list) list refl each
      count.rest [] (to_the_end later count.rest (map decimal list) count.shows) in
      record {
        rest = all.rest;
        gives = rw (
          job_opens a left opens.opened opens.same,
          job.gives,
          count.gives,
          all.gives,
        )
            refl;
        shows = at_line later all.rest all.shows;
      };
}

-- the row of a job, its duration and its demands is read
pub request_reads : (head : Head) (a before d : ℕ) (list : List ℕ) → a < 2 ^ 32
    → before + d ≤ MAX_DURATION_SUM → head.resources ≡ length list → AreSmall list
    → Reads AtLine (request head a before) (job_line 5 8 7 a 1 d list ∷ [])
    (record { duration = d; demands = list })
unfolding request
request_reads head a before d list small short count small_list = record {
  reads = λ left later shows.
      let opens = line_opens left (job_line 5 8 7 a 1 d list) (decimal a)
      (decimal 1 ∷ decimal d ∷ map decimal list) later shows
      (job_line_words 5 8 7 a 1 d list small (omega arith) (omega arith) small_list) in
      let job = job_is_due later opens.opened a (decimal d ∷ map decimal list) small opens.shows in
      let due = number_is_due later in
      let duration = (duration_reads (InLine later) number_due due before d short).reads job.rest
      (map decimal list) job.shows in
      let each = each_demand (InLine later) number_due due [] list small_list in
      let all = more_numbers_read (InLine later) (λ _. demand_due number_due) head.resources list
      count each duration.rest []
      (to_the_end later duration.rest (map decimal list) duration.shows) in
      record {
        rest = all.rest;
        gives = rw (job_opens a left opens.opened opens.same, job.gives, duration.gives, all.gives)
            refl;
        shows = at_line later all.rest all.shows;
      };
}

-- a line of capacities is read
pub capacities_read : (left : Left) (c : ℕ) (cs : List ℕ) (later : List (List ℕ))
    → All (λ c. c ≤ MAX_CAPACITY) (c ∷ cs)
    → AtLine left (flat_map (column 7) (c ∷ cs) ∷ later)
    → Leaves AtLine (more (next_capacity number_due) (length (c ∷ cs)) [] left) (c ∷ cs) later
unfolding more
capacities_read left c cs later small shows =
    let all = c ∷ cs in
    let numbers_small : AreSmall all = λ i d h. omega (arith, small i d h) in
    let opens = line_opens left (flat_map (column 7) all) (decimal c) (map decimal cs) later shows
    (columns_words 7 all numbers_small) in
    let each = each_capacity (InLine later) number_due (number_is_due later) [] all small in
    let read = more_numbers_read (InLine later) (next_capacity number_due) (length all) all refl
    each opens.opened [] (to_the_end later opens.opened (map decimal all) opens.shows) in
    record {
      rest = read.rest;
      gives = rw (capacity_opens 1 left opens.opened opens.same) read.gives;
      shows = at_line later read.rest read.shows;
    }

-- the rows of all jobs are read, one after the other
pub each_relation : (head : Head) (lists : ℕ → List ℕ) (found : List (List ℕ)) (a n : ℕ)
    → a ≡ length found + 1 → head.jobs ≤ MAX_ACTIVITIES
    → ((b : ℕ) → a ≤ b → b < a + n → (b ≤ head.jobs) × AreSuccessors head.jobs (lists b))
    → ReadsEach AtLine (next_successors head)
    (λ b. job_line 8 10 4 b 1 (length (lists b)) (lists b) ∷ []) lists found (range_with_len a n)
each_relation head lists found a zero place few are = tt
each_relation head lists found a (suc n) place few are =
    let here = are a (omega arith) (omega arith) in
    let first = relation_reads head a (lists a) (omega (arith, here.0)) few here.1 in (
      subst (λ job. Reads AtLine (successors head job)
          (job_line 8 10 4 a 1 (length (lists a)) (lists a) ∷ []) (lists a)) place first,
      each_relation head lists (found ++ lists a ∷ []) (a + 1) n
          (omega (arith, length_push found (lists a))) few
          (λ b from below. are b (omega arith) (omega arith)),
    )

-- so are those of their durations and demands
pub each_request : (head : Head) (durations : ℕ → ℕ) (lists : ℕ → List ℕ) (found : List Request)
    (a n : ℕ) → a ≡ length found + 1
    → sum_by (λ (r : Request). r.duration) found + sum_by durations (range_with_len a n)
    ≤ MAX_DURATION_SUM
    → ((b : ℕ) → a ≤ b → b < a + n
    → (b < 2 ^ 32) × (head.resources ≡ length (lists b)) × AreSmall (lists b))
    → ReadsEach AtLine (next_request head) (λ b. job_line 5 8 7 b 1 (durations b) (lists b) ∷ [])
    (λ b. record { duration = durations b; demands = lists b })
    found (range_with_len a n)
each_request head durations lists found a zero place short are = tt
each_request head durations lists found a (suc n) place short are =
    let here = are a (omega arith) (omega arith) in
    let x : Request = record { duration = durations a; demands = lists a } in
    let sum_is = sum_by-cons durations a (range_with_len (a + 1) n) in
    let first = request_reads head a (sum_by (λ (r : Request). r.duration) found) (durations a)
    (lists a) here.0 (omega (arith, sum_is)) here.1 here.2 in (
      subst (λ job. Reads AtLine (request head job (sum_by (λ (r : Request). r.duration) found))
          (job_line 5 8 7 a 1 (durations a) (lists a) ∷ []) x) place first,
      each_request head durations lists (found ++ x ∷ []) (a + 1) n
          (omega (arith, length_push found x))
          (omega (arith, sum_is, sum_by_push (λ (r : Request). r.duration) found x))
          (λ b from below. are b (omega arith) (omega arith)),
    )

-- whether the first token of a text begins with a digit
abbrev pub digit_first : List ℕ → Bool
digit_first text = is_ascii_digit (slice_index text (indent text))

-- a line that does not begin with a digit is passed over after a head
title_skipped : (left : Left) (line : Line) (lines : List Line) → left.lines ≡ line ∷ lines
    → digit_first line.text ≡ false
    → past_title left ≡ record left { tokens = []; lines = lines }
unfolding past_title past_line next_line begins_with_digit
title_skipped left line lines is other = rw (is, other) refl

-- a title is passed over
pub title_passed : (left : Left) (title : List ℕ) (later : List (List ℕ))
    → digit_first title ≡ false → AtLine left (title ∷ later) → AtLine (past_title left) later
title_passed left title later other shows =
    let first = first_line_is left.lines title later shows.lines_left in
    let skipped = title_skipped left first.line first.rest first.is
    (ap digit_first first.text_is ∙ other) in
    subst (λ left. AtLine left later) (sym skipped)
    (record { nothing_left = refl; lines_left = first.others })

-- where no text is left no line is
no_lines : (lines : List Line) → line_texts lines ≡ [] → lines ≡ []
no_lines [] is = refl
no_lines (line ∷ lines) is = absurd cc

-- without a line nothing is passed over
no_title_left : (left : Left) → left.lines ≡ [] → past_title left ≡ left
unfolding past_title next_line
no_title_left left is = rw is refl

-- where no line is left there is no title
pub no_title : (left : Left) → AtLine left [] → AtLine (past_title left) []
no_title left shows =
    subst (λ left. AtLine left []) (sym (no_title_left left (no_lines left.lines shows.lines_left)))
    shows

-- whether the key of a text begins with a word
abbrev pub key_says : List ℕ → List ℕ → Bool
key_says word text = begins_with word (key_in text)

-- a section that begins: its head is passed over
pub record Begins (word : List ℕ) (item : Item) (left : Left) (later : List (List ℕ)) : Type 0 where
  pub next : Left
  pub gives : section_due word item left ≡ Ok (past_title next)
  pub shows : AtLine next later

-- a line whose key begins with the word is the head that is due
head_passed : (word : List ℕ) (item : Item) (left : Left) (line : Line) (lines : List Line)
    → left.tokens ≡ [] → left.lines ≡ line ∷ lines
    → key_says word line.text ≡ true
    → section_due word item left ≡ Ok (past_title (record left { tokens = []; lines = lines }))
unfolding section_due next_in_line next_line past_line says
head_passed word item left line lines nothing is says = rw (nothing, is, says) refl

-- a section begins with its head
pub section_begins : (word : List ℕ) (item : Item) (left : Left) (head : List ℕ)
    (later : List (List ℕ)) → key_says word head ≡ true
    → AtLine left (head ∷ later) → Begins word item left later
section_begins word item left head later says shows =
    let first = first_line_is left.lines head later shows.lines_left in
    record {
      next = record left { tokens = []; lines = first.rest };
      gives = head_passed word item left first.line first.rest shows.nothing_left first.is
          (ap (key_says word) first.text_is ∙ says);
      shows = record { nothing_left = refl; lines_left = first.others };
    }

-- without a token or a line nothing is left
ends : (left : Left) → left.tokens ≡ [] → left.lines ≡ [] → nothing left ≡ Ok tt
unfolding next_token next_in_line next_line
ends left nothing is = rw (nothing, is) refl

-- nothing is left at the end
pub nothing_more : (left : Left) → AtLine left [] → nothing left ≡ Ok tt
nothing_more left shows = ends left shows.nothing_left (no_lines left.lines shows.lines_left)
