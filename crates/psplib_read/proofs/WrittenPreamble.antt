-- The preamble of a written text: how it is written, and what the grammar makes of it.
use Rattle.std.proofs.Common.{◌≡◌, ℕ, ◌^◌, ◌<◌, ◌≤◌, Bool, true, false, List, [], ◌∷◌, ◌++◌, Ok, Option, None, Some, refl, sym, ap, subst, ◌∙◌, arith, append_assoc, append-nil}
use Rattle.std.specs.Prelude.{codes}
use Rattle.std.specs.List.{flat_map}
use Rattle.std.specs.Fmt.{decimal}
use Rattle.rc_instance.specs.declared.limits.TheConstants.{MAX_ACTIVITIES, MAX_RESOURCES}
use Rattle.rc_instance.specs.Project.{Project, activity_count, resource_count, duration_sum}
use Rattle.rc_edge.specs.Tokens.{is_white, Token, tokens_from, tokens_of}
use Rattle.rc_edge.proofs.WrittenLaws.{texts, HasWords, words-none, words-white, words-word, decimal_is_word, number_of-decimal}
use Rattle.rc_edge.proofs.ReadBackLaws.{activity_count_accepted, resource_count_accepted}
use Rattle.psplib_read.specs.declared.preamble.Preamble.{Preamble}
use Rattle.psplib_read.specs.declared.preamble.Topic.TheVariants.{Jobs, Renewable}
use Rattle.psplib_read.specs.Lines.{Line, after_colon, begins_with, says, values_in}
use Rattle.psplib_read.specs.Left.{Left}
use Rattle.psplib_read.specs.Preamble.{token_number, value_of, topic_of, nothing_read, was_read, with_value, with_topic, with_line, ends_preamble, preamble_in}
use Rattle.psplib_read.specs.Written.{ended, ruler, jobs_line, horizon_line, renewable_line, preamble}
use Rattle.psplib_read.proofs.WrittenLines.{line_texts}
use Rattle.psplib_read.proofs.WrittenSections.{AtLine, first_is, first_line_is, moved_texts}

-- eight lines, one after the other
lines_written : (text a b c d e f g h : List ℕ)
    → text ++ ended a ++ ended b ++ ended c ++ ended d ++ ended e ++ ended f ++ ended g ++ ended h
    ≡ text ++ flat_map ended (a ∷ b ∷ c ∷ d ∷ e ∷ f ∷ g ∷ h ∷ [])
lines_written text a b c d e f g h = simp append_assoc

-- the lines before the sections, after a text
pub preamble_written : (project : Project) (text : List ℕ)
    → text ++ ended ruler ++ ended (codes "projects                      :  1")
    ++ ended (codes "jobs (incl. supersource/sink ):  " ++ decimal (activity_count project) ++ [])
    ++ ended (codes "horizon                       :  " ++ decimal (duration_sum project) ++ [])
    ++ ended (codes "RESOURCES")
    ++ ended (codes "  - renewable                 :  " ++ decimal (resource_count project) ++ codes
    "   R")
    ++ ended (codes "  - nonrenewable              :  0   N")
    ++ ended (codes "  - doubly constrained        :  0   D")
    ≡ text ++ flat_map ended (preamble project)
unfolding preamble
preamble_written project text =
    rw (append-nil (decimal (activity_count project)), append-nil (decimal (duration_sum project)))
    (lines_written text ruler (codes "projects                      :  1")
    (jobs_line (activity_count project))
    (horizon_line (duration_sum project)) (codes "RESOURCES")
    (renewable_line (resource_count project))
    (codes "  - nonrenewable              :  0   N")
    (codes "  - doubly constrained        :  0   D"))

-- the value of a line, from the words after its colon
record HasValue (line : Line) (n : ℕ) : Type 0 where
  at : ℕ
  gives : value_of line ≡ Ok (record { value = n; at = at })

-- the first token after the colon is the value
value_first : (line : Line) (token : Token) (rest : List Token) (n : ℕ) → n < 2 ^ 32
    → values_in line ≡ token ∷ rest → token.text ≡ decimal n
    → value_of line ≡ Ok (record { value = n; at = token.at })
unfolding value_of token_number
value_first line token rest n small is text = rw (is, text, number_of-decimal n small) refl

-- the words after the colon are those of its tokens
values_are : (line : Line) (words : List (List ℕ)) → HasWords (after_colon line) words
    → texts (values_in line) ≡ words
unfolding values_in
values_are line words are = moved_texts _ (tokens_of (after_colon line)) ∙ are.has 0

-- where the first word after the colon is a number, that is the value
value_is : (line : Line) (n : ℕ) (words : List (List ℕ)) → n < 2 ^ 32
    → HasWords (after_colon line) (decimal n ∷ words) → HasValue line n
value_is line n words small are =
    let first = first_is (values_in line) (decimal n) words
    (values_are line (decimal n ∷ words) are) in
    record {
      at = first.token.at;
      gives = value_first line first.token first.rest n small first.is
          first.text;
    }

-- a preamble in which so much was read
abbrev read_so_far : Bool → Option ℕ → Option ℕ → Bool → Bool → Preamble
read_so_far projects jobs renewable nonrenewable doubly = record {
  projects = projects;
  jobs = jobs;
  renewable = renewable;
  nonrenewable = nonrenewable;
  doubly_constrained = doubly;
}

-- there is one project
projects_read : (at : ℕ) → with_line
    (record { text = codes "projects                      :  1"; at = at }) nothing_read
    ≡ Ok (read_so_far true None None false false)
unfolding with_line topic_of says begins_with with_topic was_read value_of values_in token_number
    with_value tokens_from is_white
projects_read at = refl

-- what stands after the colon in the line of the jobs
jobs_words : (n : ℕ) → n < 2 ^ 32 → HasWords (codes "  " ++ decimal n) (decimal n ∷ [])
unfolding is_white
jobs_words n small =
    subst (λ digits. HasWords (codes "  " ++ digits) (decimal n ∷ [])) (append-nil (decimal n))
    (words-white (codes "  ") (decimal n ++ []) (decimal n ∷ []) refl
    (words-word (decimal n) [] [] (decimal_is_word n (omega arith)) refl words-none))

-- that line is about the jobs
jobs_topic : (at n : ℕ) → topic_of (record { text = jobs_line n; at = at }) ≡ Some Jobs
unfolding topic_of says begins_with is_white
jobs_topic at n = refl

-- a line about the jobs gives their number
jobs_taken : (line : Line) (n at : ℕ) → 1 ≤ n → n ≤ MAX_ACTIVITIES → topic_of line ≡ Some Jobs
    → value_of line ≡ Ok (record { value = n; at = at })
    → with_line line (read_so_far true None None false false) ≡ Ok
    (read_so_far true (Some n) None false false)
unfolding with_line with_topic was_read with_value
jobs_taken line n at some few topic value =
    rw (topic, value, activity_count_accepted n at some few) refl

-- so does the written one
jobs_read : (at n : ℕ) → 1 ≤ n → n ≤ MAX_ACTIVITIES
    → with_line (record { text = jobs_line n; at = at }) (read_so_far true None None false false)
    ≡ Ok (read_so_far true (Some n) None false false)
jobs_read at n some few =
    let line : Line = record { text = jobs_line n; at = at } in
    let value = value_is line n [] (omega arith) (jobs_words n (omega arith)) in
    jobs_taken line n value.at some few (jobs_topic at n) value.gives

-- the line of the horizon is passed over
horizon_read : (at sum : ℕ) (so_far : Preamble)
    → with_line (record { text = horizon_line sum; at = at }) so_far ≡ Ok so_far
unfolding with_line topic_of says begins_with is_white
horizon_read at sum so_far = refl

-- so is the line above the resources
title_read : (at : ℕ) (so_far : Preamble)
    → with_line (record { text = codes "RESOURCES"; at = at }) so_far ≡ Ok so_far
unfolding with_line topic_of says begins_with is_white
title_read at so_far = refl

-- what stands after the colon in the line of the renewable resources
renewable_words : (k : ℕ) → k < 2 ^ 32
    → HasWords (codes "  " ++ (decimal k ++ codes "   R")) (decimal k ∷ codes "R" ∷ [])
unfolding is_white tokens_from
renewable_words k small =
    words-white (codes "  ") (decimal k ++ codes "   R") (decimal k ∷ codes "R" ∷ []) refl
    (words-word (decimal k) (codes "   R") (codes "R" ∷ []) (decimal_is_word k (omega arith)) refl
    (record { has = λ at. refl }))

-- that line is about these resources
renewable_topic : (at k : ℕ)
    → topic_of (record { text = renewable_line k; at = at }) ≡ Some Renewable
unfolding topic_of says begins_with is_white
renewable_topic at k = refl

-- a line about them gives their number
renewable_taken : (line : Line) (n k at : ℕ) → k ≤ MAX_RESOURCES → topic_of line ≡ Some Renewable
    → value_of line ≡ Ok (record { value = k; at = at })
    → with_line line (read_so_far true (Some n) None false false) ≡ Ok
    (read_so_far true (Some n) (Some k) false false)
unfolding with_line with_topic was_read with_value
renewable_taken line n k at few topic value =
    rw (topic, value, resource_count_accepted k at few) refl

-- so does the written one
renewable_read : (at n k : ℕ) → k ≤ MAX_RESOURCES
    → with_line (record { text = renewable_line k; at = at })
    (read_so_far true (Some n) None false false)
    ≡ Ok (read_so_far true (Some n) (Some k) false false)
renewable_read at n k few =
    let line : Line = record { text = renewable_line k; at = at } in
    let value = value_is line k (codes "R" ∷ []) (omega arith) (renewable_words k (omega arith)) in
    renewable_taken line n k value.at few (renewable_topic at k) value.gives

-- there are no nonrenewable resources
nonrenewable_read : (at n k : ℕ)
    → with_line (record { text = codes "  - nonrenewable              :  0   N"; at = at })
    (read_so_far true (Some n) (Some k) false false)
    ≡ Ok (read_so_far true (Some n) (Some k) true false)
unfolding with_line topic_of says begins_with with_topic was_read value_of values_in token_number
    with_value tokens_from is_white
nonrenewable_read at n k = refl

-- there are no doubly constrained resources
doubly_read : (at n k : ℕ)
    → with_line (record { text = codes "  - doubly constrained        :  0   D"; at = at })
    (read_so_far true (Some n) (Some k) true false)
    ≡ Ok (read_so_far true (Some n) (Some k) true true)
unfolding with_line topic_of says begins_with with_topic was_read value_of values_in token_number
    with_value tokens_from is_white
doubly_read at n k = refl

-- a line of the preamble was read
record Goes (size : ℕ) (before after : Preamble) (lines : List Line) (later : List (List ℕ)) : Type
    0 where
  rest : List Line
  same : preamble_in size before lines ≡ preamble_in size after rest
  texts_left : line_texts rest ≡ later

-- a line that does not end the preamble is read, and the next follows
one_line : (size : ℕ) (before after : Preamble) (line : Line) (lines : List Line)
    → ends_preamble line ≡ false → with_line line before ≡ Ok after
    → preamble_in size before (line ∷ lines) ≡ preamble_in size after lines
unfolding preamble_in
one_line size before after line lines goes_on reads = rw (goes_on, reads) refl

-- the same of a line whose text is known
goes : (size : ℕ) (before after : Preamble) (lines : List Line) (text : List ℕ)
    (later : List (List ℕ))
    → ((at : ℕ) → ends_preamble (record { text = text; at = at }) ≡ false)
    → ((at : ℕ) → with_line (record { text = text; at = at }) before ≡ Ok after)
    → line_texts lines ≡ text ∷ later → Goes size before after lines later
goes size before after lines text later goes_on reads are =
    let first = first_line_is lines text later are in
    let on : ends_preamble first.line ≡ false = subst
    (λ text. ends_preamble (record { text = text; at = first.line.at }) ≡ false) (sym first.text_is)
    (goes_on first.line.at) in
    let read : with_line first.line before ≡ Ok after =
    subst (λ text. with_line (record { text = text; at = first.line.at }) before ≡ Ok after)
    (sym first.text_is) (reads first.line.at) in
    record {
      rest = first.rest;
      same = ap (preamble_in size before) first.is ∙ one_line size before after first.line
          first.rest on read;
      texts_left = first.others;
    }

-- the head of the precedence relations ends the preamble
record Ends (size n k : ℕ) (lines : List Line) (later : List (List ℕ)) : Type 0 where
  rest : Left
  gives : preamble_in size (read_so_far true (Some n) (Some k) true true) lines ≡ Ok
      (record { jobs = n; resources = k }, rest)
  shows : AtLine rest later

-- the line that ends the preamble is passed over
last_line : (size n k : ℕ) (line : Line) (lines : List Line) → ends_preamble line ≡ true
    → preamble_in size (read_so_far true (Some n) (Some k) true true) (line ∷ lines)
    ≡ Ok (record { jobs = n; resources = k }, record { size = size; tokens = []; lines = lines })
unfolding preamble_in
last_line size n k line lines ends = rw ends refl

-- the same of a line whose text is known
ends : (size n k : ℕ) (lines : List Line) (text : List ℕ) (later : List (List ℕ))
    → ((at : ℕ) → ends_preamble (record { text = text; at = at }) ≡ true)
    → line_texts lines ≡ text ∷ later → Ends size n k lines later
ends size n k lines text later last are =
    let first = first_line_is lines text later are in
    let here : ends_preamble first.line ≡ true = subst
    (λ text. ends_preamble (record { text = text; at = first.line.at }) ≡ true) (sym first.text_is)
    (last first.line.at) in
    record {
      rest = record { size = size; tokens = []; lines = first.rest };
      gives = ap (preamble_in size (read_so_far true (Some n) (Some k) true true)) first.is
          ∙ last_line size n k first.line first.rest here;
      shows = record { nothing_left = refl; lines_left = first.others };
    }

-- the texts of the preamble that are neither blank nor rulers, with the head after them
abbrev pub preamble_texts : ℕ → ℕ → ℕ → List (List ℕ) → List (List ℕ)
preamble_texts n sum k later =
    codes "projects                      :  1"
    ∷ jobs_line n
    ∷ horizon_line sum
    ∷ codes "RESOURCES"
    ∷ renewable_line k
    ∷ codes "  - nonrenewable              :  0   N"
    ∷ codes "  - doubly constrained        :  0   D"
    ∷ codes "PRECEDENCE RELATIONS:"
    ∷ later

-- what is left after the preamble and that head
pub record HasHead (size n k : ℕ) (lines : List Line) (later : List (List ℕ)) : Type 0 where
  pub rest : Left
  pub gives : preamble_in size nothing_read lines ≡ Ok (record { jobs = n; resources = k }, rest)
  pub shows : AtLine rest later

-- the written preamble gives n and K
pub preamble_reads : (size n sum k : ℕ) (lines : List Line) (later : List (List ℕ)) → 1 ≤ n
    → n ≤ MAX_ACTIVITIES → k ≤ MAX_RESOURCES
    → line_texts lines ≡ preamble_texts n sum k later → HasHead size n k lines later
unfolding says begins_with is_white
preamble_reads size n sum k lines later some few_jobs few_resources are =
    let seen = read_so_far true (Some n) (Some k) in
    let projects = goes size nothing_read (read_so_far true None None false false) lines _ _
    (λ at. refl) projects_read are in
    let jobs = goes size _ (read_so_far true (Some n) None false false) projects.rest _ _
    (λ at. refl) (λ at. jobs_read at n some few_jobs) projects.texts_left in
    let horizon = goes size _ (read_so_far true (Some n) None false false) jobs.rest _ _
    (λ at. refl) (λ at. horizon_read at sum _) jobs.texts_left in
    let title = goes size _ (read_so_far true (Some n) None false false) horizon.rest _ _
    (λ at. refl) (λ at. title_read at _) horizon.texts_left in
    let renewable = goes size _ (seen false false) title.rest _ _ (λ at. refl)
    (λ at. renewable_read at n k few_resources) title.texts_left in
    let nonrenewable = goes size _ (seen true false) renewable.rest _ _ (λ at. refl)
    (λ at. nonrenewable_read at n k) renewable.texts_left in
    let doubly = goes size _ (seen true true) nonrenewable.rest _ _ (λ at. refl)
    (λ at. doubly_read at n k) nonrenewable.texts_left in
    let last = ends size n k doubly.rest _ later (λ at. refl) doubly.texts_left in
    record {
      rest = last.rest;
      gives = projects.same ∙ (jobs.same
          ∙ (horizon.same ∙ (title.same
          ∙ (renewable.same ∙ (nonrenewable.same ∙ (doubly.same ∙ last.gives))))));
      shows = last.shows;
    }
