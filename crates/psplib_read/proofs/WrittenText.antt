-- The text that is written of an instance is read back as the same instance, without a calendar.
use Rattle.std.proofs.Common.{◌≡◌, ℕ, ◌-◌, ◌^◌, ◌<◌, ◌≤◌, true, false, List, [], ◌∷◌, ◌++◌, length, map, get_or, Ok, refl, sym, ap, subst, ◌∙◌, arith, append_assoc, All}
use Rattle.std.specs.Prelude.{codes, replicate}
use Rattle.std.specs.List.{list_all, filter, flat_map, sum, sum_by}
use Rattle.std.specs.Fmt.{decimal}
use Rattle.std.proofs.lemmas.List.Elements.{filter-append}
use Rattle.std.proofs.lemmas.List.Elements.{All-head, All-tail}
use Rattle.std.proofs.lemmas.List.Folds.{list_all-append, flat_map-map}
use Rattle.std.proofs.lemmas.List.Concat.{flat_map_single}
use Rattle.std.proofs.lemmas.List.FromFn.{length-map-range_with_len}
use Rattle.std.proofs.lemmas.List.Sums.{sum-map}
use Rattle.rc_instance.specs.declared.limits.TheConstants.{MAX_CAPACITY}
use Rattle.rc_instance.specs.Lists.{numbers}
use Rattle.rc_instance.specs.Project.{Project, activity_count, resource_count, duration, duration_sum, demand, successors_of, IsActivity}
use Rattle.rc_instance.specs.Calendar.{IsWithinLimits}
use Rattle.rc_instance.proofs.LimitLaws.{successors_are as successors_are_numbers}
use Rattle.rc_instance.proofs.ListLaws.{length-numbers}
use Rattle.rc_edge.specs.declared.text_fault.Item.TheVariants.{Requests, Availabilities}
use Rattle.rc_edge.specs.Tokens.{is_white}
use Rattle.rc_edge.specs.Grammar.{more}
use Rattle.rc_edge.specs.Written.{demands_of, HasSmallDemandsAt, HasSmallDemands}
use Rattle.rc_edge.proofs.NumberedLaws.{numbers_are, AreSmall, small_demands, small_successors, duration-le-sum}
use Rattle.rc_edge.proofs.ReadBackLaws.{Leaves, more_reads}
use Rattle.rc_edge.proofs.RemadeLaws.{durations_are, demands_are, successors_are, made_again}
use Rattle.psplib_read.specs.declared.preamble.Head.{Head}
use Rattle.psplib_read.specs.Lines.{lines_of, lines_from, begins_with}
use Rattle.psplib_read.specs.Left.{Left, whole}
use Rattle.psplib_read.specs.Preamble.{head_due}
use Rattle.rc_edge.specs.Source.{next_capacity}
use Rattle.psplib_read.specs.Sm.{number_due, next_successors, Request, next_request, past_title, section_due, nothing, text_due, read_instance}
use Rattle.psplib_read.specs.Written.{ended, ruler, column, resource_name, resource_names, jobs_line, horizon_line, renewable_line, preamble, relation, relations, request, requests, availabilities, sm_lines, sm_text}
use Rattle.psplib_read.proofs.WrittenLines.{is_plain_byte, is_plain, line_texts, lines_written, speaks, spoken_are}
use Rattle.psplib_read.proofs.WrittenWords.{job_line, job_line_plain, job_line_speaks, columns_plain, decimal_plain, number_speaks}
use Rattle.psplib_read.proofs.WrittenSections.{AtLine, each_relation, each_request, capacities_read, digit_first, key_says, title_passed, no_title, section_begins, nothing_more}
use Rattle.psplib_read.proofs.WrittenPreamble.{preamble_texts, preamble_reads}

-- the row of a job and its successors
abbrev pub relation_row : Project → ℕ → List ℕ
relation_row project a = job_line 8 10 4 a 1 (length (successors_of project a))
    (successors_of project a)

-- the row of a job, its duration and its demands
abbrev pub request_row : Project → ℕ → List ℕ
request_row project a = job_line 5 8 7 a 1 (duration project a) (demands_of project a)

-- a line without line ends
abbrev IsPlain : List ℕ → Type 0
IsPlain text = is_plain text ≡ true

-- the row of a job and its successors is plain
relation_plain : (project : Project) (a : ℕ) → IsWithinLimits project → IsActivity project a
    → IsPlain (relation_row project a)
relation_plain project a limits is =
    job_line_plain 8 10 4 a 1 (length (successors_of project a)) (successors_of project a)
    (omega (arith, limits.activities)) (omega arith)
    (small_successors project a limits is).1 (small_successors project a limits is).0

-- so is the row of its duration and demands
request_plain : (project : Project) (a : ℕ) → IsWithinLimits project → HasSmallDemandsAt project a
    → IsActivity project a → IsPlain (request_row project a)
request_plain project a limits small is =
    job_line_plain 5 8 7 a 1 (duration project a) (demands_of project a)
    (omega (arith, limits.activities)) (omega arith)
    (omega (arith, duration-le-sum project a is, limits.durations)) (small_demands project a small)

-- lines that speak are all kept
all_speak : (f : ℕ → List ℕ) (ns : List ℕ) → All (λ a. speaks (f a) ≡ true) ns
    → filter speaks (map f ns) ≡ map f ns
all_speak f [] each = refl
all_speak f (a ∷ ns) each =
    rw (All-head (λ a. speaks (f a) ≡ true) a ns each)
    (ap (λ rows. f a ∷ rows) (all_speak f ns (All-tail (λ a. speaks (f a) ≡ true) a ns each)))

-- the rows of the jobs and their successors are all kept
relations_speak : (project : Project) → IsWithinLimits project
    → filter speaks (map (relation_row project) (numbers (activity_count project))) ≡ map
    (relation_row project) (numbers (activity_count project))
relations_speak project limits =
    let n = activity_count project in
    all_speak (relation_row project) (numbers n)
    (λ i d h. let a = get_or (numbers n) i d in
    job_line_speaks 8 10 4 a 1 (length (successors_of project a)) (successors_of project a)
    (omega (arith, (numbers_are n i d h).1, limits.activities)))

-- so are the rows of their durations and demands
requests_speak : (project : Project) → IsWithinLimits project
    → filter speaks (map (request_row project) (numbers (activity_count project))) ≡ map
    (request_row project) (numbers (activity_count project))
requests_speak project limits =
    let n = activity_count project in
    all_speak (request_row project) (numbers n)
    (λ i d h. let a = get_or (numbers n) i d in
    job_line_speaks 5 8 7 a 1 (duration project a) (demands_of project a)
    (omega (arith, (numbers_are n i d h).1, limits.activities)))

-- the names of resources are plain
names_plain : (ns : List ℕ) → AreSmall ns → IsPlain (flat_map resource_name ns)
names_plain [] small = refl
names_plain (n ∷ ns) small =
    let here : n < 2 ^ 64 = omega (arith, All-head (λ n. n < 2 ^ 32) n ns small) in
    list_all-append is_plain_byte (decimal n) (flat_map resource_name ns)
    ∙ rw (decimal_plain n here, names_plain ns (All-tail (λ n. n < 2 ^ 32) n ns small)) refl

-- so is the line of all names
resource_names_plain : (project : Project) → IsWithinLimits project
    → IsPlain (resource_names project)
unfolding resource_names
resource_names_plain project limits =
    names_plain (numbers (resource_count project))
    (λ i d h. omega (arith, (numbers_are (resource_count project) i d h).1, limits.resources))

-- the lines of the preamble are plain
preamble_plain : (project : Project) → IsWithinLimits project
    → list_all is_plain (preamble project) ≡ true
unfolding preamble
preamble_plain project limits =
    let n = activity_count project in
    let k = resource_count project in
    let sum = duration_sum project in
    let jobs : IsPlain (jobs_line n) = decimal_plain n (omega (arith, limits.activities)) in
    let horizon : IsPlain (horizon_line sum) = decimal_plain sum
    (omega (arith, limits.durations)) in
    let renewable : IsPlain (renewable_line k) = list_all-append is_plain_byte (decimal k)
    (codes "   R") ∙ rw (decimal_plain k (omega (arith, limits.resources))) refl in
    rw (jobs, horizon, renewable) refl

-- lines that are plain one by one are all plain
all_plain : (f : ℕ → List ℕ) (ns : List ℕ) → All (λ a. IsPlain (f a)) ns
    → list_all is_plain (map f ns) ≡ true
all_plain f [] each = refl
all_plain f (a ∷ ns) each =
    rw (
      All-head (λ a. IsPlain (f a)) a ns each,
      all_plain f ns
          (All-tail (λ a. IsPlain (f a)) a ns each),
    ) refl

-- the lines of the precedence relations
relations_plain : (project : Project) → IsWithinLimits project
    → list_all is_plain (relations project) ≡ true
unfolding relations relation
relations_plain project limits =
    let n = activity_count project in
    all_plain (relation_row project) (numbers n)
    (λ i d h. relation_plain project (get_or (numbers n) i d) limits (numbers_are n i d h))

-- the lines of the durations and demands
requests_plain : (project : Project) → IsWithinLimits project → HasSmallDemands project
    → list_all is_plain (requests project) ≡ true
unfolding requests request
requests_plain project limits small =
    let n = activity_count project in
    let rows = all_plain (request_row project) (numbers n)
    (λ i d h. let is = numbers_are n i d h in request_plain project (get_or (numbers n) i d) limits
    (small (get_or (numbers n) i d) is) is) in
    let title : IsPlain (codes "jobnr. mode duration" ++ resource_names project) =
    resource_names_plain project limits in
    rw (title, rows) refl

-- the lines of the capacities
availabilities_plain : (project : Project) → IsWithinLimits project
    → list_all is_plain (availabilities project) ≡ true
unfolding availabilities
availabilities_plain project limits =
    let numbers_small : AreSmall project.capacities = λ i d h. omega
    (arith, limits.capacities i d h) in
    rw (resource_names_plain project limits, columns_plain 7 project.capacities numbers_small) refl

-- all lines of the text
lines_plain : (project : Project) → IsWithinLimits project → HasSmallDemands project
    → list_all is_plain (sm_lines project) ≡ true
lines_plain project limits small =
    list_all-append is_plain (preamble project ++ relations project ++ requests project)
    (availabilities project)
    ∙ rw (
      list_all-append is_plain (preamble project ++ relations project) (requests project),
      list_all-append is_plain (preamble project) (relations project),
      preamble_plain project limits,
      relations_plain project limits,
      requests_plain project limits small,
      availabilities_plain project limits,
    )
    refl

-- the lines of the last section that are neither blank nor rulers
abbrev pub capacity_texts : List ℕ → List (List ℕ)
capacity_texts capacities =
    filter speaks (flat_map resource_name (numbers (length capacities)) ∷ flat_map (column 7)
    capacities ∷ ruler ∷ [])

-- the texts of the lines that are neither blank nor rulers
abbrev pub texts_from_requests : Project → List (List ℕ)
texts_from_requests project =
    codes "REQUESTS/DURATIONS:"
    ∷ (codes "jobnr. mode duration" ++ resource_names project)
    ∷ map (request_row project) (numbers (activity_count project))
    ++ codes "RESOURCEAVAILABILITIES:" ∷ capacity_texts project.capacities

-- all of them, from the preamble on
abbrev pub all_texts : Project → List (List ℕ)
all_texts project =
    preamble_texts (activity_count project) (duration_sum project) (resource_count project)
    (codes "jobnr.    #modes  #successors   successors"
    ∷ map (relation_row project) (numbers (activity_count project)) ++ texts_from_requests project)

-- of the written lines these are kept
preamble_and_relations : (project : Project) (later : List (List ℕ)) → IsWithinLimits project
    → filter speaks (preamble project ++ (relations project ++ later))
    ≡ preamble_texts (activity_count project) (duration_sum project) (resource_count project)
    (codes "jobnr.    #modes  #successors   successors"
    ∷ map (relation_row project) (numbers (activity_count project)) ++ filter speaks later)
unfolding preamble relations relation is_white
preamble_and_relations project later limits =
    rw (
      filter-append speaks (map (relation_row project) (numbers (activity_count project))) later,
      relations_speak project limits,
    ) refl

-- these of the other sections
requests_and_availabilities : (project : Project) → IsWithinLimits project
    → filter speaks (requests project ++ availabilities project) ≡ texts_from_requests project
unfolding requests request availabilities resource_names is_white
requests_and_availabilities project limits =
    rw (
      filter-append speaks (map (request_row project) (numbers (activity_count project)))
          (availabilities project),
      requests_speak project limits,
    ) refl

-- the texts of these lines, in order
after_preamble : Project → List (List ℕ) → List (List ℕ)
after_preamble project later =
    preamble_texts (activity_count project) (duration_sum project) (resource_count project)
    (codes "jobnr.    #modes  #successors   successors" ∷ map (relation_row project)
    (numbers (activity_count project)) ++ later)

-- so these are all that are kept
texts_are : (project : Project) → IsWithinLimits project
    → filter speaks (sm_lines project) ≡ all_texts project
unfolding after_preamble
texts_are project limits =
    let p = preamble project in
    let r = relations project in
    let later = requests project ++ availabilities project in
    let regrouped : sm_lines project ≡ p ++ (r ++ later) = regroup p r (requests project)
    (availabilities project) in
    ap (filter speaks) regrouped
    ∙ (preamble_and_relations project later limits ∙ ap (after_preamble project)
    (requests_and_availabilities project limits))
  where
    regroup : (a b c d : List (List ℕ)) → a ++ b ++ c ++ d ≡ a ++ (b ++ (c ++ d))
    regroup a b c d = simp append_assoc

-- the capacities are read from the lines after the head of their section
last_section_reads : (left : Left) (capacities : List ℕ) → All (λ c. c ≤ MAX_CAPACITY) capacities
    → AtLine left (capacity_texts capacities)
    → Leaves AtLine (more (next_capacity number_due) (length capacities) [] (past_title left))
    capacities []
unfolding more is_white
last_section_reads left [] small shows =
    record { rest = past_title left; gives = refl; shows = no_title left shows }
last_section_reads left (c ∷ cs) small shows =
    let names = flat_map resource_name (numbers (length (c ∷ cs))) in
    let line = flat_map (column 7) (c ∷ cs) in
    let here : c < 2 ^ 64 = omega (arith, All-head (λ c. c ≤ MAX_CAPACITY) c cs small) in
    let speaking : speaks line ≡ true = capacity_speaks c cs here in
    let both_lines : capacity_texts (c ∷ cs) ≡ names ∷ line ∷ [] = rw speaking refl in
    let titled = title_passed left names (line ∷ []) refl (subst (AtLine left) both_lines shows) in
    capacities_read (past_title left) c cs [] small titled
  where
    capacity_speaks : (c : ℕ) (cs : List ℕ) → c < 2 ^ 64
        → speaks (flat_map (column 7) (c ∷ cs)) ≡ true
    capacity_speaks c cs fits =
        let pad = replicate (7 - length (decimal c)) 32 in
        let same : codes " " ++ pad ++ (decimal c ++ flat_map (column 7) cs) ≡ flat_map (column 7)
        (c ∷ cs) = simp append_assoc in
        subst (λ bytes. speaks bytes ≡ true) same
        (number_speaks (codes " " ++ pad) (flat_map (column 7) cs) c fits)

-- n and K
abbrev pub head_of : Project → Head
head_of project = record { jobs = activity_count project; resources = resource_count project }

-- what the text says of the work of a job
abbrev pub request_of : Project → ℕ → Request
request_of project a = record { duration = duration project a; demands = demands_of project a }

-- the heads of the sections are known, and their titles passed over
heads_known : (key_says (codes "requests/durations") (codes "REQUESTS/DURATIONS:") ≡ true)
    × (key_says (codes "resourceavailabilities") (codes "RESOURCEAVAILABILITIES:") ≡ true)
unfolding begins_with is_white
heads_known = (refl, refl)

-- no title begins with a digit
titles_known : (rest : List ℕ)
    → (digit_first (codes "jobnr.    #modes  #successors   successors") ≡ false)
    × (digit_first (codes "jobnr. mode duration" ++ rest) ≡ false)
unfolding is_white
titles_known rest = (refl, refl)

-- the rows of all jobs are read
relations_read : (project : Project) (left : Left) (later : List (List ℕ)) → IsWithinLimits project
    → AtLine left (map (relation_row project) (numbers (activity_count project)) ++ later)
    → Leaves AtLine (more (next_successors (head_of project)) (activity_count project) [] left)
    (map (successors_of project) (numbers (activity_count project))) later
relations_read project left later limits shows =
    let n = activity_count project in
    let rows = sym (flat_map_single (relation_row project) (numbers n)) in
    let each = each_relation (head_of project) (successors_of project) [] 1 n refl limits.activities
    (λ b from below. let is : IsActivity project b =
    (from, omega arith) in (is.1, successors_are_numbers project b limits is)) in
    let read = more_reads AtLine (next_successors (head_of project))
    (λ b. relation_row project b ∷ []) (successors_of project) [] (numbers n) each left later
    (subst (λ texts. AtLine left (texts ++ later)) rows shows) in
    record {
      rest = read.rest;
      gives = rw (length-numbers n) at read.gives;
      shows = read.shows;
    }

-- so are the rows of their durations and demands
requests_read : (project : Project) (left : Left) (later : List (List ℕ)) → IsWithinLimits project
    → HasSmallDemands project
    → AtLine left (map (request_row project) (numbers (activity_count project)) ++ later)
    → Leaves AtLine (more (next_request (head_of project)) (activity_count project) [] left)
    (map (request_of project) (numbers (activity_count project))) later
requests_read project left later limits small shows =
    let n = activity_count project in
    let rows = sym (flat_map_single (request_row project) (numbers n)) in
    let sum_is : sum_by (duration project) (numbers n) ≡ duration_sum project = sym
    (sum-map (duration project) (numbers n)) ∙ ap sum (durations_are project) in
    let each = each_request (head_of project) (duration project) (demands_of project) [] 1 n refl
    (omega (arith, sum_is, limits.durations))
    (λ b from below. let is : IsActivity project b = (from, omega arith) in (
      omega (arith, limits.activities),
      sym
          (length-map-range_with_len (demand project b) 1 (resource_count project)),
      small_demands
          project b (small b is),
    )) in
    let read = more_reads AtLine (next_request (head_of project)) (λ b. request_row project b ∷ [])
    (request_of project) [] (numbers n) each left later
    (subst (λ texts. AtLine left (texts ++ later)) rows shows) in
    record {
      rest = read.rest;
      gives = rw (length-numbers n) at read.gives;
      shows = read.shows;
    }

-- the parts of a text, one after the other
all_parts : (left relations_left relations_end requests_left requests_end capacities_left
    end : Left) (head : Head) (capacities : List ℕ) (requests : List Request)
    (successors : List (List ℕ))
    → head_due left ≡ Ok (head, relations_left)
    → more (next_successors head) head.jobs [] (past_title relations_left) ≡ Ok
    (successors, relations_end)
    → section_due (codes "requests/durations") Requests relations_end ≡ Ok requests_left
    → more (next_request head) head.jobs [] requests_left ≡ Ok (requests, requests_end)
    → section_due (codes "resourceavailabilities") Availabilities requests_end ≡ Ok capacities_left
    → more (next_capacity number_due) head.resources [] capacities_left ≡ Ok (capacities, end)
    → nothing end ≡ Ok tt
    → text_due left ≡ Ok (record
    { capacities = capacities; requests = requests; successors = successors })
unfolding text_due
all_parts left relations_left relations_end requests_left requests_end capacities_left end head
    capacities requests successors a b c d e f g =
    rw (a, b, c, d, e, f, g) refl

-- what the whole text says
text_reads : (bytes : List ℕ) (project : Project) → IsWithinLimits project → HasSmallDemands project
    → line_texts (lines_of bytes) ≡ all_texts project
    → text_due (whole bytes)
    ≡ Ok (record {
      capacities = project.capacities;
      requests = map (request_of project) (numbers (activity_count project));
      successors = map (successors_of project) (numbers (activity_count project));
    })
text_reads bytes project limits small are =
    let n = activity_count project in
    let head = preamble_reads (length bytes) n (duration_sum project) (resource_count project)
    (lines_of bytes)
    (codes "jobnr.    #modes  #successors   successors" ∷ map (relation_row project) (numbers n)
    ++ texts_from_requests project)
    limits.some limits.activities limits.resources are in
    let titles = titles_known (resource_names project) in
    let first = title_passed head.rest (codes "jobnr.    #modes  #successors   successors")
    (map (relation_row project) (numbers n) ++ texts_from_requests project) titles.0 head.shows in
    let relations = relations_read project (past_title head.rest) (texts_from_requests project)
    limits first in
    let later = map (request_row project) (numbers n) ++ codes "RESOURCEAVAILABILITIES:"
    ∷ capacity_texts project.capacities in
    let title = codes "jobnr. mode duration" ++ resource_names project in
    let begun = section_begins (codes "requests/durations") Requests relations.rest
    (codes "REQUESTS/DURATIONS:") (title ∷ later) heads_known.0 relations.shows in
    let second = title_passed begun.next title later titles.1 begun.shows in
    let requests = requests_read project (past_title begun.next)
    (codes "RESOURCEAVAILABILITIES:" ∷ capacity_texts project.capacities) limits small second in
    let last = section_begins (codes "resourceavailabilities") Availabilities requests.rest
    (codes "RESOURCEAVAILABILITIES:")
    (capacity_texts project.capacities) heads_known.1 requests.shows in
    let capacities = last_section_reads last.next project.capacities limits.capacities last.shows in
    all_parts (whole bytes) head.rest relations.rest (past_title begun.next) requests.rest
    (past_title last.next) capacities.rest (head_of project)
    project.capacities (map (request_of project) (numbers n))
    (map (successors_of project) (numbers n))
    head.gives relations.gives begun.gives requests.gives last.gives capacities.gives
    (nothing_more capacities.rest capacities.shows)

-- the durations that the text tells
durations_of : (project : Project) (ns : List ℕ)
    → map (λ (r : Request). r.duration) (map (request_of project) ns) ≡ map (duration project) ns
durations_of project [] = refl
durations_of project (a ∷ ns) = ap (λ ds. duration project a ∷ ds) (durations_of project ns)

-- so the instance is read back
pub written_is_read : (project : Project) → IsWithinLimits project → HasSmallDemands project
    → read_instance (sm_text project) ≡ Ok (record project { changes = [] })
unfolding sm_text read_instance
written_is_read project limits small =
    let n = activity_count project in
    let text = flat_map ended (sm_lines project) in
    let lines = spoken_are (lines_from false 0 text)
    ∙ (ap (filter speaks) (lines_written 0 (sm_lines project) (lines_plain project limits small))
    ∙ texts_are project limits) in
    rw (
      text_reads text project limits small lines,
      durations_of project (numbers n),
      durations_are project,
      flat_map-map (λ (r : Request). r.demands) (request_of project) (numbers n),
      demands_are project limits,
      successors_are project limits,
      made_again project limits,
    )
    refl
