-- What is written of an instance is read back as the same instance, without a calendar.
use Rattle.std.proofs.Common.{◌≡◌, ℕ, ◌+◌, ◌^◌, ◌<◌, ◌≤◌, true, List, [], ◌∷◌, ◌++◌, length, map, get_or, Ok, refl, sym, ap, subst, ◌∙◌, arith, append_assoc, append-nil, All}
use Rattle.std.specs.Prelude.{codes}
use Rattle.std.specs.List.{flat_map, sum, sum_by}
use Rattle.std.specs.Fmt.{decimal}
use Rattle.std.proofs.lemmas.List.{map-append, map-id}
use Rattle.std.proofs.lemmas.List.Folds.{flat_map-map}
use Rattle.std.proofs.lemmas.List.Elements.{All-nil, All-cons, All-head, All-tail, All-append, All-map}
use Rattle.std.proofs.lemmas.List.Sums.{sum_by-cons, sum_by_push, sum-map}
use Rattle.std.proofs.lemmas.List.FromFn.{length-map-range_with_len}
use Rattle.rc_instance.specs.declared.limits.TheConstants.{MAX_ACTIVITIES, MAX_DURATION_SUM}
use Rattle.rc_instance.specs.Lists.{numbers}
use Rattle.rc_instance.specs.Project.{Project, activity_count, resource_count, duration, demand, successors_of, IsActivity}
use Rattle.rc_instance.specs.Calendar.{AreSuccessors, IsWithinLimits}
use Rattle.rc_instance.proofs.LimitLaws.{rising_length, successors_are as successors_are_numbers}
use Rattle.rc_edge.specs.Tokens.{is_white, Token}
use Rattle.rc_edge.specs.Source.{next_capacity, demand_due, successor_due}
use Rattle.rc_edge.proofs.WrittenLaws.{texts, breaks, HasWords, words-none, words-white, words-word, decimal_is_word}
use Rattle.rc_edge.proofs.NumberedLaws.{numbers_are, AreSmall, small_demands, small_successors, duration-le-sum}
use Rattle.rc_edge.proofs.ReadBackLaws.{Reads, ReadsEach, more_reads, more_numbers_read, number_is_due, activity_count_accepted, resource_count_accepted}
use Rattle.rc_edge.proofs.SourceLaws.{ReadsNumbers, duration_reads, each_capacity, each_demand, each_successor}
use Rattle.rc_edge.proofs.RemadeLaws.{durations_are, demands_are, successors_are, made_again}
use Rattle.patterson_read.specs.declared.head.Head.{Head}
use Rattle.patterson_read.specs.Left.{Left, whole, number_due}
use Rattle.patterson_read.specs.Rcp.{Activity, head_due, activity_due, next_activity, text_due, read_instance}
use Rattle.rc_edge.specs.Written.{demands_of, HasSmallDemandsAt, HasSmallDemands}
use Rattle.patterson_read.specs.Written.{spaced, line, activity_numbers, rcp_lines, rcp_text}

-- a byte that ends a line comes after numbers that have a space before each
spaced_breaks : (ns rest : List ℕ) → breaks (flat_map spaced ns ++ codes "\n" ++ rest) ≡ true
unfolding is_white
spaced_breaks [] rest = refl
spaced_breaks (n ∷ ns) rest = refl

-- the words of such numbers
spaced_words : (ns rest : List ℕ) (words : List (List ℕ)) → AreSmall ns → HasWords rest words
    → HasWords (flat_map spaced ns ++ codes "\n" ++ rest) (map decimal ns ++ words)
unfolding is_white
spaced_words [] rest words small others = words-white (codes "\n") rest words refl others
spaced_words (n ∷ ns) rest words small others =
    let tail = spaced_words ns rest words (All-tail (λ n. n < 2 ^ 32) n ns small) others in
    let fits : n < 2 ^ 64 = omega (arith, All-head (λ n. n < 2 ^ 32) n ns small) in
    let after = flat_map spaced ns ++ codes "\n" ++ rest in
    let all = words-white (codes " ") (decimal n ++ after) (decimal n ∷ map decimal ns ++ words)
    refl
    (words-word (decimal n) after (map decimal ns ++ words) (decimal_is_word n fits)
    (spaced_breaks ns rest) tail) in
    subst (λ bytes. HasWords bytes (decimal n ∷ map decimal ns ++ words)) (simp append_assoc) all

-- the words of a line are its numbers
line_words : (ns rest : List ℕ) (words : List (List ℕ)) → AreSmall ns → HasWords rest words
    → HasWords (line ns ++ rest) (map decimal ns ++ words)
unfolding line is_white
line_words [] rest words small others = words-white (codes "\n") rest words refl others
line_words (n ∷ ns) rest words small others =
    let tail = spaced_words ns rest words (All-tail (λ n. n < 2 ^ 32) n ns small) others in
    let fits : n < 2 ^ 64 = omega (arith, All-head (λ n. n < 2 ^ 32) n ns small) in
    let after = flat_map spaced ns ++ codes "\n" ++ rest in
    let all = words-word (decimal n) after (map decimal ns ++ words) (decimal_is_word n fits)
    (spaced_breaks ns rest) tail in
    subst (λ bytes. HasWords bytes (decimal n ∷ map decimal ns ++ words)) (simp append_assoc) all

-- the words of lines are all their numbers
pub lines_words : (rows : List (List ℕ)) → All AreSmall rows
    → HasWords (flat_map line rows) (flat_map (map decimal) rows)
lines_words [] small = words-none
lines_words (row ∷ rows) small =
    line_words row (flat_map line rows) (flat_map (map decimal) rows)
    (All-head AreSmall row rows small) (lines_words rows (All-tail AreSmall row rows small))

-- what is left shows these words
abbrev pub HasWordsLeft : Left → List (List ℕ) → Type 0
HasWordsLeft left words = texts left.tokens ≡ words

-- the word of a number is read as that number
number_reads : ReadsNumbers HasWordsLeft number_due
unfolding number_due
number_reads left n later small is =
    let due = number_is_due left.size left.tokens n later small is in record {
      at = due.at;
      rest = record left { tokens = due.rest };
      gives = rw due.gives refl;
      shows = due.words;
    }

-- the words of an activity
abbrev pub activity_words : Activity → List (List ℕ)
activity_words x =
    decimal x.duration ∷ map decimal x.demands ++ decimal (length x.successors) ∷ map decimal
    x.successors

-- what an activity of an instance keeps
pub record IsFit (head : Head) (x : Activity) : Type 0 where
  pub demands : head.resources ≡ length x.demands
  pub small : AreSmall x.demands
  pub successors : AreSuccessors head.activities x.successors

-- an activity is read of its words
activity_reads : (head : Head) (number before : ℕ) (x : Activity)
    → head.activities ≤ MAX_ACTIVITIES → IsFit head x
    → before + x.duration ≤ MAX_DURATION_SUM
    → Reads HasWordsLeft (activity_due head number before) (activity_words x) x
unfolding activity_due
activity_reads head number before x few fit short = record {
  reads = λ left later is.
      let many = rising_length head.activities x.successors fit.successors in
      let one = λ (_ : List ℕ). successor_due number_due head.activities number in
      let successors_left = map decimal x.successors ++ later in
      let count_left = decimal (length x.successors) ∷ successors_left in
      let begun = is ∙ ap (λ words. decimal x.duration ∷ words)
      (append_assoc (map decimal x.demands)
      (decimal (length x.successors) ∷ map decimal x.successors) later) in
      let duration = (duration_reads HasWordsLeft number_due number_reads before x.duration
      short).reads left (map decimal x.demands ++ count_left) begun in
      let each_demand = each_demand HasWordsLeft number_due number_reads [] x.demands fit.small in
      let demands = more_numbers_read HasWordsLeft (λ _. demand_due number_due) head.resources
      x.demands fit.demands each_demand duration.rest count_left duration.shows in
      let count = number_reads demands.rest (length x.successors) successors_left
      (omega arith) demands.shows in
      let each = each_successor HasWordsLeft number_due number_reads head.activities number []
      x.successors fit.successors.within few in
      let successors = more_numbers_read HasWordsLeft one (length x.successors) x.successors refl
      each count.rest later count.shows in
      record {
        rest = successors.rest;
        gives = rw (duration.gives, demands.gives, count.gives, successors.gives) refl;
        shows = successors.shows;
      };
}

-- activities are read one after the other
each_activity : (head : Head) (found xs : List Activity)
    → head.activities ≤ MAX_ACTIVITIES → All (IsFit head) xs
    → sum_by (λ a. a.duration) found + sum_by (λ a. a.duration) xs ≤ MAX_DURATION_SUM
    → ReadsEach HasWordsLeft (next_activity head) activity_words (λ x. x) found xs
each_activity head found [] few fit short = tt
each_activity head found (x ∷ xs) few fit short =
    let sum = sum_by-cons (λ (a : Activity). a.duration) x xs in
    let pushed = sum_by_push (λ (a : Activity). a.duration) found x in (
      activity_reads head (length found + 1) (sum_by (λ a. a.duration) found) x few
          (All-head (IsFit head) x xs fit) (omega (arith, sum)),
      each_activity head (found ++ x ∷ []) xs few (All-tail (IsFit head) x xs fit)
          (omega (arith, pushed, sum)),
    )

-- what the text says of an activity of an instance
abbrev pub activity_of : Project → ℕ → Activity
activity_of project a = record {
  duration = duration project a;
  demands = demands_of project a;
  successors = successors_of project a;
}

-- the head of its text
abbrev pub head_of : Project → Head
head_of project = record { activities = activity_count project; resources = resource_count project }

-- the words of activities, from their numbers
activity_words_are : (project : Project) (ns : List ℕ)
    → flat_map (map decimal) (map (activity_numbers project) ns) ≡ flat_map activity_words
    (map (activity_of project) ns)
unfolding activity_numbers
activity_words_are project [] = refl
activity_words_are project (a ∷ ns) =
    let here = map-append decimal (demands_of project a)
    (length (successors_of project a) ∷ successors_of project a) in
    rw (here, activity_words_are project ns) refl

-- activities of an instance keep its limits
all_fit : (project : Project) → IsWithinLimits project → HasSmallDemands project
    → All (IsFit (head_of project)) (map (activity_of project) (numbers (activity_count project)))
all_fit project limits small =
    All-map (IsFit (head_of project)) (activity_of project) (numbers (activity_count project))
    (λ i d h.
    let a = get_or (numbers (activity_count project)) i d in
    let is = numbers_are (activity_count project) i d h in record {
      demands = sym (length-map-range_with_len (demand project a) 1 (resource_count project));
      small = small_demands project a (small a is);
      successors = successors_are_numbers project a limits is;
    })

-- their durations have the sum of all durations
durations_of : (project : Project) (ns : List ℕ)
    → map (λ (a : Activity). a.duration) (map (activity_of project) ns) ≡ map (duration project) ns
durations_of project [] = refl
durations_of project (a ∷ ns) = ap (λ ds. duration project a ∷ ds) (durations_of project ns)

-- their successors are those of the instance
successors_from : (project : Project) (ns : List ℕ)
    → map (λ (a : Activity). a.successors) (map (activity_of project) ns) ≡ map
    (successors_of project) ns
successors_from project [] = refl
successors_from project (a ∷ ns) =
    ap (λ lists. successors_of project a ∷ lists) (successors_from project ns)

-- the numbers of an activity fit 32 bits
small_numbers : (project : Project) (a : ℕ) → IsWithinLimits project → HasSmallDemandsAt project a
    → IsActivity project a
    → AreSmall (activity_numbers project a)
unfolding activity_numbers
small_numbers project a limits small is =
    let small_number : ℕ → Type 0 = λ n. n < 2 ^ 32 in
    let successors = small_successors project a limits is in
    let count = length (successors_of project a) in
    let list = successors_of project a in
    All-cons small_number (duration project a) (demands_of project a ++ count ∷ list)
    (omega (arith, duration-le-sum project a is, limits.durations))
    (All-append small_number (demands_of project a) (count ∷ list) (small_demands project a small)
    (All-cons small_number count list successors.1 successors.0))

-- so does each number of the text
small_rows : (project : Project) → IsWithinLimits project → HasSmallDemands project
    → All AreSmall (rcp_lines project)
unfolding rcp_lines
small_rows project limits small =
    let ends = λ (n : ℕ) (fits : n < 2 ^ 32). All-cons (λ n. n < 2 ^ 32) n [] fits
    (All-nil (λ n. n < 2 ^ 32)) in
    let n = activity_count project in
    let k = resource_count project in
    let few : n < 2 ^ 32 = omega (arith, limits.activities) in
    let capacities : AreSmall project.capacities = λ i d h. omega
    (arith, limits.capacities i d h) in
    let rows = map (activity_numbers project) (numbers n) in
    All-cons AreSmall (n ∷ k ∷ []) (project.capacities ∷ rows)
    (All-cons (λ n. n < 2 ^ 32) n (k ∷ []) few (ends k (omega (arith, limits.resources))))
    (All-cons AreSmall project.capacities rows capacities
    (All-map AreSmall (activity_numbers project) (numbers n)
    (λ i d h. let is = numbers_are n i d h in small_numbers project (get_or (numbers n) i d) limits
    (small (get_or (numbers n) i d) is) is)))

-- the words of the text are read as its capacities and activities
text_reads : (left : Left) (project : Project) → IsWithinLimits project
    → HasSmallDemands project
    → texts left.tokens ≡ decimal (activity_count project) ∷ decimal (resource_count project) ∷ map
    decimal project.capacities
    ++ flat_map activity_words (map (activity_of project) (numbers (activity_count project)))
    → text_due left
    ≡ Ok (record {
      capacities = project.capacities;
      activities = map (activity_of project)
          (numbers (activity_count project));
    })
unfolding text_due head_due
text_reads left project limits small all =
    let n = activity_count project in
    let k = resource_count project in
    let activities = map (activity_of project) (numbers n) in
    let activity_part = flat_map activity_words activities in
    let capacity_part = map decimal project.capacities ++ activity_part in
    let first = number_reads left n (decimal k ∷ capacity_part) (omega (arith, limits.activities))
    all in
    let second = number_reads first.rest k capacity_part (omega (arith, limits.resources))
    first.shows in
    let each = each_capacity HasWordsLeft number_due number_reads [] project.capacities
    limits.capacities in
    let capacities = more_numbers_read HasWordsLeft (next_capacity number_due) k project.capacities
    refl each second.rest activity_part second.shows in
    let count : length activities ≡ n = length-map-range_with_len (activity_of project) 1 n in
    let sum_is : sum_by (λ (a : Activity). a.duration) activities ≡ sum project.durations =
    sym (sum-map (λ (a : Activity). a.duration) activities) ∙ ap sum
    (durations_of project (numbers n) ∙ durations_are project) in
    let fit = all_fit project limits small in
    let each_one = each_activity (head_of project) [] activities limits.activities fit
    (omega (arith, sum_is, limits.durations)) in
    let others = more_reads HasWordsLeft (next_activity (head_of project)) activity_words (λ x. x)
    [] activities each_one capacities.rest [] (capacities.shows ∙ sym (append-nil activity_part)) in
    let all_read = rw (count, map-id activities) at others.gives in
    let end : others.rest.tokens ≡ [] = no_words others.rest.tokens others.shows in
    rw (
      first.gives,
      activity_count_accepted n first.at limits.some limits.activities,
      second.gives,
      resource_count_accepted k second.at limits.resources,
      capacities.gives,
      all_read,
      end,
    ) refl
  where
    no_words : (tokens : List Token) → texts tokens ≡ [] → tokens ≡ []
    no_words [] is = refl
    no_words (token ∷ tokens) is = absurd cc

-- all words of the text
all_words : (project : Project) → flat_map (map decimal) (rcp_lines project)
    ≡ decimal (activity_count project) ∷ decimal (resource_count project) ∷ map decimal
    project.capacities
    ++ flat_map activity_words (map (activity_of project) (numbers (activity_count project)))
unfolding rcp_lines
all_words project = rw (activity_words_are project (numbers (activity_count project))) refl

-- so the instance is read back
pub written_is_read : (project : Project) → IsWithinLimits project → HasSmallDemands project
    → read_instance (rcp_text project) ≡ Ok (record project { changes = [] })
unfolding rcp_text read_instance
written_is_read project limits small =
    let n = activity_count project in
    let words = (lines_words (rcp_lines project) (small_rows project limits small)).has 0 in
    let all = words ∙ all_words project in
    let text = flat_map line (rcp_lines project) in
    rw (
      text_reads (whole text) project limits small all,
      durations_of project (numbers n),
      durations_are project,
      flat_map-map (λ (a : Activity). a.demands) (activity_of project) (numbers n),
      demands_are project limits,
      successors_from project (numbers n),
      successors_are project limits,
      made_again project limits,
    )
    refl
