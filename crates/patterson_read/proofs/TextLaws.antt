-- What holds of a text that the grammar accepts: it passes no limit.
use Rattle.std.proofs.Common.{◌≡◌, ℕ, ◌+◌, ◌≤◌, List, [], ◌∷◌, ◌++◌, length, Ok, sym, subst, ◌∙◌, All, arith}
use Rattle.std.specs.List.{sum_by}
use Rattle.std.proofs.lemmas.List.Elements.{All-nil, All-push}
use Rattle.std.proofs.lemmas.List.Sums.{sum_by_push}
use Rattle.rc_instance.specs.declared.limits.TheConstants.{MAX_ACTIVITIES, MAX_RESOURCES, MAX_CAPACITY, MAX_DURATION_SUM}
use Rattle.rc_instance.specs.Lists.{IsUpTo}
use Rattle.rc_edge.specs.Grammar.{more}
use Rattle.rc_edge.specs.Entries as entries
use Rattle.rc_edge.specs.Source.{next_capacity, demand_due, duration_due, successor_due}
use Rattle.rc_edge.proofs.EntryLaws.{activity_count_is, resource_count_is}
use Rattle.rc_edge.proofs.GrammarLaws.{bind_ok, ok_is, more_keeps, more-length}
use Rattle.rc_edge.proofs.SourceLaws.{capacities_found, duration_found, successors_found}
use Rattle.patterson_read.specs.declared.head.Head.{Head}
use Rattle.patterson_read.specs.Left.{Left, number_due, nothing}
use Rattle.patterson_read.specs.Rcp.{Activity, Text, head_due, activity_due, next_activity, text_due}

-- n and K are within the limits
record IsHead (head : Head) : Type 0 where
  some : 1 ≤ head.activities
  few : head.activities ≤ MAX_ACTIVITIES
  resources : head.resources ≤ MAX_RESOURCES

head_is : (left : Left) (found : Head × Left) → head_due left ≡ Ok found → IsHead found.0
unfolding head_due
head_is left found read =
    let first = bind_ok (number_due left) _ found read in
    let activities = bind_ok (entries.activity_count first.0.0) _ found first.2 in
    let second = bind_ok (number_due first.0.1) _ found activities.2 in
    let resources = bind_ok (entries.resource_count second.0.0) _ found second.2 in
    let bounds = activity_count_is first.0.0 activities.0 activities.1 in
    subst (λ (x : Head × Left). IsHead x.0) (ok_is _ found resources.2)
    (record {
      some = bounds.0;
      few = bounds.1;
      resources = resource_count_is second.0.0 resources.0 resources.1;
    })

-- an activity has a demand for each resource, and its successors are activities
record IsEntry (head : Head) (a : Activity) : Type 0 where
  demands : length a.demands ≡ head.resources
  successors : All (IsUpTo head.activities) a.successors

activity_found : (head : Head) (number before : ℕ) (left : Left) (found : Activity × Left)
    → activity_due head number before left ≡ Ok found
    → IsEntry head found.0 × (before + found.0.duration ≤ MAX_DURATION_SUM)
unfolding activity_due
activity_found head number before left found read =
    let n = head.activities in
    let k = head.resources in
    let first = bind_ok (duration_due number_due before left) _ found read in
    let demands = bind_ok (more (λ _. demand_due number_due) k [] first.0.1) _ found first.2 in
    let count = bind_ok (number_due demands.0.1) _ found demands.2 in
    let m = count.0.0.value in
    let lists = bind_ok (more (λ _. successor_due number_due n number) m [] count.0.1) _ found
    count.2 in
    let IsGood : Activity × Left → Type 0 =
    λ x. IsEntry head x.0 × (before + x.0.duration ≤ MAX_DURATION_SUM) in
    let within = successors_found number_due n number m count.0.1 lists.0 lists.1 in
    let many = more-length (λ _. demand_due number_due) k [] first.0.1 demands.0 demands.1 in
    let short = duration_found number_due before left first.0 first.1 in
    subst IsGood (ok_is _ found lists.2)
    (record { demands = omega (arith, many); successors = within }, short)

-- the activities so far
record AreEntries (head : Head) (activities : List Activity) : Type 0 where
  each : All (IsEntry head) activities
  short : sum_by (λ a. a.duration) activities ≤ MAX_DURATION_SUM

-- an accepted text passes no limit
pub record IsText (text : Text) : Type 0 where
  pub some : 1 ≤ length text.activities
  pub few : length text.activities ≤ MAX_ACTIVITIES
  pub resources : length text.capacities ≤ MAX_RESOURCES
  pub capacities : All (λ c. c ≤ MAX_CAPACITY) text.capacities
  pub demands : All (λ a. length a.demands ≡ length text.capacities) text.activities
  pub successors : All (λ a. All (IsUpTo (length text.activities)) a.successors) text.activities
  pub short : sum_by (λ a. a.duration) text.activities ≤ MAX_DURATION_SUM

-- one activity more keeps them within the limits
entries_more : (head : Head) (found : List Activity) (left : Left) (activity : Activity)
    (rest : Left) → AreEntries head found → next_activity head found left ≡ Ok (activity, rest)
    → AreEntries head (found ++ activity ∷ [])
entries_more head found left activity rest before read =
    let sum = sum_by (λ a. a.duration) found in
    let good = activity_found head (length found + 1) sum left (activity, rest) read in
    let longer = sum_by_push (λ (a : Activity). a.duration) found activity in
    record {
      each = All-push (IsEntry head) found activity before.each good.0;
      short = omega (arith, longer, good.1);
    }

pub text_is : (left : Left) (text : Text) → text_due left ≡ Ok text → IsText text
unfolding text_due
text_is left text read =
    let first = bind_ok (head_due left) _ text read in
    let head = first.0.0 in
    let capacities = bind_ok (more (next_capacity number_due) head.resources [] first.0.1) _ text
    first.2 in
    let activities = bind_ok (more (next_activity head) head.activities [] capacities.0.1) _ text
    capacities.2 in
    let end = bind_ok (nothing activities.0.1) _ text activities.2 in
    let bounds = head_is left first.0 first.1 in
    let entries = more_keeps (AreEntries head) (next_activity head) (entries_more head)
    head.activities [] capacities.0.1 activities.0
    (record { each = All-nil (IsEntry head); short = omega arith }) activities.1 in
    let found_all = more-length (next_activity head) head.activities [] capacities.0.1 activities.0
    activities.1 in
    let found_capacities = more-length (next_capacity number_due) head.resources [] first.0.1
    capacities.0 capacities.1 in
    let n : length activities.0.0 ≡ head.activities = omega (arith, found_all) in
    let k : length capacities.0.0 ≡ head.resources = omega (arith, found_capacities) in
    subst IsText (ok_is _ text end.2)
    (record {
      some = omega (arith, n, bounds.some);
      few = omega (arith, n, bounds.few);
      resources = omega (arith, k, bounds.resources);
      capacities = capacities_found number_due head.resources first.0.1 capacities.0 capacities.1;
      demands = λ i d inside. (entries.each i d inside).demands ∙ sym k;
      successors = λ i d inside. rw n (entries.each i d inside).successors;
      short = entries.short;
    })
