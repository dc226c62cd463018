-- What holds of a text that the format accepts: it passes no limit.
use Rattle.std.proofs.Common.{◌≡◌, ℕ, ◌+◌, ◌≤◌, List, [], ◌∷◌, ◌++◌, length, Ok, sym, subst, ◌∙◌, All, arith, codes}
use Rattle.std.specs.List.{sum_by}
use Rattle.std.proofs.lemmas.List.Elements.{All-nil, All-push}
use Rattle.std.proofs.lemmas.List.Sums.{sum_by_push}
use Rattle.rc_instance.specs.declared.limits.TheConstants.{MAX_ACTIVITIES, MAX_RESOURCES, MAX_CAPACITY, MAX_DURATION_SUM}
use Rattle.rc_instance.specs.Lists.{IsUpTo}
use Rattle.rc_edge.specs.declared.text_fault.Item.TheVariants.{Requests, Availabilities}
use Rattle.rc_edge.specs.Grammar.{more}
use Rattle.rc_edge.specs.Source.{next_capacity, demand_due, duration_due}
use Rattle.rc_edge.proofs.GrammarLaws.{bind_ok, ok_is, more_keeps, more-length}
use Rattle.psplib_read.specs.declared.preamble.Head.{Head}
use Rattle.psplib_read.specs.Left.{Left}
use Rattle.psplib_read.specs.Preamble.{head_due}
use Rattle.rc_edge.proofs.SourceLaws.{capacities_found, duration_found, successors_found}
use Rattle.psplib_read.specs.Sm.{number_due, job_due, successors, next_successors, Request, request, next_request, past_title, section_due, nothing, Text, text_due}
use Rattle.psplib_read.proofs.HeadLaws.{head_is}

-- the successors of a job are jobs
jobs_found : (head : Head) (job : ℕ) (left : Left) (found : List ℕ × Left)
    → successors head job left ≡ Ok found → All (IsUpTo head.jobs) found.0
unfolding successors
jobs_found head job left found read =
    let named = bind_ok (job_due job left) _ found read in
    let count = bind_ok (number_due named.0) _ found named.2 in
    successors_found number_due head.jobs job count.0.0.value count.0.1 found count.2

-- a job has a demand for each resource, and its duration is short enough
abbrev HasDemands : Head → Request → Type 0
HasDemands head r = length r.demands ≡ head.resources

request_found : (head : Head) (job before : ℕ) (left : Left) (found : Request × Left)
    → request head job before left ≡ Ok found
    → HasDemands head found.0 × (before + found.0.duration ≤ MAX_DURATION_SUM)
unfolding request
request_found head job before left found read =
    let named = bind_ok (job_due job left) _ found read in
    let k = head.resources in
    let first = bind_ok (duration_due number_due before named.0) _ found named.2 in
    let demands = bind_ok (more (λ _. demand_due number_due) k [] first.0.1) _ found first.2 in
    let IsGood : Request × Left → Type 0 =
    λ x. HasDemands head x.0 × (before + x.0.duration ≤ MAX_DURATION_SUM) in
    let many = more-length (λ _. demand_due number_due) k [] first.0.1 demands.0 demands.1 in
    let short = duration_found number_due before named.0 first.0 first.1 in
    subst IsGood (ok_is _ found demands.2) (omega (arith, many), short)

-- the requests so far
record AreRequests (head : Head) (requests : List Request) : Type 0 where
  each : All (HasDemands head) requests
  short : sum_by (λ r. r.duration) requests ≤ MAX_DURATION_SUM

-- an accepted text passes no limit, and has as many lists of successors as requests
pub record IsText (text : Text) : Type 0 where
  pub some : 1 ≤ length text.requests
  pub few : length text.requests ≤ MAX_ACTIVITIES
  pub resources : length text.capacities ≤ MAX_RESOURCES
  pub capacities : All (λ c. c ≤ MAX_CAPACITY) text.capacities
  pub demands : All (λ r. length r.demands ≡ length text.capacities) text.requests
  pub lists : length text.successors ≡ length text.requests
  pub successors : All (All (IsUpTo (length text.requests))) text.successors
  pub short : sum_by (λ r. r.duration) text.requests ≤ MAX_DURATION_SUM

-- one request more keeps them so
requests_more : (head : Head) (found : List Request) (left : Left) (request : Request)
    (rest : Left) → AreRequests head found → next_request head found left ≡ Ok (request, rest)
    → AreRequests head (found ++ request ∷ [])
requests_more head found left request rest before read =
    let sum = sum_by (λ r. r.duration) found in
    let fits = request_found head (length found + 1) sum left (request, rest) read in
    let longer = sum_by_push (λ (r : Request). r.duration) found request in
    record {
      each = All-push (HasDemands head) found request before.each fits.0;
      short = omega (arith, longer, fits.1);
    }

-- one list of successors more
lists_more : (head : Head) (found : List (List ℕ)) (left : Left) (list : List ℕ) (rest : Left)
    → All (All (IsUpTo head.jobs)) found → next_successors head found left ≡ Ok (list, rest)
    → All (All (IsUpTo head.jobs)) (found ++ list ∷ [])
lists_more head found left list rest before read =
    All-push (All (IsUpTo head.jobs)) found list before
    (jobs_found head (length found + 1) left (list, rest) read)

pub text_is : (left : Left) (text : Text) → text_due left ≡ Ok text → IsText text
unfolding text_due
text_is left text read =
    let work = codes "requests/durations" in
    let room = codes "resourceavailabilities" in
    let first = bind_ok (head_due left) _ text read in
    let head = first.0.0 in
    let n = head.jobs in
    let k = head.resources in
    let titled = past_title first.0.1 in
    let lists = bind_ok (more (next_successors head) n [] titled) _ text first.2 in
    let turned = bind_ok (section_due work Requests lists.0.1) _ text lists.2 in
    let requests = bind_ok (more (next_request head) n [] turned.0) _ text turned.2 in
    let last = bind_ok (section_due room Availabilities requests.0.1) _ text requests.2 in
    let capacities = bind_ok (more (next_capacity number_due) k [] last.0) _ text last.2 in
    let end = bind_ok (nothing capacities.0.1) _ text capacities.2 in
    let bounds = head_is left first.0 first.1 in
    let named = more_keeps (All (All (IsUpTo n))) (next_successors head) (lists_more head) n []
    titled lists.0 (All-nil (All (IsUpTo n))) lists.1 in
    let none : AreRequests head [] = record {
      each = All-nil (HasDemands head);
      short = omega arith;
    } in
    let good = more_keeps (AreRequests head) (next_request head) (requests_more head) n []
    turned.0 requests.0 none requests.1 in
    let requests_found = more-length (next_request head) n [] turned.0 requests.0 requests.1 in
    let lists_found = more-length (next_successors head) n [] titled lists.0 lists.1 in
    let capacity_count = more-length (next_capacity number_due) k [] last.0 capacities.0
    capacities.1 in
    let jobs : length requests.0.0 ≡ n = omega (arith, requests_found) in
    let rows : length lists.0.0 ≡ n = omega (arith, lists_found) in
    let resources : length capacities.0.0 ≡ k = omega (arith, capacity_count) in
    subst IsText (ok_is _ text end.2)
    (record {
      some = omega (arith, jobs, bounds.some);
      few = omega (arith, jobs, bounds.few);
      resources = omega (arith, resources, bounds.resources);
      capacities = capacities_found number_due k last.0 capacities.0 capacities.1;
      demands = λ i d inside. good.each i d inside ∙ sym resources;
      lists = rows ∙ sym jobs;
      successors = rw jobs named;
      short = good.short;
    })
