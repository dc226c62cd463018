-- The work of jobs, read one after the other into columns.
use Rattle.std.proofs.Common.{◌≡◌, ℕ, ◌-◌, ◌≤◌, List, [], ◌∷◌, ◌++◌, length, sym, append-nil, ◌∙◌}
use Rattle.std.specs.List.{sum_by}
use Rattle.std.proofs.lemmas.List.{map_push}
use Rattle.std.proofs.lemmas.Grind.{flat_map-append}
use Rattle.rc_instance.specs.declared.limits.TheConstants.{MAX_DURATION_SUM}
use Rattle.rc_edge.specs.Grammar.{more}
use Rattle.psplib_read.specs.declared.preamble.Head.{Head}
use Rattle.psplib_read.specs.declared.requests.Requests.{Requests}
use Rattle.psplib_read.specs.Left.{Left}
use Rattle.psplib_read.specs.Sm.{Request, next_request}
use Rattle.psplib_read.specs.View.{Holds, Gains}

-- the requests that were found, and what is left after them
pub record HasRead (head : Head) (before left : Left) (requests : Requests) (index sum : ℕ)
    (found : List Request) : Type 0 where
  pub count : length found ≡ index
  pub sum_is : sum_by (λ r. r.duration) found ≡ sum
  pub short : sum ≤ MAX_DURATION_SUM
  pub holds : Holds found requests
  pub rest : more (next_request head) (head.jobs - index) found left
      ≡ more (next_request head) head.jobs [] before

-- columns that have gained a request hold it after those before
pub holds_more : (found : List Request) (request : Request) (old new : Requests)
    → Holds found old → Gains request old new → Holds (found ++ request ∷ []) new
holds_more found request old new holds gains =
    let durations = map_push (λ (r : Request). r.duration) found request in
    let demands = flat_map-append (λ (r : Request). r.demands) found (request ∷ []) in
    record {
      durations = gains.durations ∙ rw holds.durations (sym durations);
      demands = gains.demands ∙ rw holds.demands (sym (rw append-nil at demands));
    }
