use Rattle.std.proofs.Common.{◌≡◌, ℕ, List, [], Ok, refl, ap, ◌∙◌}
use Rattle.rc_edge.specs.Grammar.{more}
use Rattle.rc_edge.specs.Source.{demand_due}
use Rattle.psplib_read.specs.Left.{Left}
use Rattle.psplib_read.specs.Sm.{number_due, Request, request}
use Rattle.psplib_read.proofs.requests.read_request.Goals as goal

pub returns-clause-reads : goal.returns-clause-reads
unfolding request
returns-clause-reads c =
    let demands = c.in_ok-push_demands.ensures in
    let found : Request = record {
      duration = c.in_ok-duration.duration;
      demands = demands.0.0;
    } in
    let demands_read : more (λ (_ : List ℕ). demand_due number_due) c.args.head.resources []
    c.read_duration.new.source ≡ Ok (demands.0.0, c.push_demands.new.source) =
    demands.1 ∙ ap (λ (left : Left). Ok (demands.0.0, left)) demands.2.1 in (
      (found, c.push_demands.new.source),
      rw (c.in_ok-job_due.ensures, c.in_ok-duration.ensures.reads, demands_read) refl,
      (refl, refl, record { durations = c.in_ok-push.ensures.items; demands = demands.2.0 }),
    )
