use Rattle.std.proofs.Common.{◌≡◌, ap, ◌∙◌, subst, arith}
use Rattle.activity_net.specs.Network.{Network}
use Rattle.time_windows.specs.Windows.{IsCritical}
use Rattle.time_windows.specs.CapacityBound.{capacity_bound_of}
use Rattle.key_sampling.proofs.BoundLaws.{critical-le-sample, capacity_bound-le-sample}
use Rattle.key_sampling.proofs.search.search.Goals as goal

pub try_sample-requires-clause-floor : goal.try_sample-requires-clause-floor
try_sample-requires-clause-floor c =
    let terms = c.args.race.now.terms in
    let project = terms.net.now.project in
    let order = c.order-order.result.now in
    let feasible = c.order-order.ensures.feasible in
    let critical : IsCritical project c.critical.result =
    subst (λ (n : Network). IsCritical n.project c.critical.result) c.requires.windows
    c.critical.ensures.longest in
    let work : c.capacity_bound.result ≡ capacity_bound_of project =
    c.capacity_bound.ensures.value ∙ ap (λ (n : Network). capacity_bound_of n.project)
    c.requires.windows in
    let longest = critical-le-sample project terms.seed c.in-Some.sample c.critical.result order
    c.requires.fits feasible critical in
    let most = capacity_bound-le-sample project terms.seed c.in-Some.sample order c.requires.fits
    feasible in
    let floor = c.max-floor.ensures in
    omega arith
