use Rattle.std.proofs.Common.{ℕ, ◌+◌, ◌≤◌, List, slice_index, subst₂, arith}
use Rattle.std.proofs.lemmas.List.Elements.{All-get_or}
use Rattle.rc_instance.specs.Project.{Project, IsActivity, duration}
use Rattle.rc_instance.specs.Serial.{serial_start}
use Rattle.rc_instance.specs.Schedule.{makespan, serial_schedule}
use Rattle.rc_instance.proofs.FeasibleLaws.{makespan-serial_schedule-le-horizon}
use Rattle.activity_net.specs.Network.{Network}
use Rattle.time_windows.specs.Windows.{IsTail}
use Rattle.serial_plain.proofs.HorizonLaws.{horizon-le}
use Rattle.key_sampling.specs.Tools.{list_in, places_in}
use Rattle.key_sampling.proofs.BoundLaws.{start-tail-le-list, duration-le-tail}
use Rattle.key_sampling.proofs.search.place_next.Goals as goal
use Rattle.key_sampling.proofs.search.place_next.Goals.{After-tail}

-- what the start and the tail of the activity come to
record IsReach (project : Project) (order : List ℕ) (place start tail : ℕ) : Type 0 where
  covers : serial_start project order place + duration project (slice_index order place)
      ≤ start + tail
  low : start + tail ≤ makespan project (serial_schedule project order)

reaches : (c : After-tail) → IsReach c.args.tools.now.net.now.project (list_in c.args.tools.now)
    (places_in c.args.tools.now) c.in-Some.placed.start c.tail.result
reaches c =
    let tools = c.args.tools.now in
    let project = tools.net.now.project in
    let order = list_in tools in
    let i = places_in tools in
    let tail = c.tail.result in
    let next = c.in-Some.ensures.next in
    let start = next.start in
    let feasible = c.requires.placed.picked.feasible in
    let is : IsTail project (slice_index order i) tail =
    subst₂ (λ (n : Network) (a : ℕ). IsTail n.project a tail) c.requires.windows next.activity
    c.tail.ensures.longest in
    let activity = All-get_or (IsActivity project) order i 0 next.within feasible.activities in
    let lasts = duration-le-tail project (slice_index order i) tail activity is in
    let low = start-tail-le-list project order i tail c.requires.fits feasible next.within is in
    record { covers = omega arith; low = omega arith }

pub overflow_add-reach : goal.overflow_add-reach
overflow_add-reach c =
    let tools = c.args.tools.now in
    let project = tools.net.now.project in
    let low = (reaches (goal.at.overflow_add-reach c).After-tail).low in
    let far = makespan-serial_schedule-le-horizon project (list_in tools)
    c.requires.placed.picked.feasible in
    let horizon = horizon-le project c.requires.placed.picked.limits in
    omega arith

pub returns-clause-bound : goal.returns-clause-bound
returns-clause-bound c =
    let r = reaches (goal.at.returns-clause-bound c).After-tail in
    let covers = r.covers in
    let low = r.low in
    let max = c.max.ensures in
    record {
      within = c.in-Some.ensures.next.within;
      rises = omega arith;
      covers = omega arith;
      low = omega arith;
    }
