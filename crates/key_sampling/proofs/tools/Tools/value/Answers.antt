use Rattle.std.proofs.Common.{◌≡◌, ℕ, ◌+◌, ◌≤◌, List, slice_index, refl, sym, ap, ◌∙◌, arith}
use Rattle.rc_instance.specs.declared.limits.TheConstants.{MAX_HORIZON}
use Rattle.rc_instance.specs.Project.{Project, duration}
use Rattle.rc_instance.specs.Serial.{serial_start}
use Rattle.activity_net.specs.Network.{Network}
use Rattle.key_sampling.specs.Tools.{list_in, places_in}
use Rattle.key_sampling.proofs.SampleLaws.{finish-within}
use Rattle.key_sampling.proofs.PlacedLaws.{same-through, finish_in-none, finish_in-next, finish_in-all, finish-placed}
use Rattle.key_sampling.proofs.tools.Tools.value.Goals as goal
use Rattle.key_sampling.proofs.tools.Tools.value.Goals.{After-duration}

pub places-init : goal.places-init
places-init c = record {
  same = record { net = refl; keys = refl };
  placed = c.begin.ensures.placed;
  makespan = sym (finish_in-none c.begin.new.self c.begin.ensures.none);
  within = omega arith;
}

-- the finish of the activity at the place is that of the scheme, and within the limits
record IsFinish (project : Project) (order : List ℕ) (i finish : ℕ) : Type 0 where
  is : finish ≡ serial_start project order i + duration project (slice_index order i)
  within : finish ≤ MAX_HORIZON

finishes : (c : After-duration) → IsFinish c.places.self.net.now.project (list_in c.places.self)
    (places_in c.places.self) (c.in-Some.placed.start + c.duration.result)
finishes c =
    let tools = c.places.self in
    let project = tools.net.now.project in
    let next = c.in-Some.ensures.next in
    let of : c.instance.result.now ≡ project =
    c.instance.ensures.value ∙ ap (λ (n : Network). n.project) c.place_next.ensures.same.net in
    let is = finish-placed project c.instance.result.now (list_in tools) (places_in tools)
    c.duration.result c.in-Some.placed of next c.duration.ensures.value in
    let picked = c.places.invariant.placed.picked in
    let low = finish-within project (list_in tools) (places_in tools) picked.limits picked.feasible
    next.within in
    record { is = is; within = omega arith }

pub overflow_add-finish : goal.overflow_add-finish
overflow_add-finish c =
    let within = (finishes (goal.at.overflow_add-finish c).After-duration).within in
    omega arith

pub places-preserved : goal.places-preserved
places-preserved c =
    let tools = c.places.self in
    let new = c.place_next.new.self in
    let before = c.places.invariant in
    let finish = finishes (goal.at.places-preserved c).After-duration in
    record {
      same = same-through c.begin.new.self tools new before.same c.place_next.ensures.same;
      placed = c.place_next.ensures.placed;
      makespan = omega (
        arith,
        c.max-makespan.ensures,
        finish.is,
        before.makespan,
        finish_in-next tools new c.place_next.ensures.same c.in-Some.ensures.next.within
            c.in-Some.ensures.more,
      );
      within = omega (arith, c.max-makespan.ensures, finish.within, before.within);
    }

pub returns-clause-value : goal.returns-clause-value
returns-clause-value c =
    let tools = c.places.self in
    let before = c.places.invariant in
    let project = c.args.self.now.net.now.project in
    let of = ap (λ (n : Network). n.project) (before.same.net ∙ c.begin.ensures.net) in
    before.makespan
    ∙ finish_in-all tools project c.args.seed c.args.sample of
    (before.same.keys ∙ c.begin.ensures.keys) before.placed.picked.feasible
    c.in_default.ensures.none.0
