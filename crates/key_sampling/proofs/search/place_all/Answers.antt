use Rattle.std.proofs.Common.{◌≡◌, ℕ, ◌≤◌, refl, ap, ◌∙◌, arith}
use Rattle.rc_instance.specs.Schedule.{makespan, serial_schedule}
use Rattle.activity_net.specs.Network.{Network}
use Rattle.key_sampling.specs.declared.race.Race.{Race}
use Rattle.key_sampling.specs.declared.tools.Tools.{Tools}
use Rattle.key_sampling.specs.Samples.{sample_keys}
use Rattle.key_sampling.specs.Tools.{list_in, places_in}
use Rattle.key_sampling.specs.Workers.{BoundsNext}
use Rattle.key_sampling.specs.Race.{value_in}
use Rattle.key_sampling.proofs.SampleLaws.{makespan-of}
use Rattle.key_sampling.proofs.PlacedLaws.{same-through, list_in-sample, finish_in-none, finish_in-next, finish_in-all}
use Rattle.key_sampling.proofs.RaceLaws.{stays_here, stays-through}
use Rattle.key_sampling.proofs.search.place_all.Goals as goal

pub places-init : goal.places-init
places-init c =
    let nothing = finish_in-none c.args.tools.now c.requires.none in
    record {
      stays = stays_here c.args.race.now c.args.seeker.now c.requires.own;
      hand = c.requires.hand;
      same = record { net = refl; keys = refl };
      placed = c.requires.placed;
      low = c.requires.floor;
      covers = omega arith;
    }

-- a bound that grows with a place of the list of a sample is no more than its value
low-next : (race : Race) (tools : Tools) (sample old new : ℕ)
    → tools.net.now ≡ race.terms.net.now
    → tools.keys.items ≡ sample_keys race.terms.net.now.project race.terms.seed sample
    → BoundsNext tools.net.now.project (list_in tools) (places_in tools) old new
    → old ≤ value_in race sample → new ≤ value_in race sample
low-next race tools sample old new network keys bound before =
    let of = ap (λ (n : Network). n.project) network in
    let value : makespan tools.net.now.project
    (serial_schedule tools.net.now.project (list_in tools)) ≡ value_in race sample =
    makespan-of tools.net.now.project race.terms.net.now.project race.terms.seed sample
    (list_in tools) of
    (list_in-sample tools race.terms.net.now.project race.terms.seed sample of keys) in
    let low = bound.low in
    omega arith

pub gives_up-requires-clause-bound : goal.gives_up-requires-clause-bound
gives_up-requires-clause-bound c =
    let before = c.places.invariant in
    low-next c.args.race.now c.places.tools c.args.sample c.places.bound c.in-Some.reached
    (before.same.net ∙ c.requires.network) (before.same.keys ∙ c.requires.keys)
    c.in-Some.ensures.bound before.low

pub places-preserved : goal.places-preserved
places-preserved c =
    let tools = c.places.tools in
    let new = c.place_next.new.tools in
    let before = c.places.invariant in
    let bound = c.in-Some.ensures.bound in
    let rises = bound.rises in
    let reach = bound.covers in
    let covered = before.covers in
    let next = finish_in-next tools new c.place_next.ensures.same bound.within
    c.in-Some.ensures.more in
    record {
      stays = stays-through c.args.race.now c.args.seeker.now c.places.seeker
          c.gives_up.new.seeker before.stays c.gives_up.ensures.stays;
      hand = c.gives_up.ensures.kept c.if-gives_up.false;
      same = same-through c.args.tools.now tools new before.same c.place_next.ensures.same;
      placed = c.place_next.ensures.placed;
      low = low-next c.args.race.now tools c.args.sample c.places.bound c.in-Some.reached
          (before.same.net ∙ c.requires.network) (before.same.keys ∙ c.requires.keys) bound
          before.low;
      covers = omega arith;
    }

pub returns-clause-value : goal.returns-clause-value
returns-clause-value c =
    let tools = c.places.tools in
    let before = c.places.invariant in
    let race = c.args.race.now in
    let of = ap (λ (n : Network). n.project) (before.same.net ∙ c.requires.network) in
    let all = finish_in-all tools race.terms.net.now.project race.terms.seed c.args.sample of
    (before.same.keys ∙ c.requires.keys) before.placed.picked.feasible
    c.in_default.ensures.none.0 in
    let low = before.low in
    let covers = before.covers in
    (omega arith, before.hand)
