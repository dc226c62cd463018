use Rattle.std.proofs.Common.{◌≡◌, ℕ, true, map, sym, ap, ◌∙◌, subst, subst₂}
use Rattle.std.specs.List.{All}
use Rattle.std.proofs.lemmas.List.{with_items_is}
use Rattle.activity_net.specs.Network.{Network}
use Rattle.key_sampling.specs.Best.{IsBest}
use Rattle.key_sampling.specs.Race.{view_of, AreSeekers}
use Rattle.key_sampling.specs.Workers.{seeker_of, IsReady}
use Rattle.key_sampling.proofs.CrewLaws.{all_ready, seekers-kept, seekers-ended, handed-back}
use Rattle.key_sampling.proofs.PartLaws.{best_of-unique}
use Rattle.key_sampling.proofs.crew.best_sample.Goals as goal

pub run_all-requires-clause-ready : goal.run_all-requires-clause-ready
run_all-requires-clause-ready g c = λ regions outlives.
    let race = c.in_ok-race.race in
    subst (All (IsReady race)) (sym c.deref_mut.ensures.value)
    (all_ready race c.args.net.now c.args.workers c.in_ok-crew.crew.items c.in_ok-race.seekers.items
    c.in_ok-crew.ensures.0 c.in_ok-race.ensures.1 c.in_ok-crew.ensures.1
    c.in_ok-race.ensures.0.network_is)

pub close-requires-clause-all : goal.close-requires-clause-all
close-requires-clause-all g c =
    let race = c.in_ok-race.race in
    let seekers = c.in_ok-race.seekers.items in
    let old = c.deref_mut.result.now in
    let same = ap (map seeker_of) c.deref_mut.ensures.value ∙ c.in_ok-crew.ensures.0 in
    let back = handed-back c.seekers_of.new.seekers.items c.in_ok-ended.ended.items _
    c.run_all.new.crew c.seekers_of.ensures c.in_ok-ended.ensures.items
    (with_items_is c.in_ok-crew.crew c.run_all.new.crew
    (c.run_all.auto.crew ∙ c.deref_mut.ensures.len)) in
    subst (AreSeekers race) (sym back)
    (seekers-kept race seekers old c.run_all.new.crew c.in_ok-race.ensures.1.all same
    c.run_all.auto.crew c.run_all.ensures)

pub close-requires-clause-ended : goal.close-requires-clause-ended
close-requires-clause-ended g c =
    let race = c.in_ok-race.race in
    let seekers = c.in_ok-race.seekers.items in
    let old = c.deref_mut.result.now in
    let same = ap (map seeker_of) c.deref_mut.ensures.value ∙ c.in_ok-crew.ensures.0 in
    let back = handed-back c.seekers_of.new.seekers.items c.in_ok-ended.ended.items _
    c.run_all.new.crew c.seekers_of.ensures c.in_ok-ended.ensures.items
    (with_items_is c.in_ok-crew.crew c.run_all.new.crew
    (c.run_all.auto.crew ∙ c.deref_mut.ensures.len)) in
    subst (All (λ seeker. (view_of seeker).ended ≡ true)) (sym back)
    (seekers-ended race seekers old c.run_all.new.crew same c.run_all.auto.crew c.run_all.ensures)

pub returns-clause-computed : goal.returns-clause-computed
returns-clause-computed g c =
    let about = c.in_ok-race.ensures.0 in
    let terms = c.in_ok-race.race.terms in
    let best = c.close.result in
    best_of-unique c.args.net.now.project c.args.seed c.args.from c.args.count best
    (subst (λ (n : Network). IsBest n.project c.args.seed c.args.from c.args.count best)
    about.network_is
    (subst (λ (s : ℕ). IsBest terms.net.now.project s c.args.from c.args.count best) about.seed_is
    (subst₂ (λ (f n : ℕ). IsBest terms.net.now.project terms.seed f n best) about.from_is
    about.count_is c.close.ensures)))
