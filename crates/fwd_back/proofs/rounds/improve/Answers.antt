use Rattle.std.proofs.Common.{◌≡◌, ◌<◌, length, sym, ap, subst, ◌∙◌, arith}
use Rattle.rc_instance.specs.Project.{Project}
use Rattle.rc_instance.specs.Schedule.{IsFeasible, makespan}
use Rattle.activity_net.specs.Network.{Network}
use Rattle.fwd_back.specs.Improved.{forward, improved}
use Rattle.fwd_back.proofs.ImprovedLaws.{improved-falls, improved-stays}
use Rattle.fwd_back.proofs.rounds.improve.Goals as goal

pub returns-then-makespan-clause-improved : goal.returns-then-makespan-clause-improved
returns-then-makespan-clause-improved c =
    let project = c.args.net.now.project in
    let present = c.rounds.present in
    let same = ap (λ (n : Network). n.project) c.rounds.invariant.network in
    let next : c.run.new.next ≡ forward project present =
    c.run.ensures.forward ∙ ap (λ (p : Project). forward p present) same in
    let is : c.instance-instance.result.now ≡ project = c.instance-instance.ensures.value in
    let before : c.makespan-in-rounds.result ≡ makespan project present =
    c.makespan-in-rounds.ensures ∙ ap (λ (p : Project). makespan p present) is in
    let after : c.makespan.result ≡ makespan project (forward project present) =
    c.makespan.ensures
    ∙ (ap (λ (p : Project). makespan p c.run.new.next) is ∙ ap (makespan project) next) in
    sym (c.rounds.invariant.same ∙ improved-stays project present (omega arith))

pub rounds-preserved : goal.rounds-preserved
rounds-preserved c =
    let project = c.args.net.now.project in
    let present = c.rounds.present in
    let same = ap (λ (n : Network). n.project) c.rounds.invariant.network in
    let next : c.run.new.next ≡ forward project present =
    c.run.ensures.forward ∙ ap (λ (p : Project). forward p present) same in
    let is : c.instance-instance.result.now ≡ project = c.instance-instance.ensures.value in
    let before : c.makespan-in-rounds.result ≡ makespan project present =
    c.makespan-in-rounds.ensures ∙ ap (λ (p : Project). makespan p present) is in
    let after : c.makespan.result ≡ makespan project (forward project present) =
    c.makespan.ensures
    ∙ (ap (λ (p : Project). makespan p c.run.new.next) is ∙ ap (makespan project) next) in
    let swapped : c.swap.new.x ≡ forward project present = c.swap.ensures.x_after ∙ next in
    let shortened : makespan project (forward project present) < makespan project present =
    omega arith in
    record {
      ready = c.run.ensures.ready;
      network = c.run.ensures.network ∙ c.rounds.invariant.network;
      feasible = subst (IsFeasible project) (sym c.swap.ensures.x_after)
          (subst (λ (p : Project). IsFeasible p c.run.new.next) same c.run.ensures.feasible);
      shorter = omega (arith, ap (makespan project) swapped, c.rounds.invariant.shorter);
      count = ap length c.swap.ensures.y_after ∙ c.rounds.invariant.feasible.count;
      same = c.rounds.invariant.same
          ∙ (improved-falls project present shortened ∙ ap (improved project) (sym swapped));
    }
