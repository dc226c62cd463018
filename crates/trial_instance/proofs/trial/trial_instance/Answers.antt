use Rattle.std.proofs.Common.{◌≤◌, sym, subst}
use Rattle.std.proofs.lemmas.Result.{IfOk-weaker}
use Rattle.rc_instance.specs.Project.{Project, horizon}
use Rattle.rc_instance.specs.Misfit.{HasNoMisfit}
use Rattle.rc_instance.specs.Order.{IsCycle}
use Rattle.trial_instance.proofs.SoundLaws.{words-fit, words-no_cycle, words-short}
use Rattle.trial_instance.proofs.trial.trial_instance.Goals as goal

pub returns-clause-fits : goal.returns-clause-fits
returns-clause-fits c =
    IfOk-weaker c.instance_of.result _ _
    (λ instance is. subst HasNoMisfit (sym is) (words-fit c.args.activities c.args.resources _))
    c.instance_of.ensures

pub returns-clause-acyclic : goal.returns-clause-acyclic
returns-clause-acyclic c =
    IfOk-weaker c.instance_of.result _ _
    (λ instance is ring. subst (λ (p : Project). IsCycle p ring → ⊥) (sym is)
    (words-no_cycle c.args.activities c.args.resources _ ring c.requires.activities.0))
    c.instance_of.ensures

pub returns-clause-short : goal.returns-clause-short
returns-clause-short c =
    IfOk-weaker c.instance_of.result _ _
    (λ instance is. subst (λ (p : Project). horizon p ≤ 9980) (sym is)
    (words-short c.args.activities c.args.resources _ c.requires.activities.1))
    c.instance_of.ensures
