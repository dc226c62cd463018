use Rattle.std.proofs.Common.{◌≡◌, ℕ, ◌-◌, List, Vec, Global, map, length, sym, ap, ◌∙◌, subst, arith}
use Rattle.std.proofs.lemmas.List.{length-map}
use Rattle.std.proofs.lemmas.List.FromFn.{length-map-range_with_len}
use Rattle.rc_instance.specs.Lists.{numbers, IsRising}
use Rattle.rc_instance.specs.Project.{Project, activity_count}
use Rattle.activity_net.specs.Tables.{lists_in}
use Rattle.activity_net.proofs.PredecessorLaws.{predecessors_up_to, predecessors-none, predecessors-next, predecessors-all}
use Rattle.activity_net.proofs.predecessors.fill.Goals as goal

pub loop-activity-init : goal.loop-activity-init
loop-activity-init c = c.requires ∙ predecessors-none c.args.instance.now

-- there is a list for each activity
long : (project : Project) (a : ℕ) (lists : List (Vec ℕ Global))
    → lists_in lists ≡ map (predecessors_up_to project a) (numbers (activity_count project))
    → length lists ≡ activity_count project
long project a lists same =
    sym (length-map lists _) ∙ (ap length same ∙ length-map-range_with_len
    (predecessors_up_to project a) 1 (activity_count project))

pub list_under-requires : goal.list_under-requires
list_under-requires c =
    subst (λ (n : ℕ). IsRising n c.successors.result.now)
    (sym (long c.args.instance.now (c.loop-activity.activity - 1) c.loop-activity.lists
    c.loop-activity.invariant)) c.successors.ensures.within

pub loop-activity-preserved : goal.loop-activity-preserved
loop-activity-preserved c =
    let before = c.loop-activity.lists in
    let after = c.list_under.new.lists in
    let same : length (lists_in after) ≡ activity_count c.args.instance.now =
    length-map after _ ∙ (c.list_under.auto.lists
    ∙ long c.args.instance.now (c.loop-activity.activity - 1) before c.loop-activity.invariant) in
    predecessors-next c.args.instance.now c.loop-activity.activity (lists_in before)
    (lists_in after) c.successors.result.now
    (omega arith) same c.successors.ensures.value c.loop-activity.invariant
    c.in_ok-list_under.ensures

pub returns : goal.returns
returns c =
    predecessors-all c.args.instance.now (c.loop-activity.activity - 1)
    (lists_in c.loop-activity.lists) (omega arith) c.loop-activity.invariant
