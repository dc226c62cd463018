use Rattle.std.proofs.Common.{◌≡◌, ℕ, ◌+◌, ◌-◌, Bool, add-zero, if◌then◌else◌, sym, ap, ◌∙◌, subst, arith}
use Rattle.std.specs.List.{count_by}
use Rattle.std.proofs.lemmas.List.Sums.{count_by-le-length}
use Rattle.rc_instance.specs.Calendar.{IsWithinLimits}
use Rattle.rc_instance.specs.Lists.{names, numbers}
use Rattle.rc_instance.specs.Project.{activity_count}
use Rattle.rc_instance.proofs.ListLaws.{length-numbers}
use Rattle.activity_net.specs.Network.{Network}
use Rattle.activity_net.specs.Follows.{followers}
use Rattle.activity_net.proofs.FollowLaws.{followers_counted, count_by-numbers_next}
use Rattle.activity_net.proofs.net.Net.all_successors.Goals as goal
use Rattle.activity_net.proofs.net.Net.all_successors.Goals.{then-follows, else-follows}

pub overflow_add-count : goal.overflow_add-count
overflow_add-count c =
    let named = names (followers c.args.self.now.project c.args.activity) in
    let few = count_by-le-length named (numbers (c.loop-later.later - 1)) in
    omega (
      arith,
      length-numbers (c.loop-later.later - 1),
      c.count-later-end.ensures.limits.activities,
      c.count-later-end.ensures.value,
    )

pub loop-later-preserved : goal.loop-later-preserved
loop-later-preserved c =
    let named = names (followers c.args.self.now.project c.args.activity) in
    let before = c.loop-later.count in
    elim c.if-follows.branch [
      | then-follows w ↦ count_by-numbers_next named c.loop-later.later c.if-follows.count before
          c.follows.result (omega arith) c.follows.ensures.value
          c.loop-later.invariant (w.count-is ∙ ap (λ (b : Bool). before + (if b then 1 else 0))
          (sym w.if-follows.true))
      | else-follows w ↦ count_by-numbers_next named c.loop-later.later c.if-follows.count before
          c.follows.result (omega arith) c.follows.ensures.value
          c.loop-later.invariant
          (w.count-is ∙ (sym (add-zero before)
          ∙ ap (λ (b : Bool). before + (if b then 1 else 0)) (sym w.if-follows.false)))
    ]

pub returns : goal.returns
returns c =
    let project = c.args.self.now.project in
    let limits = subst (λ (network : Network). IsWithinLimits network.project) c.self.view_is
    c.self.invariant.limits in
    let all : c.loop-later.later - 1 ≡ activity_count project = omega (
      arith,
      c.count-later-end.ensures.value,
      ap (λ (network : Network). activity_count network.project) c.self.view_is,
    ) in
    c.loop-later.invariant
    ∙ (ap (λ (n : ℕ). count_by (names (followers project c.args.activity)) (numbers n)) all
    ∙ followers_counted project c.args.activity limits c.requires)
