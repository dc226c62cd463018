use Rattle.std.proofs.Common.{◌≡◌, ℕ, ◌+◌, ◌++◌, ◌∷◌, [], refl, ap, ◌∙◌, subst, arith}
use Rattle.rc_instance.specs.Project.{Project, activity_count, successors_of}
use Rattle.rc_instance.specs.Calendar.{AreSuccessors}
use Rattle.priority_rules.specs.Picking.{HasRoom, HasPicked, picked_of, picking}
use Rattle.priority_rules.proofs.PickingLaws.{IsNext, next_eligible, next_free, next_is, next_left, next_waits, picked_more}
use Rattle.priority_rules.proofs.choosing.take_next.Goals as goal
use Rattle.priority_rules.proofs.choosing.take_next.Goals.{Start, After-successors-successors}

-- what is known once the next activity is taken from the pile
next : (c : Start) (picked : ℕ)
    → HasPicked c.args.net.now.project c.args.keys.now
    (picking c.args.waiting.now c.args.pile.now c.args.free picked)
    → IsNext c.args.net.now.project c.args.keys.now
    (picking c.args.waiting.now c.args.pile.now c.args.free picked)
    c.args.next
next c picked is = record { picked = is; some = c.requires.some; at = c.requires.next }

-- its successors are those of the project
successors : (c : After-successors-successors)
    → c.successors-successors.result.now
    ≡ successors_of c.args.net.now.project c.args.next
successors c =
    c.successors-successors.ensures.value
    ∙ ap (λ (p : Project). successors_of p c.args.next)
    c.instance.ensures.value

pub successors-successors-requires : goal.successors-successors-requires
successors-successors-requires c =
    rw c.instance.ensures.value (next_eligible _ _ _ _
    (next (goal.at.successors-successors-requires c).Start _ c.requires.picked.1)).0

pub release-requires-clause-wait : goal.release-requires-clause-wait
release-requires-clause-wait c =
    next_waits _ _ _ _ _
    (next (goal.at.release-requires-clause-wait c).Start _ c.requires.picked.1)
    (successors (goal.at.release-requires-clause-wait c).After-successors-successors)
    (subst (λ (p : Project). AreSuccessors (activity_count p) c.successors-successors.result.now)
    c.instance.ensures.value c.successors-successors.ensures.within)

pub release-requires-clause-free : goal.release-requires-clause-free
release-requires-clause-free c = (
  picked_of c.args.net.now.project c.args.keys.now
      (picking c.args.waiting.now c.args.pile.now c.args.free c.requires.picked.0)
      ++ c.args.next ∷ [],
  next_free _ _ _ _
      (next (goal.at.release-requires-clause-free c).Start _ c.requires.picked.1),
)

pub returns-clause-picked : goal.returns-clause-picked
returns-clause-picked c picked is =
    let released = c.release.ensures in
    let tables = c.release.new in
    let room : HasRoom c.args.net.now.project
    (picking tables.waiting tables.pile c.release.result (picked + 1)) =
    record { waiting = omega (arith, is.room.waiting); pile = omega (arith, is.room.pile) } in
    picked_more _ _ _ _ _ _ (next (goal.at.returns-clause-picked c).Start picked is)
    (successors (goal.at.returns-clause-picked c).After-successors-successors) released.waiting
    room released.within released.free released.falling refl

pub returns-clause-next : goal.returns-clause-next
returns-clause-next c picked is =
    let taken = next (goal.at.returns-clause-next c).Start picked is in
    record {
      left = next_left _ _ _ _ taken;
      activity = (next_eligible _ _ _ _ taken).0;
      next = next_is _ _ _ _ taken;
      count = refl;
    }
