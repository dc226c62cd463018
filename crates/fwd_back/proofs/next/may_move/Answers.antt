use Rattle.std.proofs.Common.{◌≡◌, ap, subst, ◌∙◌}
use Rattle.rc_instance.specs.Project.{Project, activity_count, successors_of}
use Rattle.rc_instance.specs.Calendar.{AreSuccessors}
use Rattle.fwd_back.specs.Backward.{activities_of}
use Rattle.fwd_back.proofs.DueLaws.{may_move-marked, may_move-unmarked}
use Rattle.fwd_back.proofs.next.may_move.Goals as goal

pub returns-then-not-marks-activity : goal.returns-then-not-marks-activity
returns-then-not-marks-activity c =
    let project = c.args.line.now.project in
    let a = c.args.activity in
    let after = c.successors.result.now in
    let is : after ≡ successors_of project a =
    c.successors.ensures.value ∙ ap (λ (p : Project). successors_of p a) c.instance.ensures in
    let are = subst (λ (p : Project). AreSuccessors (activity_count p) after) c.instance.ensures
    c.successors.ensures.within in
    c.are_marked.ensures
    ∙ may_move-unmarked project (activities_of c.args.line.now.bookings) c.args.marks.now a after
    c.requires.marks c.requires.activity is are.within c.if-not-marks-activity.true

pub returns-else-not-marks-activity : goal.returns-else-not-marks-activity
returns-else-not-marks-activity c =
    may_move-marked c.args.line.now.project (activities_of c.args.line.now.bookings)
    c.args.marks.now c.args.activity c.requires.marks c.requires.activity
    c.if-not-marks-activity.false
