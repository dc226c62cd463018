use Rattle.std.proofs.Common.{None, Some, sym, ◌∙◌, ap, arith}
use Rattle.rc_instance.specs.Project.{activity_count, IsActivity}
use Rattle.activity_net.proofs.ListFaultLaws.{next_fault-marked}
use Rattle.activity_net.proofs.feasible_list.next_fault.Goals as goal

pub returns-in_err-predecessor : goal.returns-in_err-predecessor
returns-in_err-predecessor c =
    let project = c.args.net.now.project in
    let activity : IsActivity project c.args.activity = (
      omega arith,
      omega (
        arith,
        c.count-count.ensures.value,
        ap activity_count
            c.instance.ensures.value,
      ),
    ) in
    c.from_residual.ensures
    ∙ sym (next_fault-marked project c.args.before.now c.args.listed.now c.predecessors.result.now
    c.args.activity None c.requires.shows activity
    c.if-listed-activity.false c.predecessors.ensures.value c.in_err-predecessor.ensures)

pub returns : goal.returns
returns c =
    let project = c.args.net.now.project in
    let activity : IsActivity project c.args.activity = (
      omega arith,
      omega (
        arith,
        c.count-count.ensures.value,
        ap activity_count
            c.instance.ensures.value,
      ),
    ) in
    sym (next_fault-marked project c.args.before.now c.args.listed.now c.predecessors.result.now
    c.args.activity (Some c.in_ok-predecessor.predecessor)
    c.requires.shows activity c.if-listed-activity.false c.predecessors.ensures.value
    c.in_ok-predecessor.ensures)
