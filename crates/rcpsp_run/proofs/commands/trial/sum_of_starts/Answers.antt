use Rattle.std.proofs.Common.{◌≡◌, ℕ, ◌+◌, ◌-◌, take, sum, ap, ◌∙◌, arith}
use Rattle.rc_instance.specs.Schedule.{start_at}
use Rattle.rcpsp_run.proofs.SummaryLaws.{starts-more}
use Rattle.rcpsp_run.proofs.commands.trial.sum_of_starts.Goals as goal

pub loop-activity-preserved : goal.loop-activity-preserved
loop-activity-preserved c =
    let l = c.loop-activity in
    let starts = c.args.schedule.now in
    let a = l.activity in
    let more = starts-more starts a (omega arith) (omega (arith, c.requires)) in
    let added : c.from-sum.result ≡ start_at starts a = c.from-sum.ensures ∙ c.start.ensures in
    let same : a + 1 - 1 ≡ a = omega arith in
    let next = ap (λ (n : ℕ). sum (take n starts)) same in
    record {
      so_far = omega (arith, l.invariant.so_far, added, more, next);
      small = omega (arith, l.invariant.small);
    }
