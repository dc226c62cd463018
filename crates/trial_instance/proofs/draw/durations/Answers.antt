use Rattle.std.proofs.Common.{ℕ, ◌+◌, ◌%◌, slice_index, ap, arith}
use Rattle.trial_instance.specs.Trial.{trial_duration}
use Rattle.trial_instance.proofs.DrawLaws.{duration-next}
use Rattle.trial_instance.proofs.draw.durations.Goals as goal

pub loop-activity-preserved : goal.loop-activity-preserved
loop-activity-preserved c =
    let l = c.loop-activity in
    let words = c.args.words.now in
    duration-next (trial_duration c.args.resources words) l.activity _ l.durations.items
    c.push-in-loop-activity.new.self.items (omega arith)
    c.in_ok-push-2.ensures.items l.invariant
    (ap (λ (i : ℕ). 1 + slice_index words i % 10) c.first_word.ensures)
