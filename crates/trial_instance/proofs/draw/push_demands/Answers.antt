use Rattle.std.proofs.Common.{ℕ, ◌+◌, ◌%◌, slice_index, ap, arith}
use Rattle.trial_instance.specs.Trial.{first_word}
use Rattle.trial_instance.proofs.DrawLaws.{demand-next}
use Rattle.trial_instance.proofs.draw.push_demands.Goals as goal

pub loop-resource-preserved : goal.loop-resource-preserved
loop-resource-preserved c =
    let l = c.loop-resource in
    let words = c.args.words.now in
    let first = first_word c.args.resources c.args.activity in
    demand-next (λ k. slice_index words (first + k) % 11) l.resource _ c.args.demands.now.items
    l.demands.items c.push.new.self.items (omega arith) c.in_ok-push.ensures.items l.invariant
    (ap (λ (i : ℕ). slice_index words (i + l.resource) % 11) c.first_word-first.ensures)
