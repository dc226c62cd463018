use Rattle.std.proofs.Common.{◌≡◌, ℕ, ◌-◌, ◌&&◌, not, nat_eq, Bool, List, [], ◌∷◌, ◌++◌, length, ap, ◌∙◌, arith, if◌then◌else◌}
use Rattle.std.specs.List.{filter, range_with_len}
use Rattle.trial_instance.specs.Trial.{was_drawn, or_last, trial_successors}
use Rattle.trial_instance.proofs.DrawLaws.{drawn-next, or_last-is}
use Rattle.trial_instance.proofs.draw.successors_of.Goals as goal

pub loop-later-preserved : goal.loop-later-preserved
loop-later-preserved c =
    let l = c.loop-later in
    drawn-next (was_drawn c.args.resources c.args.words.now c.args.activity) l.later
    c.was_drawn.result l.list.items c.push_if.new.list.items (omega arith) c.in_ok-push_if.ensures
    l.invariant c.was_drawn.ensures

pub returns : goal.returns
unfolding trial_successors
returns c =
    let l = c.loop-later in
    let n = c.args.activities in
    let a = c.args.activity in
    let test = was_drawn c.args.resources c.args.words.now a in
    let whole : l.later - 2 ≡ n - 2 = omega arith in
    let drawn = l.invariant ∙ ap (λ (m : ℕ). filter test (range_with_len 2 m)) whole in
    let last = c.is_last_next-ends.ensures
    ∙ ap (λ (xs : List ℕ). nat_eq (length xs) 0 && not (nat_eq a n)) c.deref.ensures.value in
    c.in_ok-push_if-2.ensures
    ∙ (ap (λ (t : Bool). l.list.items ++ (if t then n ∷ [] else [])) last
    ∙ (or_last-is n a l.list.items ∙ ap (or_last n a) drawn))
