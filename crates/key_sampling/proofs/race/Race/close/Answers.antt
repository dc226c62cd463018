use Rattle.std.proofs.Common.{◌≡◌, ℕ, ◌+◌, true, length, sym, ap, ◌∙◌, subst}
use Rattle.std.specs.Vec.Iter.{into_iter_items}
use Rattle.key_sampling.specs.declared.seeker.Seeker.{Seeker}
use Rattle.key_sampling.specs.Race.{view_of}
use Rattle.key_sampling.proofs.RaceLaws.{next_item}
use Rattle.key_sampling.proofs.race.Race.close.Goals as goal

pub gather-requires-clause-ended : goal.gather-requires-clause-ended
gather-requires-clause-ended c =
    let l = c.loop-other in
    let other = c.in-Some-other.other in
    let here = next_item c.args.seekers.items l.yielded (into_iter_items l.other-iterator) _ other
    other l.invariant.rest c.in-Some-other.ensures.steps.0 in
    subst (λ (s : Seeker). (view_of s).ended ≡ true) here.1
    (c.requires.ended (length l.yielded + 1) other here.0)

pub gather-requires-clause-next : goal.gather-requires-clause-next
gather-requires-clause-next c =
    let l = c.loop-other in
    let other = c.in-Some-other.other in
    let here = next_item c.args.seekers.items l.yielded (into_iter_items l.other-iterator) _ other
    other l.invariant.rest c.in-Some-other.ensures.steps.0 in
    let number = subst (λ (s : Seeker). (view_of s).number ≡ length l.yielded + 1) here.1
    (c.requires.all.each (length l.yielded + 1) other here.0).number_is in
    number ∙ ap (λ (n : ℕ). n + 1) (sym l.invariant.first.joined_is)
