use Rattle.std.proofs.Common.{ℕ, ◌++◌, take, drop, nat_eq, sym, ap, ◌∙◌}
use Rattle.std.specs.List.{position}
use Rattle.activity_net.specs.Ring.{from_least}
use Rattle.activity_net.proofs.RingLaws.{place-some, from_least-none}
use Rattle.activity_net.proofs.ring.turn_to_least.Goals as goal

pub returns-in-Some : goal.returns-in-Some
unfolding from_least
returns-in-Some c =
    let ring = c.args.ring.now in
    let found = ap (λ (n : ℕ). position (λ a. nat_eq a n) ring) (sym c.least-least.ensures)
    ∙ sym c.in-Some.ensures in
    c.rotate_left.ensures.after ∙ ap (λ (k : ℕ). drop k ring ++ take k ring)
    (place-some _ ring c.in-Some.place found)

pub returns-in_default : goal.returns-in_default
returns-in_default c =
    let ring = c.args.ring.now in
    sym (from_least-none ring (ap (λ (n : ℕ). position (λ a. nat_eq a n) ring)
    (sym c.least-least.ensures) ∙ sym c.in_default.ensures))
