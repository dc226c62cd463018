use Rattle.std.proofs.Common.{◌≤◌, ◌<◌, take}
use Rattle.std.specs.List.{All}
use Rattle.activity_net.proofs.removal.next_place.Given as goal

abbrev pub invariant-loop-b : goal.invariant-loop-b
invariant-loop-b l =
    (l.place ≤ l.activity) × All (λ b. l.place < b) (take l.b-index l.successors)
