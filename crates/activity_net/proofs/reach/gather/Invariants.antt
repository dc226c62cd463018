use Rattle.std.proofs.Common.{◌≡◌, ℕ, ◌||◌, nat_eq, take}
use Rattle.std.specs.List.{list_any}
use Rattle.activity_net.specs.Tables.{lists_in}
use Rattle.activity_net.specs.Follows.{has_bit, set_of}
use Rattle.activity_net.proofs.reach.gather.Given as goal

abbrev pub invariant-loop-s : goal.invariant-loop-s
invariant-loop-s l = (b : ℕ) → has_bit l.set b
    ≡ (has_bit l.initial.set b || list_any (λ s. nat_eq s b || has_bit (set_of (lists_in l.sets) s)
    b) (take l.s-index l.given))
