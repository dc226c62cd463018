use Rattle.std.proofs.Common.{subst, sym, IsTrue, ◌↔◌, Bool}
use Rattle.capacity_profile.specs.Lanes.{exceeds, exceeds_in, IsBlocked}
use Rattle.capacity_profile.proofs.LaneLaws.{exceeds_is}
use Rattle.capacity_profile.proofs.lanes.blocked.Goals as goal

pub returns-clause-meaning : goal.returns-clause-meaning
returns-clause-meaning c =
    let P : Bool → Type 0 = λ b. IsTrue b ↔ IsBlocked c.args.word c.args.demand c.args.capacity in
    subst P (cc) (exceeds_is c.args.word c.args.demand c.args.capacity)
