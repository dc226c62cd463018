-- The lanes of a word, each for one resource counted from 0.
use Rattle.std.proofs.Common.{◌≡◌, ℕ, ◌+◌, ◌*◌, ◌<◌, ◌≤◌, true, nat_lt, if◌then◌else◌, ap, ◌∙◌, arith}
use Rattle.rc_instance.specs.Project.{Project, IsActivity, IsResource, resource_count, duration, demand, capacity_at, last_capacity}
use Rattle.rc_instance.specs.Calendar.{IsWithinLimits}
use Rattle.rc_instance.specs.Misfit.{HasNoMisfit}
use Rattle.rc_instance.proofs.LimitLaws.{capacity_by-le}
use Rattle.activity_net.specs.Network.{Listing}
use Rattle.book_rule.specs.Listed.{project_of, activity_at, need, room}

-- the demand of an activity that takes time fits a lane
pub demand-small : (project : Project) (a k : ℕ) → IsWithinLimits project → HasNoMisfit project
    → IsActivity project a → IsResource project k → 0 < duration project a
    → demand project a k ≤ 65535
unfolding last_capacity
demand-small project a k limits fits activity resource runs =
    omega (
      arith,
      fits.fits a k activity resource runs,
      capacity_by-le project k (λ _. true) limits resource,
    )

-- the lanes of a demand and of a capacity are those of the list
pub need-at : (list : Listing) (i w l k x : ℕ) → k ≡ 4 * w + l
    → x ≡ (if nat_lt k (resource_count (project_of list))
    then demand (project_of list) (activity_at list i) (k + 1) else 0) → x ≡ need list i w l
unfolding need
need-at list i w l k x at is =
    is ∙ ap (λ r. if nat_lt r (resource_count (project_of list))
    then demand (project_of list) (activity_at list i) (r + 1) else 0) at

pub room-at : (list : Listing) (w l p k x : ℕ) → k ≡ 4 * w + l
    → x ≡ (if nat_lt k (resource_count (project_of list))
    then capacity_at (project_of list) (k + 1) p else 0) → x ≡ room list w l p
unfolding room
room-at list w l p k x at is =
    is ∙ ap (λ r. if nat_lt r (resource_count (project_of list))
    then capacity_at (project_of list) (r + 1) p else 0) at
