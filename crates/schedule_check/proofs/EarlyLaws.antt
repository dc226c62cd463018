-- Activities of a schedule that start before a direct predecessor ends.
use Rattle.std.proofs.Common.{◌≡◌, ℕ, ◌+◌, ◌&&◌, nat_lt, List, length, refl, arith}
use Rattle.rc_instance.specs.Project.{Project, activity_count, IsActivity, duration, precedes}
use Rattle.rc_instance.specs.Schedule.{bookings_of, start_at}
use Rattle.rc_instance.proofs.ScheduleLaws.{start_of-bookings_of}
use Rattle.schedule_check.specs.Violation.{is_early}

-- the test by the starts of a schedule is that by its bookings
pub is_early-shown : (project : Project) (starts : List ℕ) (b a start end : ℕ)
    → length starts ≡ activity_count project → IsActivity project b → IsActivity project a
    → start ≡ start_at starts b → end ≡ start_at starts a + duration project a
    → (nat_lt start end && precedes project a b) ≡ is_early project (bookings_of starts) b a
unfolding is_early
is_early-shown project starts b a start end count later before start_is end_is =
    rw (
      start_is,
      end_is,
      start_of-bookings_of starts b later.0 (omega (arith, later.1)),
      start_of-bookings_of starts a before.0 (omega (arith, before.1)),
    )
    refl
