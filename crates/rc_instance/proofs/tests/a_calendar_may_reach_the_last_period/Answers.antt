use Rattle.std.proofs.Common.{ℕ, zero, suc, ◌<◌, [], ◌∷◌, slice_index_or, arith}
use Rattle.rc_instance.specs.declared.change.Change.{Change}
use Rattle.rc_instance.specs.Calendar.{IsChange, IsCalendar}
use Rattle.rc_instance.proofs.tests.a_calendar_may_reach_the_last_period.Goals as goal

-- one change within the limits is a calendar
one_change : (resources : ℕ) (change : Change) → IsChange resources change → IsCalendar resources (change ∷ [])
one_change resources change is = record {
  count = omega arith;
  within = within;
  rising = λ i j d before inside. absurd (omega arith);
}
  where
    within : (k : ℕ) (d : Change) → k < 1 → IsChange resources (slice_index_or (change ∷ []) k d)
    within zero d inside = is
    within (suc k) d inside = absurd (omega arith)

pub with_calendar-instance-requires : goal.with_calendar-instance-requires
with_calendar-instance-requires g c =
    rw c.in_ok-vec.ensures.items (one_change _ _ (record {
      resource = (omega arith, omega arith);
      period = (omega arith, omega arith);
      capacity = omega arith;
    }))
