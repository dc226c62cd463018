-- A schedule that is known: the start that it gives to each position.
use Rattle.std.proofs.Common.{◌≡◌, ℕ, ◌<◌, ◌≤◌, List, length, ap, ◌∙◌, arith}
use Rattle.rc_instance.specs.Project.{IsActivity, activity_count}
use Rattle.rc_instance.specs.Schedule.{start_at, serial_schedule}
use Rattle.rc_instance.proofs.FeasibleLaws.{length-serial_schedule, start_at-place}
use Rattle.activity_net.specs.Network.{Listing}
use Rattle.book_rule.specs.Listed.{IsBookable, count, activity_at, begins, project_of}

module _ (list : Listing) (starts : List ℕ)
    (known : starts ≡ serial_schedule (project_of list) list.order) where
  -- it has a start for each activity
  pub known-has : (a : ℕ) → IsActivity (project_of list) a → (1 ≤ a) × (a ≤ length starts)
  known-has a is =
      let long : length starts ≡ activity_count (project_of list) =
      ap length known ∙ length-serial_schedule (project_of list) list.order in
      (is.0, omega (arith, is.1))

  -- that of the activity at a position is its serial start
  pub known-begins : (i : ℕ) → IsBookable list → i < count list
      → start_at starts (activity_at list i) ≡ begins list i
  unfolding begins
  known-begins i bookable there =
      ap (λ (s : List ℕ). start_at s (activity_at list i)) known
      ∙ start_at-place (project_of list) list.order i bookable.feasible.activities
      bookable.feasible.once there
