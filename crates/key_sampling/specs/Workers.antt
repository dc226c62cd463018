-- Workers: seekers with their tools.
use Rattle.std.specs.Prelude.{◌≡◌, ℕ, ◌+◌, ◌<◌, ◌≤◌, max, true, false, List, length, slice_index, slice_index_or, None, All}
use Rattle.activity_net.specs.Network.{Network}
use Rattle.rc_instance.specs.Project.{Project, duration}
use Rattle.rc_instance.specs.Serial.{serial_start}
use Rattle.rc_instance.specs.Schedule.{makespan, serial_schedule}
use Rattle.key_sampling.specs.declared.race.Race.{Race}
use Rattle.key_sampling.specs.declared.seeker.Seeker.{Seeker}
use Rattle.key_sampling.specs.declared.worker.Worker.{Worker}
use Rattle.key_sampling.specs.Race.{view_of, sample_in_hand, IsSeekerOf, IsSameSeeker}

abbrev pub seeker_of : Worker → Seeker
seeker_of worker = worker.seeker

-- the tools of each worker are for the network
abbrev pub HaveTools : Network → List Worker → Type 0
HaveTools network workers = All (λ worker. worker.tools.net.now ≡ network) workers

-- a worker of a race may begin to search
pub record IsReady (race : Race) (worker : Worker) : Type 0 where
  pub own : IsSeekerOf race worker.seeker
  pub idle : sample_in_hand (view_of worker.seeker) ≡ None
  pub going : (view_of worker.seeker).ended ≡ false
  pub network : worker.tools.net.now ≡ race.terms.net.now

-- a worker has searched until no sample was left
pub record HasEnded (race : Race) (old new : Worker) : Type 0 where
  pub own : IsSeekerOf race new.seeker
  pub same : IsSameSeeker old.seeker new.seeker
  pub ended : (view_of new.seeker).ended ≡ true

-- each worker has
abbrev pub HaveEnded : Race → List Worker → List Worker → Type 0
HaveEnded race old new = (k : ℕ) (d : Worker) → k < length old
    → HasEnded race (slice_index_or old k d) (slice_index_or new k d)

-- a bound that has grown with the activity at a place of a list: it is no less than it was and than
-- the finish of the activity, and no more than it was or than the makespan
pub record BoundsNext (project : Project) (list : List ℕ) (place old new : ℕ) : Type 0 where
  pub within : place < length list
  pub rises : old ≤ new
  pub covers : serial_start project list place + duration project (slice_index list place) ≤ new
  pub low : new ≤ max old (makespan project (serial_schedule project list))
