-- Seekers that are alone in their race.
use Rattle.std.specs.Prelude.{◌≡◌, ℕ, true, false, None, Some}
use Rattle.key_sampling.specs.declared.race.Race.{Race}
use Rattle.key_sampling.specs.declared.seeker.Seeker.{Seeker}
use Rattle.key_sampling.specs.Race.{view_of, sample_in_hand, IsSeekerAt, IsFirst}

-- the only seeker of the race
pub record IsAlone (race : Race) (seeker : Seeker) : Type 0 where
  pub at : IsSeekerAt race 0 seeker
  pub first : IsFirst 1 0 seeker

-- it has nothing in hand, and may take a sample
pub record IsIdle (race : Race) (seeker : Seeker) : Type 0 where
  pub alone : IsAlone race seeker
  pub idle : sample_in_hand (view_of seeker) ≡ None
  pub going : (view_of seeker).ended ≡ false

-- it has this sample in hand
pub record IsAtSample (race : Race) (seeker : Seeker) (sample : ℕ) : Type 0 where
  pub alone : IsAlone race seeker
  pub hand : sample_in_hand (view_of seeker) ≡ Some sample
  pub going : (view_of seeker).ended ≡ false

-- it has found that no sample is left
pub record HasStopped (race : Race) (seeker : Seeker) : Type 0 where
  pub alone : IsAlone race seeker
  pub ended : (view_of seeker).ended ≡ true
