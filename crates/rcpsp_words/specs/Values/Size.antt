-- The size of an instance that is made from a number.
use Rattle.std.specs.Prelude.{ℕ, ◌&&◌, Option, None, Some, nat_le, unwrap_or, if◌then◌else◌}

-- how many activities and resources there are
pub record InstanceSize : Type 0 where
  pub activities : ℕ
  pub resources : ℕ

-- from 2 to 1,000 activities, and up to 16 resources
abbrev pub size_in : ℕ → ℕ → Option InstanceSize
size_in activities resources =
    if nat_le 2 activities && nat_le activities 1000 && nat_le resources 16
    then Some (record { activities = activities; resources = resources }) else None

-- so many activities, or else 100, and so many resources, or else 4
abbrev pub size_of : Option ℕ → Option ℕ → Option InstanceSize
size_of activities resources = size_in (unwrap_or activities 100) (unwrap_or resources 4)
