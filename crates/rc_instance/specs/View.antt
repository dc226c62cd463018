-- How the fields of an `Instance` are seen as a project.
use Rattle.std.specs.Prelude.{map}
use Rattle.rc_instance.specs.declared.instance.Instance.TheInside.{Inside}
use Rattle.rc_instance.specs.Project.{Project}
use Rattle.rc_instance.specs.Calendar.{IsWithinLimits}

-- the lists that the vectors hold
abbrev pub project_of : Inside → Project
project_of inside = record {
  capacities = inside.capacities.items;
  durations = inside.durations.items;
  demands = inside.demands.items;
  successors = map (λ v. v.items) inside.successors.items;
  changes = inside.changes.items;
}

-- the limits, of the project that the fields hold
abbrev pub KeepsLimits : Inside → Type 0
KeepsLimits inside = IsWithinLimits (project_of inside)
