-- Room for the passes over the schedules of one net.
use Rattle.std.specs.Prelude.{◌≡◌, length}
use Rattle.rc_instance.specs.Project.{activity_count}
use Rattle.fwd_back.specs.declared.passes.Passes.{Passes}

-- the line is one of the list's instance, and there is room for each of its activities
pub record IsReady (passes : Passes) : Type 0 where
  pub line : passes.line.project ≡ passes.list.network.project
  pub chooser : passes.chooser ≡ activity_count passes.list.network.project
  pub marks : length passes.marks.items ≡ activity_count passes.list.network.project
  pub starts : length passes.starts.items ≡ activity_count passes.list.network.project
