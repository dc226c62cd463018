use Rattle.std.proofs.Common.{◌≡◌, length}
use Rattle.rc_instance.specs.Project.{activity_count}
use Rattle.rc_instance.specs.Misfit.{HasNoMisfit}
use Rattle.scheme_bench.proofs.every.every_call.Given as goal

abbrev pub invariant-loop : goal.invariant-loop
invariant-loop l = record {
  fits : HasNoMisfit l.list.network.project;
  room : l.chooser ≡ activity_count l.list.network.project;
  keys : length l.keys.items ≡ activity_count l.list.network.project;
  line : l.line.project ≡ l.list.network.project;
  schedule : length l.schedule ≡ activity_count l.list.network.project;
}
