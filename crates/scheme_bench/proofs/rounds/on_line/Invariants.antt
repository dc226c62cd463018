use Rattle.std.proofs.Common.{◌≡◌, length}
use Rattle.rc_instance.specs.Project.{activity_count}
use Rattle.rc_instance.specs.Misfit.{HasNoMisfit}
use Rattle.scheme_bench.proofs.rounds.on_line.Given as goal

abbrev pub invariant-loop : goal.invariant-loop
invariant-loop l = record {
  line : l.line.project ≡ l.list.network.project;
  count : length l.schedule ≡ activity_count l.list.network.project;
  fits : HasNoMisfit l.list.network.project;
}
