use Rattle.std.proofs.Common.{◌≡◌, vec_len, length}
use Rattle.rc_instance.specs.Project.{activity_count}
use Rattle.rc_instance.specs.Misfit.{HasNoMisfit}
use Rattle.scheme_bench.proofs.samples.sum_of_samples.Given as goal

abbrev pub invariant-loop-sample : goal.invariant-loop-sample
invariant-loop-sample l = record {
  keys : vec_len l.keys ≡ activity_count l.list.network.project;
  chooser : l.chooser ≡ activity_count l.list.network.project;
  instance : l.instance ≡ l.list.network.project;
  line : l.line.project ≡ l.list.network.project;
  count : length l.schedule ≡ activity_count l.list.network.project;
  fits : HasNoMisfit l.list.network.project;
}
