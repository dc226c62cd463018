use Rattle.std.proofs.Common.{◌≡◌, vec_len}
use Rattle.rc_instance.specs.Project.{activity_count}
use Rattle.scheme_bench.proofs.samples.choose_lists.Given as goal

abbrev pub invariant-loop-sample : goal.invariant-loop-sample
invariant-loop-sample l = record {
  keys : vec_len l.keys ≡ activity_count l.list.network.project;
  chooser : l.chooser ≡ activity_count l.list.network.project;
}
