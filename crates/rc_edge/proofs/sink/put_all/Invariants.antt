use Rattle.std.proofs.Common.{◌≡◌, ◌-◌, ◌≤◌, take, length}
use Rattle.rc_edge.specs.Sink.{Gains}
use Rattle.rc_edge.proofs.sink.put_all.Given as goal

abbrev pub invariant-loop-done : goal.invariant-loop-done
invariant-loop-done g l = record {
  within : l.done ≤ length l.bytes;
  gained : Gains (g.S.Sink.held l.fn.sink) (g.S.Sink.held l.sink) (take l.done l.bytes);
  faults : g.S.Sink.faults l.sink ≡ g.S.Sink.faults l.fn.sink;
  failing : g.S.Sink.failing l.sink ≡ g.S.Sink.failing l.fn.sink;
  room : g.S.Sink.room l.sink ≡ g.S.Sink.room l.fn.sink;
}

abbrev pub decreases-loop-done : goal.decreases-loop-done
decreases-loop-done g l = length l.bytes - l.done
