use Rattle.std.proofs.Common.{arith, ◌∙◌, ◌-◌, length, drop, length-drop}
use Rattle.std.proofs.lemmas.List.{length-take-le}
use Rattle.rc_edge.proofs.SinkLaws.{Gains-take}
use Rattle.rc_edge.proofs.sink.put_all.Goals as goal

pub loop-done-preserved : goal.loop-done-preserved
loop-done-preserved g c =
    let before = c.loop-done.invariant in
    let put = c.in_ok-done.ensures in
    let bytes = c.args.bytes.now in
    let left = length bytes - c.loop-done.done in
    let rest = length-drop c.loop-done.done bytes in
    let piece = length-take-le left (drop c.loop-done.done bytes) in
    record {
      within = omega (arith, before.within, put.bytes.within, rest, piece);
      gained = Gains-take _ _ _ bytes c.loop-done.done c.in_ok-done.field-0
          before.gained put.bytes.gained;
      faults = put.cause.kept ∙ before.faults;
      failing = put.failing ∙ before.failing;
      room = put.room ∙ before.room;
    }
