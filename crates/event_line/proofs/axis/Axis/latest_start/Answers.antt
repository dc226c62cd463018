use Rattle.std.proofs.Common.{◌-◌, get_or, inl, inr, arith}
use Rattle.std.proofs.lemmas.Bool.{cases_lt}
use Rattle.event_line.proofs.SearchLaws.{ends_earlier}
use Rattle.event_line.proofs.axis.Axis.latest_start.Goals as goal

pub previous-last-requires-clause-after : goal.previous-last-requires-clause-after
previous-last-requires-clause-after c =
    let l = c.loop-first in
    let t = c.requires.exists.0 in
    let ends = l.invariant.2 t c.requires.exists.1 c.requires.exists.2 in
    let first = ends_earlier c.args.self.now.chain.periods c.args.self.now.free.rows
    c.args.demands.now c.in-Err.full t (l.end - c.args.duration) c.args.duration
    c.in-Err.ensures.full c.in-Err.ensures.latest (omega arith) c.requires.duration
    c.requires.exists.2 in
    let some = c.requires.duration in
    omega arith

pub loop-first-preserved : goal.loop-first-preserved
loop-first-preserved c =
    let l = c.loop-first in
    let periods = c.args.self.now.chain.periods in
    let near = c.previous-last.ensures.neighbours in
    let here = c.period-end.ensures.value in
    let rise = near.rise in
    let up_to = c.in-Err.ensures.up_to in
    let from = l.invariant.0.from in
    let within = l.invariant.1 in
    let some = c.requires.duration in
    let t = c.requires.exists.0 in
    let ends = l.invariant.2 t c.requires.exists.1 c.requires.exists.2 in (
      record {
        inside = near.first;
        from = omega arith;
        latest = λ x h le. elim (cases_lt (get_or periods c.previous-last.result 0) (get_or periods x 0)) [
          | inl lt ↦ Prim.absurd (omega (arith, near.none x h lt))
          | inr ge ↦ ge
        ];
      },
      omega arith,
      λ u by room.
          let before = l.invariant.2 u by room in
          let sooner = ends_earlier periods c.args.self.now.free.rows c.args.demands.now
          c.in-Err.full u (l.end - c.args.duration) c.args.duration c.in-Err.ensures.full
          c.in-Err.ensures.latest (omega arith) some room in
          omega arith,
    )
