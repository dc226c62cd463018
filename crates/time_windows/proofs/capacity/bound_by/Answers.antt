use Rattle.std.proofs.Common.{◌≡◌, sym, subst, arith}
use Rattle.time_windows.specs.CapacityBound.{IsEnough, bound_by}
use Rattle.time_windows.proofs.CapacityLaws.{bound_by-some, bound_by-none}
use Rattle.time_windows.proofs.BoundLaws.{bound_by-le-durations}
use Rattle.time_windows.proofs.capacity.bound_by.Goals as goal
use Rattle.time_windows.proofs.capacity.bound_by.Goals.{then-top-eq0-via-then-top-eq0, then-top-eq0-via-else-top-eq0+then-not-is_enough}

pub returns-then-top-eq0 : goal.returns-then-top-eq0
returns-then-top-eq0 c =
    let project = c.args.instance.now in
    let k = c.args.resource in
    elim c.then-top-eq0.branch [
      | then-top-eq0-via-then-top-eq0 w ↦ sym (bound_by-none project k (λ some enough. omega arith))
      | then-top-eq0-via-else-top-eq0+then-not-is_enough w ↦
          sym (bound_by-none project k
          (λ some enough.
          let passes = w.is_enough.ensures.1
          (subst (IsEnough project k) (sym c.top_capacity-top.ensures) enough) in
          cc passes))
    ]

value_is : (c : goal.After-div_ceil)
    → c.div_ceil.result ≡ bound_by c.args.instance.now c.args.resource
value_is c =
    let project = c.args.instance.now in
    let k = c.args.resource in
    let top = c.top_capacity-top.ensures in
    let passes = c.is_enough.ensures.0 c.if-not-is_enough.false in
    let some = bound_by-some project k (omega (arith, c.if-top-eq0.false))
    (subst (IsEnough project k) top passes) in
    rw (c.div_ceil.ensures, c.from.ensures, c.work.ensures.value, top) (sym some)

pub overflow_cast-result : goal.overflow_cast-result
overflow_cast-result c =
    omega (
      arith,
      value_is c,
      bound_by-le-durations c.args.instance.now c.args.resource,
      c.work.ensures.limits.durations,
    )

pub returns : goal.returns
returns c = value_is c
