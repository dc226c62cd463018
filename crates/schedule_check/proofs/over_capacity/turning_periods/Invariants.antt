use Rattle.std.proofs.Common.{◌≡◌, ◌-◌, ◌∷◌, ◌++◌, map, take}
use Rattle.rc_instance.specs.declared.change.Change.{Change}
use Rattle.schedule_check.proofs.over_capacity.turning_periods.Given as goal

abbrev pub invariant-loop-activity : goal.invariant-loop-activity
invariant-loop-activity l = l.periods.items ≡ 0 ∷ take (l.activity - 1) l.schedule

abbrev pub invariant-loop-index : goal.invariant-loop-index
invariant-loop-index l =
    l.periods.items
    ≡ (0 ∷ l.schedule) ++ map (λ (change : Change). change.period) (take l.index l.instance.changes)
