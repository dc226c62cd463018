use Rattle.std.proofs.Common.{ℕ, ◌<◌}
use Rattle.rc_instance.specs.Misfit.{IsMisfit}
use Rattle.rc_instance.proofs.instance.Instance.first_misfit_of.Given as goal

abbrev pub invariant-loop-resource : goal.invariant-loop-resource
invariant-loop-resource l = (k : ℕ) → k < l.resource → IsMisfit l.self l.activity k → ⊥
