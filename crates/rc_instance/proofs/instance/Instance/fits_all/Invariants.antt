use Rattle.std.proofs.Common.{ℕ, ◌<◌}
use Rattle.rc_instance.specs.Misfit.{IsMisfit}
use Rattle.rc_instance.proofs.instance.Instance.fits_all.Given as goal

abbrev pub invariant-loop-activity : goal.invariant-loop-activity
invariant-loop-activity l = (a k : ℕ) → a < l.activity → IsMisfit l.self a k → ⊥
