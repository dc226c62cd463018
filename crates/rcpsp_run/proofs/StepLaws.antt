-- What a step shows that has no refusal.
use Rattle.std.proofs.Common.{◌≡◌, ℕ, List, Option, None, Some, Result, Ok, refl}
use Rattle.rcpsp_run.specs.declared.refusal.Refusal.{Refusal}
use Rattle.rcpsp_run.specs.Steps.Network.{without_cycle}

-- there is no cycle
pub without_cycle-none : (shown : Option (List ℕ)) → without_cycle shown ≡ Ok tt → shown ≡ None
without_cycle-none None is = refl
without_cycle-none (Some ring) is = absurd cc

-- equal values of two results
pub ok_same : {X : Type 0} (x y : X) → ◌≡◌ {A = Result X Refusal} (Ok x) (Ok y) → x ≡ y
ok_same x y same = cc
