-- What holds of the numbers that were accepted.
use Rattle.std.proofs.Common.{◌≡◌, ℕ, ◌+◌, ◌≤◌, Bool, true, false, ◌||◌, nat_lt, nat_eq, Result, Ok, refl, subst, arith}
use Rattle.std.proofs.lemmas.Bool.{ltb-false, eqb-false}
use Rattle.rc_instance.specs.declared.limits.TheConstants.{MAX_ACTIVITIES, MAX_RESOURCES, MAX_CAPACITY, MAX_DURATION_SUM}
use Rattle.rc_edge.specs.declared.text_number.Number.{Number}
use Rattle.rc_edge.specs.declared.text_fault.TextFault.{TextFault}
use Rattle.rc_edge.specs.declared.text_fault.TextKind.{TextKind}
use Rattle.rc_edge.specs.Grammar.{◌>>=◌, refuse_if}
use Rattle.rc_edge.specs.Entries.{activity_count, resource_count, capacity, duration, successor}
use Rattle.rc_edge.proofs.GrammarLaws.{ok_is}

-- a test that did not refuse
pub guard_ok : {A : Type 0} (test : Bool) (kind : TextKind) (at : ℕ) (next : Result A TextFault) (y : A)
    → (refuse_if test kind at >>= λ _. next) ≡ Ok y → (test ≡ false) × (next ≡ Ok y)
guard_ok true kind at next y read = absurd cc
guard_ok false kind at next y read = (refl, read)

neither : (a b : Bool) → (a || b) ≡ false → (a ≡ false) × (b ≡ false)
neither true b e = absurd cc
neither false b e = (refl, e)

pub activity_count_is : (number : Number) (n : ℕ) → activity_count number ≡ Ok n → (1 ≤ n) × (n ≤ MAX_ACTIVITIES)
unfolding activity_count
activity_count_is number n read =
    let some = guard_ok _ _ _ _ n read in
    let few = guard_ok _ _ _ _ n some.1 in
    let value = ok_is number.value n few.1 in
    subst (λ (n : ℕ). (1 ≤ n) × (n ≤ MAX_ACTIVITIES)) value (omega (arith, eqb-false number.value 0 some.0), ltb-false MAX_ACTIVITIES number.value few.0)

pub resource_count_is : (number : Number) (n : ℕ) → resource_count number ≡ Ok n → n ≤ MAX_RESOURCES
unfolding resource_count
resource_count_is number n read =
    let few = guard_ok _ _ _ _ n read in
    subst (λ (n : ℕ). n ≤ MAX_RESOURCES) (ok_is number.value n few.1) (ltb-false MAX_RESOURCES number.value few.0)

pub capacity_is : (resource : ℕ) (number : Number) (c : ℕ) → capacity resource number ≡ Ok c → c ≤ MAX_CAPACITY
unfolding capacity
capacity_is resource number c read =
    let small = guard_ok _ _ _ _ c read in
    subst (λ (n : ℕ). n ≤ MAX_CAPACITY) (ok_is number.value c small.1) (ltb-false MAX_CAPACITY number.value small.0)

pub duration_is : (before : ℕ) (number : Number) (d : ℕ) → duration before number ≡ Ok d → before + d ≤ MAX_DURATION_SUM
unfolding duration
duration_is before number d read =
    let short = guard_ok _ _ _ _ d read in
    subst (λ (n : ℕ). before + n ≤ MAX_DURATION_SUM) (ok_is number.value d short.1) (ltb-false MAX_DURATION_SUM (before + number.value) short.0)

pub successor_is : (count activity : ℕ) (number : Number) (b : ℕ) → successor count activity number ≡ Ok b → (1 ≤ b) × (b ≤ count)
unfolding successor
successor_is count activity number b read =
    let tame = guard_ok _ _ _ _ b read in
    let bounds = neither (nat_eq number.value 0) (nat_lt count number.value) tame.0 in
    subst (λ (b : ℕ). (1 ≤ b) × (b ≤ count)) (ok_is number.value b tame.1) (omega (arith, eqb-false number.value 0 bounds.0), ltb-false count number.value bounds.1)
