-- An instance without a calendar, and the activities in order of number.
use Rattle.std.proofs.Common.{◌≡◌, ℕ, ◌+◌, ◌-◌, ◌<◌, List, [], length, take, get_or, get_or-take, refl, subst, ◌∙◌, arith}
use Rattle.std.proofs.lemmas.List.{length-take}
use Rattle.rc_instance.specs.Lists.{numbers}
use Rattle.rc_instance.specs.Project.{Project, IsActivity, Precedes, activity_count, capacity, last_capacity, last_change}
use Rattle.rc_instance.specs.Order.{IsFeasibleList}
use Rattle.rc_instance.proofs.ListLaws.{get_or-numbers, length-numbers}

-- without changes the last capacity of a resource is its capacity
pub last_capacity-unchanged : (project : Project) (k : ℕ) → project.changes ≡ []
    → last_capacity project k ≡ capacity project k
unfolding last_capacity
last_capacity-unchanged project k e = rw e

-- without changes there is no last change
pub last_change-unchanged : (project : Project) → project.changes ≡ [] → last_change project ≡ 0
unfolding last_change
last_change-unchanged project e = rw e

-- where each successor has a number above its activity's, the activities by number are a feasible
-- list
pub IsFeasibleList-numbers : (project : Project)
    → ((a b : ℕ) → IsActivity project a → IsActivity project b → Precedes project a b → a < b)
    → IsFeasibleList project (numbers (activity_count project))
IsFeasibleList-numbers project rising =
    let n = activity_count project in
    let count = length-numbers n in
    let at = λ (i d : ℕ) (within : i < n). get_or-numbers n i d within in
    record {
      count = count;
      activities = λ i d within. let e = at i d (omega arith) in (omega arith, omega arith);
      once = λ i j d below within. let e = at i d (omega arith) in let f = at j d (omega arith) in
          omega arith;
      after = λ place a within activity precedes.
          let e = at place 0 (omega arith) in
          let above : a < place + 1 = rising a (place + 1) activity (omega arith, omega arith)
          (subst (Precedes project a) e precedes) in
          let long = length-take place (numbers n) in (
            a - 1,
            omega arith,
            get_or-take place (numbers n) (a - 1) a (omega arith)
                ∙ (at (a - 1) a (omega arith) ∙ omega arith),
          );
    }
