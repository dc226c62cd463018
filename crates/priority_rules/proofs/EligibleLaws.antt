-- Which activities may be listed next.
use Rattle.std.proofs.Common.{◌≡◌, ℕ, zero, suc, ◌+◌, ◌<◌, ◌≤◌, Bool, true, false, not, ◌⊎◌, List, length, take, get_or, sym, ◌∙◌, inl, inr, arith, true≢false}
use Rattle.std.specs.List.{All, Contains, count_by, list_all}
use Rattle.std.proofs.lemmas.Bool.{cases_eq, cases_Bool, and_from, and_parts, not-true, not-false, not_from_false}
use Rattle.std.proofs.lemmas.List.{take_all}
use Rattle.std.proofs.lemmas.List.Elements.{All-more, All-contains, Contains-get_or}
use Rattle.std.proofs.lemmas.List.Sums.{list_all-from_AllPass, AllPass-from_list_all}
use Rattle.rc_instance.specs.Lists.{names}
use Rattle.rc_instance.specs.Project.{Project, activity_count, IsActivity}
use Rattle.rc_instance.specs.Order.{IsFeasibleList}
use Rattle.activity_net.specs.Network.{predecessors_of}
use Rattle.activity_net.proofs.NameLaws.{contains_named, named_contains}
use Rattle.activity_net.proofs.CountLaws.{count-none, count-some}
use Rattle.activity_net.proofs.RemovalLaws.{predecessor_named}
use Rattle.priority_rules.specs.Choices.{is_eligible}
use Rattle.priority_rules.specs.Choosing.{missing}
use Rattle.priority_rules.proofs.DistinctLaws.{length-distinct-le}

-- an activity that is not listed may be listed next where each direct predecessor is listed
pub eligible_from_named : (project : Project) (listed : List ℕ) (a : ℕ) → names listed a ≡ false
    → ((p : ℕ) → names (predecessors_of project a) p ≡ true → names listed p ≡ true)
    → is_eligible project listed a ≡ true
unfolding is_eligible
eligible_from_named project listed a fresh all =
    let predecessors = predecessors_of project a in
    and_from (not (names listed a)) (list_all (names listed) predecessors)
    (not_from_false (names listed a) fresh)
    (list_all-from_AllPass (names listed) predecessors
    (λ k d within. all (get_or predecessors k d) (named_contains predecessors _
    (Contains-get_or predecessors k d within))))

-- so where it misses none
pub eligible_from_missing : (project : Project) (listed : List ℕ) (a : ℕ) → names listed a ≡ false
    → missing project listed a ≡ 0 → is_eligible project listed a ≡ true
unfolding missing
eligible_from_missing project listed a fresh none =
    eligible_from_named project listed a fresh
    (λ p named. not-false (names listed p) (count-none (λ q. not (names listed q))
    (predecessors_of project a) p none named))

-- an activity that may be listed next is not listed
pub eligible-fresh : (project : Project) (listed : List ℕ) (a : ℕ)
    → is_eligible project listed a ≡ true → names listed a ≡ false
unfolding is_eligible
eligible-fresh project listed a may =
    not-true (names listed a) (and_parts (not (names listed a))
    (list_all (names listed) (predecessors_of project a)) may).0

-- and each direct predecessor is
pub eligible-named : (project : Project) (listed : List ℕ) (a p : ℕ)
    → is_eligible project listed a ≡ true
    → names (predecessors_of project a) p ≡ true → names listed p ≡ true
unfolding is_eligible
eligible-named project listed a p may named =
    let predecessors = predecessors_of project a in
    All-contains (λ q. names listed q ≡ true) predecessors p
    (AllPass-from_list_all (names listed) predecessors (and_parts (not (names listed a))
    (list_all (names listed) predecessors) may).1)
    (contains_named predecessors p named)

-- it misses none
pub eligible-missing : (project : Project) (listed : List ℕ) (a : ℕ)
    → is_eligible project listed a ≡ true
    → missing project listed a ≡ 0
unfolding missing
eligible-missing project listed a may =
    let predecessors = predecessors_of project a in
    let test : ℕ → Bool = λ q. not (names listed q) in
    elim (cases_eq (count_by test predecessors) 0) as (λ _. count_by test predecessors ≡ 0) [
      | inl none ↦ none
      | inr more ↦
          let some = count-some test predecessors (omega arith) in
          Prim.absurd (true≢false (sym (eligible-named project listed a some.0 may some.1)
          ∙ not-true (names listed some.0) some.2))
    ]

-- of the first activities of a feasible list, all are listed or one may be listed next
some_within : (project : Project) (order listed : List ℕ) → IsFeasibleList project order → (m : ℕ)
    → m ≤ length order
    → All (Contains listed) (take m order) ⊎ ((a : ℕ) × IsActivity project a
    × (is_eligible project listed a ≡ true))
some_within project order listed list zero within = inl (λ i d h. Prim.absurd (omega arith))
some_within project order listed list (suc m) within =
    let a = get_or order m 0 in
    elim (some_within project order listed list m (omega arith)) [
      | inr found ↦ inr found
      | inl all ↦
          elim (cases_Bool (names listed a)) [
            | inl named ↦
                let more = All-more (Contains listed) order m 0 (omega arith) all
                (contains_named listed a named) in
                let next : m + 1 ≡ suc m = omega arith in
                inl (rw next at more)
            | inr fresh ↦
                inr (
                  a,
                  list.activities m 0 (omega arith),
                  eligible_from_named project listed a fresh
                      (λ p named. let before = predecessor_named project p a named in
                      named_contains listed p (All-contains (Contains listed) (take m order) p all
                      (list.after m p (omega arith) before.0 before.1))),
                )
          ]
    ]

-- as long as activities are left, one of them may be listed next
pub some_eligible : (project : Project) (order listed : List ℕ) → IsFeasibleList project order
    → length listed < activity_count project
    → (a : ℕ) × IsActivity project a × (is_eligible project listed a ≡ true)
some_eligible project order listed list left =
    elim (some_within project order listed list (length order) (omega arith)) [
      | inr found ↦ found
      | inl all ↦
          let whole : All (Contains listed) order =
          rw (take_all (length order) order (omega arith)) at all in
          Prim.absurd (omega (arith, length-distinct-le order listed list.once whole, list.count))
    ]
