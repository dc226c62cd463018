-- What a list by keys lists, and that it is feasible, whatever the keys are.
use Rattle.std.proofs.Common.{◌≡◌, ℕ, zero, suc, ◌+◌, ◌<◌, ◌≤◌, ◌⊎◌, true, false, List, [], ◌∷◌, ◌++◌, length, take, get_or, nat_le, sym, ap, ◌∙◌, subst, inl, inr, arith, true≢false, length-append}
use Rattle.std.proofs.lemmas.Bool.{cases_lt, cases_eq, cases_Bool}
use Rattle.rc_instance.specs.Project.{Project, activity_count, IsActivity}
use Rattle.rc_instance.specs.Order.{IsFeasibleList}
use Rattle.activity_net.specs.Removal.{IsBeginning}
use Rattle.activity_net.proofs.RemovalLaws.{named_predecessor, IsBeginning-push}
use Rattle.priority_rules.specs.Choices.{is_eligible, choice, choices}
use Rattle.priority_rules.specs.KeyList.{key_list}
use Rattle.priority_rules.specs.Choosing.{GoesFirst}
use Rattle.priority_rules.proofs.EligibleLaws.{eligible-fresh, eligible-named, some_eligible}
use Rattle.priority_rules.proofs.ChoiceLaws.{choice_by_key, choices-none, choices-more, choices-at, length-choices}

-- nothing listed is a beginning
IsBeginning-nil : (project : Project) → IsBeginning project []
IsBeginning-nil project = record {
  activities = λ i d h. Prim.absurd (omega arith);
  once = λ i j d h k. Prim.absurd (omega arith);
  after = λ place a h is before. Prim.absurd (omega arith);
}

-- a beginning that lists as many activities as there are is a feasible list
IsFeasibleList-whole : (project : Project) (order : List ℕ) → IsBeginning project order
    → length order ≡ activity_count project → IsFeasibleList project order
IsFeasibleList-whole project order beginning count = record {
  count = count;
  activities = beginning.activities;
  once = beginning.once;
  after = beginning.after;
}

-- of the activities up to n that may be listed next, this one goes first
record IsFirstUpTo (project : Project) (key : ℕ → ℕ) (listed : List ℕ) (n a : ℕ) : Type 0 where
  activity : IsActivity project a
  may : is_eligible project listed a ≡ true
  first : (b : ℕ) → IsActivity project b → b ≤ n → is_eligible project listed b ≡ true
      → GoesFirst key a b

-- of two activities, one goes first
first_of_two : (key : ℕ → ℕ) (a b : ℕ) → GoesFirst key a b ⊎ GoesFirst key b a
first_of_two key a b =
    elim (cases_lt (key a) (key b)) [
      | inl less ↦ inl (inl less)
      | inr more ↦ elim (cases_eq (key a) (key b)) [
        | inl same ↦ elim (cases_lt a b) [
          | inl below ↦ inl (inr (same, omega arith))
          | inr above ↦ inr (inr (sym same, above))
        ]
        | inr differ ↦ inr (inl (omega arith))
      ]
    ]

-- what goes before one that goes before another goes before it
first-through : (key : ℕ → ℕ) (a b c : ℕ) → GoesFirst key a b → GoesFirst key b c
    → GoesFirst key a c
first-through key a b c (inl p) (inl q) = inl (omega arith)
first-through key a b c (inl p) (inr q) = inl (omega (arith, q.0))
first-through key a b c (inr p) (inl q) = inl (omega (arith, p.0))
first-through key a b c (inr p) (inr q) = inr (p.0 ∙ q.0, omega (arith, p.1, q.1))

-- with one number more, the one that went first or the new one goes first
first_more : (project : Project) (key : ℕ → ℕ) (listed : List ℕ) (n a : ℕ)
    → IsFirstUpTo project key listed n a → IsActivity project (suc n)
    → is_eligible project listed (suc n) ≡ true
    → (b : ℕ) × IsFirstUpTo project key listed (suc n) b
first_more project key listed n a before is may =
    elim (first_of_two key a (suc n)) [
      | inl old ↦ (
        a,
        record {
          activity = before.activity;
          may = before.may;
          first = λ b activity upto eligible. elim (cases_eq b (suc n)) [
            | inl same ↦ subst (GoesFirst key a) (sym same) old
            | inr differ ↦ before.first b activity (omega arith) eligible
          ];
        },
      )
      | inr new ↦ (
        suc n,
        record {
          activity = is;
          may = may;
          first = λ b activity upto eligible. elim (cases_eq b (suc n)) [
            | inl same ↦ subst (GoesFirst key (suc n)) (sym same) (inr (ap key (sym same) ∙ ap key same, omega arith))
            | inr differ ↦ first-through key (suc n) a b new
                (before.first b activity (omega arith) eligible)
          ];
        },
      )
    ]

-- of the activities up to n one goes first, or none may be listed next
first_up_to : (project : Project) (key : ℕ → ℕ) (listed : List ℕ) (n : ℕ)
    → n ≤ activity_count project
    → ((b : ℕ) → IsActivity project b → b ≤ n → is_eligible project listed b ≡ false)
    ⊎ ((a : ℕ) × IsFirstUpTo project key listed n a)
first_up_to project key listed zero within = inl (λ b activity upto. Prim.absurd (omega (arith, activity.0)))
first_up_to project key listed (suc n) within =
    let is : IsActivity project (suc n) = (omega arith, within) in
    elim (first_up_to project key listed n (omega arith)) [
      | inl none ↦ elim (cases_Bool (is_eligible project listed (suc n))) [
        | inl may ↦ inr (
          suc n,
          record {
            activity = is;
            may = may;
            first = λ b activity upto eligible. elim (cases_eq b (suc n)) [
              | inl same ↦ inr (sym (ap key same), omega arith)
              | inr differ ↦ Prim.absurd (true≢false (sym eligible ∙ none b activity (omega arith)))
            ];
          },
        )
        | inr not ↦ inl (λ b activity upto. elim (cases_eq b (suc n)) [
          | inl same ↦ subst (λ (x : ℕ). is_eligible project listed x ≡ false) (sym same) not
          | inr differ ↦ none b activity (omega arith)
        ])
      ]
      | inr found ↦ elim (cases_Bool (is_eligible project listed (suc n))) [
        | inl may ↦ inr (first_more project key listed n found.0 found.1 is may)
        | inr not ↦ inr (
          found.0,
          record {
            activity = found.1.activity;
            may = found.1.may;
            first = λ b activity upto eligible. elim (cases_eq b (suc n)) [
              | inl same ↦ Prim.absurd (true≢false (sym eligible
                  ∙ subst (λ (x : ℕ). is_eligible project listed x ≡ false) (sym same) not))
              | inr differ ↦ found.1.first b activity (omega arith) eligible
            ];
          },
        )
      ]
    ]

-- as long as activities are left, one goes first
some_first : (project : Project) (key : ℕ → ℕ) (order listed : List ℕ)
    → IsFeasibleList project order → length listed < activity_count project
    → (a : ℕ) × IsFirstUpTo project key listed (activity_count project) a
some_first project key order listed feasible left =
    elim (first_up_to project key listed (activity_count project) (omega arith)) [
      | inl none ↦
          let some = some_eligible project order listed feasible left in
          Prim.absurd (true≢false (sym some.2 ∙ none some.0 some.1 some.1.1))
      | inr found ↦ found
    ]

-- the first choices by key are the beginning of a feasible list
choices_begin : (project : Project) (key : ℕ → ℕ) (order : List ℕ) → IsFeasibleList project order
    → (m : ℕ) → m ≤ activity_count project
    → IsBeginning project (choices project (λ a b. nat_le (key a) (key b)) m)
    × (length (choices project (λ a b. nat_le (key a) (key b)) m) ≡ m)
choices_begin project key order feasible zero within =
    let none = choices-none project (λ a b. nat_le (key a) (key b)) in (
      subst (IsBeginning project) (sym none) (IsBeginning-nil project),
      ap length none,
    )
choices_begin project key order feasible (suc m) within =
    let as_good = λ (a b : ℕ). nat_le (key a) (key b) in
    let before = choices_begin project key order feasible m (omega arith) in
    let listed = choices project as_good m in
    let next = some_first project key order listed feasible (omega (arith, before.1)) in
    let chosen : choice project as_good listed ≡ next.0 =
    choice_by_key project key listed next.0 next.1.activity next.1.may
    (λ b is may. next.1.first b is is.1 may) in
    let add : m + 1 ≡ suc m = omega arith in
    let more : choices project as_good (suc m) ≡ listed ++ next.0 ∷ [] =
    subst (λ (k : ℕ). choices project as_good k ≡ listed ++ choice project as_good listed ∷ []) add
    (choices-more project as_good m) ∙ ap (λ (a : ℕ). listed ++ a ∷ []) chosen in (
      subst (IsBeginning project) (sym more)
          (IsBeginning-push project listed next.0 before.0 next.1.activity
          (eligible-fresh project listed next.0 next.1.may)
          (λ p is precedes. eligible-named project listed next.0 p next.1.may
          (named_predecessor project p next.0 is ∙ precedes))),
      ap length more ∙ (length-append listed (next.0 ∷ []) ∙ omega (arith, before.1)),
    )

-- where some list is feasible, each list by keys is
pub IsFeasibleList-key_list : (project : Project) (key : ℕ → ℕ) (order : List ℕ)
    → IsFeasibleList project order → IsFeasibleList project (key_list project key)
unfolding key_list
IsFeasibleList-key_list project key order feasible =
    let all = choices_begin project key order feasible (activity_count project) (omega arith) in
    IsFeasibleList-whole project (choices project (λ a b. nat_le (key a) (key b))
    (activity_count project)) all.0 all.1

-- it lists as many activities as there are
pub length-key_list : (project : Project) (key : ℕ → ℕ)
    → length (key_list project key) ≡ activity_count project
unfolding key_list
length-key_list project key =
    length-choices project (λ a b. nat_le (key a) (key b)) (activity_count project)

-- each activity of it is the choice after those before it
pub key_list-at : (project : Project) (key : ℕ → ℕ) (n : ℕ) → n < activity_count project
    → get_or (key_list project key) n 0
    ≡ choice project (λ a b. nat_le (key a) (key b)) (take n (key_list project key))
unfolding key_list
key_list-at project key n below =
    choices-at project (λ a b. nat_le (key a) (key b)) n (activity_count project) below
