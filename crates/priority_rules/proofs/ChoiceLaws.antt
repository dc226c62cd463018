-- Which activity is chosen.
use Rattle.std.proofs.Common.{◌≡◌, ℕ, zero, suc, ◌+◌, ◌-◌, ◌<◌, ◌≤◌, Bool, true, false, ◌&&◌, List, [], ◌∷◌, ◌++◌, length, take, get_or, sym, refl, ap, ◌∙◌, subst, inl, inr, arith, true≢false, nat_le}
use Rattle.std.specs.List.{All, filter, list_all}
use Rattle.std.proofs.lemmas.Bool.{cases_lt, and_from, and_parts, le-leb, lt-leb}
use Rattle.std.proofs.lemmas.List.{get_or-take, get_or_push, length_push, take-append-le, take_all}
use Rattle.std.proofs.lemmas.List.Elements.{All-contains, filter_passes}
use Rattle.std.proofs.lemmas.List.Sums.{list_all-from_AllPass, AllPass-from_list_all}
use Rattle.rc_instance.specs.Lists.{numbers, first_from}
use Rattle.rc_instance.specs.Project.{Project, activity_count, IsActivity}
use Rattle.rc_instance.proofs.ListLaws.{first_from-after, first_from-least, first_from-passes}
use Rattle.rc_instance.proofs.OrderLaws.{Contains-numbers}
use Rattle.rc_instance.proofs.SetLaws.{numbers_that}
use Rattle.activity_net.proofs.NameLaws.{names_filter, contains_named, named_contains}
use Rattle.priority_rules.specs.Choices.{is_eligible, eligible, choice, choices}
use Rattle.priority_rules.specs.Choosing.{GoesFirst}

-- what holds of each activity that may be listed next holds of each in the list of them
pub all_eligible : (project : Project) (listed : List ℕ) (P : ℕ → Type 0)
    → ((b : ℕ) → IsActivity project b → is_eligible project listed b ≡ true → P b)
    → All P (eligible project listed)
unfolding eligible
all_eligible project listed P each = λ k d within.
    each _ ((numbers_that (activity_count project) (is_eligible project listed)).within k d within)
    (filter_passes (is_eligible project listed) (numbers (activity_count project)) k d within)

-- and the other way round
pub each_eligible : (project : Project) (listed : List ℕ) (P : ℕ → Type 0) (b : ℕ)
    → IsActivity project b
    → is_eligible project listed b ≡ true → All P (eligible project listed) → P b
unfolding eligible
each_eligible project listed P b activity may all =
    let n = activity_count project in
    let named = names_filter (is_eligible project listed) (numbers n) b
    ∙ and_from _ _ (named_contains (numbers n) b (Contains-numbers n b activity.0 activity.1))
    may in
    All-contains P (filter (is_eligible project listed) (numbers n)) b all
    (contains_named _ b named)

-- the choice is the activity that is as good as each, where none of lower number is as good as it
pub choice-is : (project : Project) (as_good : ℕ → ℕ → Bool) (listed : List ℕ) (a : ℕ)
    → IsActivity project a
    → is_eligible project listed a ≡ true
    → ((b : ℕ) → IsActivity project b → is_eligible project listed b ≡ true → as_good a b ≡ true)
    → ((b : ℕ) → IsActivity project b → is_eligible project listed b ≡ true → b < a
    → as_good b a ≡ false)
    → choice project as_good listed ≡ a
unfolding choice
choice-is project as_good listed a activity may good less =
    let n = activity_count project in
    let candidates = eligible project listed in
    let test : ℕ → Bool = λ b. is_eligible project listed b && list_all (as_good b) candidates in
    let passes : test a ≡ true = and_from (is_eligible project listed a)
    (list_all (as_good a) candidates) may
    (list_all-from_AllPass (as_good a) candidates
    (all_eligible project listed (λ b. as_good a b ≡ true) good)) in
    let upto = first_from-least test 1 n a activity.0 passes in
    let from = first_from-after test 1 n in
    let is : test (first_from test 1 n) ≡ true = first_from-passes test 1 n a activity.0
    (omega arith) passes in
    elim (cases_lt (first_from test 1 n) a) as (λ _. first_from test 1 n ≡ a) [
      | inl below ↦
          let parts = and_parts (is_eligible project listed (first_from test 1 n))
          (list_all (as_good (first_from test 1 n)) candidates) is in
          let here = each_eligible project listed (λ b. as_good (first_from test 1 n) b ≡ true) a
          activity may
          (AllPass-from_list_all (as_good (first_from test 1 n)) candidates parts.1) in
          Prim.absurd (true≢false (sym here ∙ less (first_from test 1 n) (from, omega arith)
          parts.0 below))
      | inr above ↦ omega arith
    ]

-- a number that goes first has a key that is no greater
key_of_first : (key : ℕ → ℕ) (a b : ℕ) → GoesFirst key a b → key a ≤ key b
key_of_first key a b (inl less) = omega arith
key_of_first key a b (inr same) = omega (arith, same.0)

-- and a lower number than it has a greater key
key_of_lower : (key : ℕ → ℕ) (a b : ℕ) → GoesFirst key a b → b < a → key a < key b
key_of_lower key a b (inl less) below = less
key_of_lower key a b (inr same) below = Prim.absurd (omega (arith, same.1))

-- of the activities that may be listed next, the one that goes first by its key is chosen
pub choice_by_key : (project : Project) (key : ℕ → ℕ) (listed : List ℕ) (a : ℕ)
    → IsActivity project a
    → is_eligible project listed a ≡ true
    → ((b : ℕ) → IsActivity project b → is_eligible project listed b ≡ true → GoesFirst key a b)
    → choice project (λ x y. nat_le (key x) (key y)) listed ≡ a
choice_by_key project key listed a activity may first =
    choice-is project (λ x y. nat_le (key x) (key y)) listed a activity may
    (λ b is eligible. le-leb (key a) (key b) (key_of_first key a b (first b is eligible)))
    (λ b is eligible below. lt-leb (key b) (key a) (key_of_lower key a b (first b is eligible)
    below))

-- no choice lists nothing
pub choices-none : (project : Project) (as_good : ℕ → ℕ → Bool) → choices project as_good 0 ≡ []
unfolding choices
choices-none project as_good = refl

-- one more choice is one more activity
pub choices-more : (project : Project) (as_good : ℕ → ℕ → Bool) (m : ℕ)
    → choices project as_good (m + 1) ≡ choices project as_good m ++ choice project as_good
    (choices project as_good m) ∷ []
unfolding choices
choices-more project as_good m = let e : m + 1 ≡ suc m = omega arith in rw e refl

-- so many choices list so many activities
pub length-choices : (project : Project) (as_good : ℕ → ℕ → Bool) (m : ℕ)
    → length (choices project as_good m) ≡ m
length-choices project as_good zero = ap length (choices-none project as_good)
length-choices project as_good (suc m) =
    let next : m + 1 ≡ suc m = omega arith in
    let listed = choices project as_good m in
    let more = ap length (choices-more project as_good m) ∙ length_push listed (choice project as_good listed) in
    subst (λ (k : ℕ). length (choices project as_good k) ≡ k) next
    (more ∙ omega (arith, length-choices project as_good m))

-- the first of them are listed by fewer choices
take-choices : (project : Project) (as_good : ℕ → ℕ → Bool) (n k : ℕ)
    → take n (choices project as_good (n + k)) ≡ choices project as_good n
take-choices project as_good n zero =
    let none : n + 0 ≡ n = omega arith in
    let long = length-choices project as_good n in
    rw none (take_all n (choices project as_good n) (omega arith))
take-choices project as_good n (suc k) =
    let next : n + k + 1 ≡ n + suc k = omega arith in
    let listed = choices project as_good (n + k) in
    let long = length-choices project as_good (n + k) in
    subst (λ (m : ℕ). take n (choices project as_good m) ≡ choices project as_good n) next
    (ap (take n) (choices-more project as_good (n + k))
    ∙ (take-append-le n listed (choice project as_good listed ∷ []) (omega arith)
    ∙ take-choices project as_good n k))

-- each activity that they list is the choice after those before it
pub choices-at : (project : Project) (as_good : ℕ → ℕ → Bool) (n m : ℕ) → n < m
    → get_or (choices project as_good m) n 0
    ≡ choice project as_good (take n (choices project as_good m))
choices-at project as_good n m below =
    let all = choices project as_good m in
    let first : (i : ℕ) → i ≤ m → take i all ≡ choices project as_good i = λ i within.
    let rest : i + (m - i) ≡ m = omega arith in
    subst (λ (k : ℕ). take i (choices project as_good k) ≡ choices project as_good i) rest
    (take-choices project as_good i (m - i)) in
    let listed = choices project as_good n in
    let next = choice project as_good listed in
    sym (get_or-take (n + 1) all n 0 (omega arith))
    ∙ (ap (λ (list : List ℕ). get_or list n 0)
    (first (n + 1) (omega arith) ∙ choices-more project as_good n)
    ∙ (get_or_push listed next 0 n (length-choices project as_good n)
    ∙ ap (choice project as_good) (sym (first n (omega arith)))))
