-- Lists by equal keys, and the list by number.
use Rattle.std.proofs.Common.{◌≡◌, ℕ, zero, suc, ◌+◌, ◌-◌, ◌<◌, ◌≤◌, Bool, true, false, ◌&&◌, List, [], ◌∷◌, ◌++◌, nat_le, sym, refl, ap, ◌∙◌, subst, inl, inr, arith, true≢false}
use Rattle.std.specs.List.{All, list_all}
use Rattle.std.proofs.lemmas.Bool.{cases_lt, le-leb}
use Rattle.std.proofs.lemmas.List.Elements.{All-head, All-tail}
use Rattle.rc_instance.specs.Lists.{numbers, names, first_from}
use Rattle.rc_instance.specs.Project.{Project, activity_count, IsActivity, Precedes}
use Rattle.rc_instance.proofs.ListLaws.{length-numbers, get_or-numbers}
use Rattle.rc_instance.proofs.OrderLaws.{Contains-numbers}
use Rattle.activity_net.proofs.NameLaws.{named_contains, not_named}
use Rattle.activity_net.proofs.PredecessorLaws.{numbers-more}
use Rattle.activity_net.proofs.RemovalLaws.{predecessor_named}
use Rattle.priority_rules.specs.Choices.{is_eligible, eligible, choice, choices}
use Rattle.priority_rules.specs.KeyList.{key_list, key_in, number_list}
use Rattle.priority_rules.proofs.EligibleLaws.{eligible_from_named, eligible-fresh}
use Rattle.priority_rules.proofs.ChoiceLaws.{all_eligible, choice-is, choices-none, choices-more}

-- two tests that agree in a search find the same number
first_from-same : (p q : ℕ → Bool) (t n : ℕ) → ((x : ℕ) → t ≤ x → x < t + n → p x ≡ q x)
    → first_from p t n ≡ first_from q t n
unfolding first_from
first_from-same p q t zero same = refl
first_from-same p q t (suc n) same =
    rw (
      same t (omega arith) (omega arith),
      first_from-same p q (t + 1) n
          (λ x from below. same x (omega arith) (omega arith)),
    ) refl

-- and two that agree at each number of a list pass it together
list_all-same : (p q : ℕ → Bool) (xs : List ℕ) → All (λ x. p x ≡ q x) xs
    → list_all p xs ≡ list_all q xs
list_all-same p q [] same = refl
list_all-same p q (x ∷ xs) same =
    rw (
      All-head (λ y. p y ≡ q y) x xs same,
      list_all-same p q xs
          (All-tail (λ y. p y ≡ q y) x xs same),
    ) refl

-- two preferences that agree at all activities choose the same
choice-same : (project : Project) (p q : ℕ → ℕ → Bool) (listed : List ℕ)
    → ((a b : ℕ) → IsActivity project a → IsActivity project b → p a b ≡ q a b)
    → choice project p listed ≡ choice project q listed
unfolding choice
choice-same project p q listed same =
    let candidates = eligible project listed in
    first_from-same (λ a. is_eligible project listed a && list_all (p a) candidates)
    (λ a. is_eligible project listed a && list_all (q a) candidates) 1 (activity_count project)
    (λ a from below.
    let is : IsActivity project a = (from, omega arith) in
    ap (λ (b : Bool). is_eligible project listed a && b)
    (list_all-same (p a) (q a) candidates (all_eligible project listed (λ b. p a b ≡ q a b)
    (λ b activity may. same a b is activity))))

-- so they make the same list
pub choices-same : (project : Project) (p q : ℕ → ℕ → Bool)
    → ((a b : ℕ) → IsActivity project a → IsActivity project b → p a b ≡ q a b)
    → (count : ℕ) → choices project p count ≡ choices project q count
unfolding choices
choices-same project p q same zero = refl
choices-same project p q same (suc count) =
    ap (λ list. list ++ choice project p list ∷ []) (choices-same project p q same count)
    ∙ ap (λ (a : ℕ). choices project q count ++ a ∷ [])
    (choice-same project p q (choices project q count) same)

-- keys that are equal at all activities give the same list
pub key_list-same : (project : Project) (f g : ℕ → ℕ) → ((a : ℕ) → IsActivity project a → f a ≡ g a)
    → key_list project f ≡ key_list project g
unfolding key_list
key_list-same project f g same =
    choices-same project (λ a b. nat_le (f a) (f b)) (λ a b. nat_le (g a) (g b))
    (λ a b is_a is_b. rw (same a is_a, same b is_b) refl) (activity_count project)

-- the key of an activity in the list of numbers is its number
pub numbers_as_keys : (project : Project)
    → key_list project (key_in (numbers (activity_count project))) ≡ number_list project
unfolding number_list
numbers_as_keys project =
    let n = activity_count project in
    key_list-same project (key_in (numbers n)) (λ a. a)
    (λ a is. get_or-numbers n (a - 1) 0 (omega (arith, is.0, is.1)) ∙ omega (arith, is.0))

-- the numbers before x, and x
pub numbers_next : (x : ℕ) → 1 ≤ x → numbers (x - 1) ++ x ∷ [] ≡ numbers (x + 1 - 1)
numbers_next x one =
    let next : x - 1 + 1 ≡ x = omega arith in
    let same : x - 1 + 1 ≡ x + 1 - 1 = omega arith in
    ap (λ (y : ℕ). numbers (x - 1) ++ y ∷ []) (sym next)
    ∙ (sym (numbers-more (x - 1)) ∙ ap numbers same)

-- the numbers from 1 to n name these
named_number : (n a : ℕ) → 1 ≤ a → a ≤ n → names (numbers n) a ≡ true
named_number n a from upto = named_contains (numbers n) a (Contains-numbers n a from upto)

-- and none above
number_not_named : (n a : ℕ) → n < a → names (numbers n) a ≡ false
number_not_named n a above = not_named (numbers n) a
    (λ h. let at = get_or-numbers n h.0 a (omega (arith, h.1, length-numbers n)) in
    omega (arith, at, h.1, h.2, length-numbers n))

-- where precedence rises, the least number that is not listed comes next
choice_by_number : (project : Project) → ((a b : ℕ) → IsActivity project a → IsActivity project b
    → Precedes project a b → a < b)
    → (m : ℕ) → m < activity_count project → choice project (λ a b. nat_le a b) (numbers m) ≡ m + 1
choice_by_number project rising m left =
    let next : IsActivity project (m + 1) = (omega arith, omega arith) in
    let above : (b : ℕ) → IsActivity project b → is_eligible project (numbers m) b ≡ true → m < b =
    λ b is may. elim (cases_lt m b) [
      | inl h ↦ h
      | inr h ↦ Prim.absurd (true≢false (sym (named_number m b is.0 h)
          ∙ eligible-fresh project (numbers m) b may))
    ] in
    choice-is project (λ a b. nat_le a b) (numbers m) (m + 1) next
    (eligible_from_named project (numbers m) (m + 1) (number_not_named m (m + 1) (omega arith))
    (λ p named. let before = predecessor_named project p (m + 1) named in
    let below = rising p (m + 1) before.0 next before.1 in
    named_number m p before.0.0 (omega arith)))
    (λ b is may. le-leb (m + 1) b (omega (arith, above b is may)))
    (λ b is may below. absurd (omega (arith, above b is may)))

-- so the first choices are the first numbers
choices_by_number : (project : Project) → ((a b : ℕ) → IsActivity project a → IsActivity project b
    → Precedes project a b → a < b)
    → (m : ℕ) → m ≤ activity_count project → choices project (λ a b. nat_le a b) m ≡ numbers m
choices_by_number project rising zero within = choices-none project (λ a b. nat_le a b)
choices_by_number project rising (suc m) within =
    let order : ℕ → ℕ → Bool = λ a b. nat_le a b in
    let next : m + 1 ≡ suc m = omega arith in
    let more : choices project order (m + 1) ≡ numbers (m + 1) =
    choices-more project order m
    ∙ (ap (λ list. list ++ choice project order list ∷ []) (choices_by_number project rising m
    (omega arith))
    ∙ (ap (λ (a : ℕ). numbers m ++ a ∷ []) (choice_by_number project rising m (omega arith))
    ∙ sym (numbers-more m))) in
    subst (λ (k : ℕ). choices project order k ≡ numbers k) next more

-- and the list by number is the numbers
pub number_list-rising : (project : Project) → ((a b : ℕ) → IsActivity project a
    → IsActivity project b → Precedes project a b → a < b)
    → number_list project ≡ numbers (activity_count project)
unfolding number_list key_list
number_list-rising project rising = choices_by_number project rising (activity_count project)
    (omega arith)
