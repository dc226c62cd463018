-- What a reading keeps: its faults stand within a bound, and what was read has a property.
use Rattle.std.proofs.Common.{◌≡◌, ℕ, zero, suc, ◌+◌, ◌<◌, ◌≤◌, ◌^◌, ◌||◌, Bool, true, false, List, [], ◌∷◌, ◌++◌, length, nat_eq, nat_lt, nat_le, Result, Ok, Err, refl, sym, subst, arith, All}
use Rattle.std.specs.Prelude.{if◌then◌else◌}
use Rattle.std.specs.List.{flat_map}
use Rattle.std.specs.Str.Parse.{digits_value}
use Rattle.std.proofs.lemmas.Bool.Decides.{nat_tests}
use Rattle.std.proofs.lemmas.List.Concat.{flat_map-cons}
use Rattle.std.proofs.lemmas.List.Elements.{All-nil, All-push, All-append, All-head, All-tail}
use Rattle.rc_instance.specs.declared.limits.TheConstants.{MAX_ACTIVITIES, MAX_RESOURCES, MAX_CAPACITY, MAX_DURATION_SUM}
use Rattle.rc_instance.specs.declared.parts.InstanceFault.TheVariants.{NoActivity, TooManyActivities, TooManyResources, CapacityTooLarge, SuccessorOutOfRange, TooLong}
use Rattle.rc_edge.specs.declared.number.NumberFault.{NumberFault}
use Rattle.rc_edge.specs.declared.number.NumberFault.TheVariants.{NotANumber, NumberTooLarge}
use Rattle.rc_edge.specs.declared.text_number.Number.{Number}
use Rattle.rc_edge.specs.declared.text_fault.TextFault.{TextFault}
use Rattle.rc_edge.specs.declared.text_fault.TextKind.{TextKind}
use Rattle.rc_edge.specs.declared.text_fault.TextKind.TheVariants.{Instance}
use Rattle.rc_edge.specs.Numbers.{is_numeral, number_of}
use Rattle.rc_edge.specs.Grammar.{◌>>=◌, refuse_if, more}
use Rattle.rc_edge.specs.Entries as entries
use Rattle.rc_edge.specs.Source.{Source, capacity_due, next_capacity, demand_due, duration_due, successor_due}

-- a fault stands at most at the bound, and what was read has P
abbrev pub Keeps : {A : Type 0} → ℕ → (A → Type 0) → Result A TextFault → Type 0
Keeps bound P (Ok x) = P x
Keeps bound P (Err fault) = fault.at ≤ bound

-- one step after another
pub keeps_then : {A B : Type 0} (bound : ℕ) (P : A → Type 0) (Q : B → Type 0)
    (read : Result A TextFault) (f : A → Result B TextFault) → Keeps bound P read
    → ((x : A) → P x → Keeps bound Q (f x)) → Keeps bound Q (read >>= f)
keeps_then bound P Q (Ok x) f first next = next x first
keeps_then bound P Q (Err fault) f first next = first

-- a test at an offset within the bound
pub keeps_if : (bound : ℕ) (test : Bool) (kind : TextKind) (at : ℕ) → at ≤ bound
    → Keeps bound (λ _. Unit {0}) (refuse_if test kind at)
keeps_if bound true kind at within = within
keeps_if bound false kind at within = tt

-- the fault of a result stands within the bound
pub keeps_fault : {A : Type 0} (bound : ℕ) (P : A → Type 0) (read : Result A TextFault)
    (fault : TextFault) → Keeps bound P read → read ≡ Err fault → fault.at ≤ bound
keeps_fault bound P (Ok x) fault keeps is = absurd cc
keeps_fault bound P (Err other) fault keeps is =
    let same : other ≡ fault = cc in
    subst (λ (f : TextFault). f.at ≤ bound) same keeps

-- and what was read has P
pub keeps_value : {A : Type 0} (bound : ℕ) (P : A → Type 0) (read : Result A TextFault) (x : A)
    → Keeps bound P read → read ≡ Ok x → P x
keeps_value bound P (Ok y) x keeps is =
    let same : y ≡ x = cc in
    subst P same keeps
keeps_value bound P (Err other) x keeps is = absurd cc

-- what a token's number may be, or its fault
abbrev pub IsNumberOf : Result ℕ NumberFault → Type 0
IsNumberOf (Ok value) = value < 2 ^ 32
IsNumberOf (Err fault) = Unit {0}

pub number_small : (text : List ℕ) → IsNumberOf (number_of text)
number_small text =
    elim (is_numeral text)
    as (λ b. IsNumberOf (if b then (if nat_le (digits_value 10 text) 4294967295
    then Ok (digits_value 10 text) else Err NumberTooLarge) else Err NotANumber)) [
      | true ↦ by_size (digits_value 10 text) (nat_le (digits_value 10 text) 4294967295) refl
      | false ↦ tt
    ]
  where
    by_size : (value : ℕ) (b : Bool) → nat_le value 4294967295 ≡ b
        → IsNumberOf (if b then Ok value else Err NumberTooLarge)
    by_size value true is =
        let below : value ≤ 4294967295 = grind (arith, nat_tests) in
        omega (arith, below)
    by_size value false is = tt

-- a number that stands within the bound
abbrev pub IsNumber : ℕ → Number → Type 0
IsNumber bound number = (number.at ≤ bound) × (number.value < 2 ^ 32)

-- such a number, and what is left after it
abbrev pub AreWithin : {Left : Type 0} → ℕ → (Left → Type 0) → Number × Left → Type 0
AreWithin bound In next = IsNumber bound next.0 × In next.1

-- each test of a number, whose fault stands where the number does
module _ (bound : ℕ) (number : Number) (is : IsNumber bound number) where
  pub activities_keep : Keeps bound (λ _. Unit {0}) (entries.activity_count number)
  unfolding entries.activity_count
  activities_keep =
      keeps_then bound (λ _. Unit {0}) (λ _. Unit {0}) _ _
      (keeps_if bound (nat_eq number.value 0) (Instance NoActivity) number.at is.0) (λ some _.
      keeps_then bound (λ _. Unit {0}) (λ _. Unit {0}) _ _
      (keeps_if bound (nat_lt MAX_ACTIVITIES number.value)
      (Instance (TooManyActivities number.value)) number.at is.0) (λ few _. tt))

  pub resources_keep : Keeps bound (λ _. Unit {0}) (entries.resource_count number)
  unfolding entries.resource_count
  resources_keep =
      keeps_then bound (λ _. Unit {0}) (λ _. Unit {0}) _ _
      (keeps_if bound (nat_lt MAX_RESOURCES number.value) (Instance (TooManyResources number.value))
      number.at is.0) (λ few _. tt)

  pub capacity_keeps : (resource : ℕ)
      → Keeps bound (λ _. Unit {0}) (entries.capacity resource number)
  unfolding entries.capacity
  capacity_keeps resource =
      keeps_then bound (λ _. Unit {0}) (λ _. Unit {0}) _ _
      (keeps_if bound (nat_lt MAX_CAPACITY number.value)
      (Instance (CapacityTooLarge resource number.value)) number.at is.0) (λ small _. tt)

  pub duration_keeps : (before : ℕ) → Keeps bound (λ _. Unit {0}) (entries.duration before number)
  unfolding entries.duration
  duration_keeps before =
      keeps_then bound (λ _. Unit {0}) (λ _. Unit {0}) _ _
      (keeps_if bound (nat_lt MAX_DURATION_SUM (before + number.value))
      (Instance (TooLong (before + number.value))) number.at is.0) (λ short _. tt)

  pub successor_keeps : (count activity : ℕ)
      → Keeps bound (λ _. Unit {0}) (entries.successor count activity number)
  unfolding entries.successor
  successor_keeps count activity =
      keeps_then bound (λ _. Unit {0}) (λ _. Unit {0}) _ _
      (keeps_if bound (nat_eq number.value 0 || nat_lt count number.value)
      (Instance (SuccessorOutOfRange activity number.value)) number.at is.0) (λ tame _. tt)

-- readers of what is left of a text, whose offsets stay within the bound
module _ {Left : Type 0} (bound : ℕ) (In : Left → Type 0) where
  -- so many things, each of which has P
  pub more_keep : {X : Type 0} (P : X → Type 0) (one : List X → Left → Result (X × Left) TextFault)
      → ((found : List X) (left : Left) → In left
      → Keeps bound (λ next. P next.0 × In next.1) (one found left))
      → (count : ℕ) (found : List X) (left : Left) → All P found → In left
      → Keeps bound (λ all. All P all.0 × In all.1) (more one count found left)
  unfolding more
  more_keep P one each zero found left all within = (all, within)
  more_keep P one each (suc count) found left all within =
      keeps_then bound (λ next. P next.0 × In next.1) (λ all. All P all.0 × In all.1)
      (one found left) (λ next. more one count (found ++ next.0 ∷ []) next.1)
      (each found left within) (λ next is.
      more_keep P one each count (found ++ next.0 ∷ []) next.1
      (All-push P found next.0 all is.0) is.1)

  -- by a source of numbers
  module _ (due : Source Left)
      (numbers : (left : Left) → In left
      → Keeps bound (AreWithin bound In) (due left)) where
    pub capacity_next : (resource : ℕ) (left : Left) → In left
        → Keeps bound (λ next. Unit {0} × In next.1) (capacity_due due resource left)
    unfolding capacity_due
    capacity_next resource left within =
        keeps_then bound (AreWithin bound In) (λ next. Unit {0} × In next.1)
        (due left) _ (numbers left within) (λ number is.
        keeps_then bound (λ _. Unit {0}) (λ next. Unit {0} × In next.1)
        (entries.capacity resource number.0) _ (capacity_keeps bound number.0 is.0 resource)
        (λ capacity _. (tt, is.1)))

    pub demand_next : (left : Left) → In left
        → Keeps bound (λ next. (next.0 < 2 ^ 32) × In next.1) (demand_due due left)
    unfolding demand_due
    demand_next left within =
        keeps_then bound (AreWithin bound In)
        (λ next. (next.0 < 2 ^ 32) × In next.1) (due left) _ (numbers left within)
        (λ number is. (is.0.1, is.1))

    pub duration_next : (before : ℕ) (left : Left) → In left
        → Keeps bound (λ next. In next.1) (duration_due due before left)
    unfolding duration_due
    duration_next before left within =
        keeps_then bound (AreWithin bound In) (λ next. In next.1) (due left) _
        (numbers left within) (λ number is.
        keeps_then bound (λ _. Unit {0}) (λ next. In next.1) (entries.duration before number.0) _
        (duration_keeps bound number.0 is.0 before) (λ duration _. is.1))

    pub successor_next : (count activity : ℕ) (left : Left) → In left
        → Keeps bound (λ next. Unit {0} × In next.1) (successor_due due count activity left)
    unfolding successor_due
    successor_next count activity left within =
        keeps_then bound (AreWithin bound In) (λ next. Unit {0} × In next.1)
        (due left) _ (numbers left within) (λ number is.
        keeps_then bound (λ _. Unit {0}) (λ next. Unit {0} × In next.1)
        (entries.successor count activity number.0) _
        (successor_keeps bound number.0 is.0 count activity) (λ successor _. (tt, is.1)))

    -- the capacities, the demands of an activity, and its successors
    pub capacities_next : (count : ℕ) (left : Left) → In left
        → Keeps bound (λ all. All (λ _. Unit {0}) all.0 × In all.1)
        (more (next_capacity due) count [] left)
    capacities_next count left within =
        more_keep (λ _. Unit {0}) (next_capacity due)
        (λ found rest there. capacity_next (length found + 1) rest there) count [] left
        (All-nil (λ (n : ℕ). Unit {0})) within

    pub demands_next : (count : ℕ) (left : Left) → In left
        → Keeps bound (λ all. All (λ d. d < 2 ^ 32) all.0 × In all.1)
        (more (λ _. demand_due due) count [] left)
    demands_next count left within =
        more_keep (λ d. d < 2 ^ 32) (λ _. demand_due due)
        (λ found rest there. demand_next rest there) count [] left
        (All-nil (λ (d : ℕ). d < 2 ^ 32)) within

    pub successors_next : (count activity many : ℕ) (left : Left) → In left
        → Keeps bound (λ all. All (λ _. Unit {0}) all.0 × In all.1)
        (more (λ _. successor_due due count activity) many [] left)
    successors_next count activity many left within =
        more_keep (λ _. Unit {0}) (λ _. successor_due due count activity)
        (λ found rest there. successor_next count activity rest there) many [] left
        (All-nil (λ (n : ℕ). Unit {0})) within

-- the members of many lists, each of which has P
pub flat_all : {X : Type 0} (P : ℕ → Type 0) (numbers : X → List ℕ) (things : List X)
    → All (λ thing. All P (numbers thing)) things → All P (flat_map numbers things)
flat_all P numbers [] all = All-nil P
flat_all {X} P numbers (thing ∷ things) all =
    let Q : X → Type 0 = λ t. All P (numbers t) in
    subst (All P) (sym (flat_map-cons numbers thing things))
    (All-append P (numbers thing) (flat_map numbers things) (All-head Q thing things all)
    (flat_all P numbers things (All-tail Q thing things all)))
