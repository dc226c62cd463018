-- How long the words of a fault and of a misfit are.
use Rattle.std.proofs.Common.{◌≡◌, inl, inr, ℕ, zero, suc, ◌+◌, ◌-◌, ◌*◌, ◌<◌, ◌≤◌, ◌^◌, ◌&&◌, true, false, nat_lt, List, ◌++◌, length, Option, None, Some, refl, subst, arith, codes}
use Rattle.std.specs.Prelude.{if◌then◌else◌}
use Rattle.std.specs.Fmt.{decimal}
use Rattle.std.specs.List.{range_with_len}
use Rattle.std.proofs.lemmas.Bool.{cases_lt}
use Rattle.std.proofs.lemmas.Fmt.{length-decimal-le}
use Rattle.std.proofs.lemmas.List.{length-append, get_or_past}
use Rattle.std.proofs.lemmas.List.Elements.{All-get_or}
use Rattle.rc_instance.specs.declared.misfit.Misfit.{Misfit as Shown}
use Rattle.rc_instance.specs.declared.parts.InstanceFault.{InstanceFault}
use Rattle.rc_instance.specs.declared.parts.InstanceFault.TheVariants as limits
use Rattle.rc_instance.specs.Lists.{or_else, first_of}
use Rattle.rc_instance.specs.Project.{Project, activity_count, resource_count, duration, demand, last_capacity}
use Rattle.rc_instance.specs.Misfit.{misfit_at, misfit_of, first_misfit}
use Rattle.rc_instance.specs.FaultWords.{instance_words, misfit_words}
use Rattle.rc_instance.proofs.LimitLaws.{capacity_by-le}
use Rattle.rc_edge.specs.declared.text_fault.Item.{Item}
use Rattle.rc_edge.specs.declared.text_fault.Item.TheVariants.{Jobs, Renewable, Requests, Availabilities}
use Rattle.rc_edge.specs.declared.text_fault.TextFault.{TextFault}
use Rattle.rc_edge.specs.declared.text_fault.TextKind.{TextKind}
use Rattle.rc_edge.specs.declared.text_fault.TextKind.TheVariants.{Expected, NotANumber, NumberTooLarge, WrongJobNumber, MultiMode, NotRenewable, ManyProjects, Trailing, Ended, TooManyChanges, ResourceOutOfRange, PeriodOutOfRange, NotRising, Instance, Memory}
use Rattle.rc_edge.specs.TextFault.{item_words, kind_words}
use Rattle.text_bounds.specs.Bounds.{ReadIsWithinLimits, IsRead, IsFaultOf, FaultIsShort, MisfitIsShort}
use Rattle.text_bounds.proofs.FitLaws.{IsFit}
use Rattle.text_bounds.proofs.RcpBounds.{rcp_fit, rcp_fault}
use Rattle.text_bounds.proofs.SmBounds.{sm_fit, sm_fault}

-- a list of a length that is known
few : (xs : List ℕ) (n : ℕ) → length xs ≡ n → n ≤ 30 → length xs ≤ 30
few xs n is small = omega arith

-- each kind has few words
item_short : (item : Item) → length (item_words item) ≤ 30
item_short Jobs = few (codes "expected jobs") 13 refl (omega arith)
item_short Renewable = few (codes "expected renewable") 18 refl (omega arith)
item_short Requests = few (codes "expected requests") 17 refl (omega arith)
item_short Availabilities = few (codes "expected availabilities") 23 refl (omega arith)

limit_short : (fault : InstanceFault) → length (instance_words fault) ≤ 30
limit_short limits.NoActivity = few (codes "no activity") 11 refl (omega arith)
limit_short (limits.TooManyActivities count) =
    few (codes "too many activities") 19 refl (omega arith)
limit_short (limits.TooManyResources count) =
    few (codes "too many resources") 18 refl (omega arith)
limit_short (limits.CapacityTooLarge resource capacity) =
    few (codes "capacity too large") 18 refl (omega arith)
limit_short (limits.SuccessorOutOfRange activity successor) =
    few (codes "successor out of range") 22 refl (omega arith)
limit_short (limits.TooLong sum) = few (codes "too long") 8 refl (omega arith)
limit_short limits.Memory = few (codes "out of memory") 13 refl (omega arith)

kind_short : (kind : TextKind) → length (kind_words kind) ≤ 30
kind_short (Expected item) = item_short item
kind_short NotANumber = few (codes "not a number") 12 refl (omega arith)
kind_short NumberTooLarge = few (codes "number too large") 16 refl (omega arith)
kind_short WrongJobNumber = few (codes "wrong job number") 16 refl (omega arith)
kind_short MultiMode = few (codes "not single mode") 15 refl (omega arith)
kind_short NotRenewable = few (codes "not renewable") 13 refl (omega arith)
kind_short ManyProjects = few (codes "more than one project") 21 refl (omega arith)
kind_short Trailing = few (codes "text after the end") 18 refl (omega arith)
kind_short Ended = few (codes "text ends") 9 refl (omega arith)
kind_short TooManyChanges = few (codes "too many changes") 16 refl (omega arith)
kind_short ResourceOutOfRange = few (codes "resource out of range") 21 refl (omega arith)
kind_short PeriodOutOfRange = few (codes "period out of range") 19 refl (omega arith)
kind_short NotRising = few (codes "not rising") 10 refl (omega arith)
kind_short (Instance fault) = limit_short fault
kind_short Memory = few (codes "out of memory") 13 refl (omega arith)

-- a fault stands in its text
fault_there : (bytes : List ℕ) (fault : TextFault) → IsFaultOf bytes fault
    → fault.at ≤ length bytes
fault_there bytes fault (inl read) = rcp_fault bytes fault read
fault_there bytes fault (inr read) = sm_fault bytes fault read

pub fault_short : FaultIsShort
fault_short bytes fault small is =
    let here = fault_there bytes fault is in
    let digits = length-decimal-le 10 fault.at (omega arith) (omega (arith, here, small))
    (omega (arith, here, small)) in
    let at : length (codes " at ") ≡ 4 = refl in
    omega (
      arith,
      kind_short fault.kind,
      digits,
      at,
      length-append (kind_words fault.kind ++ codes " at ") (decimal fault.at),
      length-append (kind_words fault.kind) (codes " at "),
    )

-- an instance that was read
fits : (bytes : List ℕ) (project : Project) → IsRead bytes project → IsFit project
fits bytes project (inl read) = rcp_fit bytes project read
fits bytes project (inr read) = sm_fit bytes project read

pub read_within : ReadIsWithinLimits
read_within bytes project read = (fits bytes project read).limits

-- each demand of it is small
demand_small : (project : Project) → IsFit project → (a k : ℕ) → demand project a k < 2 ^ 32
unfolding demand
demand_small project fit a k =
    let place = (a - 1) * resource_count project + (k - 1) in
    elim (cases_lt place (length project.demands)) [
      | inl inside ↦ All-get_or (λ d. d < 2 ^ 32) project.demands place 0 inside fit.modest
      | inr past ↦ omega (arith, get_or_past project.demands place 0 past)
    ]

-- a misfit has small numbers
record IsSmall (shown : Shown) : Type 0 where
  activity : shown.activity ≤ 1000
  resource : shown.resource ≤ 16
  demand : shown.demand < 2 ^ 32
  capacity : shown.capacity ≤ 65535

-- what a function gives for a number from a on
abbrev AreSmall : Option Shown → Type 0
AreSmall None = Unit {0}
AreSmall (Some shown) = IsSmall shown

first_small : (value : ℕ → Option Shown) (a n last : ℕ) → a + n ≤ last + 1
    → ((j : ℕ) → a ≤ j → j ≤ last → AreSmall (value j))
    → AreSmall (first_of value (range_with_len a n))
first_small value a zero last below small = tt
first_small value a (suc n) last below small =
    by_value (value a) (small a (omega arith) (omega (arith, below)))
    (first_small value (a + 1) n last (omega (arith, below))
    (λ j after within. small j (omega (arith, after)) within))
  where
    by_value : (one : Option Shown) → AreSmall one
        → AreSmall (first_of value (range_with_len (a + 1) n))
        → AreSmall (or_else one (first_of value (range_with_len (a + 1) n)))
    by_value None is others = others
    by_value (Some shown) is others = is

at_small : (project : Project) → IsFit project → (a k : ℕ) → 1 ≤ a → a ≤ activity_count project
    → 1 ≤ k → k ≤ resource_count project → AreSmall (misfit_at project a k)
unfolding misfit_at last_capacity
at_small project fit a k some last some_k last_k =
    elim (nat_lt 0 (duration project a)
    && nat_lt (last_capacity project k) (demand project a k))
    as (λ b. AreSmall (if b then Some (record {
      activity = a;
      resource = k;
      demand = demand project a k;
      capacity = last_capacity project k;
    }) else None)) [
      | true ↦ record {
        activity = omega (arith, last, fit.limits.activities);
        resource = omega (arith, last_k, fit.limits.resources);
        demand = demand_small project fit a k;
        capacity = omega (
          arith,
          capacity_by-le project k (λ _. true) fit.limits (some_k, last_k),
        );
      }
      | false ↦ tt
    ]

of_small : (project : Project) → IsFit project → (a : ℕ) → 1 ≤ a → a ≤ activity_count project
    → AreSmall (misfit_of project a)
unfolding misfit_of
of_small project fit a some last =
    first_small (misfit_at project a) 1 (resource_count project) (resource_count project)
    (omega arith) (λ k some_k last_k. at_small project fit a k some last some_k last_k)

all_small : (project : Project) → IsFit project → AreSmall (first_misfit project)
unfolding first_misfit
all_small project fit =
    first_small (misfit_of project) 1 (activity_count project) (activity_count project)
    (omega arith) (λ a some last. of_small project fit a some last)

shown_small : (found : Option Shown) (shown : Shown) → AreSmall found → found ≡ Some shown
    → IsSmall shown
shown_small None shown small is = absurd cc
shown_small (Some one) shown small is =
    let same : one ≡ shown = cc in
    subst IsSmall same small

words_short : (shown : Shown) → IsSmall shown → length (misfit_words shown) ≤ 100
words_short shown small =
    let a = length-decimal-le 10 shown.activity (omega arith) (omega (arith, small.activity))
    (omega (arith, small.activity)) in
    let k = length-decimal-le 10 shown.resource (omega arith) (omega (arith, small.resource))
    (omega (arith, small.resource)) in
    let d = length-decimal-le 10 shown.demand (omega arith) (omega (arith, small.demand))
    (omega (arith, small.demand)) in
    let c = length-decimal-le 10 shown.capacity (omega arith) (omega (arith, small.capacity))
    (omega (arith, small.capacity)) in
    let first : length (codes "activity ") ≡ 9 = refl in
    let second : length (codes " needs ") ≡ 7 = refl in
    let third : length (codes " of resource ") ≡ 13 = refl in
    let fourth : length (codes ", capacity ") ≡ 11 = refl in
    let one = codes "activity " ++ decimal shown.activity in
    let two = one ++ codes " needs " ++ decimal shown.demand in
    let three = two ++ codes " of resource " ++ decimal shown.resource in
    omega (
      arith,
      a,
      k,
      d,
      c,
      first,
      second,
      third,
      fourth,
      length-append (codes "activity ") (decimal shown.activity),
      length-append one (codes " needs "),
      length-append (one ++ codes " needs ") (decimal shown.demand),
      length-append two (codes " of resource "),
      length-append (two ++ codes " of resource ") (decimal shown.resource),
      length-append three (codes ", capacity "),
      length-append (three ++ codes ", capacity ") (decimal shown.capacity),
    )

pub misfit_short : MisfitIsShort
misfit_short bytes project misfit read is =
    words_short misfit
    (shown_small (first_misfit project) misfit (all_small project (fits bytes project read)) is)
