-- Which faults a grammar has.
use Rattle.std.proofs.Common.{◌≡◌, ℕ, zero, suc, Bool, true, false, ◌||◌, nat_eq, nat_lt, List, [], ◌∷◌, ◌++◌, ◌+◌, Result, Ok, Err, refl, subst}
use Rattle.rc_instance.specs.declared.limits.TheConstants.{MAX_ACTIVITIES, MAX_RESOURCES, MAX_CAPACITY, MAX_DURATION_SUM}
use Rattle.rc_instance.specs.declared.parts.InstanceFault.{InstanceFault}
use Rattle.rc_instance.specs.declared.parts.InstanceFault.TheVariants.{NoActivity, TooManyActivities, TooManyResources, CapacityTooLarge, SuccessorOutOfRange, TooLong}
use Rattle.rc_edge.specs.declared.text_number.Number.{Number}
use Rattle.rc_edge.specs.declared.text_fault.TextFault.{TextFault}
use Rattle.rc_edge.specs.declared.text_fault.TextKind.{TextKind}
use Rattle.rc_edge.specs.declared.text_fault.TextKind.TheVariants.{NotANumber, NumberTooLarge, Ended, Instance}
use Rattle.rc_edge.specs.declared.number.NumberFault.{NumberFault}
use Rattle.rc_edge.specs.declared.number.NumberFault.TheVariants as numbers
use Rattle.rc_edge.specs.Numbers.{number_of}
use Rattle.rc_edge.specs.Tokens.{Token}
use Rattle.rc_edge.specs.Grammar.{◌>>=◌, refuse_if, number_in, number_due, more}
use Rattle.rc_edge.specs.Entries.{IsLimit, activity_count, resource_count, capacity, duration, successor}
use Rattle.rc_edge.proofs.GrammarLaws.{Reader}

-- each fault that is read has P
abbrev pub EachFault : {A : Type 0} → (TextFault → Type 0) → Result A TextFault → Type 0
EachFault P read = (fault : TextFault) → read ≡ Err fault → P fault

pub EachFault-ok : {A : Type 0} (P : TextFault → Type 0) (x : A) → EachFault P (Ok x)
EachFault-ok P x fault read = absurd cc

pub EachFault-err : {A : Type 0} (P : TextFault → Type 0) (e : TextFault) → P e → EachFault {A = A} P (Err e)
EachFault-err P e holds fault read = subst P (err_is e fault read) holds
  where
    err_is : {A : Type 0} (e fault : TextFault) → ◌≡◌ {A = Result A TextFault} (Err e) (Err fault) → e ≡ fault
    err_is e fault read = cc

pub EachFault-bind : {A B : Type 0} (P : TextFault → Type 0) (read : Result A TextFault) (f : A → Result B TextFault)
    → EachFault P read → ((x : A) → EachFault P (f x)) → EachFault P (read >>= f)
EachFault-bind P (Ok x) f first others = others x
EachFault-bind P (Err e) f first others = EachFault-err P e (first e refl)

pub EachFault-refuse_if : (P : TextFault → Type 0) (test : Bool) (kind : TextKind) (at : ℕ) → P (record { kind = kind; at = at })
    → EachFault P (refuse_if test kind at)
EachFault-refuse_if P true kind at holds = EachFault-err P (record { kind = kind; at = at }) holds
EachFault-refuse_if P false kind at holds = EachFault-ok P tt

pub EachFault-more : {X Left : Type 0} (P : TextFault → Type 0) (one : Reader Left X) → ((found : List X) (left : Left) → EachFault P (one found left))
    → (count : ℕ) (found : List X) (left : Left) → EachFault P (more one count found left)
unfolding more
EachFault-more P one each zero found left = EachFault-ok P (found, left)
EachFault-more P one each (suc count) found left =
    EachFault-bind P (one found left) (λ next. more one count (found ++ next.0 ∷ []) next.1) (each found left)
    (λ next. EachFault-more P one each count (found ++ next.0 ∷ []) next.1)

-- a number that is due has three faults
pub EachFault-number_due : (P : TextFault → Type 0) (size : ℕ) (tokens : List Token)
    → ((at : ℕ) → P (record { kind = Ended; at = at })) → ((at : ℕ) → P (record { kind = NotANumber; at = at })) → ((at : ℕ) → P (record { kind = NumberTooLarge; at = at }))
    → EachFault P (number_due size tokens)
unfolding number_due
EachFault-number_due P size [] ended no_number large = EachFault-err P (record { kind = Ended; at = size }) (ended size)
EachFault-number_due P size (token ∷ rest) ended no_number large = by_number (number_of token.text)
  where
    by_number : (number : Result ℕ NumberFault) → EachFault P (number_in token rest number)
    by_number (Ok value) = EachFault-ok P (record { value = value; at = token.at }, rest)
    by_number (Err numbers.NotANumber) = EachFault-err P (record { kind = NotANumber; at = token.at }) (no_number token.at)
    by_number (Err numbers.NumberTooLarge) = EachFault-err P (record { kind = NumberTooLarge; at = token.at }) (large token.at)

-- P holds of each limit that a number can pass
abbrev pub AllowsLimits : (TextFault → Type 0) → Type 0
AllowsLimits P = (fault : InstanceFault) (at : ℕ) → IsLimit fault → P (record { kind = Instance fault; at = at })

-- the numbers of an instance have these faults alone
pub EachFault-activity_count : (P : TextFault → Type 0) → AllowsLimits P → (number : Number) → EachFault P (activity_count number)
unfolding activity_count
EachFault-activity_count P limits number =
    let none = NoActivity in
    let many = TooManyActivities number.value in
    EachFault-bind P _ _ (EachFault-refuse_if P (nat_eq number.value 0) (Instance none) number.at (limits none number.at tt)) (λ some.
    EachFault-bind P _ _ (EachFault-refuse_if P (nat_lt MAX_ACTIVITIES number.value) (Instance many) number.at (limits many number.at tt)) (λ few.
    EachFault-ok P number.value))

pub EachFault-resource_count : (P : TextFault → Type 0) → AllowsLimits P → (number : Number) → EachFault P (resource_count number)
unfolding resource_count
EachFault-resource_count P limits number =
    let many = TooManyResources number.value in
    EachFault-bind P _ _ (EachFault-refuse_if P (nat_lt MAX_RESOURCES number.value) (Instance many) number.at (limits many number.at tt)) (λ few.
    EachFault-ok P number.value)

pub EachFault-capacity : (P : TextFault → Type 0) → AllowsLimits P → (resource : ℕ) (number : Number) → EachFault P (capacity resource number)
unfolding capacity
EachFault-capacity P limits resource number =
    let large = CapacityTooLarge resource number.value in
    EachFault-bind P _ _ (EachFault-refuse_if P (nat_lt MAX_CAPACITY number.value) (Instance large) number.at (limits large number.at tt)) (λ small.
    EachFault-ok P number.value)

pub EachFault-duration : (P : TextFault → Type 0) → AllowsLimits P → (before : ℕ) (number : Number) → EachFault P (duration before number)
unfolding duration
EachFault-duration P limits before number =
    let long = TooLong (before + number.value) in
    EachFault-bind P _ _ (EachFault-refuse_if P (nat_lt MAX_DURATION_SUM (before + number.value)) (Instance long) number.at (limits long number.at tt)) (λ short.
    EachFault-ok P number.value)

pub EachFault-successor : (P : TextFault → Type 0) → AllowsLimits P → (count activity : ℕ) (number : Number) → EachFault P (successor count activity number)
unfolding successor
EachFault-successor P limits count activity number =
    let wild = SuccessorOutOfRange activity number.value in
    EachFault-bind P _ _
    (EachFault-refuse_if P (nat_eq number.value 0 || nat_lt count number.value) (Instance wild) number.at (limits wild number.at tt)) (λ tame.
    EachFault-ok P number.value)
