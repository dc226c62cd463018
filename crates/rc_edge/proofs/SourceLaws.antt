-- What is read of the numbers of a text: its faults, its limits, and what is read of written numbers.
use Rattle.std.proofs.Common.{◌≡◌, ℕ, ◌+◌, ◌^◌, ◌<◌, ◌≤◌, List, [], ◌∷◌, ◌++◌, length, Result, Ok, refl, subst, arith, All}
use Rattle.std.specs.Fmt.{decimal}
use Rattle.std.proofs.lemmas.List.Elements.{All-nil, All-push, All-head, All-tail}
use Rattle.rc_instance.specs.declared.limits.TheConstants.{MAX_ACTIVITIES, MAX_CAPACITY, MAX_DURATION_SUM}
use Rattle.rc_instance.specs.Lists.{IsUpTo}
use Rattle.rc_edge.specs.declared.text_number.Number.{Number}
use Rattle.rc_edge.specs.declared.text_fault.TextFault.{TextFault}
use Rattle.rc_edge.specs.Grammar.{more}
use Rattle.rc_edge.specs.Entries as entries
use Rattle.rc_edge.specs.Source.{Source, capacity_due, next_capacity, demand_due, duration_due, successor_due}
use Rattle.rc_edge.proofs.EntryLaws.{capacity_is, duration_is, successor_is}
use Rattle.rc_edge.proofs.FaultLaws.{EachFault, EachFault-ok, EachFault-bind, EachFault-more, AllowsLimits, EachFault-capacity, EachFault-duration, EachFault-successor}
use Rattle.rc_edge.proofs.GrammarLaws.{bind_ok, ok_is, more_keeps}
use Rattle.rc_edge.proofs.NumberedLaws.{AreSmall}
use Rattle.rc_edge.proofs.ReadBackLaws.{Reads, ReadsEach, capacity_accepted, duration_accepted, successor_accepted}

-- each fault of a number that is due has P
abbrev pub EachDue : {Left : Type 0} → (TextFault → Type 0) → Source Left → Type 0
EachDue {Left = Left} P due = (left : Left) → EachFault P (due left)

-- so has each fault of a capacity
pub EachFault-capacity_due : {Left : Type 0} (P : TextFault → Type 0) (due : Source Left)
    → EachDue P due → AllowsLimits P → (resource : ℕ) (left : Left)
    → EachFault P (capacity_due due resource left)
unfolding capacity_due
EachFault-capacity_due P due each limits resource left =
    EachFault-bind P _ _ (each left) (λ number.
    EachFault-bind P _ _ (EachFault-capacity P limits resource number.0) (λ c. EachFault-ok P _))

-- of capacities
pub EachFault-capacities : {Left : Type 0} (P : TextFault → Type 0) (due : Source Left)
    → EachDue P due → AllowsLimits P → (count : ℕ) (left : Left)
    → EachFault P (more (next_capacity due) count [] left)
EachFault-capacities P due each limits count left =
    EachFault-more P (next_capacity due)
    (λ found rest. EachFault-capacity_due P due each limits (length found + 1) rest) count [] left

-- of demands
pub EachFault-demands : {Left : Type 0} (P : TextFault → Type 0) (due : Source Left)
    → EachDue P due → (count : ℕ) (left : Left)
    → EachFault P (more (λ _. demand_due due) count [] left)
unfolding demand_due
EachFault-demands P due each count left =
    EachFault-more P (λ _. demand_due due)
    (λ found rest. EachFault-bind P _ _ (each rest) (λ number. EachFault-ok P _)) count [] left

-- of a duration
pub EachFault-duration_due : {Left : Type 0} (P : TextFault → Type 0) (due : Source Left)
    → EachDue P due → AllowsLimits P → (before : ℕ) (left : Left)
    → EachFault P (duration_due due before left)
unfolding duration_due
EachFault-duration_due P due each limits before left =
    EachFault-bind P _ _ (each left) (λ number.
    EachFault-bind P _ _ (EachFault-duration P limits before number.0) (λ d. EachFault-ok P _))

-- of successors
pub EachFault-successors : {Left : Type 0} (P : TextFault → Type 0) (due : Source Left)
    → EachDue P due → AllowsLimits P → (count activity many : ℕ) (left : Left)
    → EachFault P (more (λ _. successor_due due count activity) many [] left)
unfolding successor_due
EachFault-successors P due each limits count activity many left =
    EachFault-more P (λ _. successor_due due count activity)
    (λ found rest. EachFault-bind P _ _ (each rest) (λ number.
    EachFault-bind P _ _ (EachFault-successor P limits count activity number.0)
    (λ b. EachFault-ok P _))) many [] left

-- a capacity that was read is within the limit
pub capacity_found : {Left : Type 0} (due : Source Left) (resource : ℕ) (left : Left)
    (found : ℕ × Left) → capacity_due due resource left ≡ Ok found → found.0 ≤ MAX_CAPACITY
unfolding capacity_due
capacity_found {Left = Left} due resource left found read =
    let number = bind_ok (due left) _ found read in
    let value = bind_ok (entries.capacity resource number.0.0) _ found number.2 in
    subst (λ (x : ℕ × Left). x.0 ≤ MAX_CAPACITY) (ok_is _ found value.2)
    (capacity_is resource number.0.0 value.0 value.1)

-- so are capacities
pub capacities_found : {Left : Type 0} (due : Source Left) (count : ℕ) (left : Left)
    (found : List ℕ × Left) → more (next_capacity due) count [] left ≡ Ok found
    → All (λ c. c ≤ MAX_CAPACITY) found.0
capacities_found due count left found read =
    more_keeps (All (λ c. c ≤ MAX_CAPACITY)) (next_capacity due)
    (λ before rest c after holds one. All-push (λ c. c ≤ MAX_CAPACITY) before c holds
    (capacity_found due (length before + 1) rest (c, after) one))
    count [] left found (All-nil (λ c. c ≤ MAX_CAPACITY)) read

-- a duration that was read is short enough
pub duration_found : {Left : Type 0} (due : Source Left) (before : ℕ) (left : Left)
    (found : ℕ × Left) → duration_due due before left ≡ Ok found
    → before + found.0 ≤ MAX_DURATION_SUM
unfolding duration_due
duration_found {Left = Left} due before left found read =
    let number = bind_ok (due left) _ found read in
    let value = bind_ok (entries.duration before number.0.0) _ found number.2 in
    subst (λ (x : ℕ × Left). before + x.0 ≤ MAX_DURATION_SUM) (ok_is _ found value.2)
    (duration_is before number.0.0 value.0 value.1)

-- a successor that was read is an activity
successor_found : {Left : Type 0} (due : Source Left) (count activity : ℕ) (left : Left)
    (found : ℕ × Left) → successor_due due count activity left ≡ Ok found
    → IsUpTo count found.0
unfolding successor_due
successor_found {Left = Left} due count activity left found read =
    let number = bind_ok (due left) _ found read in
    let value = bind_ok (entries.successor count activity number.0.0) _ found number.2 in
    subst (λ (x : ℕ × Left). IsUpTo count x.0) (ok_is _ found value.2)
    (successor_is count activity number.0.0 value.0 value.1)

-- so are successors
pub successors_found : {Left : Type 0} (due : Source Left) (count activity many : ℕ) (left : Left)
    (found : List ℕ × Left) → more (λ _. successor_due due count activity) many [] left ≡ Ok found
    → All (IsUpTo count) found.0
successors_found due count activity many left found read =
    more_keeps (All (IsUpTo count)) (λ _. successor_due due count activity)
    (λ before rest b after holds one. All-push (IsUpTo count) before b holds
    (successor_found due count activity rest (b, after) one))
    many [] left found (All-nil (IsUpTo count)) read

-- a number that is due, at whatever offset, and what is left after it
pub record IsDue {Left : Type 0} (Shows : Left → List (List ℕ) → Type 0) (due : Source Left)
    (left : Left) (n : ℕ) (later : List (List ℕ)) : Type 0 where
  pub at : ℕ
  pub rest : Left
  pub gives : due left ≡ Ok (record { value = n; at = at }, rest)
  pub shows : Shows rest later

-- the word of a number is read as that number
abbrev pub ReadsNumbers : {Left : Type 0} → (Left → List (List ℕ) → Type 0) → Source Left → Type 0
ReadsNumbers {Left = Left} Shows due =
    (left : Left) (n : ℕ) (later : List (List ℕ)) → n < 2 ^ 32 → Shows left (decimal n ∷ later)
    → IsDue Shows due left n later

-- a capacity is read, if it is within the limit
capacity_reads : {Left : Type 0} (Shows : Left → List (List ℕ) → Type 0) (due : Source Left)
    → ReadsNumbers Shows due → (resource c : ℕ) → c ≤ MAX_CAPACITY
    → Reads Shows (capacity_due due resource) (decimal c ∷ []) c
unfolding capacity_due
capacity_reads Shows due number resource c small = record {
  reads = λ left later is.
      let found = number left c later (omega arith) is in record {
        rest = found.rest;
        gives = rw (found.gives, capacity_accepted resource c found.at small) refl;
        shows = found.shows;
      };
}

-- a demand is read, however great
demand_reads : {Left : Type 0} (Shows : Left → List (List ℕ) → Type 0) (due : Source Left)
    → ReadsNumbers Shows due → (d : ℕ) → d < 2 ^ 32
    → Reads Shows (demand_due due) (decimal d ∷ []) d
unfolding demand_due
demand_reads Shows due number d small = record {
  reads = λ left later is.
      let found = number left d later small is in record {
        rest = found.rest;
        gives = rw found.gives refl;
        shows = found.shows;
      };
}

-- a duration is read, where the sum so far with it is short enough
pub duration_reads : {Left : Type 0} (Shows : Left → List (List ℕ) → Type 0) (due : Source Left)
    → ReadsNumbers Shows due → (before d : ℕ) → before + d ≤ MAX_DURATION_SUM
    → Reads Shows (duration_due due before) (decimal d ∷ []) d
unfolding duration_due
duration_reads Shows due number before d short = record {
  reads = λ left later is.
      let found = number left d later (omega arith) is in record {
        rest = found.rest;
        gives = rw (found.gives, duration_accepted before d found.at short) refl;
        shows = found.shows;
      };
}

-- a successor is read, if it is an activity
successor_reads : {Left : Type 0} (Shows : Left → List (List ℕ) → Type 0) (due : Source Left)
    → ReadsNumbers Shows due → (count activity b : ℕ) → (1 ≤ b) × (b ≤ count)
    → count ≤ MAX_ACTIVITIES
    → Reads Shows (successor_due due count activity) (decimal b ∷ []) b
unfolding successor_due
successor_reads Shows due number count activity b within few = record {
  reads = λ left later is.
      let found = number left b later (omega (arith, within.1)) is in record {
        rest = found.rest;
        gives = rw (
          found.gives,
          successor_accepted count activity b found.at within.0 within.1,
        ) refl;
        shows = found.shows;
      };
}

-- all capacities are read
pub each_capacity : {Left : Type 0} (Shows : Left → List (List ℕ) → Type 0) (due : Source Left)
    → ReadsNumbers Shows due → (found cs : List ℕ) → All (λ c. c ≤ MAX_CAPACITY) cs
    → ReadsEach Shows (next_capacity due) (λ n. decimal n ∷ []) (λ n. n) found cs
each_capacity Shows due number found [] small = tt
each_capacity Shows due number found (c ∷ cs) small = (
  capacity_reads Shows due number (length found + 1) c
      (All-head (λ c. c ≤ MAX_CAPACITY) c cs small),
  each_capacity Shows due number (found ++ c ∷ []) cs
      (All-tail (λ c. c ≤ MAX_CAPACITY) c cs small),
)

-- all demands of an activity are read
pub each_demand : {Left : Type 0} (Shows : Left → List (List ℕ) → Type 0) (due : Source Left)
    → ReadsNumbers Shows due → (found ds : List ℕ) → AreSmall ds
    → ReadsEach Shows (λ _. demand_due due) (λ n. decimal n ∷ []) (λ n. n) found ds
each_demand Shows due number found [] small = tt
each_demand Shows due number found (d ∷ ds) small = (
  demand_reads Shows due number d (All-head (λ n. n < 2 ^ 32) d ds small),
  each_demand Shows due number (found ++ d ∷ []) ds (All-tail (λ n. n < 2 ^ 32) d ds small),
)

-- all successors of an activity are read
pub each_successor : {Left : Type 0} (Shows : Left → List (List ℕ) → Type 0) (due : Source Left)
    → ReadsNumbers Shows due → (count activity : ℕ) (found bs : List ℕ)
    → All (λ b. (1 ≤ b) × (b ≤ count)) bs → count ≤ MAX_ACTIVITIES
    → ReadsEach Shows (λ _. successor_due due count activity) (λ n. decimal n ∷ []) (λ n. n)
    found bs
each_successor Shows due number count activity found [] within few = tt
each_successor Shows due number count activity found (b ∷ bs) within few = (
  successor_reads Shows due number count activity b
      (All-head (λ b. (1 ≤ b) × (b ≤ count)) b bs within) few,
  each_successor Shows due number count activity (found ++ b ∷ []) bs
      (All-tail (λ b. (1 ≤ b) × (b ≤ count)) b bs within) few,
)
