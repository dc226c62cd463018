-- What the grammars make of tokens whose words are known: each number is accepted where it passes
-- no limit.
use Rattle.std.proofs.Common.{◌≡◌, ℕ, ◌+◌, ◌^◌, ◌<◌, ◌≤◌, List, [], ◌∷◌, ◌++◌, length, map, Result, Ok, refl, sym, subst, arith, append_assoc, append-nil, ne_eqb}
use Rattle.std.specs.List.{flat_map}
use Rattle.std.specs.Fmt.{decimal}
use Rattle.std.proofs.lemmas.Bool.{le-ltb}
use Rattle.std.proofs.lemmas.List.Concat.{flat_map_single}
use Rattle.std.proofs.lemmas.List.{map-id}
use Rattle.rc_instance.specs.declared.limits.TheConstants.{MAX_ACTIVITIES, MAX_RESOURCES, MAX_CAPACITY, MAX_DURATION_SUM}
use Rattle.rc_edge.specs.declared.text_fault.TextFault.{TextFault}
use Rattle.rc_edge.specs.Tokens.{Token}
use Rattle.rc_edge.specs.Grammar.{number_due, more}
use Rattle.rc_edge.specs.Entries.{activity_count, resource_count, capacity, duration, successor}
use Rattle.rc_edge.proofs.GrammarLaws.{Reader}
use Rattle.rc_edge.proofs.WrittenLaws.{texts, number_of-decimal}

-- a reading that gives this value, and leaves what shows these parts of the text
pub record Leaves {X Left Part : Type 0} (Shows : Left → List Part → Type 0)
    (read : Result (X × Left) TextFault) (x : X) (later : List Part) : Type 0 where
  pub rest : Left
  pub gives : read ≡ Ok (x, rest)
  pub shows : Shows rest later

-- a reader makes this value of these parts, whatever follows
pub record Reads {X Left Part : Type 0} (Shows : Left → List Part → Type 0)
    (one : Left → Result (X × Left) TextFault) (parts : List Part) (x : X) : Type 0 where
  pub reads : (left : Left) (later : List Part) → Shows left (parts ++ later)
      → Leaves Shows (one left) x later

-- a number that is due, at whatever offset
pub record IsDue (size : ℕ) (tokens : List Token) (n : ℕ) (later : List (List ℕ)) : Type 0 where
  pub at : ℕ
  pub rest : List Token
  pub gives : number_due size tokens ≡ Ok (record { value = n; at = at }, rest)
  pub words : texts rest ≡ later

-- the word of a number is read as that number
pub number_is_due : (size : ℕ) (tokens : List Token) (n : ℕ) (later : List (List ℕ)) → n < 2 ^ 32
    → texts tokens ≡ decimal n ∷ later → IsDue size tokens n later
unfolding number_due
number_is_due size [] n later small is = absurd cc
number_is_due size (token ∷ rest) n later small is =
    let text : token.text ≡ decimal n = cc in record {
      at = token.at;
      rest = rest;
      gives = rw (text, number_of-decimal n small) refl;
      words = cc;
    }

-- a count of activities within the limits is accepted
pub activity_count_accepted : (n at : ℕ) → 1 ≤ n → n ≤ MAX_ACTIVITIES
    → activity_count (record { value = n; at = at }) ≡ Ok n
unfolding activity_count
activity_count_accepted n at some few =
    rw (ne_eqb n 0 (λ e. omega arith), le-ltb MAX_ACTIVITIES n few) refl

-- so is a count of resources
pub resource_count_accepted : (k at : ℕ) → k ≤ MAX_RESOURCES
    → resource_count (record { value = k; at = at }) ≡ Ok k
unfolding resource_count
resource_count_accepted k at few = rw (le-ltb MAX_RESOURCES k few) refl

-- so is a capacity
pub capacity_accepted : (resource c at : ℕ) → c ≤ MAX_CAPACITY
    → capacity resource (record { value = c; at = at }) ≡ Ok c
unfolding capacity
capacity_accepted resource c at small = rw (le-ltb MAX_CAPACITY c small) refl

-- so is a duration, with those before it
pub duration_accepted : (before d at : ℕ) → before + d ≤ MAX_DURATION_SUM
    → duration before (record { value = d; at = at }) ≡ Ok d
unfolding duration
duration_accepted before d at short = rw (le-ltb MAX_DURATION_SUM (before + d) short) refl

-- so is a successor
pub successor_accepted : (count activity b at : ℕ) → 1 ≤ b → b ≤ count
    → successor count activity (record { value = b; at = at }) ≡ Ok b
unfolding successor
successor_accepted count activity b at some within =
    rw (ne_eqb b 0 (λ e. omega arith), le-ltb count b within) refl

-- a thing for each index is read of its parts, after those found before it
abbrev pub ReadsEach : {X Left Part Index : Type 0} → (Left → List Part → Type 0) → Reader Left X
    → (Index → List Part) → (Index → X) → List X → List Index → Type 0
ReadsEach Shows one parts value found [] = Unit {0}
ReadsEach Shows one parts value found (i ∷ is) =
    Reads Shows (one found) (parts i) (value i) × ReadsEach Shows one parts value
    (found ++ value i ∷ []) is

-- so they are read one after the other
pub more_reads : {X Left Part Index : Type 0} (Shows : Left → List Part → Type 0)
    (one : Reader Left X) (parts : Index → List Part) (value : Index → X)
    (found : List X) (is : List Index) → ReadsEach Shows one parts value found is
    → (left : Left) (later : List Part) → Shows left (flat_map parts is ++ later)
    → Leaves Shows (more one (length is) found left) (found ++ map value is) later
unfolding more
more_reads Shows one parts value found [] each left later shows = record {
  rest = left;
  gives = rw (append-nil found) refl;
  shows = shows;
}
more_reads Shows one parts value found (i ∷ is) each left later shows =
    let first = each.0.reads left (flat_map parts is ++ later)
    (subst (Shows left) (append_assoc (parts i) (flat_map parts is) later) shows) in
    let others = more_reads Shows one parts value (found ++ value i ∷ []) is each.1 first.rest later
    first.shows in
    record {
      rest = others.rest;
      gives = rw first.gives (rw (append_assoc found (value i ∷ []) (map value is))
          at others.gives);
      shows = others.shows;
    }

-- so are numbers, each of its own word
pub more_numbers_read : {Left : Type 0} (Shows : Left → List (List ℕ) → Type 0)
    (one : Reader Left ℕ) (count : ℕ) (xs : List ℕ) → count ≡ length xs
    → ReadsEach Shows one (λ n. decimal n ∷ []) (λ n. n) [] xs
    → (left : Left) (later : List (List ℕ)) → Shows left (map decimal xs ++ later)
    → Leaves Shows (more one count [] left) xs later
more_numbers_read Shows one count xs all each left later shows =
    let read = more_reads Shows one (λ n. decimal n ∷ []) (λ n. n) [] xs each left later
    (subst (λ words. Shows left (words ++ later)) (sym (flat_map_single decimal xs))
    shows) in record {
      rest = read.rest;
      gives = rw all (rw (map-id xs) at read.gives);
      shows = read.shows;
    }
