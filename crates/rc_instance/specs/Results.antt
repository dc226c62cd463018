-- What a call gives beside what the definition gives: the same value or first fault, or memory ran out.
use Rattle.std.specs.Prelude.{◌≡◌, ◌⊎◌, Option, Some, Result, Ok, Err}

-- one thing after another, up to the first fault
infixl 10 ◌>>=◌
abbrev pub ◌>>=◌ : {A B E : Type 0} → Result A E → (A → Result B E) → Result B E
(Ok x) >>= f = f x
(Err fault) >>= f = Err fault

-- what a call gave is what the definition gives; `view` says what its value is seen as
abbrev pub Gives : {X Y E : Type 0} → (X → Y) → Result X E → Result Y E → Type 0
Gives view (Ok x) given = given ≡ Ok (view x)
Gives view (Err fault) given = given ≡ Err fault

-- what a call refused is the first fault, unless memory ran out
abbrev pub RefusesOr : {E : Type 0} → E → Option E → E → Type 0
RefusesOr memory first fault = (first ≡ Some fault) ⊎ (fault ≡ memory)

-- what a call that takes memory gave is what the definition gives, unless memory ran out
abbrev pub GivesOr : {X Y E : Type 0} → E → (X → Y) → Result X E → Result Y E → Type 0
GivesOr memory view (Ok x) given = given ≡ Ok (view x)
GivesOr memory view (Err fault) given = (given ≡ Err fault) ⊎ (fault ≡ memory)

-- the same where a relation says what the call's value stands for
abbrev pub StandsOr : {X Y E : Type 0} → E → (X → Y → Type 0) → Result X E → Result Y E → Type 0
StandsOr {Y = Y} memory Stands (Ok x) given = (y : Y) × (given ≡ Ok y) × Stands x y
StandsOr memory Stands (Err fault) given = (given ≡ Err fault) ⊎ (fault ≡ memory)
