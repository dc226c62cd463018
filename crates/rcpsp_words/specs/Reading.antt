-- What was read is what the words say.
use Rattle.std.specs.Prelude.{◌≡◌, Option, None, Some, option_and_then, Result, Ok, Err}
use Rattle.rcpsp_words.specs.declared.words.WordsFault.{WordsFault}
use Rattle.rcpsp_words.specs.declared.words.WordsFault.TheVariants.{Undefined, Memory}

-- one step after another, as long as the words say something
infixl 10 ◌>>=◌
abbrev pub ◌>>=◌ : {A B : Type 0} → Option A → (A → Option B) → Option B
said >>= f = option_and_then f said

-- what was read is what the words say, as `view` shows it; they are undefined exactly where they
-- say nothing, unless memory ran out
abbrev pub Reads : {X T : Type 0} → (X → T) → Option T → Result X WordsFault → Type 0
Reads view said (Ok read) = said ≡ Some (view read)
Reads view said (Err Undefined) = said ≡ None
Reads view said (Err Memory) = Unit {0}

-- the same, where what was read is seen as it is
abbrev pub IsUnderstood : {T : Type 0} → Option T → Result T WordsFault → Type 0
IsUnderstood said result = Reads (λ read. read) said result
