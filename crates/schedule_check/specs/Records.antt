-- The records that a reader of CSV over bytes has left.
use Rattle.std.specs.Prelude.{◌≡◌, ℕ, ◌+◌, Bool, true, false, List, [], ◌∷◌, length, Option, None, Some, IsSome}
use Rattle.std.specs.Borrow.{Bor}
use Rattle.csv.specs.Reading.{default_config, is_flexible, reader_config, reader_state, reader_trim, records_from, source_of, Ready}
use Rattle.csv.specs.declared.reader.Reader.{Reader}
use Rattle.csv.specs.declared.reader.Trim.TheVariants as trim
use Rattle.csv.specs.declared.parser.State.{State}

-- the bytes that the reader has left, where they are known
abbrev pub bytes_left : Reader (Bor (List ℕ)) → Option (List ℕ)
bytes_left reader = source_of (λ bytes. Some bytes.now) reader

-- the records of bytes from a state on
abbrev pub records_in : State → List ℕ → List (List (List ℕ))
records_in state bytes = records_from default_config (length bytes + 1) state bytes

abbrev pub records_known : State → Option (List ℕ) → List (List (List ℕ))
records_known state None = []
records_known state (Some bytes) = records_in state bytes

-- the records that the reader has left
abbrev pub records_left : Reader (Bor (List ℕ)) → List (List (List ℕ))
records_left reader = records_known (reader_state reader) (bytes_left reader)

-- the reader gives the records of its bytes as they are, whatever their lengths
pub record IsReading (reader : Reader (Bor (List ℕ))) : Type 0 where
  pub trim : reader_trim reader ≡ trim.None
  pub config : reader_config reader ≡ default_config
  pub flexible : is_flexible reader ≡ true
  pub ready : Ready reader
  pub known : IsSome (bytes_left reader)

-- there was a next record, with these fields, and these are left; or none was left
abbrev pub Takes : List (List (List ℕ)) → List (List ℕ) → List (List (List ℕ)) → Bool → Type 0
Takes left fields rest true = left ≡ fields ∷ rest
Takes left fields rest false = left ≡ []
