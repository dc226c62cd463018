-- What is read of the numbers of a text, whatever they are read from.
use Rattle.std.specs.Prelude.{ℕ, ◌+◌, List, length, Result, Ok}
use Rattle.rc_edge.specs.declared.text_number.Number.{Number}
use Rattle.rc_edge.specs.declared.text_fault.TextFault.{TextFault}
use Rattle.rc_edge.specs.Grammar.{◌>>=◌}
use Rattle.rc_edge.specs.Entries.{capacity, duration, successor}

-- where numbers are read from: the next number of what is left of a text, and what is left after it
abbrev pub Source : Type 0 → Type 0
Source Left = Left → Result (Number × Left) TextFault

-- the capacity of a resource
unfoldable pub capacity_due : {Left : Type 0} → Source Left → ℕ → Left → Result (ℕ × Left) TextFault
capacity_due due resource left = do
  number ← due left
  capacity ← capacity resource number.0
  Ok (capacity, number.1)

-- the capacity of the next resource, after those found
abbrev pub next_capacity : {Left : Type 0} → Source Left → List ℕ → Left → Result (ℕ × Left) TextFault
next_capacity due found = capacity_due due (length found + 1)

-- a demand, which may be any number
unfoldable pub demand_due : {Left : Type 0} → Source Left → Left → Result (ℕ × Left) TextFault
demand_due due left = do
  number ← due left
  Ok (number.0.value, number.1)

-- the duration of an activity; those before it have the sum `before`
unfoldable pub duration_due : {Left : Type 0} → Source Left → ℕ → Left → Result (ℕ × Left) TextFault
duration_due due before left = do
  number ← due left
  duration ← duration before number.0
  Ok (duration, number.1)

-- a successor of an activity, of `count` activities in all
unfoldable pub successor_due : {Left : Type 0} → Source Left → ℕ → ℕ → Left → Result (ℕ × Left) TextFault
successor_due due count activity left = do
  number ← due left
  successor ← successor count activity number.0
  Ok (successor, number.1)
