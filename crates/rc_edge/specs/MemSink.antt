-- The bytes of a `MemSink`, and what its next put does.
use Rattle.std.specs.Prelude.{◌≡◌, ℕ, ◌-◌, ◌==◌, ◌&&◌, ◌||◌, Bool, List, [], length, min, nat_lt}
use Rattle.std.specs.Prelude.{if◌then◌else◌, Result, is_err, IfOk}
use Rattle.std.specs.List.{list_any}
use Rattle.rc_edge.specs.Faults.{one_more}
use Rattle.rc_edge.specs.declared.mem_sink.MemSink.{MemSink}

-- the bytes taken so far
abbrev pub bytes_of : MemSink → List ℕ
bytes_of s = s.bytes.items

-- how many bytes it can take in all
abbrev pub room_of : MemSink → ℕ
room_of s = s.room

-- how many bytes a put takes at most
abbrev pub most_of : MemSink → ℕ
most_of s = s.most

-- the numbers of the puts that fail
abbrev pub failing_of : MemSink → List ℕ
failing_of s = s.failing.items

-- the number of the next put
abbrev pub puts_of : MemSink → ℕ
puts_of s = s.puts

-- how many puts failed so far
abbrev pub faults_of : MemSink → ℕ
faults_of s = s.faults

-- nothing was put yet
pub record IsUntouched (s : MemSink) : Type 0 where
  pub bytes : bytes_of s ≡ []
  pub puts : puts_of s ≡ 0
  pub faults : faults_of s ≡ 0

-- there is no room for another byte
abbrev pub is_full : MemSink → Bool
is_full s = room_of s == length (bytes_of s)

-- the next put of this piece fails: by its number, or since the room is used up
abbrev pub fails_next : MemSink → List ℕ → Bool
fails_next s piece =
    list_any (λ number. number == puts_of s) (failing_of s)
    || (is_full s && nat_lt 0 (length piece))

-- how many bytes of a piece a put takes that does not fail
abbrev pub taken_of : MemSink → List ℕ → ℕ
taken_of s piece = min (length piece) (min (most_of s) (room_of s - length (bytes_of s)))

-- what a put of a piece answers and counts
pub record Advances {E : Type 0} (old new : MemSink) (piece : List ℕ)
    (result : Result ℕ E) : Type 0 where
  pub puts : puts_of new ≡ one_more (puts_of old)
  pub fails : is_err result ≡ fails_next old piece
  pub faults : faults_of new ≡
      (if fails_next old piece then one_more (faults_of old) else faults_of old)
  pub taken : IfOk result (λ k. k ≡ taken_of old piece)
  pub most : most_of new ≡ most_of old
