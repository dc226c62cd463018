-- Races and their seekers, as contracts see them.
use Rattle.std.specs.Prelude.{◌≡◌, ℕ, ◌+◌, ◌<◌, ◌≤◌, Bool, false, List, [], length, slice_index_or, nat_lt, Option, None, Some, IfSome, if◌then◌else◌, All}
use Rattle.std.specs.Option.{option_map}
use Rattle.activity_net.specs.Network.{Network}
use Rattle.race_rule.specs.declared.view.SeekerView.{SeekerView}
use Rattle.race_rule.specs.declared.view.TheConstants.{NO_WORD}
use Rattle.race_rule.specs.Views.{after_take, after_look, after_value}
use Rattle.race_rule.specs.Plays.{IsSeen}
use Rattle.key_sampling.specs.declared.terms.Terms.{Terms}
use Rattle.key_sampling.specs.declared.race.Race.{Race}
use Rattle.key_sampling.specs.declared.seeker.Seeker.{Seeker}
use Rattle.key_sampling.specs.Samples.{sample_makespan}
use Rattle.key_sampling.specs.Words.{word_of, words_of}

-- what a seeker knows
abbrev pub view_of : Seeker → SeekerView
view_of seeker = seeker.seat.me.0

-- the sample that it works at
abbrev pub sample_in_hand : SeekerView → Option ℕ
sample_in_hand view = option_map (λ ticket. view.from + ticket) view.hand

-- the value of a sample of a race
abbrev pub value_in : Race → ℕ → ℕ
value_in race sample = sample_makespan race.terms.net.now.project race.terms.seed sample

-- the seeker is of the race
pub record IsSeekerOf (race : Race) (seeker : Seeker) : Type 0 where
  pub table : seeker.seat.table_id ≡ race.table.shared.table_id
  pub words : (view_of seeker).words ≡ words_of race.terms
  pub from : (view_of seeker).from ≡ race.terms.from
  pub alive : (view_of seeker).spent ≡ false
  pub empty : seeker.seat.me.1 ≡ []
  pub hand : IfSome (view_of seeker).hand (λ ticket. ticket < race.terms.count)

-- a seeker after a call is the one that it was: of the same race, with the same number
pub record IsSameSeeker (old new : Seeker) : Type 0 where
  pub table : new.seat.table_id ≡ old.seat.table_id
  pub seat : new.seat.id ≡ old.seat.id
  pub number : (view_of new).number ≡ (view_of old).number
  pub made : (view_of new).made ≡ (view_of old).made
  pub joined : (view_of new).joined ≡ (view_of old).joined

-- a seeker is still of the race, and has drawn nothing
pub record StaysAtWork (race : Race) (old new : Seeker) : Type 0 where
  pub own : IsSeekerOf race new
  pub same : IsSameSeeker old new
  pub next : (view_of new).next ≡ (view_of old).next
  pub ended : (view_of new).ended ≡ (view_of old).ended

-- the sample of a ticket, where there is one
abbrev pub sample_of_ticket : Terms → ℕ → Option ℕ
sample_of_ticket terms ticket =
    if nat_lt ticket terms.count then Some (terms.from + ticket) else None

-- the seeker has drawn a ticket, above each that it drew before, and the answer is its sample
pub record HasDrawn (terms : Terms) (old new : SeekerView) (answer : Option ℕ) : Type 0 where
  pub ticket : ℕ
  pub above : All (λ before. before < ticket) old.drawn
  pub later : old.next ≤ ticket
  pub view : new ≡ after_take old ticket
  pub answer_is : answer ≡ sample_of_ticket terms ticket

-- the seeker has loaded the best word; it gives the sample in hand up where the limit is above it
pub record HasLookedAt (limit : ℕ) (old new : SeekerView) (answer : Bool) : Type 0 where
  pub seen : IsSeen old new.best_seen
  pub view : new ≡ after_look limit old new.best_seen
  pub answer_is : answer ≡ nat_lt new.best_seen limit

-- the limit is the word of the bound and the sample
abbrev pub HasLooked : ℕ → SeekerView → SeekerView → Bool → ℕ → Type 0
HasLooked bound old new answer sample = HasLookedAt (word_of bound sample) old new answer

-- the seeker has valued the sample in hand
pub record HasValued (makespan : ℕ) (old new : SeekerView) (sample : ℕ) : Type 0 where
  pub seen : IsSeen old new.best_seen
  pub low : new.best_seen ≤ word_of makespan sample
  pub view : new ≡ after_value old new.best_seen

-- a seeker of the race has this number, and has drawn nothing
pub record IsFresh (race : Race) (number : ℕ) (seeker : Seeker) : Type 0 where
  pub own : IsSeekerOf race seeker
  pub number_is : (view_of seeker).number ≡ number
  pub idle : sample_in_hand (view_of seeker) ≡ None
  pub going : (view_of seeker).ended ≡ false
  pub drawn : (view_of seeker).drawn ≡ []
  pub done : (view_of seeker).done ≡ []
  pub next : (view_of seeker).next ≡ 0
  pub looks : (view_of seeker).looks ≡ 0
  pub best : (view_of seeker).best_seen ≡ NO_WORD
  pub joined : (view_of seeker).joined ≡ 0

-- seeker 0 of a race, which has made so many and taken in so many
pub record IsFirst (made joined : ℕ) (seeker : Seeker) : Type 0 where
  pub seat : seeker.seat.id ≡ 0
  pub number : (view_of seeker).number ≡ 0
  pub made_is : (view_of seeker).made ≡ made
  pub joined_is : (view_of seeker).joined ≡ joined

-- a seeker of the race with this number
pub record IsSeekerAt (race : Race) (number : ℕ) (seeker : Seeker) : Type 0 where
  pub own : IsSeekerOf race seeker
  pub number_is : (view_of seeker).number ≡ number

-- all seekers of the race, each once, in order of number
pub record AreSeekers (race : Race) (seekers : List Seeker) : Type 0 where
  pub some : 0 < length seekers
  pub each : (k : ℕ) (d : Seeker) → k < length seekers
      → IsSeekerAt race k (slice_index_or seekers k d)
  pub first : (d : Seeker) → IsFirst (length seekers) 0 (slice_index_or seekers 0 d)

-- the race is about these samples
pub record IsRaceOf (network : Network) (seed from count : ℕ) (race : Race) : Type 0 where
  pub network_is : race.terms.net.now ≡ network
  pub seed_is : race.terms.seed ≡ seed
  pub from_is : race.terms.from ≡ from
  pub count_is : race.terms.count ≡ count

-- the race has so many seekers, and none has drawn a ticket
pub record IsOpened (count : ℕ) (race : Race) (seekers : List Seeker) : Type 0 where
  pub count_is : length seekers ≡ count
  pub all : AreSeekers race seekers
  pub fresh : (k : ℕ) (d : Seeker) → k < length seekers
      → IsFresh race k (slice_index_or seekers k d)
