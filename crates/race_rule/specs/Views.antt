-- The view of a seeker, and what each step makes of it.
use Rattle.std.specs.Prelude.{ℕ, ◌+◌, Bool, true, false, List, [], ◌∷◌, ◌++◌, length, nat_lt, None, Some}
use Rattle.std.specs.Option.{option_to_list}
use Rattle.race_rule.specs.declared.view.SeekerView.{SeekerView}
use Rattle.race_rule.specs.declared.view.TheConstants.{NO_WORD}

-- a seeker that has drawn no ticket; so many were made
abbrev pub newcomer : List ℕ → ℕ → ℕ → ℕ → SeekerView
newcomer words from number made = record {
  words = words;
  from = from;
  spent = false;
  number = number;
  hand = None;
  best_seen = NO_WORD;
  looks = 0;
  next = 0;
  drawn = [];
  done = [];
  ended = false;
  made = made;
  joined = 0;
  gathered = [];
}

-- a seeker that was taken in
abbrev pub blank : SeekerView
blank = record (newcomer [] 0 0 0) { spent = true }

-- it has drawn a ticket: the sample is in hand, or there is none and the seeker has ended
abbrev pub with_ticket : Bool → SeekerView → ℕ → SeekerView
with_ticket true view ticket = record view {
  hand = Some ticket;
  drawn = view.drawn ++ ticket ∷ [];
  next = ticket + 1;
}
with_ticket false view ticket = record view {
  ended = true;
  drawn = view.drawn ++ ticket ∷ [];
  next = ticket + 1;
}

abbrev pub after_take : SeekerView → ℕ → SeekerView
after_take view ticket = with_ticket (nat_lt ticket (length view.words)) view ticket

-- the sample in hand is settled, at this best word
abbrev pub settled : SeekerView → ℕ → ℕ → SeekerView
settled view best looks = record view {
  hand = None;
  done = view.done ++ option_to_list view.hand;
  best_seen = best;
  looks = looks;
}

-- it has loaded the best word, and gives the sample in hand up, or not
abbrev pub with_look : Bool → SeekerView → ℕ → SeekerView
with_look true view best = settled view best (view.looks + 1)
with_look false view best = record view { best_seen = best; looks = view.looks + 1 }

-- it gives it up where the best word is below the limit
abbrev pub after_look : ℕ → SeekerView → ℕ → SeekerView
after_look limit view best = with_look (nat_lt best limit) view best

-- it has valued the sample in hand, and this is the best word now
abbrev pub after_value : SeekerView → ℕ → SeekerView
after_value view best = settled view best view.looks

-- seeker 0 once it has made another
abbrev pub with_another : SeekerView → SeekerView
with_another view = record view { made = view.made + 1 }

-- the other
abbrev pub another : SeekerView → SeekerView
another view = newcomer view.words view.from view.made 0

-- seeker 0 once it has taken another in
abbrev pub with_gathered : SeekerView → SeekerView → SeekerView
with_gathered view other = record view {
  joined = view.joined + 1;
  gathered = view.gathered ++ (other.drawn ++ other.gathered);
}
