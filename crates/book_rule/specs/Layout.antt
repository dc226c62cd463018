-- Where each word of a book stands: the turn, the tickets, then the starts, the offers, the profile
-- and the floors. The words between the turn, the tickets and the starts say nothing: who draws a ticket
-- is not to take the turn's cache line away from those that book, nor they his.
use Rattle.std.specs.Prelude.{ℕ, ◌+◌, ◌*◌, ◌/◌}
use Rattle.activity_net.specs.Network.{Listing}
use Rattle.book_rule.specs.Listed.{count, width, horizon_of}

-- column w of row p, where a row has n columns
unfoldable pub place : ℕ → ℕ → ℕ → ℕ
place n p w = p * n + w

-- how many profile words there are
abbrev pub cells : Listing → ℕ
cells list = place (width list) (horizon_of list) 0

-- how many blocks of 32 periods, the last one cut at the horizon
unfoldable pub blocks : Listing → ℕ
blocks list = (horizon_of list + 31) / 32

abbrev pub turn_word : ℕ
turn_word = 0

abbrev pub ticket_word : ℕ
ticket_word = 16

abbrev pub start_word : ℕ → ℕ
start_word i = 32 + i

abbrev pub offer_word : Listing → ℕ → ℕ
offer_word list i = 32 + (count list + i)

abbrev pub profile_word : Listing → ℕ → ℕ → ℕ
profile_word list p w = 32 + (count list + (count list + place (width list) p w))

abbrev pub floor_word : Listing → ℕ → ℕ → ℕ
floor_word list b w = 32 + (count list + (count list + (cells list + place (width list) b w)))

abbrev pub word_count : Listing → ℕ
word_count list =
    32 + (count list + (count list + (cells list + place (width list) (blocks list) 0)))
