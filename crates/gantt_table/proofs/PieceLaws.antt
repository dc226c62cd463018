-- Texts that have a piece for each booking of a schedule, written one after the other.
use Rattle.std.proofs.Common.{◌≡◌, ℕ, suc, ◌+◌, ◌-◌, ◌<◌, ◌≤◌, List, [], ◌++◌, length, drop, sym, refl, ap, ◌∙◌, arith, append_assoc, append-nil}
use Rattle.std.specs.List.{flat_map, range_with_len}
use Rattle.std.proofs.lemmas.List.{drop_all}
use Rattle.rc_instance.specs.Lists.{numbers}
use Rattle.rc_instance.specs.Usage.{Booking}
use Rattle.rc_instance.specs.Schedule.{start_at, bookings_from}
use Rattle.rc_instance.proofs.ScheduleLaws.{bookings_first}

-- the booking of an activity
abbrev pub booking_of : List ℕ → ℕ → Booking
booking_of starts a = record { activity = a; start = start_at starts a }

-- the pieces of the bookings from activity a on
abbrev pub pieces_from : (Booking → List ℕ) → List ℕ → ℕ → List ℕ
pieces_from piece starts a = flat_map piece (bookings_from a (drop (a - 1) starts))

-- the text so far with what is left is the whole, also once the next piece was written
pub piece_written : (piece : Booking → List ℕ) (starts before now whole : List ℕ) (a : ℕ)
    → 1 ≤ a → a ≤ length starts → now ≡ before ++ piece (booking_of starts a)
    → before ++ pieces_from piece starts a ≡ whole
    → now ++ pieces_from piece starts (a + 1) ≡ whole
piece_written piece starts before now whole a low high wrote so_far =
    ap (λ text. text ++ pieces_from piece starts (a + 1)) wrote
    ∙ (append_assoc before (piece (booking_of starts a)) (pieces_from piece starts (a + 1))
    ∙ (ap (λ bookings. before ++ flat_map piece bookings) (sym (bookings_first starts a low high))
    ∙ so_far))

-- after the last activity nothing is left
pub pieces_written : (piece : Booking → List ℕ) (starts text whole : List ℕ) (a : ℕ)
    → length starts < a → text ++ pieces_from piece starts a ≡ whole → text ≡ whole
pieces_written piece starts text whole a past so_far =
    let none : drop (a - 1) starts ≡ [] = drop_all (a - 1) starts (omega arith) in
    sym (append-nil text)
    ∙ (ap (λ left. text ++ flat_map piece (bookings_from a left)) (sym none) ∙ so_far)

-- a line of three parts at the end of a text
pub line_added : (text a b c : List ℕ) → text ++ (a ++ (b ++ c)) ≡ text ++ a ++ b ++ c
line_added text a b c = simp append_assoc

-- the rows of the numbers from a to a count
abbrev pub rows_from : (ℕ → List ℕ) → ℕ → ℕ → List ℕ
rows_from row count a = flat_map row (range_with_len a (count + 1 - a))

-- before the first row all are left
pub rows_begin : (row : ℕ → List ℕ) (text head : List ℕ) (count : ℕ) → text ≡ head
    → text ++ rows_from row count 1 ≡ head ++ flat_map row (numbers count)
rows_begin row text head count is =
    let all : count + 1 - 1 ≡ count = omega arith in
    rw (is, all) refl

-- the text so far with the rows that are left is the whole, also once the next row was written
pub row_written : (row : ℕ → List ℕ) (before now whole : List ℕ) (count a : ℕ) → a ≤ count
    → now ≡ before ++ row a → before ++ rows_from row count a ≡ whole
    → now ++ rows_from row count (a + 1) ≡ whole
row_written row before now whole count a high wrote so_far =
    let next : count + 1 - a ≡ suc (count + 1 - (a + 1)) = omega arith in
    let split = ap (λ n. before ++ flat_map row (range_with_len a n)) next in
    ap (λ text. text ++ rows_from row count (a + 1)) wrote
    ∙ (append_assoc before (row a) (rows_from row count (a + 1)) ∙ (sym split ∙ so_far))

-- after the last row nothing is left
pub rows_written : (row : ℕ → List ℕ) (text whole : List ℕ) (count a : ℕ) → count < a
    → text ++ rows_from row count a ≡ whole → text ≡ whole
rows_written row text whole count a past so_far =
    let none : count + 1 - a ≡ 0 = omega arith in
    sym (append-nil text)
    ∙ (ap (λ n. text ++ flat_map row (range_with_len a n)) (sym none) ∙ so_far)
