-- The tokens of a text, as one goes along its bytes.
use Rattle.std.proofs.Common.{◌≡◌, ℕ, zero, suc, ◌+◌, ◌-◌, ◌<◌, ◌≤◌, Bool, true, false, not, List, [], ◌∷◌, length, get_or, take, drop, unwrap_or, refl, sym, ap, subst, ◌∙◌, add-zero, zero-add, arith, inl, inr}
use Rattle.std.specs.Prelude.{nat_le}
use Rattle.std.specs.List.{filter, position, position_or_len, before_first}
use Rattle.std.proofs.lemmas.Bool.{cases_Bool, cases_lt, lt-ltb, le-ltb, cond-true, cond-false, le-leb, lt-leb}
use Rattle.std.proofs.Math.Seq.{drop-length}
use Rattle.std.proofs.lemmas.List.{length-drop, get_or-drop, drop-drop, take_all}
use Rattle.std.proofs.lemmas.List.Sums.{prefix_len-le-length, passes_at_first}
use Rattle.rc_edge.specs.Tokens.{is_white, Token, tokens_from, tokens_of, tokens_after}

white_passed : (inside : Bool) (at byte : ℕ) (rest : List ℕ) → is_white byte ≡ true
    → tokens_from inside at (byte ∷ rest) ≡ tokens_from false (suc at) rest
unfolding tokens_from
white_passed inside at byte rest white = cond-true (is_white byte) _ _ white

word_passed : (at byte : ℕ) (rest : List ℕ) → is_white byte ≡ false
    → tokens_from true at (byte ∷ rest) ≡ tokens_from true (suc at) rest
unfolding tokens_from
word_passed at byte rest black = cond-false (is_white byte) _ _ black

abbrev pub first_token : ℕ → List ℕ → Token
first_token at bytes = record { text = before_first is_white bytes; at = at }

word_begun : (at byte : ℕ) (rest : List ℕ) → is_white byte ≡ false
    → tokens_from false at (byte ∷ rest) ≡ first_token at (byte ∷ rest) ∷ tokens_from true (suc at) rest
unfolding tokens_from
word_begun at byte rest black = cond-false (is_white byte) _ _ black

kept : (from : ℕ) (token : Token) (tokens : List Token) → from ≤ token.at
    → filter (λ token. nat_le from token.at) (token ∷ tokens) ≡ token ∷ filter (λ token. nat_le from token.at) tokens
kept from token tokens late = cond-true (nat_le from token.at) _ _ (le-leb from token.at late)

left_out : (from : ℕ) (token : Token) (tokens : List Token) → token.at < from
    → filter (λ token. nat_le from token.at) (token ∷ tokens) ≡ filter (λ token. nat_le from token.at) tokens
left_out from token tokens early = cond-false (nat_le from token.at) _ _ (lt-leb from token.at early)

-- each token begins where the bytes do, or later
all_after : (from : ℕ) (inside : Bool) (at : ℕ) (bytes : List ℕ) → from ≤ at
    → filter (λ token. nat_le from token.at) (tokens_from inside at bytes) ≡ tokens_from inside at bytes
unfolding tokens_from
all_after from inside at [] early = refl
all_after from inside at (byte ∷ rest) early =
    elim (cases_Bool (is_white byte)) [
      | inl white ↦
          let one = white_passed inside at byte rest white in
          rw one (all_after from false (suc at) rest (omega arith))
      | inr black ↦ all_after_black from inside at byte rest early black (all_after from true (suc at) rest (omega arith))
    ]
  where
    all_after_black : (from : ℕ) (inside : Bool) (at byte : ℕ) (rest : List ℕ) → from ≤ at → is_white byte ≡ false
        → filter (λ token. nat_le from token.at) (tokens_from true (suc at) rest) ≡ tokens_from true (suc at) rest
        → filter (λ token. nat_le from token.at) (tokens_from inside at (byte ∷ rest)) ≡ tokens_from inside at (byte ∷ rest)
    all_after_black from true at byte rest early black others = rw (word_passed at byte rest black) others
    all_after_black from false at byte rest early black others =
        rw (word_begun at byte rest black)
        (kept from (first_token at (byte ∷ rest)) (tokens_from true (suc at) rest) early ∙ ap (λ tokens. first_token at (byte ∷ rest) ∷ tokens) others)

-- whether the byte before an offset belongs to a token
abbrev pub goes_on : Bool → ℕ → List ℕ → Bool
goes_on inside zero bytes = inside
goes_on inside (suc at) bytes = not (is_white (get_or bytes at 0))

-- the tokens that begin at an offset or later are those of the bytes from there on
later : (inside : Bool) (at count : ℕ) (bytes : List ℕ) → count ≤ length bytes
    → filter (λ token. nat_le (at + count) token.at) (tokens_from inside at bytes)
    ≡ tokens_from (goes_on inside count bytes) (at + count) (drop count bytes)
later inside at zero bytes within = rw add-zero (all_after at inside at bytes (omega arith))
later inside at (suc count) [] within = absurd (omega arith)
later inside at (suc count) (byte ∷ rest) within =
    let count_is : at + suc count ≡ suc at + count = omega arith in
    rw count_is (elim (cases_Bool (is_white byte)) [
      | inl white ↦ rw (white_passed inside at byte rest white) (later_one false at count byte rest (rw white refl) (later false (suc at) count rest (omega arith)))
      | inr black ↦ later_black inside at count byte rest black (later_one true at count byte rest (rw black refl) (later true (suc at) count rest (omega arith)))
    ])
  where
    later_one : (inside : Bool) (at count byte : ℕ) (rest : List ℕ) → inside ≡ not (is_white byte)
        → filter (λ token. nat_le (suc at + count) token.at) (tokens_from inside (suc at) rest)
        ≡ tokens_from (goes_on inside count rest) (suc at + count) (drop count rest)
        → filter (λ token. nat_le (suc at + count) token.at) (tokens_from inside (suc at) rest)
        ≡ tokens_from (not (is_white (get_or (byte ∷ rest) count 0))) (suc at + count) (drop count rest)
    later_one inside at zero byte rest is h = rw (← is) h
    later_one inside at (suc count) byte rest is h = h

    later_black : (inside : Bool) (at count byte : ℕ) (rest : List ℕ) → is_white byte ≡ false
        → filter (λ token. nat_le (suc at + count) token.at) (tokens_from true (suc at) rest)
        ≡ tokens_from (not (is_white (get_or (byte ∷ rest) count 0))) (suc at + count) (drop count rest)
        → filter (λ token. nat_le (suc at + count) token.at) (tokens_from inside at (byte ∷ rest))
        ≡ tokens_from (not (is_white (get_or (byte ∷ rest) count 0))) (suc at + count) (drop count rest)
    later_black true at count byte rest black h = rw (word_passed at byte rest black) h
    later_black false at count byte rest black h =
        rw (word_begun at byte rest black) (left_out (suc at + count) (first_token at (byte ∷ rest)) (tokens_from true (suc at) rest) (omega arith) ∙ h)

pub tokens_after_is : (bytes : List ℕ) (from : ℕ) → from ≤ length bytes
    → tokens_after bytes from ≡ tokens_from (goes_on false from bytes) from (drop from bytes)
unfolding tokens_after
tokens_after_is bytes from within =
    let h = later false 0 from bytes within in
    rw zero-add at h

-- a token that is begun goes on up to the next white byte
pub word_ends : (inside : Bool) (at : ℕ) (bytes : List ℕ)
    → tokens_from true at bytes
    ≡ tokens_from inside (at + position_or_len is_white bytes) (drop (position_or_len is_white bytes) bytes)
unfolding tokens_from
word_ends inside at [] = refl
word_ends inside at (byte ∷ rest) =
    elim (cases_Bool (is_white byte)) [
      | inl white ↦ rw (white, add-zero, white) refl
      | inr black ↦
          let count = position_or_len is_white rest in
          let one_more : 1 + count ≡ suc count = omega arith in
          let moved : at + suc count ≡ suc at + count = omega arith in
          rw (black, one_more, moved) (word_ends inside (suc at) rest)
    ]

-- white space holds no token
pub white_ends : (at : ℕ) (bytes : List ℕ)
    → tokens_from false at bytes
    ≡ tokens_from false (at + position_or_len (λ byte. not (is_white byte)) bytes)
    (drop (position_or_len (λ byte. not (is_white byte)) bytes) bytes)
unfolding tokens_from
white_ends at [] = refl
white_ends at (byte ∷ rest) =
    elim (cases_Bool (is_white byte)) [
      | inl white ↦
          let count = position_or_len (λ byte. not (is_white byte)) rest in
          let one_more : 1 + count ≡ suc count = omega arith in
          let moved : at + suc count ≡ suc at + count = omega arith in
          rw (white, one_more, moved) (white_ends (suc at) rest)
      | inr black ↦ rw (black, add-zero, black) refl
    ]

-- a token that begins with the first of the bytes, and the tokens after it
pub word_taken : (inside : Bool) (at : ℕ) (bytes : List ℕ) → 0 < length bytes → is_white (get_or bytes 0 0) ≡ false
    → tokens_from false at bytes
    ≡ first_token at bytes
    ∷ tokens_from inside (at + position_or_len is_white bytes) (drop (position_or_len is_white bytes) bytes)
word_taken inside at [] some black = absurd (omega arith)
word_taken inside at (byte ∷ rest) some black =
    word_begun at byte rest black
    ∙ ap (λ tokens. first_token at (byte ∷ rest) ∷ tokens) (sym (word_passed at byte rest black) ∙ word_ends inside at (byte ∷ rest))

pub tokens_after_start : (bytes : List ℕ) → tokens_after bytes 0 ≡ tokens_of bytes
unfolding tokens_after
tokens_after_start bytes = all_after 0 false 0 bytes (omega arith)

-- the place of the first that passes, or the length
pub position-unwrap_or : (test : ℕ → Bool) (bytes : List ℕ) → unwrap_or (position test bytes) (length bytes) ≡ position_or_len test bytes
position-unwrap_or test bytes =
    elim (cases_lt (position_or_len test bytes) (length bytes)) [
      | inl lt ↦ rw (lt-ltb (position_or_len test bytes) (length bytes) lt) refl
      | inr le ↦ rw (le-ltb (position_or_len test bytes) (length bytes) le) (omega (arith, prefix_len-le-length (λ byte. not (test byte)) bytes))
    ]

-- where all is white there is no token
pub all_white : (at : ℕ) (bytes : List ℕ) → position_or_len (λ byte. not (is_white byte)) bytes ≡ length bytes → tokens_from false at bytes ≡ []
unfolding tokens_from
all_white at bytes white = white_ends at bytes ∙ rw (white, drop-length) refl

-- where white space goes to the end no token is left
pub none_left : (bytes : List ℕ) (begun white : ℕ) → begun ≤ length bytes
    → white ≡ position_or_len (λ byte. not (is_white byte)) (drop begun bytes) → begun + white ≡ length bytes
    → tokens_from false begun (drop begun bytes) ≡ []
none_left bytes begun white within white_is end = all_white begun (drop begun bytes) (omega (arith, length-drop begun bytes))

-- the byte past the white space belongs to a token
pub stops_at_black : (bytes : List ℕ) (begun white : ℕ) → begun ≤ length bytes
    → white ≡ position_or_len (λ byte. not (is_white byte)) (drop begun bytes) → begun + white < length bytes
    → is_white (get_or (drop (begun + white) bytes) 0 0) ≡ false
stops_at_black bytes begun white within white_is inside =
    let test = λ (byte : ℕ). not (is_white byte) in
    let stop : position_or_len test (drop begun bytes) < length (drop begun bytes) = omega (arith, length-drop begun bytes) in
    let passes : not (is_white (get_or (drop begun bytes) white 0)) ≡ true = rw white_is (passes_at_first test (drop begun bytes) 0 stop) in
    let place : get_or (drop (begun + white) bytes) 0 0 ≡ get_or (drop begun bytes) white 0
    = get_or-drop (begun + white) bytes 0 0 ∙ rw add-zero (sym (get_or-drop begun bytes white 0)) in
    rw place (not-true _ passes)
  where
    not-true : (b : Bool) → not b ≡ true → b ≡ false
    not-true true e = absurd cc
    not-true false e = refl

-- a token has a byte
pub word_has_a_byte : (bytes : List ℕ) → 0 < length bytes → is_white (get_or bytes 0 0) ≡ false → 0 < position_or_len is_white bytes
word_has_a_byte [] some black = absurd (omega arith)
word_has_a_byte (byte ∷ rest) some black = rw black (omega arith)

-- the first token past the white space, and the tokens after it
pub first_left : (bytes : List ℕ) (begun white size : ℕ) → begun ≤ length bytes
    → white ≡ position_or_len (λ byte. not (is_white byte)) (drop begun bytes) → begun + white < length bytes
    → size ≡ position_or_len is_white (drop (begun + white) bytes)
    → tokens_from false begun (drop begun bytes)
    ≡ record { text = take size (drop (begun + white) bytes); at = begun + white } ∷ tokens_after bytes (begun + white + size)
first_left bytes begun white size within white_is inside size_is =
    let start = begun + white in
    let rest = drop start bytes in
    let skipped : drop white (drop begun bytes) ≡ rest = drop-drop white begun bytes in
    let past : drop size rest ≡ drop (start + size) bytes = drop-drop size start bytes in
    let some : 0 < length rest = omega (arith, length-drop start bytes) in
    let long : start + size ≤ length bytes = omega (arith, length-drop start bytes, prefix_len-le-length (λ byte. not (is_white byte)) rest) in
    let black = stops_at_black bytes begun white within white_is inside in
    let passed : tokens_from false begun (drop begun bytes) ≡ tokens_from false start rest = white_ends begun (drop begun bytes) ∙ rw (← white_is, skipped) refl in
    let taken : tokens_from false start rest ≡ record { text = take size rest; at = start } ∷ tokens_from (goes_on false (start + size) bytes) (start + size) (drop size rest)
    = word_taken (goes_on false (start + size) bytes) start rest some black ∙ rw (← size_is) refl in
    let after : tokens_from (goes_on false (start + size) bytes) (start + size) (drop size rest) ≡ tokens_after bytes (start + size)
    = rw past (sym (tokens_after_is bytes (start + size) long)) in
    passed ∙ taken ∙ ap (λ (tokens : List Token). record { text = take size rest; at = start } ∷ tokens) after

-- the slice from an offset on
pub slice_rest : (from : ℕ) (bytes : List ℕ) → take (length bytes - from) (drop from bytes) ≡ drop from bytes
slice_rest from bytes = take_all _ _ (omega (arith, length-drop from bytes))

begun_state : (bytes : List ℕ) (from : ℕ) → 0 < from → goes_on false from bytes ≡ not (is_white (get_or bytes (from - 1) 0))
begun_state bytes zero some = absurd (omega arith)
begun_state bytes (suc from) some = let place : suc from - 1 ≡ from = omega arith in rw place refl

-- an offset inside a token: the tokens after it begin past its end
pub begun_before : (bytes : List ℕ) (from : ℕ) → 0 < from → from ≤ length bytes → is_white (get_or bytes (from - 1) 0) ≡ false
    → let size = position_or_len is_white (drop from bytes) in tokens_after bytes from ≡ tokens_from false (from + size) (drop (from + size) bytes)
begun_before bytes from some within black =
    let size = position_or_len is_white (drop from bytes) in
    let past : drop size (drop from bytes) ≡ drop (from + size) bytes = drop-drop size from bytes in
    let ended : tokens_from true from (drop from bytes) ≡ tokens_from false (from + size) (drop (from + size) bytes)
    = subst (λ rest. tokens_from true from (drop from bytes) ≡ tokens_from false (from + size) rest) past (word_ends false from (drop from bytes)) in
    tokens_after_is bytes from within ∙ rw (begun_state bytes from some, black) ended

-- an offset inside no token
pub none_begun : (bytes : List ℕ) (from : ℕ) → from ≤ length bytes → (0 < from → is_white (get_or bytes (from - 1) 0) ≡ true)
    → tokens_after bytes from ≡ tokens_from false from (drop from bytes)
none_begun bytes zero within white = tokens_after_is bytes 0 within
none_begun bytes (suc from) within white =
    let here : is_white (get_or bytes (suc from - 1) 0) ≡ true = white (omega arith) in
    tokens_after_is bytes (suc from) within ∙ rw (begun_state bytes (suc from) (omega arith), here) refl
