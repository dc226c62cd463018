use Rattle.std.proofs.Common.{◌≡◌, ◌+◌, ◌-◌, drop, arith, ◌∙◌}
use Rattle.std.proofs.lemmas.List.{length-drop}
use Rattle.rc_edge.proofs.TokenLaws.{slice_rest, none_left, stops_at_black, word_has_a_byte, first_left}
use Rattle.rc_edge.proofs.token.next_token.Goals as goal

pub returns-then-start-bytes-clause-none : goal.returns-then-start-bytes-clause-none
returns-then-start-bytes-clause-none c =
    let bytes = c.args.bytes.now in
    let begun = c.past_begun-begun.result in
    let white = rw (slice_rest begun bytes) at c.white_len.ensures.count in
    c.past_begun-begun.ensures.tokens ∙ none_left bytes begun c.white_len.result c.past_begun-begun.ensures.within white c.if-start-bytes.true

pub returns-clause-first : goal.returns-clause-first
returns-clause-first c =
    let bytes = c.args.bytes.now in
    let begun = c.past_begun-begun.result in
    let start = begun + c.white_len.result in
    let white = rw (slice_rest begun bytes) at c.white_len.ensures.count in
    let size = rw (slice_rest start bytes) at c.word_len.ensures.count in
    let size_is : start + c.word_len.result - start ≡ c.word_len.result = omega arith in
    rw size_is (c.past_begun-begun.ensures.tokens ∙ first_left bytes begun c.white_len.result c.word_len.result c.past_begun-begun.ensures.within white (omega arith) size)

pub returns-clause-holds_a_byte : goal.returns-clause-holds_a_byte
returns-clause-holds_a_byte c =
    let bytes = c.args.bytes.now in
    let begun = c.past_begun-begun.result in
    let start = begun + c.white_len.result in
    let white = rw (slice_rest begun bytes) at c.white_len.ensures.count in
    let size = rw (slice_rest start bytes) at c.word_len.ensures.count in
    let black = stops_at_black bytes begun c.white_len.result c.past_begun-begun.ensures.within white (omega arith) in
    let some = word_has_a_byte (drop start bytes) (omega (arith, length-drop start bytes)) black in
    omega (arith, some, size)
