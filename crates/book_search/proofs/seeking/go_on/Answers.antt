use Rattle.std.proofs.Common.{◌≡◌, ◌+◌, ◌<◌, sym, ap, subst, arith}
use Rattle.book_rule.specs.declared.view.Search.{Search}
use Rattle.book_rule.specs.declared.view.View.{View}
use Rattle.book_rule.proofs.ListedLaws.{horizon-small}
use Rattle.book_search.specs.Runs.{AreKept}
use Rattle.book_search.specs.Steps.{IsDue, place_of}
use Rattle.book_search.proofs.RoomLaws.{GoesFurther, words_inside, word_loaded, block_passed}
use Rattle.book_search.proofs.seeking.go_on.Goals as goal

pub overflow_add-period : goal.overflow_add-period
overflow_add-period c = omega
    (arith, c.requires.due.under.within, horizon-small c.args.book.now.listing c.requires.bookable)

pub returns-then-passes_block-clause-on : goal.returns-then-passes_block-clause-on
returns-then-passes_block-clause-on c =
    let list = c.args.book.now.listing in
    let due = subst (λ (s : Search). IsDue list s) (sym c.requires.is) c.requires.due in
    let past = c.if-passes_block.ensures.past in
    (block_passed list c.args.pass.now.view c.passes_block.new.pass.view _ due past).on

pub returns-then-passes_block-clause-further : goal.returns-then-passes_block-clause-further
returns-then-passes_block-clause-further c =
    let list = c.args.book.now.listing in
    let due = subst (λ (s : Search). IsDue list s) (sym c.requires.is) c.requires.due in
    let past = c.if-passes_block.ensures.past in
    let gone = block_passed list c.args.pass.now.view c.passes_block.new.pass.view _ due past in
    subst (λ (s : Search). place_of s < place_of c.search.result) c.requires.is
    (subst (λ (s : Search). place_of c.args.pass.now.view.search < place_of s)
    (sym c.search.ensures) gone.further)

pub returns-then-passes_block-clause-kept : goal.returns-then-passes_block-clause-kept
returns-then-passes_block-clause-kept c = subst
    (λ (v : View). AreKept v.block v.kept c.args.floors.now)
    (sym c.if-passes_block.ensures.past.view) c.requires.kept

pub load_word-requires-clause-period : goal.load_word-requires-clause-period
load_word-requires-clause-period c =
    let small = horizon-small c.args.book.now.listing c.requires.bookable in
    let due = c.requires.due in
    (omega (arith, due.more, due.ends), omega (arith, due.more, due.ends))

pub load_word-requires-clause-index : goal.load_word-requires-clause-index
load_word-requires-clause-index c =
    let due = c.requires.due in
    let inside = words_inside c.args.book.now.listing c.args.search due.under due.wide.0 in
    (inside, omega (arith, due.wide))

pub load_word-requires-clause-kept : goal.load_word-requires-clause-kept
load_word-requires-clause-kept c = subst (λ (v : View). AreKept v.block v.kept c.args.floors.now)
    (sym c.if-passes_block.ensures.past) c.requires.kept

pub returns-clause-on : goal.returns-clause-on
returns-clause-on c =
    let list = c.args.book.now.listing in
    let same = c.if-passes_block.ensures.past in
    let is = subst (λ (v : View). v.search ≡ c.args.search) (sym same) c.requires.is in
    let gone = word_loaded list c.passes_block.new.pass.view c.load_word.new.pass.view _ _ _
    (subst (λ (s : Search). IsDue list s) (sym is) c.requires.due)
    (sym (ap (λ (s : Search). s.least + s.free.periods) is))
    (sym (ap (λ (s : Search). s.free.words) is)) c.load_word.ensures.loaded.1 in
    (subst (λ (v : View). GoesFurther list v c.load_word.new.pass.view) same gone).on

pub returns-clause-further : goal.returns-clause-further
returns-clause-further c =
    let list = c.args.book.now.listing in
    let same = c.if-passes_block.ensures.past in
    let is = subst (λ (v : View). v.search ≡ c.args.search) (sym same) c.requires.is in
    let gone = word_loaded list c.passes_block.new.pass.view c.load_word.new.pass.view _ _ _
    (subst (λ (s : Search). IsDue list s) (sym is) c.requires.due)
    (sym (ap (λ (s : Search). s.least + s.free.periods) is))
    (sym (ap (λ (s : Search). s.free.words) is)) c.load_word.ensures.loaded.1 in
    subst (λ (s : Search). place_of s < place_of c.search-2.result) is
    (subst (λ (s : Search). place_of c.passes_block.new.pass.view.search < place_of s)
    (sym c.search-2.ensures) gone.further)
