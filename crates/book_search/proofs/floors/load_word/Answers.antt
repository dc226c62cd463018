use Rattle.std.proofs.Common.{sym, subst}
use Rattle.book_rule.specs.declared.view.View.{View}
use Rattle.book_search.specs.Runs.{AreKept}
use Rattle.book_search.proofs.FloorLaws.{kept_more}
use Rattle.book_search.proofs.floors.load_word.Goals as goal

pub store_whole-requires-clause-kept : goal.store_whole-requires-clause-kept
store_whole-requires-clause-kept c = kept_more c.args.book.now.listing c.args.pass.now.view
    c.load_profile-word.new.pass.view c.args.floors.now c.at.result c.with_word-more.result
    c.args.period c.args.index c.load_profile-word.result c.requires.kept c.at.ensures.runs
    c.at.ensures.block c.with_word-more.ensures.runs c.with_word-more.ensures.block
    c.load_profile-word.ensures.told.view

pub returns-clause-kept : goal.returns-clause-kept
returns-clause-kept c = subst (λ (v : View). AreKept v.block v.kept c.with_word-more.result)
    (sym c.store_whole.ensures.same)
    (kept_more c.args.book.now.listing c.args.pass.now.view c.load_profile-word.new.pass.view
    c.args.floors.now c.at.result c.with_word-more.result c.args.period c.args.index
    c.load_profile-word.result c.requires.kept c.at.ensures.runs c.at.ensures.block
    c.with_word-more.ensures.runs c.with_word-more.ensures.block
    c.load_profile-word.ensures.told.view)
