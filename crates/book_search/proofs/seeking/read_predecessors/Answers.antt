use Rattle.std.proofs.Common.{◌≡◌, ◌<◌, sym, ap, ◌∙◌, arith}
use Rattle.book_rule.specs.declared.view.Search.{Search}
use Rattle.book_rule.specs.Listed.{before_count, before}
use Rattle.book_rule.proofs.ListedLaws.{begins-ends}
use Rattle.book_search.proofs.ReadLaws.{reads_more}
use Rattle.book_search.proofs.seeking.read_predecessors.Goals as goal

pub places-preserved : goal.places-preserved
places-preserved c =
    let list = c.args.book.now.listing in
    let v = c.places.pass.view in
    let read = c.places.invariant.read in
    let at : v.search.position ≡ c.search-position.result.position =
    read.sought.position ∙ sym (ap (λ (s : Search). s.position) c.search-position.ensures) in
    let more : c.places.place < before_count list v.search.position = omega
    (arith, c.places-test.true, c.before_count-place-end.ensures, ap (before_count list) at) in
    record {
      own = c.load_start.ensures.own;
      read = reads_more list c.args.pass.now.view v c.load_start.new.pass.view v.seen
          c.places.place c.position_of-predecessor.result c.load_start.result read more
          (c.position_of-predecessor.ensures.value
          ∙ (c.before-in-places.ensures.value
          ∙ ap (λ i. before list i c.places.place) (sym at)))
          c.load_start.ensures.told.start
          (begins-ends list c.requires.bookable c.position_of-predecessor.result
          c.position_of-predecessor.ensures.within)
          c.load_start.ensures.told.view;
    }
