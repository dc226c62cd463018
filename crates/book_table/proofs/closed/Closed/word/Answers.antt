use Rattle.std.proofs.Common.{◌≡◌, ◌+◌, ◌-◌, ◌*◌, ◌%◌, ◌<◌, slice_index, refl, ap, subst, ◌∙◌, arith}
use Rattle.activity_net.specs.Network.{Listing}
use Rattle.book_table.specs.Passes.{ClosedBook}
use Rattle.book_rule.specs.Listed.{IsBookable, count, width, horizon_of}
use Rattle.book_rule.specs.Layout.{place, profile_word}
use Rattle.book_rule.specs.Rule.{IsComplete}
use Rattle.book_rule.proofs.ListedLaws.{count-small, width-small, horizon-small}
use Rattle.book_rule.proofs.WordLaws.{profile_word-inside}
use Rattle.capacity_profile.specs.Lanes.{lane_of}
use Rattle.book_table.proofs.ClosedLaws.{level-usage}
use Rattle.book_table.proofs.closed.Closed.word.Goals as goal

pub place-requires-clause-words : goal.place-requires-clause-words
place-requires-clause-words c =
    let same = ap (λ (b : ClosedBook). b.listing) c.self.view_is in
    let book = subst (λ (l : Listing). IsBookable l) same c.self.invariant.bookable in
    let list = c.args.self.now.listing in
    let columns = c.self.invariant.width_is ∙ ap (λ (l : Listing). width l) same in
    let positions = c.self.invariant.count_is ∙ ap (λ (l : Listing). count l) same in
    let narrow = width-small list book in
    let few = count-small list book in
    let short = horizon-small list book in
    let complete = subst (λ (l : Listing). IsComplete l c.self.inside.shut)
    same c.self.invariant.complete in
    omega (arith, columns, narrow)

pub place-requires-clause-row : goal.place-requires-clause-row
place-requires-clause-row c =
    let same = ap (λ (b : ClosedBook). b.listing) c.self.view_is in
    let book = subst (λ (l : Listing). IsBookable l) same c.self.invariant.bookable in
    let list = c.args.self.now.listing in
    let columns = c.self.invariant.width_is ∙ ap (λ (l : Listing). width l) same in
    let positions = c.self.invariant.count_is ∙ ap (λ (l : Listing). count l) same in
    let narrow = width-small list book in
    let few = count-small list book in
    let short = horizon-small list book in
    let complete = subst (λ (l : Listing). IsComplete l c.self.inside.shut)
    same c.self.invariant.complete in
    omega (arith, short, c.requires.period)

pub place-requires-clause-column : goal.place-requires-clause-column
place-requires-clause-column c =
    let same = ap (λ (b : ClosedBook). b.listing) c.self.view_is in
    let book = subst (λ (l : Listing). IsBookable l) same c.self.invariant.bookable in
    let list = c.args.self.now.listing in
    let columns = c.self.invariant.width_is ∙ ap (λ (l : Listing). width l) same in
    let positions = c.self.invariant.count_is ∙ ap (λ (l : Listing). count l) same in
    let narrow = width-small list book in
    let few = count-small list book in
    let short = horizon-small list book in
    let complete = subst (λ (l : Listing). IsComplete l c.self.inside.shut)
    same c.self.invariant.complete in
    omega (arith, narrow, c.requires.index)

pub at-requires : goal.at-requires
at-requires c =
    let same = ap (λ (b : ClosedBook). b.listing) c.self.view_is in
    let book = subst (λ (l : Listing). IsBookable l) same c.self.invariant.bookable in
    let list = c.args.self.now.listing in
    let columns = c.self.invariant.width_is ∙ ap (λ (l : Listing). width l) same in
    let positions = c.self.invariant.count_is ∙ ap (λ (l : Listing). count l) same in
    let narrow = width-small list book in
    let few = count-small list book in
    let short = horizon-small list book in
    let complete = subst (λ (l : Listing). IsComplete l c.self.inside.shut)
    same c.self.invariant.complete in
    let at = c.place.ensures.value ∙ ap (λ n. place n c.args.period c.args.index) columns in
    let inside =
    profile_word-inside list c.args.period c.args.index c.requires.period c.requires.index in
    omega (arith, positions, at, inside, complete.wide)

pub returns-clause-lanes : goal.returns-clause-lanes
returns-clause-lanes c =
    let same = ap (λ (b : ClosedBook). b.listing) c.self.view_is in
    let book = subst (λ (l : Listing). IsBookable l) same c.self.invariant.bookable in
    let list = c.args.self.now.listing in
    let columns = c.self.invariant.width_is ∙ ap (λ (l : Listing). width l) same in
    let positions = c.self.invariant.count_is ∙ ap (λ (l : Listing). count l) same in
    let narrow = width-small list book in
    let few = count-small list book in
    let short = horizon-small list book in
    let complete = subst (λ (l : Listing). IsComplete l c.self.inside.shut)
    same c.self.invariant.complete in
    let at = c.place.ensures.value ∙ ap (λ n. place n c.args.period c.args.index) columns in
    let inside =
    profile_word-inside list c.args.period c.args.index c.requires.period c.requires.index in
    let there : c.args.period < horizon_of list = c.requires.period in
    let stands : 32 + 2 * c.self.inside.positions + c.place.result
    ≡ profile_word list c.args.period c.args.index = omega (arith, at, positions) in
    let read = c.at.ensures ∙ ap (λ k. slice_index c.self.inside.shut k) stands in
    λ l lane. ap (λ x. lane_of x l) read
    ∙ complete.profile c.args.period c.args.index l there c.requires.index lane

pub returns-clause-usage : goal.returns-clause-usage
returns-clause-usage c =
    let same = ap (λ (b : ClosedBook). b.listing) c.self.view_is in
    let book = subst (λ (l : Listing). IsBookable l) same c.self.invariant.bookable in
    let list = c.args.self.now.listing in
    let columns = c.self.invariant.width_is ∙ ap (λ (l : Listing). width l) same in
    let positions = c.self.invariant.count_is ∙ ap (λ (l : Listing). count l) same in
    let narrow = width-small list book in
    let few = count-small list book in
    let short = horizon-small list book in
    let complete = subst (λ (l : Listing). IsComplete l c.self.inside.shut)
    same c.self.invariant.complete in
    let at = c.place.ensures.value ∙ ap (λ n. place n c.args.period c.args.index) columns in
    let inside =
    profile_word-inside list c.args.period c.args.index c.requires.period c.requires.index in
    let there : c.args.period < horizon_of list = c.requires.period in
    let stands : 32 + 2 * c.self.inside.positions + c.place.result
    ≡ profile_word list c.args.period c.args.index = omega (arith, at, positions) in
    let read = c.at.ensures ∙ ap (λ k. slice_index c.self.inside.shut k) stands in
    λ k is row.
    let lane : (k - 1) % 4 < 4 = omega arith in
    ap (λ x. lane_of x ((k - 1) % 4)) read
    ∙ (complete.profile c.args.period c.args.index ((k - 1) % 4) there c.requires.index lane
    ∙ level-usage list c.args.index ((k - 1) % 4) k c.args.period book.feasible is row refl)
