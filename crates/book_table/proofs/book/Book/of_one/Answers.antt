use Rattle.std.proofs.Common.{length, ap, subst, ◌∙◌, arith}
use Rattle.std.proofs.Common.{replicate}
use Rattle.std.proofs.lemmas.List.{length-replicate}
use Rattle.rc_instance.specs.Calendar.{IsWithinLimits}
use Rattle.activity_net.specs.Network.{Network}
use Rattle.book_rule.specs.Listed.{IsBookable}
use Rattle.book_rule.proofs.ListedLaws.{width-small, horizon-small}
use Rattle.book_rule.proofs.OpenLaws.{opens}
use Rattle.book_table.proofs.NewLaws.{numbers_are, total_is}
use Rattle.book_table.proofs.book.Book.of_one.Goals as goal

pub word_total-requires-clause-words : goal.word_total-requires-clause-words
word_total-requires-clause-words c =
    let list = c.args.list.now in
    let feasible = c.net.ensures.feasible in
    let project = c.instance-instance.ensures.value
    ∙ ap (λ (n : Network). n.project) c.net.ensures.value in
    let limits = subst (λ (n : Network). IsWithinLimits n.project)
    c.net.ensures.value c.instance-instance.ensures.limits in
    let bookable : IsBookable list =
    record { limits = limits; feasible = feasible; fits = c.requires.fits } in
    let numbers =
    numbers_are list c.instance-instance.result.now c.count-positions.result c.resources.result
    c.horizon-horizon.result feasible project c.count-positions.ensures.value
    c.resources.ensures.value c.horizon-horizon.ensures.value in
    let columns = numbers.width_is in
    omega (arith, columns, width-small list bookable)

pub word_total-requires-clause-horizon : goal.word_total-requires-clause-horizon
word_total-requires-clause-horizon c =
    let list = c.args.list.now in
    let feasible = c.net.ensures.feasible in
    let project = c.instance-instance.ensures.value
    ∙ ap (λ (n : Network). n.project) c.net.ensures.value in
    let limits = subst (λ (n : Network). IsWithinLimits n.project)
    c.net.ensures.value c.instance-instance.ensures.limits in
    let bookable : IsBookable list =
    record { limits = limits; feasible = feasible; fits = c.requires.fits } in
    let numbers =
    numbers_are list c.instance-instance.result.now c.count-positions.result c.resources.result
    c.horizon-horizon.result feasible project c.count-positions.ensures.value
    c.resources.ensures.value c.horizon-horizon.ensures.value in
    let periods = numbers.horizon_is in
    omega (arith, periods, horizon-small list bookable)

pub of_words-requires : goal.of_words-requires
of_words-requires c =
    let list = c.args.list.now in
    let feasible = c.net.ensures.feasible in
    let project = c.instance-instance.ensures.value
    ∙ ap (λ (n : Network). n.project) c.net.ensures.value in
    let limits = subst (λ (n : Network). IsWithinLimits n.project)
    c.net.ensures.value c.instance-instance.ensures.limits in
    let bookable : IsBookable list =
    record { limits = limits; feasible = feasible; fits = c.requires.fits } in
    let numbers =
    numbers_are list c.instance-instance.result.now c.count-positions.result c.resources.result
    c.horizon-horizon.result feasible project c.count-positions.ensures.value
    c.resources.ensures.value c.horizon-horizon.ensures.value in
    let total = total_is list _ _ _ c.word_total.result numbers c.word_total.ensures in
    opens list c.deref.result.now bookable
    (c.deref.ensures.value
    ∙ (c.in_ok-zeros.ensures.items_if_clones_equal (λ y e. e) ∙ ap (λ n. replicate n 0) total))

pub invariant_of-book : goal.invariant_of-book
invariant_of-book c =
    let list = c.args.list.now in
    let feasible = c.net.ensures.feasible in
    let project = c.instance-instance.ensures.value
    ∙ ap (λ (n : Network). n.project) c.net.ensures.value in
    let limits = subst (λ (n : Network). IsWithinLimits n.project)
    c.net.ensures.value c.instance-instance.ensures.limits in
    let bookable : IsBookable list =
    record { limits = limits; feasible = feasible; fits = c.requires.fits } in
    let numbers =
    numbers_are list c.instance-instance.result.now c.count-positions.result c.resources.result
    c.horizon-horizon.result feasible project c.count-positions.ensures.value
    c.resources.ensures.value c.horizon-horizon.ensures.value in
    let total = total_is list _ _ _ c.word_total.result numbers c.word_total.ensures in
    let table = c.in_ok-table.ensures in
    let zeros = c.deref.ensures.value ∙ c.in_ok-zeros.ensures.items_if_clones_equal (λ y e. e) in
    record {
      bookable = bookable;
      keyed = table.5;
      bare = table.1;
      wide = table.0 ∙ (ap length zeros ∙ (length-replicate c.word_total.result 0 ∙ total));
      count_is = numbers.count_is;
      width_is = numbers.width_is;
      horizon_is = numbers.horizon_is;
      places_are = c.in_ok-places.ensures;
      needs_are = c.in_ok-needs.ensures;
      rooms_are = c.in_ok-rooms.ensures;
      some = omega (arith, c.requires.passes);
      counts = ap length (c.in_ok-counts.ensures.items_if_clones_equal (λ y e. e))
          ∙ length-replicate c.args.passes 0;
      schedule = ap length c.in_ok-schedule.ensures
          ∙ (length-replicate c.count-positions.result 0 ∙ numbers.count_is);
    }
