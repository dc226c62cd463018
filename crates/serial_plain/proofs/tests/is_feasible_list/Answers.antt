use Rattle.std.proofs.Common.{ℕ, ◌<◌, length, ◌∙◌, arith}
use Rattle.std.proofs.lemmas.List.{get_or_default, get_or-take, length-take}
use Rattle.std.proofs.lemmas.List.Elements.{All-from_get_or}
use Rattle.rc_instance.specs.Project.{IsActivity}
use Rattle.serial_plain.proofs.tests.is_feasible_list.Goals as goal

pub returns : goal.returns
returns c = λ _.
    let order = c.args.order.now in
    let each = c.loop-place.invariant in
    let inside = λ (place : ℕ) (h : place < length order).
    let below : place < c.loop-place.place = omega arith in
    below in
    record {
      count = omega (arith, c.count.ensures.value);
      activities = All-from_get_or (IsActivity c.args.instance.now) order 0
          (λ place h. (each place (inside place h)).0);
      once = λ i j d below within same.
          let at = get_or_default order j d 0 within in
          let here = get_or_default order i d 0 (omega arith) in
          (each j (inside j within)).1 (
            i,
            omega (arith, length-take j order),
            get_or-take j order i _ below ∙ get_or_default order i _ d (omega arith) ∙ same ∙ at,
          );
      after = λ place a h activity precedes. (each place (inside place h)).2 a activity precedes;
    }
