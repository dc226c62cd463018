use Rattle.std.proofs.Common.{◌≡◌, ℕ, List, [], ◌∷◌, ◌++◌, map, Ok, refl, ap, ◌∙◌}
use Rattle.std.specs.Prelude.{Vec}
use Rattle.std.specs.declared.alloc.Global.{Global}
use Rattle.std.proofs.lemmas.List.{map_push}
use Rattle.rc_edge.specs.Grammar.{more}
use Rattle.rc_edge.specs.Source.{demand_due}
use Rattle.patterson_read.specs.Left.{Left, number_due}
use Rattle.patterson_read.specs.Rcp.{Activity, activity_due}
use Rattle.patterson_read.proofs.parts.read_activity.Goals as goal

pub returns-clause-reads : goal.returns-clause-reads
unfolding activity_due
returns-clause-reads c =
    let items = λ (list : Vec ℕ Global). list.items in
    let demands = c.in_ok-push_demands.ensures in
    let list = c.in_ok-successors.successors in
    let activity : Activity = record {
      duration = c.in_ok-duration.duration;
      demands = demands.0.0;
      successors = list.items;
    } in
    let demands_read : more (λ (_ : List ℕ). demand_due number_due) c.args.head.resources []
    c.read_duration.new.source ≡ Ok (demands.0.0, c.push_demands.new.source) =
    demands.1 ∙ ap (λ (left : Left). Ok (demands.0.0, left)) demands.2.1 in
    let before = c.args.parts.now.successors.items in
    let successors = ap (map items) c.in_ok-push-2.ensures.items ∙ map_push items before list in (
      (activity, c.read_successors.new.source),
      rw (
        c.in_ok-duration.ensures.reads,
        demands_read,
        c.in_ok-count.ensures,
        c.in_ok-successors.ensures,
      ) refl,
      (
        refl,
        refl,
        record {
          capacities = refl;
          durations = c.in_ok-push.ensures.items;
          demands = demands.2.0;
          successors = successors;
        },
      ),
    )
