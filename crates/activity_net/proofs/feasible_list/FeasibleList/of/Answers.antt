use Rattle.std.proofs.Common.{◌≡◌, ◌<◌, None, length, take, get_or, sym, ◌∙◌, ap, subst, arith}
use Rattle.std.proofs.lemmas.List.{take_more}
use Rattle.rc_instance.specs.Project.{activity_count}
use Rattle.rc_instance.specs.Order.{IsFeasibleList}
use Rattle.activity_net.specs.ListFault.{next_fault, first_list_fault}
use Rattle.activity_net.proofs.TableLaws.{Shows-push}
use Rattle.activity_net.proofs.ListFaultLaws.{RefusesList-from, next_fault-none, later_fault-more, later_fault-here, later_fault-end, first_list_fault-later, first_list_fault-length, first_list_fault-none}
use Rattle.activity_net.proofs.feasible_list.FeasibleList.of.Goals as goal

pub returns-then-order-count-clause-refused : goal.returns-then-order-count-clause-refused
returns-then-order-count-clause-refused c =
    let same = c.count-count.ensures.value ∙ ap activity_count c.instance.ensures.value in
    rw same (first_list_fault-length c.args.net.now.project c.args.order.now
    (λ e. c.if-order-count.true (e ∙ sym same)))

pub returns-in-Some-clause-refused : goal.returns-in-Some-clause-refused
returns-in-Some-clause-refused c =
    let project = c.args.net.now.project in
    let order = c.args.order.now in
    let long : length order ≡ activity_count project =
    c.if-order-count.false ∙ (c.count-count.ensures.value ∙ ap activity_count
    c.instance.ensures.value) in
    let here = later_fault-here project order c.loop-position.position c.in-Some.fault (omega arith)
    (sym c.in-Some.ensures) in
    RefusesList-from (first_list_fault project order) c.in-Some.fault
    (first_list_fault-later project order long ∙ (sym c.loop-position.invariant.later ∙ here))

pub overflow_sub-activity : goal.overflow_sub-activity
overflow_sub-activity c =
    let may = next_fault-none c.args.net.now.project _ _ (sym c.in_default.ensures) in
    may.activity.0

pub index_mut-requires : goal.index_mut-requires
index_mut-requires c =
    let may = next_fault-none c.args.net.now.project _ _ (sym c.in_default.ensures) in
    omega (arith, may.activity, c.loop-position.invariant.shows.count, c.loop-position.listed.ok.0)

pub loop-position-preserved : goal.loop-position-preserved
loop-position-preserved c =
    let project = c.args.net.now.project in
    let order = c.args.order.now in
    let i = c.loop-position.position in
    let within : i < length order = omega arith in
    let none : next_fault project (take i order) (get_or order i 0)
    ≡ None = sym c.in_default.ensures in
    let may = next_fault-none project (take i order) (get_or order i 0) none in
    let shows = Shows-push (activity_count project) c.loop-position.listed.items (take i order)
    (get_or order i 0) may.activity.0 may.activity.1
    c.loop-position.invariant.shows in
    record {
      shows = rw (take_more order i 0 within) shows;
      later = later_fault-more project order i within none ∙ c.loop-position.invariant.later;
    }

pub from_feasible-requires : goal.from_feasible-requires
from_feasible-requires c =
    let project = c.args.net.now.project in
    let order = c.args.order.now in
    let long : length order ≡ activity_count project =
    c.if-order-count.false ∙ (c.count-count.ensures.value ∙ ap activity_count
    c.instance.ensures.value) in
    let none = first_list_fault-later project order long
    ∙ (sym c.loop-position.invariant.later ∙ later_fault-end project order c.loop-position.position
    (omega arith)) in
    subst (IsFeasibleList project) (sym c.in_ok-from_slice.ensures.items)
    (first_list_fault-none project order none)

pub returns-clause-accepted : goal.returns-clause-accepted
returns-clause-accepted c =
    let project = c.args.net.now.project in
    let order = c.args.order.now in
    let long : length order ≡ activity_count project =
    c.if-order-count.false ∙ (c.count-count.ensures.value ∙ ap activity_count
    c.instance.ensures.value) in
    first_list_fault-later project order long
    ∙ (sym c.loop-position.invariant.later ∙ later_fault-end project order c.loop-position.position
    (omega arith))
