use Rattle.std.proofs.Common.{◌≡◌, [], rules, sym, ap, subst, ◌∙◌}
use Rattle.rc_instance.specs.Project.{Project}
use Rattle.rc_instance.specs.Calendar.{IsWithinLimits}
use Rattle.rc_instance.specs.Schedule.{makespan}
use Rattle.activity_net.specs.Network.{Network}
use Rattle.activity_net.specs.Tables.{Shows}
use Rattle.event_line.specs.Timeline.{Timeline}
use Rattle.fwd_back.specs.Backward.{activities_of, backward}
use Rattle.fwd_back.proofs.DueLaws.{may_move-fresh}
use Rattle.fwd_back.proofs.PassLaws.{passing-due, passing-fits, passing-left, passing-unbooked, passing-within, passing_all, passing_none, passing_push}
use Rattle.fwd_back.proofs.backward.move_back.Goals as goal

pub loop-activity-init : goal.loop-activity-init
loop-activity-init c =
    let project = c.args.list.now.network.project in
    let present = c.args.present.now in
    let net : c.net.result.now.project ≡ project =
    ap (λ (n : Network). n.project) c.net.ensures.value in
    let is : c.instance.result.now ≡ project = c.instance.ensures.value ∙ net in
    let same : c.clear.new.self.project ≡ project =
    ap (λ (l : Timeline). l.project) c.clear.ensures ∙ c.requires.project in
    let cleared = c.clear.ensures
    ∙ ap (λ (p : Project). let l : Timeline = record { project = p; bookings = [] } in l)
    c.requires.project in
    record {
      project = same;
      end = c.makespan-end.ensures
          ∙ ap (λ (p : Project). makespan p present) (is ∙ sym same);
      passing = passing_none project c.clear.new.self c.args.list.now.order present
          c.unmark.new.marks c.args.starts.now cleared
          (subst IsWithinLimits net c.instance.ensures.limits) c.net.ensures.feasible
          c.requires.feasible c.requires.within
          (subst (λ n. Shows n c.unmark.new.marks []) c.requires.marks c.unmark.ensures)
          c.requires.starts;
    }

pub place_last-requires : goal.place_last-requires
place_last-requires c =
    let l = c.loop-activity in
    let order = c.args.list.now.order in
    let present = c.args.present.now in
    let is = passing-due l.line order present l.marks l.starts c.in-Some.activity
    c.makespan-end.result c.due-by.result l.invariant.passing c.in-Some.ensures.some
    l.invariant.end c.due-by.ensures in
    record {
      activity = search rules;
      unbooked = passing-unbooked l.line.bookings c.in-Some.activity
          (may_move-fresh l.line.project (activities_of l.line.bookings) c.in-Some.activity
          c.in-Some.ensures.some.may);
      by = passing-within l.line order present l.marks l.starts c.in-Some.activity c.due-by.result
          l.invariant.passing is;
      exists = passing-fits l.line order present l.marks l.starts c.in-Some.activity
          c.due-by.result l.invariant.passing c.in-Some.ensures.some is;
    }

pub loop-activity-smaller : goal.loop-activity-smaller
loop-activity-smaller c =
    let l = c.loop-activity in
    let order = c.args.list.now.order in
    let present = c.args.present.now in
    let is = passing-due l.line order present l.marks l.starts c.in-Some.activity
    c.makespan-end.result c.due-by.result l.invariant.passing c.in-Some.ensures.some
    l.invariant.end c.due-by.ensures in
    passing-left l.line c.place_last.new.self order present l.marks l.starts c.in-Some.activity
    c.due-by.result c.place_last.result l.invariant.passing c.in-Some.ensures.some is
    c.place_last.ensures.last c.place_last.ensures.booked

pub loop-activity-preserved : goal.loop-activity-preserved
loop-activity-preserved c =
    let l = c.loop-activity in
    let order = c.args.list.now.order in
    let present = c.args.present.now in
    let is = passing-due l.line order present l.marks l.starts c.in-Some.activity
    c.makespan-end.result c.due-by.result l.invariant.passing c.in-Some.ensures.some
    l.invariant.end c.due-by.ensures in
    let same : c.place_last.new.self.project ≡ l.line.project =
    ap (λ (t : Timeline). t.project) c.place_last.ensures.booked in
    record {
      project = same ∙ l.invariant.project;
      end = l.invariant.end ∙ ap (λ (p : Project). makespan p present) (sym same);
      passing = passing_push l.line c.place_last.new.self order present l.marks l.starts
          c.in-Some.activity c.due-by.result c.place_last.result l.invariant.passing
          c.in-Some.ensures.some is c.place_last.ensures.last c.place_last.ensures.booked;
    }

pub returns-clause-backward : goal.returns-clause-backward
returns-clause-backward c =
    let l = c.loop-activity in
    let present = c.args.present.now in
    passing_all l.line c.args.list.now.order present l.marks l.starts l.invariant.passing
    c.in_default.ensures.none
    ∙ ap (λ (p : Project). backward p present) l.invariant.project
