use Rattle.std.proofs.Common.{◌≡◌, length, sym, ◌∙◌, subst, arith, refl, ◌-◌, length-set}
use Rattle.rc_instance.specs.Project.{IsActivity, duration}
use Rattle.event_line.specs.declared.entry.Entry.{Entry}
use Rattle.event_line.specs.Journal.{IsEntry, bookings_in}
use Rattle.event_line.specs.Timeline.{Timeline, IsUnbooked}
use Rattle.event_line.proofs.KeepLaws.{kept_entry}
use Rattle.event_line.proofs.StateLaws.{shown_idle}
use Rattle.event_line.proofs.line.Line.note.Goals as goal

pub push_reserved-requires : goal.push_reserved-requires
push_reserved-requires c =
    let room = kept_entry c.self.inside c.args.activity c.self.invariant
    (subst (λ (v : Timeline). IsActivity v.project c.args.activity) (sym c.self.view_is)
    c.requires.activity)
    (subst (λ (v : Timeline). IsUnbooked v.bookings c.args.activity) (sym c.self.view_is)
    c.requires.unbooked) in
    omega arith

pub invariant_of-self : goal.invariant_of-self
invariant_of-self c =
    let inside = c.self.inside in
    let keeps = c.self.invariant in
    let project = inside.instance.now in
    let periods = inside.axis.chain.periods in
    let node = c.node_or_head-node.result in
    let idle : duration project c.args.activity ≡ 0 =
    subst (λ (v : Timeline). duration v.project c.args.activity ≡ 0) (sym c.self.view_is)
    c.requires.idle in
    let entry : Entry = record {
      activity = c.args.activity;
      start = c.args.start;
      first = node;
      end = node;
      nodes = c.len.result;
    } in
    let here = c.node_or_head-node.ensures.inside in
    let count = c.len.ensures.value in
    let is : IsEntry project periods entry = record {
      activity = subst (λ (v : Timeline). IsActivity v.project c.args.activity) (sym c.self.view_is)
          c.requires.activity;
      first = omega arith;
      end = omega arith;
      start = λ runs. Prim.absurd (omega arith);
      finish = λ runs. Prim.absurd (omega arith);
      idle = λ e. refl;
    } in
    let unbooked : IsUnbooked (bookings_in inside.entries.items) c.args.activity =
    subst (λ (v : Timeline). IsUnbooked v.bookings c.args.activity) (sym c.self.view_is)
    c.requires.unbooked in
    let shown = shown_idle project (length inside.base.chain.periods) periods
    inside.axis.free.rows inside.entries.items entry keeps.shown idle count is unbooked in
    record {
      limits = keeps.limits;
      width = keeps.width;
      base_width = keeps.base_width;
      room = keeps.room;
      base_room = keeps.base_room;
      reserved = rw c.push_reserved.ensures.capacity keeps.reserved;
      hints = length-set inside.ends.items (c.args.activity - 1) node ∙ keeps.hints;
      demands_count = keeps.demands_count;
      demands = keeps.demands;
      longer = keeps.longer;
      base = keeps.base;
      shown = rw c.push_reserved.ensures.items shown;
    }
