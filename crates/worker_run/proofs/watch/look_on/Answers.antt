use Rattle.std.proofs.Common.{◌∙◌, ap, subst, ℕ, ◌+◌, ◌/◌, ◌≤◌, arith, rules, true, false}
use Rattle.book_rule.specs.declared.view.View.{View}
use Rattle.book_rule.specs.Listed.{count}
use Rattle.worker_run.specs.Lines.{report_line}
use Rattle.worker_run.specs.Told.{Takes}
use Rattle.worker_run.proofs.TellLaws.{IsTelling, telling-more, telling-fails}
use Rattle.worker_run.proofs.watch.look_on.Goals as goal

-- the looks before this one, and the line of this one
pub returns-then-tell-clause-told : goal.returns-then-tell-clause-told
returns-then-tell-clause-told g c =
    let n = count c.args.book.now.listing in
    let complete = c.report-complete.result in
    let report = c.report-complete.ensures in
    let small : complete ≤ n = omega (arith, report.told.half, report.told.within) in
    telling-fails n c.loop-look._look (c.loop-look.pass.view.seen / 2) complete c.args.times
    (g.N.Sink.faults c.args.note.now) (g.N.Sink.faults c.loop-look.note)
    (g.N.Sink.faults c.tell.new.note)
    (g.N.Sink.held c.args.note.now) (g.N.Sink.held c.loop-look.note) (g.N.Sink.held c.tell.new.note)
    c.loop-look.invariant.telling report.longer small (omega arith)
    (subst (λ (m : ℕ). Takes (g.N.Sink.faults c.loop-look.note)
    (g.N.Sink.faults c.tell.new.note)
    (g.N.Sink.held c.loop-look.note) (g.N.Sink.held c.tell.new.note) true (report_line m complete))
    c.positions-positions.ensures.value c.if-tell.ensures.taken)

pub loop-look-preserved : goal.loop-look-preserved
loop-look-preserved g c =
    let n = count c.args.book.now.listing in
    let complete = c.report-complete.result in
    let report = c.report-complete.ensures in
    let told = telling-more n c.loop-look._look (c.loop-look.pass.view.seen / 2) complete
    (g.N.Sink.faults c.args.note.now) (g.N.Sink.faults c.loop-look.note)
    (g.N.Sink.faults c.tell.new.note)
    (g.N.Sink.held c.args.note.now) (g.N.Sink.held c.loop-look.note) (g.N.Sink.held c.tell.new.note)
    c.loop-look.invariant.telling report.longer
    (subst (λ (m : ℕ). Takes (g.N.Sink.faults c.loop-look.note)
    (g.N.Sink.faults c.tell.new.note)
    (g.N.Sink.held c.loop-look.note) (g.N.Sink.held c.tell.new.note) false (report_line m complete))
    c.positions-positions.ensures.value c.if-tell.ensures.taken) in
    record {
      own = report.own;
      number = ap (λ (v : View). v.number) report.told.view ∙ c.loop-look.invariant.number;
      rests = λ rests.
          let before = c.loop-look.invariant.rests rests in
          search rules;
      telling = subst (λ (top : ℕ). IsTelling n (c.loop-look._look + 1) top
          (g.N.Sink.faults c.args.note.now) (g.N.Sink.faults c.tell.new.note)
          (g.N.Sink.held c.args.note.now) (g.N.Sink.held c.tell.new.note)) report.told.half told;
      failing = c.tell.ensures.failing ∙ c.loop-look.invariant.failing;
      left = c.tell.ensures.room ∙ c.loop-look.invariant.left;
    }
