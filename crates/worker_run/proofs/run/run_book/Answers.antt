use Rattle.std.proofs.Common.{◌≡◌, ap, sym, subst, ℕ, false, Option, Some, List, [], ◌∷◌, ◌++◌, MatchOption}
use Rattle.book_rule.specs.Listed.{count}
use Rattle.book_table.specs.Passes.{RunningBook, PassToken, IsFree, AreFresh, all_of}
use Rattle.worker_run.specs.declared.watch.Watch.{Watch}
use Rattle.worker_run.specs.Lines.{report_line}
use Rattle.worker_run.specs.Told.{Takes, TellsRun}
use Rattle.worker_run.specs.Watching.{pass_of}
use Rattle.worker_run.proofs.RestLaws.{fresh-free, front-all, last-is, watched-rest}
use Rattle.worker_run.proofs.TellLaws.{run-told}
use Rattle.worker_run.proofs.run.run_book.Goals as goal

-- the passes of a new book, the watch's last
with-watch : (book : RunningBook) (passes : List PassToken) (watch : Option Watch) (is : Watch)
    → watch ≡ Some is → AreFresh book (all_of passes (pass_of watch))
    → AreFresh book (passes ++ is.pass ∷ [])
with-watch book passes watch is same fresh =
    subst (λ (w : Option Watch). AreFresh book (all_of passes (pass_of w))) same fresh

pub work_and_look_on-failed-requires-clause-workers :
    goal.work_and_look_on-failed-requires-clause-workers
work_and_look_on-failed-requires-clause-workers g c κs within =
    let book = c.args.book in
    let passes = c.args.passes.items in
    let watch = c.in-Some.watch in
    let fresh = with-watch book passes c.args.watch watch c.in-Some.is c.requires.fresh in
    front-all (IsFree book) passes watch.pass (fresh-free book (passes ++ watch.pass ∷ []) fresh)

pub work_and_look_on-failed-requires-clause-watch :
    goal.work_and_look_on-failed-requires-clause-watch
work_and_look_on-failed-requires-clause-watch g c κs within =
    let book = c.args.book in
    let passes = c.args.passes.items in
    let watch = c.in-Some.watch in
    let fresh = with-watch book passes c.args.watch watch c.in-Some.is c.requires.fresh in
    last-is (IsFree book) passes watch.pass (fresh-free book (passes ++ watch.pass ∷ []) fresh)

pub close-requires : goal.close-requires
close-requires g c =
    let book = c.args.book in
    let passes = c.args.passes.items in
    let watch = c.in-Some.watch in
    let done = c.work_and_look_on-failed in
    let fresh = with-watch book passes c.args.watch watch c.in-Some.is c.requires.fresh in
    watched-rest book passes done.new.passes.items watch.pass done.new.pass fresh c.requires.some
    done.ensures.long done.ensures.workers done.ensures.rest done.ensures.go done.ensures.watch
    done.ensures.number done.ensures.rests

pub returns-clause-told : goal.returns-clause-told
returns-clause-told g c =
    let n = count c.args.book.listing in
    let done = c.work_and_look_on-failed in
    let end = c.tell_end-note_failed in
    let faults = g.N.Sink.faults in
    let held = g.N.Sink.held in
    let told = run-told n c.in-Some.watch.times (faults c.args.note.now) (faults done.new.note)
    (faults end.new.note) (held c.args.note.now) (held done.new.note) (held end.new.note)
    done.result end.result done.ensures.told
    (λ failed. let same = end.ensures.still failed in (same.0, ap faults same.1, ap held same.1))
    (λ whole. subst (λ (m : ℕ). Takes (faults done.new.note) (faults end.new.note)
    (held done.new.note) (held end.new.note) end.result (report_line m m))
    c.positions-positions.ensures.value (end.ensures.last whole)) in
    subst (λ (w : Option Watch). MatchOption w
    ((end.new.note ≡ c.args.note.now) × (end.result ≡ false))
    (λ watch. TellsRun n watch.times (faults c.args.note.now) (faults end.new.note)
    (held c.args.note.now) (held end.new.note) end.result)) (sym c.in-Some.is) told
