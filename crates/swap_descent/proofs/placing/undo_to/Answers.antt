use Rattle.std.proofs.Common.{◌≡◌, ◌-◌, ◌<◌, ℕ, refl, length, take, sym, ap, ◌∙◌, arith}
use Rattle.std.proofs.lemmas.List.{take_all}
use Rattle.event_line.specs.Timeline.{Timeline}
use Rattle.swap_descent.proofs.PlacedLaws.{undone}
use Rattle.swap_descent.proofs.placing.undo_to.Goals as goal

pub undoing-init : goal.undoing-init
undoing-init c =
    let all = c.args.line.now.bookings in
    record {
      project = refl;
      left = sym (take_all (length all) all (omega arith));
      some = c.requires;
    }

pub undo-requires : goal.undo-requires
undo-requires c = omega (arith, c.count.ensures.value, c.undoing-test.true)

pub undoing-smaller : goal.undoing-smaller
undoing-smaller c =
    let some : 0 < length c.undoing.line.bookings =
    omega (arith, c.count.ensures.value, c.undoing-test.true) in
    let is = undone c.args.line.now.bookings c.undoing.line.bookings c.undo.new.self.bookings
    c.undoing.invariant.left some (ap (λ (l : Timeline). l.bookings) c.undo.ensures) in
    omega (arith, is.1)

pub undoing-preserved : goal.undoing-preserved
undoing-preserved c =
    let some : 0 < length c.undoing.line.bookings =
    omega (arith, c.count.ensures.value, c.undoing-test.true) in
    let is = undone c.args.line.now.bookings c.undoing.line.bookings c.undo.new.self.bookings
    c.undoing.invariant.left some (ap (λ (l : Timeline). l.bookings) c.undo.ensures) in
    record {
      project = ap (λ (l : Timeline). l.project) c.undo.ensures ∙ c.undoing.invariant.project;
      left = is.0;
      some = omega (arith, is.1, c.count.ensures.value, c.undoing-test.true);
    }

pub returns-clause-project : goal.returns-clause-project
returns-clause-project c = c.undoing.invariant.project

pub returns-clause-left : goal.returns-clause-left
returns-clause-left c =
    let same : length c.undoing.line.bookings ≡ c.args.left =
    omega (arith, c.count.ensures.value, c.undoing-test.false, c.undoing.invariant.some) in
    c.undoing.invariant.left ∙ ap (λ (n : ℕ). take n c.args.line.now.bookings) same
