use Rattle.std.proofs.Common.{◌≡◌, ◌++◌, [], ◌∷◌, List, length, sym, ap, subst, ◌∙◌, append_assoc, append-nil, arith}
use Rattle.std.specs.Mem.Slots.{slots_items}
use Rattle.std.specs.Vec.Iter.{into_iter_items}
use Rattle.activity_net.specs.Network.{Listing}
use Rattle.book_rule.specs.Rule.{IsComplete}
use Rattle.book_table.specs.Passes.{RunningBook, PassToken, AreAtRest, all_of}
use Rattle.book_table.specs.Taken.{IsTaking}
use Rattle.book_table.proofs.CloseLaws.{IsNextPass, key_is, next_of, next_watch, next-table, next-own, next-chief, nothing_left, shut_book, some_is, taking_alone, taking_push, taking_watch}
use Rattle.book_table.proofs.book.Book.close.Goals.{in-Some-watch, in_default}
use Rattle.book_table.proofs.book.Book.close.Goals as goal

pub take_in-requires-clause-place : goal.take_in-requires-clause-place
take_in-requires-clause-place c =
    let book = c.args.self in
    let at = c.loop-pass in
    let x = c.in-Some.pass in
    let steps : into_iter_items at.pass-iterator ≡ x ∷ into_iter_items c.next.new.self =
    c.in-Some.ensures.steps.0 in
    let split : at.yielded ++ x ∷ into_iter_items c.next.new.self ≡ c.args.passes.items =
    ap (λ (l : List PassToken). at.yielded ++ l) (sym steps)
    ∙ (at.invariant.0 ∙ c.into_iter-pass-iterator.ensures.into_iter_gives.0) in
    let next : IsNextPass book at.yielded x =
    next_of book c.args.passes.items at.yielded _ c.args.watch x c.requires split in
    let long = at.invariant.2.long in
    omega (arith, long, next.number, next.room)

pub take_in-requires-clause-table : goal.take_in-requires-clause-table
take_in-requires-clause-table c =
    let book = c.args.self in
    let at = c.loop-pass in
    let x = c.in-Some.pass in
    let steps : into_iter_items at.pass-iterator ≡ x ∷ into_iter_items c.next.new.self =
    c.in-Some.ensures.steps.0 in
    let split : at.yielded ++ x ∷ into_iter_items c.next.new.self ≡ c.args.passes.items =
    ap (λ (l : List PassToken). at.yielded ++ l) (sym steps)
    ∙ (at.invariant.0 ∙ c.into_iter-pass-iterator.ensures.into_iter_gives.0) in
    let next : IsNextPass book at.yielded x =
    next_of book c.args.passes.items at.yielded _ c.args.watch x c.requires split in
    next-table c.self.inside book c.self.view_is c.self.invariant at.yielded x next

pub take_in-requires-clause-own : goal.take_in-requires-clause-own
take_in-requires-clause-own c =
    let book = c.args.self in
    let at = c.loop-pass in
    let x = c.in-Some.pass in
    let steps : into_iter_items at.pass-iterator ≡ x ∷ into_iter_items c.next.new.self =
    c.in-Some.ensures.steps.0 in
    let split : at.yielded ++ x ∷ into_iter_items c.next.new.self ≡ c.args.passes.items =
    ap (λ (l : List PassToken). at.yielded ++ l) (sym steps)
    ∙ (at.invariant.0 ∙ c.into_iter-pass-iterator.ensures.into_iter_gives.0) in
    let next : IsNextPass book at.yielded x =
    next_of book c.args.passes.items at.yielded _ c.args.watch x c.requires split in
    next-own c.self.inside book c.self.view_is c.self.invariant at.yielded x next

pub take_in-requires-clause-rests : goal.take_in-requires-clause-rests
take_in-requires-clause-rests c =
    let book = c.args.self in
    let at = c.loop-pass in
    let x = c.in-Some.pass in
    let steps : into_iter_items at.pass-iterator ≡ x ∷ into_iter_items c.next.new.self =
    c.in-Some.ensures.steps.0 in
    let split : at.yielded ++ x ∷ into_iter_items c.next.new.self ≡ c.args.passes.items =
    ap (λ (l : List PassToken). at.yielded ++ l) (sym steps)
    ∙ (at.invariant.0 ∙ c.into_iter-pass-iterator.ensures.into_iter_gives.0) in
    let next : IsNextPass book at.yielded x =
    next_of book c.args.passes.items at.yielded _ c.args.watch x c.requires split in
    next.rests

pub take_in-requires-clause-next : goal.take_in-requires-clause-next
take_in-requires-clause-next c =
    let book = c.args.self in
    let at = c.loop-pass in
    let x = c.in-Some.pass in
    let steps : into_iter_items at.pass-iterator ≡ x ∷ into_iter_items c.next.new.self =
    c.in-Some.ensures.steps.0 in
    let split : at.yielded ++ x ∷ into_iter_items c.next.new.self ≡ c.args.passes.items =
    ap (λ (l : List PassToken). at.yielded ++ l) (sym steps)
    ∙ (at.invariant.0 ∙ c.into_iter-pass-iterator.ensures.into_iter_gives.0) in
    let next : IsNextPass book at.yielded x =
    next_of book c.args.passes.items at.yielded _ c.args.watch x c.requires split in
    next-chief c.self.inside book c.self.view_is c.self.invariant at.yielded x at.taken next
    at.invariant.2

pub loop-pass-preserved : goal.loop-pass-preserved
loop-pass-preserved c =
    let book = c.args.self in
    let at = c.loop-pass in
    let x = c.in-Some.pass in
    let steps : into_iter_items at.pass-iterator ≡ x ∷ into_iter_items c.next.new.self =
    c.in-Some.ensures.steps.0 in
    let split : at.yielded ++ x ∷ into_iter_items c.next.new.self ≡ c.args.passes.items =
    ap (λ (l : List PassToken). at.yielded ++ l) (sym steps)
    ∙ (at.invariant.0 ∙ c.into_iter-pass-iterator.ensures.into_iter_gives.0) in
    let next : IsNextPass book at.yielded x =
    next_of book c.args.passes.items at.yielded _ c.args.watch x c.requires split in
    let was = at.invariant.1 in
    let gone = c.in-Some.ensures.steps.1 in
    let short = ap length steps in
    let took = c.take_in.ensures in (
      append_assoc at.yielded (x ∷ []) _
          ∙ (ap (λ (l : List PassToken). at.yielded ++ l) (sym steps) ∙ at.invariant.0),
      omega arith,
      taking_push book at.yielded x at.taken c.take_in.new.self next at.invariant.2 took.counts
          took.some took.first took.joined,
    )

pub take_in-requires-in-Some-watch-clause-place : goal.take_in-requires-in-Some-watch-clause-place
take_in-requires-in-Some-watch-clause-place c =
    let book = c.args.self in
    let at = c.loop-pass in
    let none = c.in-None.ensures.steps in
    let empty : into_iter_items at.pass-iterator ≡ [] =
    nothing_left _ (sym at.invariant.1 ∙ none.0) in
    let all : at.yielded ≡ c.args.passes.items =
    sym (append-nil at.yielded) ∙ (ap (λ (l : List PassToken). at.yielded ++ l) (sym empty)
    ∙ (at.invariant.0 ∙ c.into_iter-pass-iterator.ensures.into_iter_gives.0)) in
    let so : IsTaking book c.args.passes.items at.taken =
    subst (λ (l : List PassToken). IsTaking book l at.taken) all at.invariant.2 in
    let x = c.in-Some-watch.pass in
    let next : IsNextPass book c.args.passes.items x =
    next_watch book c.args.passes.items x
    (subst (λ w. AreAtRest book (all_of c.args.passes.items w))
    c.in-Some-watch.is c.requires) in
    let long = so.long in
    omega (arith, long, next.number, next.room)

pub take_in-requires-in-Some-watch-clause-table : goal.take_in-requires-in-Some-watch-clause-table
take_in-requires-in-Some-watch-clause-table c =
    let book = c.args.self in
    let at = c.loop-pass in
    let none = c.in-None.ensures.steps in
    let empty : into_iter_items at.pass-iterator ≡ [] =
    nothing_left _ (sym at.invariant.1 ∙ none.0) in
    let all : at.yielded ≡ c.args.passes.items =
    sym (append-nil at.yielded) ∙ (ap (λ (l : List PassToken). at.yielded ++ l) (sym empty)
    ∙ (at.invariant.0 ∙ c.into_iter-pass-iterator.ensures.into_iter_gives.0)) in
    let so : IsTaking book c.args.passes.items at.taken =
    subst (λ (l : List PassToken). IsTaking book l at.taken) all at.invariant.2 in
    let x = c.in-Some-watch.pass in
    let next : IsNextPass book c.args.passes.items x =
    next_watch book c.args.passes.items x
    (subst (λ w. AreAtRest book (all_of c.args.passes.items w))
    c.in-Some-watch.is c.requires) in
    next-table c.self.inside book c.self.view_is c.self.invariant c.args.passes.items x next

pub take_in-requires-in-Some-watch-clause-own : goal.take_in-requires-in-Some-watch-clause-own
take_in-requires-in-Some-watch-clause-own c =
    let book = c.args.self in
    let at = c.loop-pass in
    let none = c.in-None.ensures.steps in
    let empty : into_iter_items at.pass-iterator ≡ [] =
    nothing_left _ (sym at.invariant.1 ∙ none.0) in
    let all : at.yielded ≡ c.args.passes.items =
    sym (append-nil at.yielded) ∙ (ap (λ (l : List PassToken). at.yielded ++ l) (sym empty)
    ∙ (at.invariant.0 ∙ c.into_iter-pass-iterator.ensures.into_iter_gives.0)) in
    let so : IsTaking book c.args.passes.items at.taken =
    subst (λ (l : List PassToken). IsTaking book l at.taken) all at.invariant.2 in
    let x = c.in-Some-watch.pass in
    let next : IsNextPass book c.args.passes.items x =
    next_watch book c.args.passes.items x
    (subst (λ w. AreAtRest book (all_of c.args.passes.items w))
    c.in-Some-watch.is c.requires) in
    next-own c.self.inside book c.self.view_is c.self.invariant c.args.passes.items x next

pub take_in-requires-in-Some-watch-clause-rests : goal.take_in-requires-in-Some-watch-clause-rests
take_in-requires-in-Some-watch-clause-rests c =
    let book = c.args.self in
    let at = c.loop-pass in
    let none = c.in-None.ensures.steps in
    let empty : into_iter_items at.pass-iterator ≡ [] =
    nothing_left _ (sym at.invariant.1 ∙ none.0) in
    let all : at.yielded ≡ c.args.passes.items =
    sym (append-nil at.yielded) ∙ (ap (λ (l : List PassToken). at.yielded ++ l) (sym empty)
    ∙ (at.invariant.0 ∙ c.into_iter-pass-iterator.ensures.into_iter_gives.0)) in
    let so : IsTaking book c.args.passes.items at.taken =
    subst (λ (l : List PassToken). IsTaking book l at.taken) all at.invariant.2 in
    let x = c.in-Some-watch.pass in
    let next : IsNextPass book c.args.passes.items x =
    next_watch book c.args.passes.items x
    (subst (λ w. AreAtRest book (all_of c.args.passes.items w))
    c.in-Some-watch.is c.requires) in
    next.rests

pub take_in-requires-in-Some-watch-clause-next : goal.take_in-requires-in-Some-watch-clause-next
take_in-requires-in-Some-watch-clause-next c =
    let book = c.args.self in
    let at = c.loop-pass in
    let none = c.in-None.ensures.steps in
    let empty : into_iter_items at.pass-iterator ≡ [] =
    nothing_left _ (sym at.invariant.1 ∙ none.0) in
    let all : at.yielded ≡ c.args.passes.items =
    sym (append-nil at.yielded) ∙ (ap (λ (l : List PassToken). at.yielded ++ l) (sym empty)
    ∙ (at.invariant.0 ∙ c.into_iter-pass-iterator.ensures.into_iter_gives.0)) in
    let so : IsTaking book c.args.passes.items at.taken =
    subst (λ (l : List PassToken). IsTaking book l at.taken) all at.invariant.2 in
    let x = c.in-Some-watch.pass in
    let next : IsNextPass book c.args.passes.items x =
    next_watch book c.args.passes.items x
    (subst (λ w. AreAtRest book (all_of c.args.passes.items w))
    c.in-Some-watch.is c.requires) in
    next-chief c.self.inside book c.self.view_is c.self.invariant c.args.passes.items x at.taken
    next so

pub close_with-requires : goal.close_with-requires
close_with-requires c =
    let book = c.args.self in
    let at = c.loop-pass in
    let none = c.in-None.ensures.steps in
    let empty : into_iter_items at.pass-iterator ≡ [] =
    nothing_left _ (sym at.invariant.1 ∙ none.0) in
    let all : at.yielded ≡ c.args.passes.items =
    sym (append-nil at.yielded) ∙ (ap (λ (l : List PassToken). at.yielded ++ l) (sym empty)
    ∙ (at.invariant.0 ∙ c.into_iter-pass-iterator.ensures.into_iter_gives.0)) in
    let so : IsTaking book c.args.passes.items at.taken =
    subst (λ (l : List PassToken). IsTaking book l at.taken) all at.invariant.2 in
    let passes = all_of c.args.passes.items c.args.watch in
    let taking : IsTaking book passes c.match-watch.taken = elim c.match-watch.branch [
      | in-Some-watch w ↦ subst (λ t. IsTaking book passes t) (sym w.taken-is)
          (taking_watch book c.args.passes.items c.args.watch w.in-Some-watch.pass at.taken
          w.take_in-in-Some-watch.new.self
          c.requires w.in-Some-watch.is so w.take_in-in-Some-watch.ensures.counts
          w.take_in-in-Some-watch.ensures.some
          w.take_in-in-Some-watch.ensures.first w.take_in-in-Some-watch.ensures.joined)
      | in_default w ↦ subst (λ t. IsTaking book passes t) (sym w.taken-is)
          (taking_alone book c.args.passes.items c.args.watch at.taken w.in_default.is so)
    ] in
    let seat = c.unwrap.result in
    let chief = some_is _ _ seat c.unwrap.ensures taking.chief in
    chief.0.same ∙ sym (ap (λ (b : RunningBook). b.table) c.self.view_is)

pub read_starts-requires-clause-complete : goal.read_starts-requires-clause-complete
read_starts-requires-clause-complete c =
    let book = c.args.self in
    let at = c.loop-pass in
    let none = c.in-None.ensures.steps in
    let empty : into_iter_items at.pass-iterator ≡ [] =
    nothing_left _ (sym at.invariant.1 ∙ none.0) in
    let all : at.yielded ≡ c.args.passes.items =
    sym (append-nil at.yielded) ∙ (ap (λ (l : List PassToken). at.yielded ++ l) (sym empty)
    ∙ (at.invariant.0 ∙ c.into_iter-pass-iterator.ensures.into_iter_gives.0)) in
    let so : IsTaking book c.args.passes.items at.taken =
    subst (λ (l : List PassToken). IsTaking book l at.taken) all at.invariant.2 in
    let passes = all_of c.args.passes.items c.args.watch in
    let taking : IsTaking book passes c.match-watch.taken = elim c.match-watch.branch [
      | in-Some-watch w ↦ subst (λ t. IsTaking book passes t) (sym w.taken-is)
          (taking_watch book c.args.passes.items c.args.watch w.in-Some-watch.pass at.taken
          w.take_in-in-Some-watch.new.self
          c.requires w.in-Some-watch.is so w.take_in-in-Some-watch.ensures.counts
          w.take_in-in-Some-watch.ensures.some
          w.take_in-in-Some-watch.ensures.first w.take_in-in-Some-watch.ensures.joined)
      | in_default w ↦ subst (λ t. IsTaking book passes t) (sym w.taken-is)
          (taking_alone book c.args.passes.items c.args.watch at.taken w.in_default.is so)
    ] in
    let seat = c.unwrap.result in
    let chief = some_is _ _ seat c.unwrap.ensures taking.chief in
    let key = key_is c.self.inside book c.self.view_is c.self.invariant in
    let shut =
    shut_book book passes c.match-watch.taken c.self.inside.table.shared.key seat.table_id
    seat.id seat.me.0 _ _ c.requires taking chief.0 key c.close_with.ensures.values.2 in
    let list = ap (λ (b : RunningBook). b.listing) c.self.view_is in
    let complete = subst (λ ws. IsComplete c.self.inside.list.now ws) (sym c.of-shut.ensures)
    (subst (λ (l : Listing). IsComplete l (slots_items c.close_with.result.words)) (sym list)
    shut.complete) in
    complete

pub invariant_of-result : goal.invariant_of-result
invariant_of-result c =
    let book = c.args.self in
    let at = c.loop-pass in
    let none = c.in-None.ensures.steps in
    let empty : into_iter_items at.pass-iterator ≡ [] =
    nothing_left _ (sym at.invariant.1 ∙ none.0) in
    let all : at.yielded ≡ c.args.passes.items =
    sym (append-nil at.yielded) ∙ (ap (λ (l : List PassToken). at.yielded ++ l) (sym empty)
    ∙ (at.invariant.0 ∙ c.into_iter-pass-iterator.ensures.into_iter_gives.0)) in
    let so : IsTaking book c.args.passes.items at.taken =
    subst (λ (l : List PassToken). IsTaking book l at.taken) all at.invariant.2 in
    let passes = all_of c.args.passes.items c.args.watch in
    let taking : IsTaking book passes c.match-watch.taken = elim c.match-watch.branch [
      | in-Some-watch w ↦ subst (λ t. IsTaking book passes t) (sym w.taken-is)
          (taking_watch book c.args.passes.items c.args.watch w.in-Some-watch.pass at.taken
          w.take_in-in-Some-watch.new.self
          c.requires w.in-Some-watch.is so w.take_in-in-Some-watch.ensures.counts
          w.take_in-in-Some-watch.ensures.some
          w.take_in-in-Some-watch.ensures.first w.take_in-in-Some-watch.ensures.joined)
      | in_default w ↦ subst (λ t. IsTaking book passes t) (sym w.taken-is)
          (taking_alone book c.args.passes.items c.args.watch at.taken w.in_default.is so)
    ] in
    let seat = c.unwrap.result in
    let chief = some_is _ _ seat c.unwrap.ensures taking.chief in
    let key = key_is c.self.inside book c.self.view_is c.self.invariant in
    let shut =
    shut_book book passes c.match-watch.taken c.self.inside.table.shared.key seat.table_id
    seat.id seat.me.0 _ _ c.requires taking chief.0 key c.close_with.ensures.values.2 in
    let list = ap (λ (b : RunningBook). b.listing) c.self.view_is in
    let complete = subst (λ ws. IsComplete c.self.inside.list.now ws) (sym c.of-shut.ensures)
    (subst (λ (l : Listing). IsComplete l (slots_items c.close_with.result.words)) (sym list)
    shut.complete) in
    let keeps = c.self.invariant in
    record {
      bookable = keeps.bookable;
      schedule = c.read_starts.ensures;
      complete = complete;
      count_is = keeps.count_is;
      width_is = keeps.width_is;
      counts = taking.long ∙ sym (ap (λ (b : RunningBook). b.passes) c.self.view_is);
    }

pub returns-clause-booked : goal.returns-clause-booked
returns-clause-booked c =
    let book = c.args.self in
    let at = c.loop-pass in
    let none = c.in-None.ensures.steps in
    let empty : into_iter_items at.pass-iterator ≡ [] =
    nothing_left _ (sym at.invariant.1 ∙ none.0) in
    let all : at.yielded ≡ c.args.passes.items =
    sym (append-nil at.yielded) ∙ (ap (λ (l : List PassToken). at.yielded ++ l) (sym empty)
    ∙ (at.invariant.0 ∙ c.into_iter-pass-iterator.ensures.into_iter_gives.0)) in
    let so : IsTaking book c.args.passes.items at.taken =
    subst (λ (l : List PassToken). IsTaking book l at.taken) all at.invariant.2 in
    let passes = all_of c.args.passes.items c.args.watch in
    let taking : IsTaking book passes c.match-watch.taken = elim c.match-watch.branch [
      | in-Some-watch w ↦ subst (λ t. IsTaking book passes t) (sym w.taken-is)
          (taking_watch book c.args.passes.items c.args.watch w.in-Some-watch.pass at.taken
          w.take_in-in-Some-watch.new.self
          c.requires w.in-Some-watch.is so w.take_in-in-Some-watch.ensures.counts
          w.take_in-in-Some-watch.ensures.some
          w.take_in-in-Some-watch.ensures.first w.take_in-in-Some-watch.ensures.joined)
      | in_default w ↦ subst (λ t. IsTaking book passes t) (sym w.taken-is)
          (taking_alone book c.args.passes.items c.args.watch at.taken w.in_default.is so)
    ] in
    let seat = c.unwrap.result in
    let chief = some_is _ _ seat c.unwrap.ensures taking.chief in
    let key = key_is c.self.inside book c.self.view_is c.self.invariant in
    let shut =
    shut_book book passes c.match-watch.taken c.self.inside.table.shared.key seat.table_id
    seat.id seat.me.0 _ _ c.requires taking chief.0 key c.close_with.ensures.values.2 in
    shut.counts_are

pub returns-clause-sum : goal.returns-clause-sum
returns-clause-sum c =
    let book = c.args.self in
    let at = c.loop-pass in
    let none = c.in-None.ensures.steps in
    let empty : into_iter_items at.pass-iterator ≡ [] =
    nothing_left _ (sym at.invariant.1 ∙ none.0) in
    let all : at.yielded ≡ c.args.passes.items =
    sym (append-nil at.yielded) ∙ (ap (λ (l : List PassToken). at.yielded ++ l) (sym empty)
    ∙ (at.invariant.0 ∙ c.into_iter-pass-iterator.ensures.into_iter_gives.0)) in
    let so : IsTaking book c.args.passes.items at.taken =
    subst (λ (l : List PassToken). IsTaking book l at.taken) all at.invariant.2 in
    let passes = all_of c.args.passes.items c.args.watch in
    let taking : IsTaking book passes c.match-watch.taken = elim c.match-watch.branch [
      | in-Some-watch w ↦ subst (λ t. IsTaking book passes t) (sym w.taken-is)
          (taking_watch book c.args.passes.items c.args.watch w.in-Some-watch.pass at.taken
          w.take_in-in-Some-watch.new.self
          c.requires w.in-Some-watch.is so w.take_in-in-Some-watch.ensures.counts
          w.take_in-in-Some-watch.ensures.some
          w.take_in-in-Some-watch.ensures.first w.take_in-in-Some-watch.ensures.joined)
      | in_default w ↦ subst (λ t. IsTaking book passes t) (sym w.taken-is)
          (taking_alone book c.args.passes.items c.args.watch at.taken w.in_default.is so)
    ] in
    let seat = c.unwrap.result in
    let chief = some_is _ _ seat c.unwrap.ensures taking.chief in
    let key = key_is c.self.inside book c.self.view_is c.self.invariant in
    let shut =
    shut_book book passes c.match-watch.taken c.self.inside.table.shared.key seat.table_id
    seat.id seat.me.0 _ _ c.requires taking chief.0 key c.close_with.ensures.values.2 in
    shut.sum_is
