use Rattle.std.proofs.Common.{◌≡◌, ◌-◌, false, sym, ◌∙◌, arith}
use Rattle.std.specs.List.{list_all}
use Rattle.std.proofs.lemmas.List.{get_or_read}
use Rattle.std.proofs.lemmas.List.Sums.{AllPass-from_list_all}
use Rattle.activity_net.specs.Network.{predecessors_of}
use Rattle.parallel_scheme.specs.Passing.{is_marked}
use Rattle.parallel_scheme.proofs.ToldLaws.{floor_in-booked, floor_in-waits, floor_in-some}
use Rattle.parallel_scheme.proofs.progress.Progress.floor_of.Goals as goal
use Rattle.parallel_scheme.proofs.progress.Progress.floor_of.Goals.{After-index, After-are_marked}

-- the mark that was read
mark_is : (c : After-index) → c.index.result.now ≡ is_marked c.args.self.now.booked.items c.args.activity
mark_is c =
    get_or_read c.args.self.now.booked.items (c.args.activity - 1) c.index.result.now
    (omega (arith, c.requires.booked, c.requires.activity.1, c.requires.activity.0)) c.index.ensures
    false

-- whether all direct predecessors are marked
marks_are : (c : After-are_marked) → c.are_marked.result
    ≡ list_all (is_marked c.args.self.now.booked.items)
    (predecessors_of c.args.net.now.project c.args.activity)
marks_are c =
    rw (c.deref.ensures.value, c.predecessors-predecessors.ensures.value) at c.are_marked.ensures

pub returns-then-index : goal.returns-then-index
returns-then-index c =
    floor_in-booked c.args.net.now.project c.args.self.now c.args.activity
    (sym (mark_is (goal.at.returns-then-index c).After-index) ∙ c.if-index.true)

pub returns-then-not-are_marked : goal.returns-then-not-are_marked
returns-then-not-are_marked c =
    floor_in-waits c.args.net.now.project c.args.self.now c.args.activity
    (sym (mark_is (goal.at.returns-then-not-are_marked c).After-index) ∙ c.if-index.false)
    (sym (marks_are (goal.at.returns-then-not-are_marked c).After-are_marked)
    ∙ c.if-not-are_marked.true)

pub last_finish-ready-requires-clause-ended : goal.last_finish-ready-requires-clause-ended
last_finish-ready-requires-clause-ended c =
    let at = (goal.at.last_finish-ready-requires-clause-ended c).After-are_marked in
    let all = AllPass-from_list_all (is_marked c.args.self.now.booked.items)
    (predecessors_of c.args.net.now.project c.args.activity)
    (sym (marks_are at) ∙ c.if-not-are_marked.false) in
    rw (c.instance.ensures.value, c.predecessors-predecessors.ensures.value)
    (λ k d within. c.requires.ended k d within (all k d within))

pub returns : goal.returns
returns c =
    let at = (goal.at.returns c).After-are_marked in
    let known = get_or_read c.args.self.now.floors.items (c.args.activity - 1) c.index-2.result.now
    (omega (arith, c.requires.floors, c.requires.activity.1, c.requires.activity.0))
    c.index-2.ensures 0 in
    let ready = rw (c.instance.ensures.value, c.predecessors-predecessors.ensures.value) at
    c.last_finish-ready.ensures in
    floor_in-some c.args.net.now.project c.args.self.now c.args.activity c.max.result
    (sym (mark_is (goal.at.returns c).After-index) ∙ c.if-index.false)
    (sym (marks_are at) ∙ c.if-not-are_marked.false) (omega (arith, c.max.ensures, known, ready))
