use Rattle.std.proofs.Common.{◌≡◌, ℕ, ◌+◌, List, [], ◌∷◌, ◌++◌, length, map, Ok, ap, ◌∙◌}
use Rattle.std.specs.Prelude.{Vec}
use Rattle.std.specs.declared.alloc.Global.{Global}
use Rattle.std.proofs.lemmas.Result.{err_from_is_err_and}
use Rattle.std.proofs.lemmas.List.{length_push, length-map, map-append}
use Rattle.rc_edge.specs.Grammar.{more}
use Rattle.rc_edge.proofs.GrammarLaws.{goes_on, refused-more, ends}
use Rattle.psplib_read.specs.Sm.{next_successors}
use Rattle.psplib_read.proofs.successors.read_all_successors.Goals as goal

abbrev lists_of : List (Vec ℕ Global) → List (List ℕ)
lists_of lists = map (λ list. list.items) lists

pub returns-in_err-list : goal.returns-in_err-list
returns-in_err-list c =
    let passed = err_from_is_err_and c.from_residual.result c.from_residual.ensures.1 in
    let one = next_successors c.args.head in
    let found = lists_of c.loop-index.lists.items in
    let fault = c.in_err-list.field-0.0 in
    let all = more one c.args.head.jobs [] c.args.cursor.now in
    let count : length found ≡ c.loop-index.index = length-map c.loop-index.lists.items
    (λ (list : Vec ℕ Global). list.items) ∙ c.loop-index.invariant.0 in
    rw (passed.1, passed.2) (refused-more one c.args.head.jobs c.loop-index.index found
    c.loop-index.cursor fault all c.loop-index-test.true c.loop-index.invariant.1
    (rw count c.in_err-list.ensures))

pub loop-index-preserved : goal.loop-index-preserved
loop-index-preserved c =
    let one = next_successors c.args.head in
    let found = lists_of c.loop-index.lists.items in
    let list = c.in_ok-list.list.items in
    let left = c.read_successors.new.cursor in
    let all = more one c.args.head.jobs [] c.args.cursor.now in
    let count : length found ≡ c.loop-index.index = length-map c.loop-index.lists.items
    (λ (list : Vec ℕ Global). list.items) ∙ c.loop-index.invariant.0 in
    let read : one found c.loop-index.cursor ≡ Ok (list, left) = rw count c.in_ok-list.ensures in
    let pushed = c.in_ok-push.ensures.items in
    let lists : lists_of c.push.new.self.items ≡ found ++ list ∷ [] = ap lists_of pushed
    ∙ map-append (λ (list : Vec ℕ Global). list.items) c.loop-index.lists.items
    (c.in_ok-list.list ∷ []) in (
      ap length pushed ∙ length_push c.loop-index.lists.items c.in_ok-list.list
          ∙ ap (λ (n : ℕ). n + 1) c.loop-index.invariant.0,
      rw lists (goes_on one c.args.head.jobs c.loop-index.index found c.loop-index.cursor list left
          all c.loop-index-test.true read c.loop-index.invariant.1),
    )

pub returns : goal.returns
returns c =
    let one = next_successors c.args.head in
    let all = more one c.args.head.jobs [] c.args.cursor.now in
    ends one c.args.head.jobs c.loop-index.index (lists_of c.loop-index.lists.items)
    c.loop-index.cursor all c.loop-index-test.false c.loop-index.invariant.1
