use Rattle.std.proofs.Common.{◌≡◌, List, [], ◌∷◌, ◌++◌, ◌∙◌, ap, sym, subst}
use Rattle.std.proofs.lemmas.List.{with_items_is}
use Rattle.std.proofs.lemmas.List.Elements.{All-push}
use Rattle.std.specs.List.{All}
use Rattle.book_table.specs.Passes.{PassToken, IsFree}
use Rattle.worker_run.specs.Works.{AllGoOn}
use Rattle.worker_run.proofs.RestLaws.{go-push}
use Rattle.worker_run.proofs.work.work_all.Goals as goal
use Rattle.worker_run.proofs.work.work_all.Goals.{After-push_reserved}

-- at the end the passes are the others and the last
all_are : (g : _) (c : After-push_reserved g) → c.push_reserved.new.self.items
    ≡ c.work_beside.new.others ++ c.work_beside.new.pass ∷ []
all_are g c =
    c.push_reserved.ensures.items
    ∙ ap (λ (xs : List PassToken). xs ++ c.work_beside.new.pass ∷ [])
    (with_items_is c.pop.new.self c.work_beside.new.others
    (c.work_beside.auto.others ∙ c.deref_mut.ensures.len))

pub returns-clause-own : goal.returns-clause-own
returns-clause-own g c =
    let both = c.work_beside.ensures in
    subst (All (IsFree c.args.book.now)) (sym (all_are g c))
    (All-push (IsFree c.args.book.now) c.work_beside.new.others c.work_beside.new.pass both.others
    both.own)

pub returns-clause-go : goal.returns-clause-go
returns-clause-go g c =
    let both = c.work_beside.ensures in
    let front = c.deref_mut.result.now in
    subst (AllGoOn c.args.passes.now.items) (sym (all_are g c))
    (go-push front c.work_beside.new.others c.args.passes.now.items c.in-Some.last
    c.work_beside.new.pass
    (c.in-Some.ensures.items
    ∙ ap (λ (xs : List PassToken). xs ++ c.in-Some.last ∷ []) (sym c.deref_mut.ensures.value))
    c.work_beside.auto.others both.go both.goes)
