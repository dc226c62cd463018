use Rattle.std.proofs.Common.{◌≡◌, length, sym, ap, ◌∙◌, subst, arith}
use Rattle.std.proofs.lemmas.List.{length-map}
use Rattle.std.proofs.lemmas.List.FromFn.{length-map-range_with_len}
use Rattle.rc_instance.specs.Project.{activity_count}
use Rattle.rc_instance.specs.Lists.{IsRising}
use Rattle.activity_net.specs.Network.{Network, predecessors_of}
use Rattle.activity_net.proofs.PredecessorLaws.{predecessors_are, table_at}
use Rattle.activity_net.proofs.net.Net.predecessors.Goals as goal

pub index-requires : goal.index-requires
index-requires c =
    let inside = c.self.inside in
    let n = activity_count inside.instance in
    omega (
      arith,
      inside.predecessors.ok.0,
      length-map inside.predecessors.items (λ list. list.items),
      ap length c.self.invariant.predecessors,
      length-map-range_with_len (predecessors_of inside.instance) 1 n,
      ap (λ (network : Network). activity_count network.project) c.self.view_is,
    )

value_is : (c : goal.After-deref) → c.deref.result.now ≡ predecessors_of c.args.self.now.project
    c.args.activity
value_is c =
    let inside = c.self.inside in
    let n = activity_count inside.instance in
    let same = ap (λ (network : Network). activity_count network.project) c.self.view_is in
    c.deref.ensures.value
    ∙ (ap (λ list. list.items) c.index.ensures
    ∙ (table_at (predecessors_of inside.instance) (λ list. list.items) inside.predecessors.items n
    c.args.activity c.index.result.now
    c.self.invariant.predecessors (omega arith) (omega arith)
    ∙ ap (λ (network : Network). predecessors_of network.project c.args.activity) c.self.view_is))

pub returns-clause-value : goal.returns-clause-value
returns-clause-value c = value_is c

pub returns-clause-within : goal.returns-clause-within
returns-clause-within c =
    subst (IsRising (activity_count c.args.self.now.project)) (sym (value_is c))
    (predecessors_are c.args.self.now.project c.args.activity)
