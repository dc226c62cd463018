use Rattle.std.proofs.Common.{◌≡◌, List, [], ◌∷◌, ◌++◌, map, sym, ap, ◌∙◌, subst, append_assoc}
use Rattle.std.specs.Vec.Iter.{into_iter_items}
use Rattle.std.proofs.lemmas.List.{map-append}
use Rattle.std.proofs.lemmas.List.Elements.{All-push}
use Rattle.key_sampling.specs.declared.seeker.Seeker.{Seeker}
use Rattle.key_sampling.specs.declared.worker.Worker.{Worker}
use Rattle.key_sampling.specs.Workers.{seeker_of, HaveTools}
use Rattle.key_sampling.proofs.worker.workers_of.Goals as goal

pub loop-seeker-preserved : goal.loop-seeker-preserved
loop-seeker-preserved c =
    let l = c.loop-seeker in
    let before = l.invariant in
    let seeker = c.in-Some.seeker in
    let worker : Worker = record {
      seeker = seeker;
      tools = c.in_ok-tools.tools;
      apart = _;
    } in
    let items : c.push.new.self.items ≡ l.workers.items ++ worker ∷ [] = c.in_ok-push.ensures.items in
    record {
      can_next = tt;
      is_finite = tt;
      rest = before.rest ∙ (ap (λ xs. l.yielded ++ xs) c.in-Some.ensures.steps.0
          ∙ sym (append_assoc l.yielded (seeker ∷ []) (into_iter_items c.next.new.self)));
      seekers = ap (map seeker_of) items ∙ (map-append seeker_of l.workers.items (worker ∷ [])
          ∙ ap (λ (xs : List Seeker). xs ++ seeker ∷ []) before.seekers);
      tools = subst (HaveTools c.args.net.now) (sym items)
          (All-push (λ w. w.tools.net.now ≡ c.args.net.now) l.workers.items worker before.tools
          c.in_ok-tools.ensures);
    }
