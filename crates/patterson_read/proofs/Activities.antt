-- Activities read one after the other into the columns of parts.
use Rattle.std.proofs.Common.{◌≡◌, ℕ, ◌-◌, ◌≤◌, List, [], ◌∷◌, ◌++◌, length, sym, append-nil, ◌∙◌}
use Rattle.std.specs.List.{sum_by}
use Rattle.std.proofs.lemmas.List.{map_push}
use Rattle.std.proofs.lemmas.Grind.{flat_map-append}
use Rattle.rc_instance.specs.declared.limits.TheConstants.{MAX_DURATION_SUM}
use Rattle.rc_instance.specs.declared.parts.Parts.{Parts}
use Rattle.rc_edge.specs.Grammar.{more}
use Rattle.patterson_read.specs.declared.head.Head.{Head}
use Rattle.patterson_read.specs.Left.{Left}
use Rattle.patterson_read.specs.Rcp.{Activity, Text, next_activity}
use Rattle.patterson_read.specs.View.{Holds, Gains}

-- the activities that were found, where the reader stands after them
pub record HasRead (before : Left) (head : Head) (capacities : List ℕ) (parts : Parts) (left : Left)
    (index sum : ℕ) (found : List Activity) : Type 0 where
  pub count : length found ≡ index
  pub sum_is : sum_by (λ a. a.duration) found ≡ sum
  pub short : sum ≤ MAX_DURATION_SUM
  pub holds : Holds (record { capacities = capacities; activities = found }) parts
  pub rest : more (next_activity head) (head.activities - index) found left
      ≡ more (next_activity head) head.activities [] before

-- parts that have gained an activity hold it after those before
pub holds_more : (capacities : List ℕ) (found : List Activity) (activity : Activity)
    (old new : Parts) → Holds (record { capacities = capacities; activities = found }) old
    → Gains activity old new
    → Holds (record { capacities = capacities; activities = found ++ activity ∷ [] }) new
holds_more capacities found activity old new holds gains =
    let durations = map_push (λ (a : Activity). a.duration) found activity in
    let demands = flat_map-append (λ (a : Activity). a.demands) found (activity ∷ []) in
    let successors = map_push (λ (a : Activity). a.successors) found activity in
    record {
      capacities = gains.capacities ∙ holds.capacities;
      durations = gains.durations ∙ rw holds.durations (sym durations);
      demands = gains.demands ∙ rw holds.demands (sym (rw append-nil at demands));
      successors = gains.successors ∙ rw holds.successors (sym successors);
    }
