-- What is placed of the list of the keys of tools.
use Rattle.std.proofs.Common.{◌≡◌, ℕ, ◌+◌, ◌<◌, ◌≤◌, max, List, length, take, slice_index, refl, ap, ◌∙◌, arith}
use Rattle.rc_instance.specs.Project.{Project, activity_count, duration}
use Rattle.rc_instance.specs.Order.{IsFeasibleList}
use Rattle.rc_instance.specs.Usage.{last_finish}
use Rattle.rc_instance.specs.Serial.{serial_bookings, serial_start}
use Rattle.activity_net.specs.Network.{Network}
use Rattle.priority_rules.specs.KeyList.{key_list, key_in}
use Rattle.key_sampling.specs.declared.tools.Tools.{Tools}
use Rattle.key_sampling.specs.declared.tools.Placed.{Placed}
use Rattle.key_sampling.specs.Samples.{sample_keys, sample_list, sample_makespan}
use Rattle.key_sampling.specs.Tools.{HaveSameKeys, IsNextPlaced, list_in, places_in}
use Rattle.key_sampling.proofs.SampleLaws.{sample_list-drawn, last_finish-next, value-of}

-- the greatest finish of what is placed
abbrev pub finish_in : Tools → ℕ
finish_in tools = last_finish tools.net.now.project
    (serial_bookings tools.net.now.project (take (places_in tools) (list_in tools)))

-- with the same net and keys the list is the same
pub same_list : (old new : Tools) → HaveSameKeys old new → list_in new ≡ list_in old
same_list old new same =
    ap (λ (n : Network). key_list n.project (key_in new.keys.items)) same.net
    ∙ ap (λ (keys : List ℕ). key_list old.net.now.project (key_in keys)) same.keys

-- the net and the keys stay through two steps
pub same-through : (a b c : Tools) → HaveSameKeys a b → HaveSameKeys b c → HaveSameKeys a c
same-through a b c first then = record {
  net = then.net ∙ first.net;
  keys = then.keys ∙ first.keys;
}

-- where no place is picked, nothing is placed
pub finish_in-none : (tools : Tools) → places_in tools ≡ 0 → finish_in tools ≡ 0
unfolding serial_bookings
finish_in-none tools none = rw none refl

-- what is placed, with one place more
pub finish_in-next : (old new : Tools) → HaveSameKeys old new
    → places_in old < length (list_in old) → places_in new ≡ places_in old + 1
    → finish_in new ≡ max (finish_in old)
    (serial_start old.net.now.project (list_in old) (places_in old)
    + duration old.net.now.project (slice_index (list_in old) (places_in old)))
finish_in-next old new same within more =
    ap (λ (n : Network). last_finish n.project
    (serial_bookings n.project (take (places_in new) (list_in new)))) same.net
    ∙ (ap (λ (list : List ℕ). last_finish old.net.now.project
    (serial_bookings old.net.now.project (take (places_in new) list))) (same_list old new same)
    ∙ (ap (λ (places : ℕ). last_finish old.net.now.project
    (serial_bookings old.net.now.project (take places (list_in old)))) more
    ∙ last_finish-next old.net.now.project (list_in old) (places_in old) within))

-- the list of the keys of a sample is that of the sample
pub list_in-sample : (tools : Tools) (project : Project) (seed sample : ℕ)
    → tools.net.now.project ≡ project → tools.keys.items ≡ sample_keys project seed sample
    → list_in tools ≡ sample_list project seed sample
list_in-sample tools project seed sample of drawn =
    ap (λ (p : Project). key_list p (key_in tools.keys.items)) of
    ∙ sample_list-drawn project seed sample (activity_count project) tools.keys.items drawn refl

-- once all places are picked, the greatest finish is the value of the sample
pub finish_in-all : (tools : Tools) (project : Project) (seed sample : ℕ)
    → tools.net.now.project ≡ project → tools.keys.items ≡ sample_keys project seed sample
    → IsFeasibleList tools.net.now.project (list_in tools)
    → length (list_in tools) ≤ places_in tools
    → finish_in tools ≡ sample_makespan project seed sample
finish_in-all tools project seed sample of drawn feasible all =
    value-of tools.net.now.project project seed sample (places_in tools) (finish_in tools)
    (list_in tools) of (list_in-sample tools project seed sample of drawn) feasible all refl

-- what was placed and its duration come to the finish of the activity at the place
pub finish-placed : (project of : Project) (list : List ℕ) (place lasts : ℕ) (placed : Placed)
    → of ≡ project → IsNextPlaced project list place placed
    → lasts ≡ duration of placed.activity
    → placed.start + lasts ≡ serial_start project list place + duration project (slice_index list place)
finish-placed project of list place lasts placed of_is is lasts_is =
    let is' : lasts ≡ duration project (slice_index list place) =
    lasts_is ∙ (ap (λ (p : Project). duration p placed.activity) of_is
    ∙ ap (duration project) is.activity) in
    let start = is.start in
    omega arith
