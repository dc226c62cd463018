-- Why an order of numbers is no feasible list: the first reason, place by place.
use Rattle.std.specs.Prelude.{◌≡◌, ℕ, ◌==◌, ◌||◌, not, List, [], ◌∷◌, ◌++◌, length, nat_lt, Option, Some, None, if◌then◌else◌}
use Rattle.std.specs.List.{find}
use Rattle.std.specs.Option.{option_map, option_or}
use Rattle.rc_instance.specs.Lists.{names}
use Rattle.rc_instance.specs.Project.{Project, activity_count}
use Rattle.activity_net.specs.declared.fault.ListFault.{ListFault}
use Rattle.activity_net.specs.declared.fault.ListFault.TheVariants.{Length, Unknown, Repeated, TooEarly, Memory}
use Rattle.activity_net.specs.Network.{predecessors_of}

-- why a can not come next after these activities, if so: it is none, or among them, or the least
-- direct predecessor is not
unfoldable pub next_fault : Project → List ℕ → ℕ → Option ListFault
next_fault project before a =
    if a == 0 || nat_lt (activity_count project) a then Some (Unknown (length before))
    else if names before a then Some (Repeated (length before))
    else option_map (λ p. TooEarly (length before) p)
    (find (λ p. not (names before p)) (predecessors_of project a))

-- the first fault of what comes after these activities
unfoldable pub later_fault : Project → List ℕ → List ℕ → Option ListFault
later_fault project before [] = None
later_fault project before (a ∷ after) = option_or (next_fault project before a)
    (later_fault project (before ++ a ∷ []) after)

-- the first fault of an order: of its length, or else of its first place that has one
unfoldable pub first_list_fault : Project → List ℕ → Option ListFault
first_list_fault project order =
    if length order == activity_count project then later_fault project [] order else Some
    (Length (length order) (activity_count project))

-- what was refused is the first fault, unless memory ran out
abbrev pub RefusesList : Option ListFault → ListFault → Type 0
RefusesList first Memory = Unit {0}
RefusesList first fault = first ≡ Some fault
