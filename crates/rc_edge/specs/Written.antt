-- What the written forms of instances have in common.
use Rattle.std.specs.Prelude.{ℕ, ◌-◌, ◌^◌, ◌<◌, List, ◌++◌, length, map, replicate}
use Rattle.std.specs.Fmt.{decimal}
use Rattle.rc_instance.specs.Lists.{numbers}
use Rattle.rc_instance.specs.Project.{Project, resource_count, demand, IsActivity, IsResource}

-- a number in decimal digits, right in so many places: spaces stand before it
abbrev pub placed : ℕ → ℕ → List ℕ
placed places number = replicate (places - length (decimal number)) 32 ++ decimal number

-- the demands of an activity, one resource after the other
abbrev pub demands_of : Project → ℕ → List ℕ
demands_of project a = map (demand project a) (numbers (resource_count project))

-- each demand of an activity is less than 2 to the power of 32, as every demand of an instance in memory
abbrev pub HasSmallDemandsAt : Project → ℕ → Type 0
HasSmallDemandsAt project a = (k : ℕ) → IsResource project k → demand project a k < 2 ^ 32

-- so is each demand of each activity
abbrev pub HasSmallDemands : Project → Type 0
HasSmallDemands project = (a : ℕ) → IsActivity project a → HasSmallDemandsAt project a
