-- Worked lists, computed from the definitions.
use Rattle.std.proofs.Common.{◌≡◌, [], ◌∷◌, refl}
use Rattle.rc_instance.specs.Lists.{first_from}
use Rattle.rc_instance.specs.Project.{Project, duration, precedes, successors_of}
use Rattle.rc_instance.specs.Parts.{made}
use Rattle.activity_net.specs.Network.{predecessors_of}
use Rattle.activity_net.specs.Follows.{followers, followers_through}
use Rattle.time_windows.specs.Windows.{critical_of, tail_of, tail_within}
use Rattle.priority_rules.specs.declared.rule.Rule.TheVariants.{Number, Lft, Lst, Mts, Grpw}
use Rattle.priority_rules.specs.Choices.{is_eligible, eligible, choice, choices}
use Rattle.priority_rules.specs.KeyList.{key_list, key_in, number_list, greatest_list}
use Rattle.priority_rules.specs.Rules.{rule_list}

-- six activities, one resource of capacity 2
six : Project
six = made (2 ∷ []) (0 ∷ 3 ∷ 2 ∷ 2 ∷ 1 ∷ 0 ∷ []) (0 ∷ 2 ∷ 1 ∷ 1 ∷ 1 ∷ 0 ∷ [])
    ((2 ∷ 3 ∷ 4 ∷ []) ∷ (5 ∷ []) ∷ (6 ∷ []) ∷ (6 ∷ []) ∷ (6 ∷ []) ∷ [] ∷ [])

six_by_keys : key_list six
    (key_in (0xa15c02b7 ∷ 0x7b47f409 ∷ 0xba1d3330 ∷ 0x83d2f293 ∷ 0xbfa4784b ∷ 0xcbed606e ∷ []))
    ≡ 1 ∷ 2 ∷ 4 ∷ 3 ∷ 5 ∷ 6 ∷ []
unfolding six made key_list choices choice eligible is_eligible first_from predecessors_of
    precedes successors_of
six_by_keys = refl

six_by_number : number_list six ≡ 1 ∷ 2 ∷ 3 ∷ 4 ∷ 5 ∷ 6 ∷ []
unfolding six made number_list key_list choices choice eligible is_eligible first_from
    predecessors_of precedes successors_of
six_by_number = refl

-- of equal keys the least number
six_by_equal_keys : key_list six (λ _. 7) ≡ 1 ∷ 2 ∷ 3 ∷ 4 ∷ 5 ∷ 6 ∷ []
unfolding six made key_list choices choice eligible is_eligible first_from predecessors_of
    precedes successors_of
six_by_equal_keys = refl

-- a backward successor: activity 2 precedes activity 1
backward_by_number : number_list (made [] (0 ∷ 1 ∷ []) [] ([] ∷ (1 ∷ []) ∷ [])) ≡ 2 ∷ 1 ∷ []
unfolding made number_list key_list choices choice eligible is_eligible first_from predecessors_of
    precedes successors_of
backward_by_number = refl

-- four activities, of which 2 precedes 4, and 3 takes longest
four : Project
four = made (1 ∷ []) (1 ∷ 2 ∷ 4 ∷ 1 ∷ []) (1 ∷ 1 ∷ 1 ∷ 1 ∷ []) ([] ∷ (4 ∷ []) ∷ [] ∷ [] ∷ [])

four_by_number : rule_list four Number ≡ 1 ∷ 2 ∷ 3 ∷ 4 ∷ []
unfolding four made number_list key_list choices choice eligible is_eligible first_from
    predecessors_of precedes successors_of
four_by_number = refl

four_by_latest_finish : rule_list four Lft ≡ 2 ∷ 1 ∷ 3 ∷ 4 ∷ []
unfolding four made key_list choices choice eligible is_eligible first_from predecessors_of
    precedes successors_of critical_of tail_of tail_within duration
four_by_latest_finish = refl

four_by_latest_start : rule_list four Lst ≡ 3 ∷ 2 ∷ 1 ∷ 4 ∷ []
unfolding four made key_list choices choice eligible is_eligible first_from predecessors_of
    precedes successors_of critical_of tail_of tail_within duration
four_by_latest_start = refl

four_by_successors : rule_list four Mts ≡ 2 ∷ 1 ∷ 3 ∷ 4 ∷ []
unfolding four made greatest_list choices choice eligible is_eligible first_from predecessors_of
    precedes successors_of followers followers_through
four_by_successors = refl

four_by_weight : rule_list four Grpw ≡ 3 ∷ 2 ∷ 1 ∷ 4 ∷ []
unfolding four made greatest_list choices choice eligible is_eligible first_from predecessors_of
    precedes successors_of duration
four_by_weight = refl
