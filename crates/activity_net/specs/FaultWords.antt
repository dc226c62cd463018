-- What the faults of networks and lists say.
use Rattle.std.specs.Prelude.{ℕ, List, ◌++◌, codes}
use Rattle.std.specs.Fmt.{decimal}
use Rattle.activity_net.specs.declared.fault.ListFault.{ListFault}
use Rattle.activity_net.specs.declared.fault.ListFault.TheVariants as list
use Rattle.activity_net.specs.declared.fault.NetFault.{NetFault}
use Rattle.activity_net.specs.declared.fault.NetFault.TheVariants as net
use Rattle.activity_net.specs.RingWords.{ring_words}

-- why an instance makes no net
abbrev pub net_words : NetFault → List ℕ
net_words (net.Cycle ring) = ring_words ring
net_words net.Memory = codes "out of memory"

-- why a list is not feasible
abbrev pub list_words : ListFault → List ℕ
list_words (list.Length found activities) =
    codes "list: " ++ decimal found ++ codes " numbers for " ++ decimal activities
    ++ codes " activities"
list_words (list.Unknown position) =
    codes "list: position " ++ decimal position ++ codes " is unknown"
list_words (list.Repeated position) =
    codes "list: position " ++ decimal position ++ codes " is repeated"
list_words (list.TooEarly position predecessor) =
    codes "list: position " ++ decimal position ++ codes " comes before predecessor "
    ++ decimal predecessor
list_words list.Memory = codes "out of memory"
