-- What the faults of texts say.
use Rattle.std.specs.Prelude.{ℕ, List, ◌++◌, codes}
use Rattle.std.specs.Fmt.{decimal}
use Rattle.rc_instance.specs.FaultWords.{instance_words, memory_words}
use Rattle.rc_edge.specs.declared.text_fault.Item.{Item}
use Rattle.rc_edge.specs.declared.text_fault.Item.TheVariants.{Jobs, Renewable, Requests, Availabilities}
use Rattle.rc_edge.specs.declared.text_fault.TextFault.{TextFault}
use Rattle.rc_edge.specs.declared.text_fault.TextKind.{TextKind}
use Rattle.rc_edge.specs.declared.text_fault.TextKind.TheVariants.{Expected, NotANumber, NumberTooLarge, WrongJobNumber, MultiMode, NotRenewable, ManyProjects, Trailing, Ended, TooManyChanges, ResourceOutOfRange, PeriodOutOfRange, NotRising, Instance, Memory}

-- what a text was to have
abbrev pub item_words : Item → List ℕ
item_words Jobs = codes "expected jobs"
item_words Renewable = codes "expected renewable"
item_words Requests = codes "expected requests"
item_words Availabilities = codes "expected availabilities"

-- the words of a kind
abbrev pub kind_words : TextKind → List ℕ
kind_words (Expected item) = item_words item
kind_words NotANumber = codes "not a number"
kind_words NumberTooLarge = codes "number too large"
kind_words WrongJobNumber = codes "wrong job number"
kind_words MultiMode = codes "not single mode"
kind_words NotRenewable = codes "not renewable"
kind_words ManyProjects = codes "more than one project"
kind_words Trailing = codes "text after the end"
kind_words Ended = codes "text ends"
kind_words TooManyChanges = codes "too many changes"
kind_words ResourceOutOfRange = codes "resource out of range"
kind_words PeriodOutOfRange = codes "period out of range"
kind_words NotRising = codes "not rising"
kind_words (Instance fault) = instance_words fault
kind_words Memory = memory_words

-- a fault: its kind, and its offset
abbrev pub fault_words : TextFault → List ℕ
fault_words fault = kind_words fault.kind ++ codes " at " ++ decimal fault.at
