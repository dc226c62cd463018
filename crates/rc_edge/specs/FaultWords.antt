-- What the faults of files, sinks and numbers say.
use Rattle.std.specs.Prelude.{ℕ, List, codes}
use Rattle.rc_instance.specs.FaultWords.{memory_words}
use Rattle.rc_edge.specs.declared.files.FetchFault.{FetchFault}
use Rattle.rc_edge.specs.declared.files.FetchFault.TheVariants as fetch
use Rattle.rc_edge.specs.declared.number.NumberFault.{NumberFault}
use Rattle.rc_edge.specs.declared.number.NumberFault.TheVariants.{NotANumber, NumberTooLarge}
use Rattle.rc_edge.specs.declared.sink.SinkFault.{SinkFault}
use Rattle.rc_edge.specs.declared.sink.SinkFault.TheVariants as sink

-- why a fetch gave no file
abbrev pub fetch_words : FetchFault → List ℕ
fetch_words fetch.Failed = codes "cannot read"
fetch_words fetch.TooLarge = codes "too large"
fetch_words fetch.Memory = memory_words

-- why a sink took no bytes
abbrev pub sink_words : SinkFault → List ℕ
sink_words sink.Failed = codes "cannot write"

-- why a token is no number
abbrev pub number_words : NumberFault → List ℕ
number_words NotANumber = codes "not a number"
number_words NumberTooLarge = codes "number too large"
