-- What the fault of words says.
use Rattle.std.specs.Prelude.{ℕ, List, codes}
use Rattle.rc_instance.specs.FaultWords.{memory_words}
use Rattle.rcpsp_words.specs.declared.words.WordsFault.{WordsFault}
use Rattle.rcpsp_words.specs.declared.words.WordsFault.TheVariants.{Undefined, Memory}

-- its words
abbrev pub words_fault_words : WordsFault → List ℕ
words_fault_words Undefined = codes "words not understood"
words_fault_words Memory = memory_words
