-- What a writer of records into memory has written.
use Rattle.std.specs.Prelude.{◌≡◌, ℕ, false, List, ◌++◌, Some}
use Rattle.std.specs.declared.vec.Vec.{Vec}
use Rattle.std.specs.declared.alloc.Global.{Global}
use Rattle.csv.specs.declared.writer.Writer.{Writer}
use Rattle.csv.specs.Writing.{default_writer, fields_written, has_written, text_written, writer_setup}

-- the writer has written this text, with the usual settings, and stands at the start of a record
pub record HasWritten (text : List ℕ) (writer : Writer (Vec ℕ Global)) : Type 0 where
  pub setup : writer_setup writer ≡ default_writer
  pub fields : fields_written writer ≡ 0
  pub fresh : has_written writer ≡ false
  pub shows : text_written (λ v. Some v.items) writer ≡ Some text

-- between both states the writer has written this text besides
abbrev pub Writes : List ℕ → Writer (Vec ℕ Global) → Writer (Vec ℕ Global) → Type 0
Writes more old new = (text : List ℕ) → HasWritten text old → HasWritten (text ++ more) new
