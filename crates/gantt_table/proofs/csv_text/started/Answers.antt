use Rattle.std.proofs.Common.{[], refl}
use Rattle.gantt_table.specs.Writing.{HasWritten}
use Rattle.gantt_table.proofs.RecordLaws.{row_text-header}
use Rattle.gantt_table.proofs.csv_text.started.Goals as goal

pub returns : goal.returns
returns c =
    let made = c.from_writer-writer.ensures in
    let empty : HasWritten [] c.from_writer-writer.result = record {
      setup = made.cfg;
      fields = made.fields;
      fresh = made.wrote;
      shows = rw (made.wtr, made.empty, c.new.ensures.items) refl;
    } in
    rw row_text-header at (c.in_ok-write_record.ensures [] empty)
