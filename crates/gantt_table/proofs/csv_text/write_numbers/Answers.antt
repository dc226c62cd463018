use Rattle.std.proofs.Common.{arith}
use Rattle.gantt_table.proofs.RecordLaws.{row_text-numbers}
use Rattle.gantt_table.proofs.csv_text.write_numbers.Goals as goal

pub returns : goal.returns
returns c text before =
    let record_text = row_text-numbers c.args.first c.args.second c.args.third
    (omega arith) (omega arith) (omega arith) in
    rw (
      c.as_bytes.ensures.value,
      c.format.ensures.text,
      c.as_bytes-2.ensures.value,
      c.format-2.ensures.text,
      c.as_bytes-3.ensures.value,
      c.format-3.ensures.text,
      record_text,
    )
    at (c.in_ok-write_record.ensures text before)
