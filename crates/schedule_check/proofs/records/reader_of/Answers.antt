use Rattle.csv.specs.Reading.{reader_state}
use Rattle.schedule_check.specs.Records.{bytes_left}
use Rattle.schedule_check.proofs.RecordLaws.{length-records_known}
use Rattle.schedule_check.proofs.records.reader_of.Goals as goal

pub returns-clause-count : goal.returns-clause-count
returns-clause-count c =
    length-records_known (reader_state c.from_reader.result)
    (bytes_left c.from_reader.result) c.args.bytes.now
    c.from_reader.ensures.source
