use Rattle.csv.specs.Records.{fields_of}
use Rattle.schedule_check.proofs.RecordLaws.{Takes-read}
use Rattle.schedule_check.proofs.records.read_next.Goals as goal

pub returns-in-Ok-clause-taken : goal.returns-in-Ok-clause-taken
returns-in-Ok-clause-taken c =
    Takes-read c.args.reader.now c.read_byte_record.new.self c.in-Ok.found
    (fields_of c.read_byte_record.new.row) c.requires
    (c.in-Ok.ensures.reads c.requires.trim c.requires.ready)
