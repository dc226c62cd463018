use Rattle.schedule_check.proofs.CsvLaws.{bookings_small, read_plan_of-csv}
use Rattle.schedule_check.proofs.laws.csv_is_read_back.Goals as goal

pub returns : goal.returns
returns c project starts short ends =
    read_plan_of-csv project starts (bookings_small project starts short ends)
