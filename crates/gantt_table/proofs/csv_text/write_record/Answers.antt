use Rattle.std.proofs.Common.{◌≢◌, ◌∙◌}
use Rattle.csv.specs.declared.writer.QuoteStyle.TheVariants as style
use Rattle.gantt_table.proofs.csv_text.write_record.Goals as goal

pub returns : goal.returns
returns c text before =
    let written = c.in-Ok.ensures in
    let plain : c.args.writer.now.cfg.style ≢ style.NonNumeric = rw before.setup (λ e. cc e) in
    let grown = rw before.setup at (written.bytes before.fields before.fresh plain) in
    record {
      setup = written.setup ∙ before.setup;
      fields = written.ended;
      fresh = written.clean;
      shows = cc (grown, before.shows);
    }
