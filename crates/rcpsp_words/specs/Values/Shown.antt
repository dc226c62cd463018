-- What is shown of samples.
use Rattle.std.specs.Prelude.{ℕ, Bool, true, false, Option, None, Some, unwrap_or}
use Rattle.rcpsp_words.specs.declared.values.form.Form.{Form}
use Rattle.rcpsp_words.specs.declared.values.form.Form.TheVariants.{Table}
use Rattle.rcpsp_words.specs.declared.values.shown.Shown.{Shown}
use Rattle.rcpsp_words.specs.declared.values.shown.Shown.TheVariants.{Best, All}

-- the makespan of each, of which no booking is told, and which is neither improved nor in a form; or
-- the best one, whose booking is told so often or not at all, improved or not, in a form, or else in
-- a table
abbrev pub shown_of : Bool → Option ℕ → Bool → Option Form → Option Shown
shown_of true (Some live) improve form = None
shown_of true None true form = None
shown_of true None false (Some form) = None
shown_of true None false None = Some All
shown_of false live improve form = Some (Best live improve (unwrap_or form Table))
