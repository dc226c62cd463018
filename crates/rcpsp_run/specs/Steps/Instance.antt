-- The instance of the first text.
use Rattle.std.specs.Prelude.{ℕ, List, Result}
use Rattle.rc_instance.specs.Project.{Project}
use Rattle.rc_edge.specs.declared.text_fault.TextFault.{TextFault}
use Rattle.patterson_read.specs.Rcp as rcp
use Rattle.psplib_read.specs.Sm as sm
use Rattle.rcpsp_words.specs.declared.values.format.Format.{Format}
use Rattle.rcpsp_words.specs.declared.values.format.Format.TheVariants.{Sm, Rcp}
use Rattle.rcpsp_run.specs.declared.refusal.Refusal.{Refusal}
use Rattle.rcpsp_run.specs.Steps.Text.{text_at, in_text}

-- the instance of a text, by its format
abbrev pub read_by : Format → List ℕ → Result Project TextFault
read_by Sm bytes = sm.read_instance bytes
read_by Rcp bytes = rcp.read_instance bytes

-- the instance of the first text
unfoldable pub instance_in : List ℕ → Format → List (List ℕ) → Result Project Refusal
instance_in file format texts = in_text file (read_by format (text_at texts 0))
