-- The case that the four files are.
use Rattle.std.specs.declared.option.Option.{Option}
use Rattle.raim_model.specs.CaseRanges.{IsCase}
use Rattle.raim_model.specs.Solution.{Case}
use Rattle.text_lines.specs.Lines.{Text}
use Rattle.flight_files.specs.Files.{AreAcceptedFiles}
use Rattle.command_words.specs.Asked.{Asked}
use Rattle.raim_run.specs.Sources.{paths_of, told_of}

-- the four files are accepted, and say this case, which is in its ranges; of bytes that are not told nothing is said
pub record IsCaseOf (asked : Asked) (holds : Text → Option Text) (c : Case) : Type 0 where
  pub accepted : AreAcceptedFiles (told_of asked holds) (paths_of asked) c.limits c.route c.outages c.almanacs
  pub ranges : IsCase c
