-- The line that each status but Done writes to the note.
use Rattle.std.specs.Prelude.{[], ◌∷◌, ◌++◌, codes}
use Rattle.text_lines.specs.Lines.{Text}
use Rattle.command_words.specs.declared.Program.TheVariants.{Raim}
use Rattle.raim_run.specs.declared.Status.{Status}
use Rattle.raim_run.specs.declared.Status.TheVariants.{Usage}
use Rattle.raim_run.specs.Notes.{note_of}

-- that of a run, but for the form of the words
abbrev pub fleet_note : Status → Text
fleet_note Usage = codes "raim: usage: raim_fleet LIMITS ALMANAC OUTAGES ROUTES" ++ 10 ∷ []
fleet_note status = note_of Raim status
