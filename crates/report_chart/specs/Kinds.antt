-- The three kinds of verdict that a chart shows.
use Rattle.std.specs.Prelude.{Bool, true, false, codes}
use Rattle.raim_model.specs.declared.verdict.Run.{Run}
use Rattle.raim_model.specs.declared.verdict.Verdict.{Verdict}
use Rattle.raim_model.specs.declared.verdict.Verdict.TheVariants as verdict
use Rattle.text_lines.specs.Lines.{Text}
use Rattle.report_chart.specs.declared.kind.Kind.{Kind}
use Rattle.report_chart.specs.declared.kind.Kind.TheVariants.{Available, Unavailable, Undecided}

-- for whatever reason, or at whatever comparison; no chart has an overflow
abbrev pub kind_of : Verdict → Kind
kind_of verdict.Available = Available
kind_of (verdict.Unavailable why) = Unavailable
kind_of (verdict.Undecided cmp) = Undecided
kind_of (verdict.Overflow prn) = Undecided

abbrev pub is_kind : Kind → Kind → Bool
is_kind Available Available = true
is_kind Available Unavailable = false
is_kind Available Undecided = false
is_kind Unavailable Available = false
is_kind Unavailable Unavailable = true
is_kind Unavailable Undecided = false
is_kind Undecided Available = false
is_kind Undecided Unavailable = false
is_kind Undecided Undecided = true

-- the run is of the kind
abbrev pub has_kind : Kind → Run → Bool
has_kind kind run = is_kind kind (kind_of run.verdict)

abbrev pub word_of : Kind → Text
word_of Available = codes "Available"
word_of Unavailable = codes "Unavailable"
word_of Undecided = codes "Undecided"

-- the class of its bars in the style of the page
abbrev pub class_of : Kind → Text
class_of Available = codes "a"
class_of Unavailable = codes "u"
class_of Undecided = codes "d"
