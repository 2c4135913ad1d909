-- Why a run is not Available, in words. A PRN is as a report has it.
use Rattle.std.specs.Prelude.{ℕ, [], ◌++◌, codes}
use Rattle.raim_model.specs.declared.verdict.Why.{Why}
use Rattle.raim_model.specs.declared.verdict.Why.TheVariants.{Few, Singular, Slope}
use Rattle.raim_model.specs.declared.verdict.Cmp.{Cmp}
use Rattle.raim_model.specs.declared.verdict.Cmp.TheVariants as cmp
use Rattle.raim_model.specs.declared.verdict.Verdict.{Verdict}
use Rattle.raim_model.specs.declared.verdict.Verdict.TheVariants.{Available, Unavailable, Undecided, Overflow}
use Rattle.text_lines.specs.Lines.{Text}
use Rattle.report_text.specs.Report.{prn_text}

abbrev pub why_words : Why → Text
why_words Few = codes "too few satellites"
why_words Singular = codes "geometry"
why_words Slope = codes "slope"

abbrev pub mask_words : ℕ → Text
mask_words prn = codes "PRN " ++ prn_text prn ++ codes " at the mask"

abbrev pub slope_words : ℕ → Text
slope_words prn = codes "slope of PRN " ++ prn_text prn

abbrev pub without : ℕ → Text
without left = codes " without PRN " ++ prn_text left

abbrev pub cmp_words : Cmp → Text
cmp_words (cmp.Mask prn) = mask_words prn
cmp_words cmp.Det = codes "geometry"
cmp_words (cmp.Slope prn) = slope_words prn
cmp_words (cmp.DetWithout left) = codes "geometry" ++ without left
cmp_words (cmp.SlopeWithout left prn) = slope_words prn ++ without left

-- no run that is in a table is Available, and none is an overflow
abbrev pub reason_words : Verdict → Text
reason_words Available = []
reason_words (Unavailable why) = why_words why
reason_words (Undecided cmp) = cmp_words cmp
reason_words (Overflow prn) = []
