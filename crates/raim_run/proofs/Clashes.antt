-- What is accepted is not refused, and is one case.
use Rattle.std.proofs.Common.{◌≡◌, ℕ, inl, inr}
use Rattle.std.specs.declared.option.Option.{Option}
use Rattle.raim_model.specs.declared.FileNo.{FileNo}
use Rattle.raim_model.specs.declared.TextWhy.{TextWhy}
use Rattle.raim_model.specs.Solution.{Case}
use Rattle.text_lines.specs.Lines.{Text}
use Rattle.flight_files.specs.Settled.{AreTold}
use Rattle.flight_files.proofs.Clashes.{none_hinders, refused_hinders, long_hinders}
use Rattle.flight_files.proofs.OneReading.{values_once}
use Rattle.command_words.specs.Asked.{Asked}
use Rattle.raim_run.specs.Cases.{IsCaseOf}
use Rattle.raim_run.specs.Sources.{paths_of, told_of}
use Rattle.raim_run.specs.Stopped.{IsRefused}

same_case : (c d : Case) → c.limits ≡ d.limits → c.almanacs ≡ d.almanacs → c.outages ≡ d.outages → c.route ≡ d.route → c ≡ d
same_case c d p q r s = λ i. record { limits = p i; almanacs = q i; outages = r i; route = s i }

module _ (asked : Asked) (holds : Text → Option Text) (told : AreTold (told_of asked holds) (paths_of asked)) where
  pub refused_or_accepted : (file : FileNo) (line : ℕ) (why : TextWhy) (c : Case) → IsRefused asked holds file line why → IsCaseOf asked holds c → ⊥
  refused_or_accepted file line why c (inl refused) is =
      none_hinders (told_of asked holds) (paths_of asked) told file c.limits c.route c.outages c.almanacs is.accepted (refused_hinders (told_of asked holds) (paths_of asked) told file line why refused)
  refused_or_accepted file line why c (inr (zero, cause, long)) is =
      none_hinders (told_of asked holds) (paths_of asked) told file c.limits c.route c.outages c.almanacs is.accepted (long_hinders (told_of asked holds) (paths_of asked) told file long)

  pub case_once : (c d : Case) → IsCaseOf asked holds c → IsCaseOf asked holds d → c ≡ d
  case_once c d p q =
      let once = values_once (told_of asked holds) (paths_of asked) told c.limits d.limits c.route d.route c.outages d.outages c.almanacs d.almanacs p.accepted q.accepted q.ranges.limits in
      same_case c d once.limits_is once.almanacs_is once.outages_is once.route_is
