-- What a test of slopes has to meet, for what it decides to be right and to stay decided inside.
use Rattle.std.specs.Prelude.{◌≡◌, ◌≢◌, List, Some, None}
use Rattle.std.specs.declared.option.Option.{Option}
use Rattle.raim_model.specs.declared.verdict.Why.{Why}
use Rattle.raim_model.specs.declared.verdict.Verdict.{Verdict}
use Rattle.raim_model.specs.declared.verdict.Verdict.TheVariants.{Available, Unavailable, Undecided, Overflow}
use Rattle.fractions.specs.Fraction.{Fraction, ◌*ᶠ◌, ◌≤ᶠ◌, ◌<ᶠ◌}
use Rattle.raim_model.specs.Geometry.{Row, SquaredShift, normal_matrix, determinant}
use Rattle.geometry_laws.specs.Minors.{adjugate}
use Rattle.geometry_laws.specs.Shifts.{IsSquare}
use Rattle.fix_interval.specs.Ends.{Ends, IsInside}
use Rattle.fix_interval.specs.Lies.{Lies}
use Rattle.slope_laws.specs.Rows.{NamedRow, NamedLies, NamedRowsLie, NamedInside, NamedRowsInside, Removal}
use Rattle.slope_laws.specs.declared.outcome.Outcome.{Outcome}
use Rattle.slope_laws.specs.declared.outcome.Outcome.TheVariants.{Passes, Fails, Overflows, Straddles}
use Rattle.slope_laws.specs.Slopes.{SlopeTest}

-- what an outcome says of the comparison left <= right: it holds, or it does not
abbrev pub Certifies : Outcome → (left right : Fraction) → Type 0
Certifies Passes left right = left ≤ᶠ right
Certifies Fails left right = right <ᶠ left
Certifies outcome left right = Unit {0}

-- what an outcome of wider intervals leaves to those inside: one that is certain is theirs, and without an overflow there is
-- none in them
abbrev pub LeavesOutcome : (wide inside : Outcome) → Type 0
LeavesOutcome Passes inside = inside ≡ Passes
LeavesOutcome Fails inside = inside ≡ Fails
LeavesOutcome Straddles inside = inside ≢ Overflows
LeavesOutcome Overflows inside = Unit {0}

-- what the verdict on wider rows leaves to that on rows inside: one that is decided is theirs
abbrev pub LeavesVerdict : (wide inside : Verdict) → Type 0
LeavesVerdict Available inside = inside ≡ Available
LeavesVerdict (Unavailable why) inside = inside ≡ Unavailable why
LeavesVerdict (Undecided comparison) inside = Unit {0}
LeavesVerdict (Overflow prn) inside = Unit {0}

-- what a verdict on rows says of why the model's rows inside them do not serve
abbrev pub Tells : Verdict → (reason : Option Why) → Type 0
Tells Available reason = reason ≡ None
Tells (Unavailable why) reason = reason ≡ Some why
Tells (Undecided comparison) reason = Unit {0}
Tells (Overflow prn) reason = Unit {0}

-- a test of the slopes of a squared shift encloses, and is isotone
pub record HoldsSlopes (shift : SquaredShift) (test : SlopeTest) : Type 0 where
  pub square : IsSquare shift
  pub determinant_encloses : (rows : List NamedRow) (gs : List Row) → NamedRowsLie rows gs → Lies (test.determinant rows) 38 (determinant (normal_matrix gs))
  pub determinant_isotone : (rows wide : List NamedRow) → NamedRowsInside rows wide → IsInside (test.determinant rows) (test.determinant wide)
  pub outcome_certifies : (rows : List NamedRow) (x : Removal) (kappa : Ends) (gs : List Row) (g : Row) (rest : List Row) (k : Fraction)
      → NamedRowsLie rows gs → NamedLies x.row g → NamedRowsLie x.rest rest → Lies kappa 38 k
      → Certifies (test.outcome rows x kappa) (k *ᶠ shift (adjugate (normal_matrix gs)) g) (determinant (normal_matrix gs) *ᶠ determinant (normal_matrix rest))
  pub outcome_isotone : (rows wide : List NamedRow) (x y : Removal) (kappa wide_kappa : Ends)
      → NamedRowsInside rows wide → NamedInside x.row y.row → NamedRowsInside x.rest y.rest → IsInside kappa wide_kappa
      → LeavesOutcome (test.outcome wide y wide_kappa) (test.outcome rows x kappa)
