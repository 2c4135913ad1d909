-- A file of several almanacs, which `---` lines part.
use Rattle.std.specs.Prelude.{◌≡◌, ◌⊎◌, ◌+◌, ◌-◌, ◌^◌, ◌<◌, ◌≤◌, ℕ, Bool, false, min, List, [], ◌∷◌, ◌++◌, length, codes, bytes_eq, if◌then◌else◌}
use Rattle.raim_model.specs.declared.AlmRecord.{AlmRecord}
use Rattle.raim_model.specs.declared.Span.{Span}
use Rattle.raim_model.specs.declared.TextWhy.{TextWhy}
use Rattle.raim_model.specs.declared.TextWhy.TheVariants.{TooMany}
use Rattle.text_lines.specs.Lines.{Text}
use Rattle.text_lines.specs.Words.{words_of}
use Rattle.alm_reader.specs.Sections.{SaySection, RefusesSection, FailsSection, PassesSection}

abbrev pub are_separator : List Text → Bool
are_separator [] = false
are_separator (word ∷ []) = bytes_eq word (codes "---")
are_separator (word ∷ other ∷ words) = false

-- a line whose bytes without blanks at both ends are `---`
abbrev pub is_separator : Text → Bool
is_separator line = are_separator (words_of line)

abbrev pub onto_section : Text → List (List Text) → List (List Text)
onto_section line [] = (line ∷ []) ∷ []
onto_section line (section ∷ sections) = (line ∷ section) ∷ sections

-- the sections of a file: one more than its `---` lines
abbrev pub sections_of : List Text → List (List Text)
sections_of [] = [] ∷ []
sections_of (line ∷ lines) = if is_separator line then [] ∷ sections_of lines else onto_section line (sections_of lines)

-- how many lines sections have, and the `---` line behind each
abbrev pub lines_of_all : List (List Text) → ℕ
lines_of_all [] = 0
lines_of_all (section ∷ sections) = length section + 1 + lines_of_all sections

-- the number in the file of line n of a section that has so many lines before it
abbrev pub number_in : ℕ → ℕ → ℕ
number_in before n = min (before + n) (2 ^ 32 - 1)

-- each section is accepted, and says the records beside it
abbrev pub SayEach : Span → List (List Text) → List (List AlmRecord) → Type 0
SayEach span [] [] = Unit {0}
SayEach span [] (almanac ∷ almanacs) = ⊥
SayEach span (section ∷ sections) [] = ⊥
SayEach span (section ∷ sections) (almanac ∷ almanacs) = SaySection span section almanac × SayEach span sections almanacs

-- the file is accepted, and says these almanacs
pub record SayAlmanacs (span : Span) (lines : List Text) (almanacs : List (List AlmRecord)) : Type 0 where
  pub few : length (sections_of lines) ≤ 8
  pub each : SayEach span (sections_of lines) almanacs

-- the sections before this one are accepted: there are fewer than eight
pub record IsReached (span : Span) (lines : List Text) (before : List (List Text)) (section : List Text) (after : List (List Text)) : Type 0 where
  pub split : sections_of lines ≡ before ++ section ∷ after
  pub almanacs : List (List AlmRecord)
  pub accepted : SayEach span before almanacs

-- the first section that is refused, at this line of the file for this cause
pub record RefusesOne (span : Span) (lines : List Text) (number : ℕ) (why : TextWhy) : Type 0 where
  pub before : List (List Text)
  pub section : List Text
  pub after : List (List Text)
  pub reached : IsReached span lines before section after
  pub few : length before < 8
  pub own : ℕ
  pub refused : RefusesSection span section own why
  pub numbered : number ≡ number_in (lines_of_all before) own

-- the eighth `---` line, where the sections before it are accepted
pub record HasTooMany (span : Span) (lines : List Text) (number : ℕ) (why : TextWhy) : Type 0 where
  pub before : List (List Text)
  pub section : List Text
  pub after : List (List Text)
  pub reached : IsReached span lines before section after
  pub eight : length before ≡ 8
  pub cause : why ≡ TooMany
  pub numbered : number ≡ number_in (lines_of_all before) 0

-- the file is refused, at this line for this cause
abbrev pub RefusesAlmanacs : Span → List Text → ℕ → TextWhy → Type 0
RefusesAlmanacs span lines number why = RefusesOne span lines number why ⊎ HasTooMany span lines number why

-- a section that a `---` line has ended is refused, and one that is open fails where its format is chosen
abbrev pub FailsBefore : List (List Text) → Span → List Text → ℕ → TextWhy → Type 0
FailsBefore [] span section own why = FailsSection span section own why
FailsBefore (next ∷ after) span section own why = RefusesSection span section own why

-- a section fails, as far as the lines go
pub record FailsOne (span : Span) (lines : List Text) (number : ℕ) (why : TextWhy) : Type 0 where
  pub before : List (List Text)
  pub section : List Text
  pub after : List (List Text)
  pub reached : IsReached span lines before section after
  pub few : length before < 8
  pub own : ℕ
  pub failed : FailsBefore after span section own why
  pub numbered : number ≡ number_in (lines_of_all before) own

-- a fault is known of the lines so far
abbrev pub KnowsFault : Span → List Text → ℕ → TextWhy → Type 0
KnowsFault span lines number why = FailsOne span lines number why ⊎ HasTooMany span lines number why

-- no fault is known of the lines so far: the ended sections are accepted, fewer than eight, and no line of the open
-- one is known to fail
pub record KnowsNone (span : Span) (lines : List Text) : Type 0 where
  pub before : List (List Text)
  pub section : List Text
  pub reached : IsReached span lines before section []
  pub few : length before < 8
  pub passes : PassesSection span section
