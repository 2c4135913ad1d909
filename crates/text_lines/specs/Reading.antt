-- A text of lines, each of which says something after those before it, or is refused.
use Rattle.std.specs.Prelude.{◌≡◌, ◌⊎◌, ◌==◌, Bool, if◌then◌else◌, ℕ, ◌+◌, ◌-◌, ◌^◌, ◌<◌, min, List, [], ◌∷◌, ◌++◌, length, take, Option, Some, None, Result, Ok, Err, slice_index_or}
use Rattle.text_lines.specs.Lines.{Text}

-- the number of a line that has so many before it
abbrev pub number_after : ℕ → ℕ
number_after n = min (n + 1) (2 ^ 32 - 1)

-- A format of lines. E is what a line says, W why one is refused.
pub record Format (E W : Type 0) : Type 0 where
  -- what a line says after the entries before it, or the first test that refuses it
  pub says : List E → Text → Result E W
  -- the test that refuses the end of a file
  pub at_end : List E → Option W
  -- whether the line was blank
  pub is_blank : E → Bool

-- each line passes, and says its entry after the entries before it
pub record Reads {E W : Type 0} (format : Format E W) (lines : List Text) (entries : List E) : Type 0 where
  pub count : length entries ≡ length lines
  pub each : (k : ℕ) (d : E) → k < length lines → format.says (take k entries) (slice_index_or lines k []) ≡ Ok (slice_index_or entries k d)

-- the file is accepted, and says these entries
pub record Accepts {E W : Type 0} (format : Format E W) (lines : List Text) (entries : List E) : Type 0 where
  pub reads : Reads format lines entries
  pub ends : format.at_end entries ≡ None

-- the least line that does not pass, with the first test that refuses it
pub record RefusesLine {E W : Type 0} (format : Format E W) (lines : List Text) (number : ℕ) (why : W) : Type 0 where
  pub done : List Text
  pub line : Text
  pub rest : List Text
  pub entries : List E
  pub split : lines ≡ done ++ line ∷ rest
  pub before : Reads format done entries
  pub here : format.says entries line ≡ Err why
  pub numbered : number ≡ number_after (length done)

-- how many lines there are up to the last that is not blank
abbrev pub nonblank_len : {E : Type 0} → (E → Bool) → List E → ℕ
nonblank_len is_blank [] = 0
nonblank_len is_blank (e ∷ es) = if nonblank_len is_blank es == 0 then (if is_blank e then 0 else 1) else nonblank_len is_blank es + 1

-- the number of the last line that is not blank, 0 where there is none
abbrev pub last_nonblank_line : {E : Type 0} → (E → Bool) → List E → ℕ
last_nonblank_line is_blank entries = min (nonblank_len is_blank entries) (2 ^ 32 - 1)

-- every line passes, and the end does not: the fault has the number of the last line that is not blank
pub record RefusesEnd {E W : Type 0} (format : Format E W) (lines : List Text) (number : ℕ) (why : W) : Type 0 where
  pub entries : List E
  pub reads : Reads format lines entries
  pub ends : format.at_end entries ≡ Some why
  pub numbered : number ≡ last_nonblank_line format.is_blank entries

-- the file is refused, at this line for this cause
abbrev pub Refuses : {E W : Type 0} → Format E W → List Text → ℕ → W → Type 0
Refuses format lines number why = RefusesLine format lines number why ⊎ RefusesEnd format lines number why
