-- Every text of lines is accepted or refused.
use Rattle.std.proofs.Common.{◌≡◌, ◌⊎◌, ℕ, List, [], ◌∷◌, ◌++◌, length, Option, Some, None, Result, Ok, Err, refl, sym, subst, inl, inr, append_assoc, append-nil}
use Rattle.text_lines.specs.Lines.{Text}
use Rattle.text_lines.specs.Reading.{Format, Reads, Accepts, RefusesLine, Refuses, number_after, last_nonblank_line}
use Rattle.text_lines.proofs.ReadingMore.{reads_none, reads_more}

module _ {E W : Type 0} (format : Format E W) where
  -- all lines pass, or one is the first that does not
  abbrev AllOrOne : List Text → Type 0
  AllOrOne lines = ((entries : List E) × Reads format lines entries) ⊎ ((number : ℕ) × (why : W) × RefusesLine format lines number why)

  step : (done : List Text) (entries : List E) (line : Text) (rest : List Text) → Reads format done entries
      → ((e : E) → Reads format (done ++ line ∷ []) (entries ++ e ∷ []) → AllOrOne ((done ++ line ∷ []) ++ rest))
      → (said : Result E W) → format.says entries line ≡ said → AllOrOne (done ++ line ∷ rest)
  step done entries line rest r next (Ok e) h = subst AllOrOne (append_assoc done (line ∷ []) rest) (next e (reads_more format done entries line e r h))
  step done entries line rest r next (Err why) h = inr (
    number_after (length done),
    why,
    record { done = done; line = line; rest = rest; entries = entries; split = refl; before = r; here = h; numbered = refl },
  )

  all_or_one : (done : List Text) (entries : List E) (rest : List Text) → Reads format done entries → AllOrOne (done ++ rest)
  all_or_one done entries [] r = inl (entries, subst (λ (ls : List Text). Reads format ls entries) (sym (append-nil done)) r)
  all_or_one done entries (line ∷ rest) r =
      step done entries line rest r (λ e s. all_or_one (done ++ line ∷ []) (entries ++ e ∷ []) rest s) (format.says entries line) refl

  at_end : (lines : List Text) (entries : List E) → Reads format lines entries → (ends : Option W) → format.at_end entries ≡ ends
      → ((es : List E) × Accepts format lines es) ⊎ ((number : ℕ) × (why : W) × Refuses format lines number why)
  at_end lines entries r None h = inl (entries, record { reads = r; ends = h })
  at_end lines entries r (Some why) h = inr (
    last_nonblank_line format.is_blank entries,
    why,
    inr (record { entries = entries; reads = r; ends = h; numbered = refl }),
  )

  settle : (lines : List Text) → AllOrOne lines → ((es : List E) × Accepts format lines es) ⊎ ((number : ℕ) × (why : W) × Refuses format lines number why)
  settle lines (inl p) = at_end lines p.0 p.1 (format.at_end p.0) refl
  settle lines (inr p) = inr (p.0, p.1, inl p.2)

  pub accepted_or_refused : (lines : List Text) → ((es : List E) × Accepts format lines es) ⊎ ((number : ℕ) × (why : W) × Refuses format lines number why)
  accepted_or_refused lines = settle lines (all_or_one [] [] lines (reads_none format))
