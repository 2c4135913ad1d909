-- Every file of almanacs is accepted or refused, and an accepted one says one list of almanacs.
use Rattle.std.proofs.Common.{◌≡◌, ◌⊎◌, ◌<◌, ◌≤◌, ℕ, List, [], ◌∷◌, ◌++◌, length, length-append, Option, Some, None, refl, sym, ap₂, ◌∙◌, subst, inl, inr, arith, append_assoc, append-nil}
use Rattle.raim_model.specs.declared.AlmRecord.{AlmRecord}
use Rattle.raim_model.specs.declared.Span.{Span}
use Rattle.raim_model.specs.declared.TextWhy.{TextWhy}
use Rattle.raim_model.specs.declared.TextWhy.TheVariants.{Short, TooMany}
use Rattle.text_lines.specs.Lines.{Text}
use Rattle.almanac_draft.proofs.OneReading.{says_or_refuses, says_once}
use Rattle.yuma_text.specs.Yuma.{yuma_form}
use Rattle.yuma_text.specs.YumaLaws.{yuma_is_form}
use Rattle.sem_text.specs.Sem.{sem_form}
use Rattle.sem_text.specs.SemLaws.{sem_is_form}
use Rattle.alm_reader.specs.declared.choice.Choice.{Choice}
use Rattle.alm_reader.specs.declared.choice.Choice.TheVariants.{Yuma, Sem}
use Rattle.alm_reader.specs.Choices.{choice_of}
use Rattle.alm_reader.specs.Sections.{SayBy, SaySection, RefusesBy}
use Rattle.alm_reader.specs.Almanacs.{sections_of, lines_of_all, number_in, SayEach, SayAlmanacs, RefusesAlmanacs}
use Rattle.alm_reader.proofs.AlmanacLemmas.{each_more}

module _ (span : Span) where
  -- what a section may be, in the format that is chosen
  abbrev Settled : Option Choice → List Text → Type 0
  Settled choice lines = ((records : List AlmRecord) × SayBy choice span lines records) ⊎ ((number : ℕ) × (why : TextWhy) × RefusesBy choice span lines number why)

  section_some : (choice : Option Choice) (lines : List Text) → Settled choice lines
  section_some None lines = inr (0, Short, (refl, refl))
  section_some (Some Yuma) lines = says_or_refuses yuma_form span lines
  section_some (Some Sem) lines = says_or_refuses sem_form span lines

  section_one : (choice : Option Choice) (lines : List Text) (some other : List AlmRecord) → SayBy choice span lines some → SayBy choice span lines other → some ≡ other
  section_one None lines some other s t = absurd s
  section_one (Some Yuma) lines some other s t = says_once yuma_form yuma_is_form span lines some other s t
  section_one (Some Sem) lines some other s t = says_once sem_form sem_is_form span lines some other s t

  each_one : (sections : List (List Text)) (some other : List (List AlmRecord)) → SayEach span sections some → SayEach span sections other → some ≡ other
  each_one [] [] [] s t = refl
  each_one [] [] (y ∷ ys) s t = absurd t
  each_one [] (x ∷ xs) ys s t = absurd s
  each_one (section ∷ sections) [] ys s t = absurd s
  each_one (section ∷ sections) (x ∷ xs) [] s t = absurd t
  each_one (section ∷ sections) (x ∷ xs) (y ∷ ys) s t = ap₂ ◌∷◌ (section_one (choice_of section) section x y s.0 t.0) (each_one sections xs ys s.1 t.1)

  pub file_one : (lines : List Text) (some other : List (List AlmRecord)) → SayAlmanacs span lines some → SayAlmanacs span lines other → some ≡ other
  file_one lines some other s t = each_one (sections_of lines) some other s.each t.each

  abbrev SettledFile : List Text → Type 0
  SettledFile lines = ((almanacs : List (List AlmRecord)) × SayAlmanacs span lines almanacs) ⊎ ((number : ℕ) × (why : TextWhy) × RefusesAlmanacs span lines number why)

  order : (n : ℕ) → n ≤ 8 → (n < 8) ⊎ (n ≡ 8)
  order n h = grind (arith, h)

  -- the next section, where those before it are accepted: what comes after an accepted one is given
  step : (lines : List Text) (before : List (List Text)) (almanacs : List (List AlmRecord)) → SayEach span before almanacs → length before ≤ 8
      → (section : List Text) (after : List (List Text)) → sections_of lines ≡ before ++ section ∷ after
      → ((records : List AlmRecord) → SaySection span section records → length before < 8 → SettledFile lines) → SettledFile lines
  step lines before almanacs say few section after split next = room (order (length before) few)
    where
      go : length before < 8 → Settled (choice_of section) section → SettledFile lines
      go low (inl s) = next s.0 s.1 low
      go low (inr r) = inr (
        number_in (lines_of_all before) r.0,
        r.1,
        inl (record {
          before = before;
          section = section;
          after = after;
          reached = record { split = split; almanacs = almanacs; accepted = say };
          few = low;
          own = r.0;
          refused = r.2;
          numbered = refl;
        }),
      )

      room : (length before < 8) ⊎ (length before ≡ 8) → SettledFile lines
      room (inl low) = go low (section_some (choice_of section) section)
      room (inr eight) = inr (
        number_in (lines_of_all before) 0,
        TooMany,
        inr (record {
          before = before;
          section = section;
          after = after;
          reached = record { split = split; almanacs = almanacs; accepted = say };
          eight = eight;
          cause = refl;
          numbered = refl;
        }),
      )

  -- the sections behind some that are accepted
  walk : (lines : List Text) (before : List (List Text)) (almanacs : List (List AlmRecord)) → SayEach span before almanacs → length before ≤ 8
      → (after : List (List Text)) → sections_of lines ≡ before ++ after → SettledFile lines
  walk lines before almanacs say few [] split =
      let all : sections_of lines ≡ before = split ∙ append-nil before in
      inl (almanacs, record { few = subst (λ (x : List (List Text)). length x ≤ 8) (sym all) few; each = subst (λ (x : List (List Text)). SayEach span x almanacs) (sym all) say })
  walk lines before almanacs say few (section ∷ after) split =
      step lines before almanacs say few section after split (λ records s low.
      walk lines (before ++ section ∷ []) (almanacs ++ records ∷ []) (each_more span before almanacs section records say s)
      (let n = length-append before (section ∷ []) in omega (arith, n, low)) after (split ∙ sym (append_assoc before (section ∷ []) after)))

  pub file_some : (lines : List Text) → SettledFile lines
  file_some lines = walk lines [] [] tt (omega arith) (sections_of lines) refl
