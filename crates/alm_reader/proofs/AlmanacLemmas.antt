-- The sections of a file with one more line.
use Rattle.std.proofs.Common.{◌≡◌, ◌+◌, ℕ, Bool, true, false, List, [], ◌∷◌, ◌++◌, length, Option, Some, None, refl, sym, ap, ◌∙◌, subst, inl, inr, arith, append_assoc}
use Rattle.raim_model.specs.declared.AlmRecord.{AlmRecord}
use Rattle.raim_model.specs.declared.Span.{Span}
use Rattle.raim_model.specs.declared.TextWhy.{TextWhy}
use Rattle.text_lines.specs.Lines.{Text}
use Rattle.text_lines.proofs.ReaderLemmas.{refused_more}
use Rattle.yuma_text.specs.Yuma.{yuma_records}
use Rattle.sem_text.specs.Sem.{sem_records}
use Rattle.alm_reader.specs.declared.choice.Choice.{Choice}
use Rattle.alm_reader.specs.declared.choice.Choice.TheVariants.{Yuma, Sem}
use Rattle.alm_reader.specs.Choices.{choice_of}
use Rattle.alm_reader.specs.Sections.{SaySection, RefusesBy, RefusesSection, FailsBy, FailsSection}
use Rattle.alm_reader.specs.Almanacs.{is_separator, onto_section, sections_of, lines_of_all, SayEach, FailsBefore, KnowsFault, RefusesAlmanacs}
use Rattle.alm_reader.proofs.ChoiceLemmas.{choice_stays}

-- a line behind the last section's
abbrev pub onto_last : Text → List (List Text) → List (List Text)
onto_last line [] = (line ∷ []) ∷ []
onto_last line (s ∷ []) = (s ++ line ∷ []) ∷ []
onto_last line (s ∷ t ∷ ss) = s ∷ onto_last line (t ∷ ss)

-- there is always a section
some_section : (lines : List Text) → (s : List Text) × (ss : List (List Text)) × (sections_of lines ≡ s ∷ ss)
some_section [] = ([], [], refl)
some_section (line ∷ lines) = go (is_separator line) refl (some_section lines)
  where
    go : (b : Bool) → is_separator line ≡ b → (s : List Text) × (ss : List (List Text)) × (sections_of lines ≡ s ∷ ss) → (s : List Text) × (ss : List (List Text)) × (sections_of (line ∷ lines) ≡ s ∷ ss)
    go true h r = ([], sections_of lines, rw h refl)
    go false h r = (line ∷ r.0, r.1, rw h (ap (onto_section line) r.2))

past_first : (line : Text) (s : List Text) (sections : List (List Text)) (t : List Text) (ts : List (List Text)) → sections ≡ t ∷ ts → onto_last line (s ∷ sections) ≡ s ∷ onto_last line sections
past_first line s sections t ts h = rw h refl

onto_both : (first last : Text) (sections : List (List Text)) (t : List Text) (ts : List (List Text)) → sections ≡ t ∷ ts → onto_section first (onto_last last sections) ≡ onto_last last (onto_section first sections)
onto_both first last sections t [] h = rw h refl
onto_both first last sections t (u ∷ us) h = rw h refl

onto_front : (first : Text) (sections more : List (List Text)) (t : List Text) (ts : List (List Text)) → sections ≡ t ∷ ts → onto_section first (sections ++ more) ≡ onto_section first sections ++ more
onto_front first sections more t ts h = rw h refl

-- a `---` line begins a section
pub sections-separator : (lines : List Text) (line : Text) → is_separator line ≡ true → sections_of (lines ++ line ∷ []) ≡ sections_of lines ++ [] ∷ []
sections-separator [] line h = rw h refl
sections-separator (l ∷ ls) line h = go (is_separator l) refl (sections-separator ls line h)
  where
    go : (b : Bool) → is_separator l ≡ b → sections_of (ls ++ line ∷ []) ≡ sections_of ls ++ [] ∷ [] → sections_of (l ∷ ls ++ line ∷ []) ≡ sections_of (l ∷ ls) ++ [] ∷ []
    go true e ih = rw e (ap (λ x. [] ∷ x) ih)
    go false e ih = let s = some_section ls in rw e (ap (onto_section l) ih ∙ onto_front l (sections_of ls) ([] ∷ []) s.0 s.1 s.2)

-- any other line goes on with the last
pub sections-line : (lines : List Text) (line : Text) → is_separator line ≡ false → sections_of (lines ++ line ∷ []) ≡ onto_last line (sections_of lines)
sections-line [] line h = rw h refl
sections-line (l ∷ ls) line h = go (is_separator l) refl (sections-line ls line h)
  where
    go : (b : Bool) → is_separator l ≡ b → sections_of (ls ++ line ∷ []) ≡ onto_last line (sections_of ls) → sections_of (l ∷ ls ++ line ∷ []) ≡ onto_last line (sections_of (l ∷ ls))
    go true e ih = let s = some_section ls in rw e (ap (λ x. [] ∷ x) ih ∙ sym (past_first line [] (sections_of ls) s.0 s.1 s.2))
    go false e ih = let s = some_section ls in rw e (ap (onto_section l) ih ∙ onto_both l line (sections_of ls) s.0 s.1 s.2)

-- the last section, behind others
pub onto_last-end : (line : Text) (before : List (List Text)) (section : List Text) → onto_last line (before ++ section ∷ []) ≡ before ++ (section ++ line ∷ []) ∷ []
onto_last-end line [] section = refl
onto_last-end line (b ∷ []) section = refl
onto_last-end line (b ∷ c ∷ cs) section = ap (λ x. b ∷ x) (onto_last-end line (c ∷ cs) section)

-- a section that others follow stays
pub onto_last-past : (line : Text) (before : List (List Text)) (section next : List Text) (after : List (List Text)) → onto_last line (before ++ section ∷ next ∷ after) ≡ before ++ section ∷ onto_last line (next ∷ after)
onto_last-past line [] section next after = refl
onto_last-past line (b ∷ []) section next after = refl
onto_last-past line (b ∷ c ∷ cs) section next after = ap (λ x. b ∷ x) (onto_last-past line (c ∷ cs) section next after)

-- a line that fails refuses the section
pub fails_refuses : (c : Option Choice) (span : Span) (section : List Text) (n : ℕ) (why : TextWhy) → FailsBy c span section n why → RefusesBy c span section n why
fails_refuses None span section n why f = absurd f
fails_refuses (Some Yuma) span section n why f = inl f
fails_refuses (Some Sem) span section n why f = inl f

-- and goes on to fail
fails_on : (span : Span) (section : List Text) (line : Text) (n : ℕ) (why : TextWhy) → FailsSection span section n why → FailsSection span (section ++ line ∷ []) n why
fails_on span section line n why f = go (choice_of section) refl f
  where
    go : (c : Option Choice) → choice_of section ≡ c → FailsBy c span section n why → FailsSection span (section ++ line ∷ []) n why
    go None h f = absurd f
    go (Some Yuma) h f = subst (λ (c : Option Choice). FailsBy c span (section ++ line ∷ []) n why) (sym (choice_stays section line Yuma h)) (refused_more (yuma_records span) section (line ∷ []) n why f)
    go (Some Sem) h f = subst (λ (c : Option Choice). FailsBy c span (section ++ line ∷ []) n why) (sym (choice_stays section line Sem h)) (refused_more (sem_records span) section (line ∷ []) n why f)

module _ (span : Span) (lines : List Text) (line : Text) where
  pub separator_split : (before : List (List Text)) (section : List Text) (after : List (List Text)) → is_separator line ≡ true → sections_of lines ≡ before ++ section ∷ after
      → sections_of (lines ++ line ∷ []) ≡ before ++ section ∷ (after ++ [] ∷ [])
  separator_split before section after h s = sections-separator lines line h ∙ ap (λ x. x ++ [] ∷ []) s ∙ append_assoc before (section ∷ after) ([] ∷ [])

  failed_separator : (after : List (List Text)) (section : List Text) (n : ℕ) (why : TextWhy) → FailsBefore after span section n why → FailsBefore (after ++ [] ∷ []) span section n why
  failed_separator [] section n why f = fails_refuses (choice_of section) span section n why f
  failed_separator (a ∷ rest) section n why f = f

  knows_separator : (n : ℕ) (why : TextWhy) → is_separator line ≡ true → KnowsFault span lines n why → KnowsFault span (lines ++ line ∷ []) n why
  knows_separator n why h (inl k) = inl (record {
    before = k.before;
    section = k.section;
    after = k.after ++ [] ∷ [];
    reached = record { split = separator_split k.before k.section k.after h k.reached.split; almanacs = k.reached.almanacs; accepted = k.reached.accepted };
    few = k.few;
    own = k.own;
    failed = failed_separator k.after k.section k.own why k.failed;
    numbered = k.numbered;
  })
  knows_separator n why h (inr k) = inr (record {
    before = k.before;
    section = k.section;
    after = k.after ++ [] ∷ [];
    reached = record { split = separator_split k.before k.section k.after h k.reached.split; almanacs = k.reached.almanacs; accepted = k.reached.accepted };
    eight = k.eight;
    cause = k.cause;
    numbered = k.numbered;
  })

  line_split : (before : List (List Text)) (section : List Text) (after : List (List Text)) → is_separator line ≡ false → sections_of lines ≡ before ++ section ∷ after
      → (section' : List Text) × (after' : List (List Text)) × (sections_of (lines ++ line ∷ []) ≡ before ++ section' ∷ after')
      × ((n : ℕ) (why : TextWhy) → FailsBefore after span section n why → FailsBefore after' span section' n why)
  line_split before section [] h s = (
    section ++ line ∷ [],
    [],
    sections-line lines line h ∙ ap (onto_last line) s ∙ onto_last-end line before section,
    λ n why f. fails_on span section line n why f,
  )
  line_split before section (next ∷ []) h s = (
    section,
    (next ++ line ∷ []) ∷ [],
    sections-line lines line h ∙ ap (onto_last line) s ∙ onto_last-past line before section next [],
    λ n why f. f,
  )
  line_split before section (next ∷ other ∷ after) h s = (
    section,
    next ∷ onto_last line (other ∷ after),
    sections-line lines line h ∙ ap (onto_last line) s ∙ onto_last-past line before section next (other ∷ after),
    λ n why f. f,
  )

  knows_line : (n : ℕ) (why : TextWhy) → is_separator line ≡ false → KnowsFault span lines n why → KnowsFault span (lines ++ line ∷ []) n why
  knows_line n why h (inl k) =
      let s = line_split k.before k.section k.after h k.reached.split in
      inl (record {
        before = k.before;
        section = s.0;
        after = s.1;
        reached = record { split = s.2; almanacs = k.reached.almanacs; accepted = k.reached.accepted };
        few = k.few;
        own = k.own;
        failed = s.3 k.own why k.failed;
        numbered = k.numbered;
      })
  knows_line n why h (inr k) =
      let s = line_split k.before k.section k.after h k.reached.split in
      inr (record {
        before = k.before;
        section = s.0;
        after = s.1;
        reached = record { split = s.2; almanacs = k.reached.almanacs; accepted = k.reached.accepted };
        eight = k.eight;
        cause = k.cause;
        numbered = k.numbered;
      })

  -- a fault that is known stays known
  pub knows_more : (n : ℕ) (why : TextWhy) → KnowsFault span lines n why → KnowsFault span (lines ++ line ∷ []) n why
  knows_more n why k = go (is_separator line) refl
    where
      go : (b : Bool) → is_separator line ≡ b → KnowsFault span (lines ++ line ∷ []) n why
      go true h = knows_separator n why h k
      go false h = knows_line n why h k

-- a fault that is known refuses the file
pub knows_refuses : (span : Span) (lines : List Text) (n : ℕ) (why : TextWhy) → KnowsFault span lines n why → RefusesAlmanacs span lines n why
knows_refuses span lines n why (inl k) = inl (record {
  before = k.before;
  section = k.section;
  after = k.after;
  reached = k.reached;
  few = k.few;
  own = k.own;
  refused = go k.after k.failed;
  numbered = k.numbered;
})
  where
    go : (after : List (List Text)) → FailsBefore after span k.section k.own why → RefusesSection span k.section k.own why
    go [] f = fails_refuses (choice_of k.section) span k.section k.own why f
    go (a ∷ rest) f = f
knows_refuses span lines n why (inr k) = inr k

-- as many almanacs as sections
pub each_length : (span : Span) (sections : List (List Text)) (almanacs : List (List AlmRecord)) → SayEach span sections almanacs → length almanacs ≡ length sections
each_length span [] [] h = refl
each_length span [] (a ∷ rest) h = absurd h
each_length span (s ∷ ss) [] h = absurd h
each_length span (s ∷ ss) (a ∷ rest) h = let r = each_length span ss rest h.1 in omega (arith, r)

-- one section more
pub each_more : (span : Span) (sections : List (List Text)) (almanacs : List (List AlmRecord)) (section : List Text) (almanac : List AlmRecord) → SayEach span sections almanacs → SaySection span section almanac
    → SayEach span (sections ++ section ∷ []) (almanacs ++ almanac ∷ [])
each_more span [] [] section almanac h s = (s, tt)
each_more span [] (a ∷ rest) section almanac h s = absurd h
each_more span (t ∷ ts) [] section almanac h s = absurd h
each_more span (t ∷ ts) (a ∷ rest) section almanac h s = (h.0, each_more span ts rest section almanac h.1 s)

pub lines_of_more : (sections : List (List Text)) (section : List Text) → lines_of_all (sections ++ section ∷ []) ≡ lines_of_all sections + length section + 1
lines_of_more [] section = omega arith
lines_of_more (s ∷ ss) section = let r = lines_of_more ss section in omega (arith, r)
