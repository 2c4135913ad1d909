-- What is an almanac is accepted.
use Rattle.std.proofs.Common.{◌≡◌, ◌==◌, ◌⊎◌, ◌<◌, ℕ, Bool, true, false, nat_lt, nat_le, List, [], ◌∷◌, ◌++◌, length, map, filter, Option, Some, None, Result, Ok, refl, sym, ap, ◌∙◌, subst, inl, inr, arith, append_assoc, append-nil, length-append, unsigned_abs, if◌then◌else◌}
use Rattle.std.specs.List.{list_any, flat_map}
use Rattle.std.proofs.lemmas.Bool.Decides.{nat_tests}
use Rattle.std.proofs.lemmas.List.Elements.{filter-append}
use Rattle.raim_model.specs.declared.Span.{Span}
use Rattle.raim_model.specs.declared.TextWhy.{TextWhy}
use Rattle.raim_model.specs.declared.TextWhy.TheVariants.{Short, CountDiffers}
use Rattle.raim_model.specs.declared.AlmRecord.{AlmRecord}
use Rattle.almanac_fields.proofs.Differing.{Differ, fresh_found}
use Rattle.text_lines.specs.Lines.{Text}
use Rattle.text_lines.specs.Words.{words_of, is_some_word, is_nonblank}
use Rattle.text_lines.specs.Fields.{◌>>=◌}
use Rattle.text_lines.specs.Reading.{Accepts, RefusesLine, RefusesEnd, Refuses}
use Rattle.text_lines.proofs.FieldLemmas.{bind_then, ok_is, ok_or_err}
use Rattle.text_lines.proofs.Parts.{fronts_same, front_goes_on, open_part, none_open}
use Rattle.text_lines.proofs.Rising.{none_before}
use Rattle.text_lines.proofs.SomeReading.{accepted_or_refused}
use Rattle.almanac_draft.specs.declared.begun.Begun.{Begun}
use Rattle.almanac_draft.specs.Forms.{Form, IsForm}
use Rattle.almanac_draft.specs.Counts.{further, count_end, IsCount}
use Rattle.almanac_draft.specs.Lines.{Said, said_behind, records_in, prn_said, words_entry_of, entry_of, almanac_records}
use Rattle.almanac_draft.specs.Almanacs.{run, record_at, IsAlmanac}
use Rattle.almanac_draft.proofs.Runs.{none_at, none_behind, run_length, run_here, run_keeps}
use Rattle.almanac_draft.proofs.Means.{Heads, Records, Sound, all_sound, means_records}

further_passes : (declared : Option ℕ) (n m : ℕ) → IsCount declared m → n < m → further declared n ≡ Ok n
further_passes None n m c low = refl
further_passes (Some said) n m c low = let no = above n said (omega (arith, c, low)) in rw no refl
  where
    above : (n said : ℕ) → n < said → nat_le said n ≡ false
    above n said low = grind (arith, nat_tests)

count_passes : (declared : Option ℕ) (n : ℕ) (why : TextWhy) → IsCount declared n → count_end declared n ≡ Some why → ⊥
count_passes None n why c h = go (n == 0) refl h
  where
    go : (b : Bool) → (n == 0) ≡ b → (if b then Some Short else None) ≡ Some why → ⊥
    go true e h = absurd (grind (arith, nat_tests))
    go false e h = cc
count_passes (Some said) n why c h = go (nat_lt n said) refl h
  where
    go : (b : Bool) → nat_lt n said ≡ b → (if b then Some (CountDiffers said n) else None) ≡ Some why → ⊥
    go true e h = absurd (grind (arith, nat_tests))
    go false e h = cc

front_length : {X : Type 0} (xs before after : List X) (x : X) → xs ≡ before ++ x ∷ after → length before < length xs
front_length {X = X} xs before after x e = let n = ap (λ (ys : List X). length ys) e ∙ length-append before (x ∷ after) in omega (arith, n)

module _ {K : Type 0} (form : Form K) where
  -- a record has as many lines as the format says
  fixed : (first end : ℕ) (head : Begun) (part : List Text) (r : AlmRecord) → record_at form first end head part ≡ Ok r → length part ≡ length form.lines
  fixed first end head part r h =
      let p = bind_then (run form first end form.lines head part) (λ c. Ok c.values) r h in
      run_length form first end form.lines head p.0 part p.1

  -- a line that passes is taken
  taken : (first end : ℕ) (said : Said K) (line : Text) (c : Begun) → is_nonblank line ≡ true → form.reads first end said.kind said.current line ≡ Ok c
      → (form.names said.kind ≡ true → (further said.head.declared (length said.records) ≡ Ok (length said.records)) × (list_any (λ r. r.prn == c.values.prn) said.records ≡ false) × (length said.records < 32))
      → entry_of form first end said line ≡ Ok (Some c)
  taken first end said line c nonblank h new = go (words_of line) nonblank
    where
      by_name : (b : Bool) → form.names said.kind ≡ b → (if b then prn_said form first end said line else form.reads first end said.kind said.current line) ≡ Ok c
      by_name false e = h
      by_name true e =
          let n = new e in
          let fresh = fresh_found said.records c.values.prn n.1 n.2 in
          rw (n.0, h, fresh) refl

      go : (words : List Text) → is_some_word words ≡ true → words_entry_of form first end said words line ≡ Ok (Some c)
      go [] h = cc
      go (word ∷ words) h = ap (λ (x : Result Begun TextWhy). x >>= (λ (y : Begun). Ok (Some y))) (by_name (form.names said.kind) refl)

  blank_taken : (first end : ℕ) (said : Said K) (line : Text) → is_nonblank line ≡ false → entry_of form first end said line ≡ Ok None
  blank_taken first end said line h = go (words_of line) h
    where
      go : (words : List Text) → is_some_word words ≡ false → words_entry_of form first end said words line ≡ Ok None
      go [] h = refl
      go (word ∷ words) h = cc

  module _ (lawful : IsForm form) (span : Span) (lines : List Text) (records : List AlmRecord) (a : IsAlmanac form span lines records) where
    abbrev first : ℕ
    first = unsigned_abs span.first

    abbrev end : ℕ
    end = unsigned_abs span.end

    abbrev all : List Text
    all = flat_map (λ part. part) a.parts

    heads_length : length a.head_lines ≡ length form.heads
    heads_length = run_length form first end form.heads form.nothing a.head a.head_lines a.headed

    -- the lines of the whole almanac are read alike
    same_head : (said : Said K) (head_lines : List Text) (behind : List Text) → run form first end form.heads form.nothing head_lines ≡ Ok said.head → a.head_lines ++ all ≡ head_lines ++ behind
        → (all ≡ behind) × (a.head ≡ said.head)
    same_head said head_lines behind ran e =
        let n = run_length form first end form.heads form.nothing said.head head_lines ran in
        let p = fronts_same a.head_lines head_lines all behind e (heads_length ∙ sym n) in
        (p.1, ok_is a.head said.head (sym a.headed ∙ ap (run form first end form.heads form.nothing) p.0 ∙ ran))

    -- no line of an almanac is refused
    line_passes : (number : ℕ) (why : TextWhy) → RefusesLine (almanac_records form span) lines number why → ⊥
    line_passes number why r = go (is_nonblank r.line) refl (all_sound form lawful first end r.done r.entries r.before)
      where
        said : Said K
        said = said_behind form r.entries

        front : is_nonblank r.line ≡ true → filter is_nonblank (r.line ∷ r.rest) ≡ r.line ∷ filter is_nonblank r.rest
        front h = rw h refl

        cut : is_nonblank r.line ≡ true → a.head_lines ++ all ≡ filter is_nonblank r.done ++ r.line ∷ filter is_nonblank r.rest
        cut h = sym a.whole ∙ ap (λ (x : List Text). filter is_nonblank x) r.split ∙ filter-append is_nonblank r.done (r.line ∷ r.rest)
            ∙ ap (λ (x : List Text). filter is_nonblank r.done ++ x) (front h)

        refused : (c : Begun) → entry_of form first end said r.line ≡ Ok (Some c) → ⊥
        refused c h = ok_or_err (entry_of form first end said r.line) (Some c) why h r.here

        in_heads : is_nonblank r.line ≡ true → Heads form first end r.done said → ⊥
        in_heads h s =
            let n = run_length form first end s.done form.nothing said.current (filter is_nonblank r.done) s.ran in
            let low = front_length form.heads s.done s.todo said.kind s.split in
            let long : length (filter is_nonblank r.done) < length a.head_lines = let m = heads_length in omega (arith, n, m, low) in
            let e = front_goes_on a.head_lines (filter is_nonblank r.done) all (filter is_nonblank r.rest) r.line (cut h) long in
            let ran : run form first end (s.done ++ said.kind ∷ s.todo) form.nothing (filter is_nonblank r.done ++ r.line ∷ e.0) ≡ Ok a.head =
            ap (λ (ks : List K). run form first end ks form.nothing (filter is_nonblank r.done ++ r.line ∷ e.0)) (sym s.split) ∙ ap (run form first end form.heads form.nothing) (sym e.1) ∙ a.headed in
            let here = run_here form first end s.done said.kind s.todo form.nothing said.current a.head (filter is_nonblank r.done) r.line e.0 ran s.ran in
            let no = none_at form.names s.done said.kind s.todo (rw (sym s.split) lawful.heads_name_none) in
            refused here.0 (taken first end said r.line here.0 h here.1 (λ named. clash no named))
          where
            clash : {X : Type 0} → form.names said.kind ≡ false → form.names said.kind ≡ true → X
            clash p q = cc

        in_record : is_nonblank r.line ≡ true → Records form first end r.done said → ⊥
        in_record h s =
            let parts = flat_map (λ (part : List Text). part) s.parts in
            let rest = filter is_nonblank r.rest in
            let alike = same_head said s.head_lines (parts ++ (s.open_lines ++ r.line ∷ rest)) s.headed
            (cut h ∙ ap (λ (x : List Text). x ++ r.line ∷ rest) s.whole ∙ append_assoc s.head_lines (parts ++ s.open_lines) (r.line ∷ rest)
            ∙ ap (λ (x : List Text). s.head_lines ++ x) (append_assoc parts s.open_lines (r.line ∷ rest))) in
            let each = subst (λ (x : Begun). map (record_at form first end x) a.parts ≡ map (λ r. Ok r) records) alike.1 a.each in
            let n = run_length form first end s.done said.head said.current s.open_lines s.ran in
            let low : length s.open_lines < length form.lines = let m = front_length form.lines s.done s.todo said.kind s.split in omega (arith, n, m) in
            let o = open_part (record_at form first end said.head) (length form.lines) (fixed first end said.head) s.parts a.parts said.records records s.open_lines r.line rest s.each each low alike.0 in
            let w = bind_then (run form first end form.lines said.head (s.open_lines ++ r.line ∷ o.rest)) (λ c. Ok c.values) o.rec o.here in
            let ran = ap (λ (ks : List K). run form first end ks said.head (s.open_lines ++ r.line ∷ o.rest)) (sym s.split) ∙ w.1 in
            let here = run_here form first end s.done said.kind s.todo said.head said.current w.0 s.open_lines r.line o.rest ran s.ran in
            let fewer = front_length records said.records o.after o.rec o.records in
            let count = subst (λ (x : Begun). IsCount x.declared (length records)) alike.1 a.count in
            let new = none_before (λ (x : AlmRecord). x.prn) said.records o.rec o.after (subst Differ o.records a.distinct) in
            refused here.0 (taken first end said r.line here.0 h here.1 (λ named.
            let kept = run_keeps form first end lawful s.todo here.0 w.0 o.rest (none_behind form.names s.done said.kind s.todo (rw (sym s.split) lawful.one_names) named) here.2 in
            let same : o.rec.prn ≡ here.0.values.prn = sym (kept ∙ ap (λ (x : AlmRecord). x.prn) (ok_is w.0.values o.rec w.2)) in (
              further_passes said.head.declared (length said.records) (length records) count fewer,
              subst (λ (x : ℕ). list_any (λ r. r.prn == x) said.records ≡ false) same new,
              let few = a.few in omega (arith, fewer, few),
            )))

        go : (t : Bool) → is_nonblank r.line ≡ t → Sound form first end r.done said → ⊥
        go false h s = ok_or_err (entry_of form first end said r.line) None why (blank_taken first end said r.line h) r.here
        go true h (inl s) = in_heads h s
        go true h (inr s) = in_record h s

    -- nor is its end
    end_passes : (number : ℕ) (why : TextWhy) → RefusesEnd (almanac_records form span) lines number why → ⊥
    end_passes number why r = go (all_sound form lawful first end lines r.entries r.reads)
      where
        said : Said K
        said = said_behind form r.entries

        go : Sound form first end lines said → ⊥
        go (inl s) =
            let n = run_length form first end s.done form.nothing said.current (filter is_nonblank lines) s.ran in
            let m = ap (λ (x : List Text). length x) a.whole ∙ length-append a.head_lines all in
            let low = front_length form.heads s.done s.todo said.kind s.split in
            let l = heads_length in
            omega (arith, n, m, low, l)
        go (inr s) =
            let parts = flat_map (λ (part : List Text). part) s.parts in
            let alike = same_head said s.head_lines (parts ++ s.open_lines) s.headed (sym a.whole ∙ s.whole) in
            let each = subst (λ (x : Begun). map (record_at form first end x) a.parts ≡ map (λ r. Ok r) records) alike.1 a.each in
            let n = run_length form first end s.done said.head said.current s.open_lines s.ran in
            let low : length s.open_lines < length form.lines = let m = front_length form.lines s.done s.todo said.kind s.split in omega (arith, n, m) in
            let o = none_open (record_at form first end said.head) (length form.lines) (fixed first end said.head) s.parts a.parts said.records records s.open_lines s.each each low alike.0 in
            let count : IsCount said.head.declared (length said.records) = subst (λ (x : Begun). IsCount x.declared (length said.records)) alike.1 (subst (λ (x : List AlmRecord). IsCount a.head.declared (length x)) o.1 a.count) in
            at_start s.done (n_none s.done (sym n ∙ ap (λ (x : List Text). length x) o.0)) s.split count
          where
            n_none : (done : List K) → length done ≡ 0 → done ≡ []
            n_none [] h = refl
            n_none (k ∷ ks) h = absurd (omega (arith, h))

            start_is : (k : K) (ks : List K) → form.lines ≡ k ∷ ks → form.start ≡ k
            start_is k ks h = let e = sym lawful.lines ∙ h in cc

            ends : (b : Bool) → b ≡ true → IsCount said.head.declared (length said.records) → (if b then count_end said.head.declared (length said.records) else Some Short) ≡ Some why → ⊥
            ends true e count h = count_passes said.head.declared (length said.records) why count h
            ends false e count h = cc

            at_start : (done : List K) → done ≡ [] → form.lines ≡ done ++ said.kind ∷ s.todo → IsCount said.head.declared (length said.records) → ⊥
            at_start [] e split count =
                let begins : form.begins said.kind ≡ true = ap form.begins (sym (start_is said.kind s.todo split)) ∙ lawful.start_begins in
                ends (form.begins said.kind) begins count r.ends
            at_start (k ∷ ks) e split count = cc

    never : (number : ℕ) (why : TextWhy) → Refuses (almanac_records form span) lines number why → ⊥
    never number why (inl r) = line_passes number why r
    never number why (inr r) = end_passes number why r

    -- an accepted almanac that says these lines has these records
    same_records : (entries : List (Option Begun)) → Accepts (almanac_records form span) lines entries → records ≡ records_in form entries
    same_records entries e =
        let m = means_records form lawful span lines entries e in
        let alike = fronts_same a.head_lines m.head_lines all (flat_map (λ part. part) m.parts) (sym a.whole ∙ m.whole)
        (heads_length ∙ sym (run_length form first end form.heads form.nothing m.head m.head_lines m.headed)) in
        let head = ok_is a.head m.head (sym a.headed ∙ ap (run form first end form.heads form.nothing) alike.0 ∙ m.headed) in
        let each = subst (λ (x : Begun). map (record_at form first end x) a.parts ≡ map (λ r. Ok r) records) head a.each in
        let some : 0 < length form.lines = let n = ap (λ (x : List K). length x) lawful.lines in omega (arith, n) in
        (none_open (record_at form first end m.head) (length form.lines) (fixed first end m.head) m.parts a.parts (records_in form entries) records [] m.each each some
        (alike.1 ∙ sym (append-nil (flat_map (λ part. part) m.parts)))).1

  -- what is an almanac is accepted, and says its records
  pub is_accepted : IsForm form → (span : Span) (lines : List Text) (records : List AlmRecord) → IsAlmanac form span lines records
      → (entries : List (Option Begun)) × Accepts (almanac_records form span) lines entries × (records ≡ records_in form entries)
  is_accepted lawful span lines records a = go (accepted_or_refused (almanac_records form span) lines)
    where
      go : ((entries : List (Option Begun)) × Accepts (almanac_records form span) lines entries) ⊎ ((number : ℕ) × (why : TextWhy) × Refuses (almanac_records form span) lines number why)
          → (entries : List (Option Begun)) × Accepts (almanac_records form span) lines entries × (records ≡ records_in form entries)
      go (inl e) = (e.0, e.1, same_records lawful span lines records a e.0 e.1)
      go (inr r) = absurd (never lawful span lines records a r.0 r.1 r.2)
