-- A text has one reading.
use Rattle.std.proofs.Common.{◌≡◌, ◌<◌, ◌≤◌, ◌+◌, ℕ, suc, zero, List, [], ◌∷◌, ◌++◌, length, take, get_or, Ok, refl, sym, ap, ap₂, ◌∙◌, subst, inl, inr, arith, length-append}
use Rattle.std.proofs.Math.ListN.{get_or-append}
use Rattle.std.proofs.Math.Seq.{get_or-append_seam, take-suc, take-length}
use Rattle.std.proofs.lemmas.List.{length-take-le, get_or-take, take-take}
use Rattle.text_lines.specs.Lines.{Text}
use Rattle.text_lines.specs.Reading.{Format, Reads, Accepts, RefusesLine, Refuses, number_after, last_nonblank_line}

module _ {E W : Type 0} (format : Format E W) where
  -- the same entries as far as k
  same_front : (lines : List Text) (es fs : List E) (d : E) → Reads format lines es → Reads format lines fs → (k : ℕ) → k ≤ length lines → take k es ≡ take k fs
  same_front lines es fs d r s zero h = refl
  same_front lines es fs d r s (suc k) h =
      let ih = same_front lines es fs d r s k (omega arith) in
      let below : k < length lines = omega arith in
      let in_es : k < length es = rw r.count below in
      let in_fs : k < length fs = rw s.count below in
      let one = sym (r.each k d below) ∙ ap (λ es. format.says es (get_or lines k [])) ih ∙ s.each k d below in
      let same : get_or es k d ≡ get_or fs k d = cc in
      take-suc es k d in_es ∙ ap₂ ◌++◌ ih (ap (λ x. x ∷ []) same) ∙ sym (take-suc fs k d in_fs)

  none_left : (fs : List E) → length fs ≡ 0 → [] ≡ fs
  none_left [] h = refl
  none_left (f ∷ fs) h = absurd (omega arith)

  -- a list of lines has one list of entries
  pub same_entries : (lines : List Text) (es fs : List E) → Reads format lines es → Reads format lines fs → es ≡ fs
  same_entries lines [] fs r s = none_left fs (s.count ∙ sym r.count)
  same_entries lines (e ∷ es) fs r s =
      let n = length lines in
      sym (take-length (e ∷ es)) ∙ ap (λ k. take k (e ∷ es)) r.count ∙ same_front lines (e ∷ es) fs e r s n (omega arith)
      ∙ ap (λ k. take k fs) (sym s.count) ∙ take-length fs

  -- the front of what is read is read
  front_reads : (done more : List Text) (es : List E) → Reads format (done ++ more) es → Reads format done (take (length done) es)
  front_reads done more es r =
      let n = length done in
      let total : length es ≡ n + length more = r.count ∙ length-append done more in
      let le : n ≤ length es = omega arith in
      record {
        count = length-take-le n es le;
        each = λ k d below.
            let within : k < length (done ++ more) = rw (length-append done more) (omega arith) in
            let low : k ≤ n = omega arith in
            ap₂ format.says (take-take k n es low) (sym (get_or-append done more [] k below)) ∙ r.each k d within ∙ ap (λ x. Ok x) (sym (get_or-take n es k d below));
      }

  -- lines that all pass are not refused
  pub never_both : (lines : List Text) (es : List E) (number : ℕ) (why : W) → Reads format lines es → RefusesLine format lines number why → ⊥
  never_both lines es number why r f = go es (subst (λ (ls : List Text). Reads format ls es) f.split r)
    where
      go : (es : List E) → Reads format (f.done ++ f.line ∷ f.rest) es → ⊥
      go [] r = let total = r.count ∙ length-append f.done (f.line ∷ f.rest) in absurd (omega arith)
      go (e ∷ es) r =
          let n = length f.done in
          let within : n < length (f.done ++ f.line ∷ f.rest) = rw (length-append f.done (f.line ∷ f.rest)) (omega arith) in
          let same = same_entries f.done (take n (e ∷ es)) f.entries (front_reads f.done (f.line ∷ f.rest) (e ∷ es) r) f.before in
          let bad = sym f.here ∙ ap₂ format.says (sym same) (sym (get_or-append_seam f.done f.line f.rest [])) ∙ r.each n e within in
          cc

split_agree : (d c : List Text) (l m : Text) (r s : List Text) → d ++ l ∷ r ≡ c ++ m ∷ s → length d ≡ length c → (d ≡ c) × (l ≡ m)
split_agree [] [] l m r s e n = (refl, cc)
split_agree [] (y ∷ ys) l m r s e n = absurd (omega arith)
split_agree (x ∷ xs) [] l m r s e n = absurd (omega arith)
split_agree (x ∷ xs) (y ∷ ys) l m r s e n =
    let head : x ≡ y = cc in
    let tail : xs ++ l ∷ r ≡ ys ++ m ∷ s = cc in
    let below = split_agree xs ys l m r s tail (omega arith) in
    (ap₂ ◌∷◌ head below.0, below.1)

split_longer : (d c : List Text) (l m : Text) (r s : List Text) → d ++ l ∷ r ≡ c ++ m ∷ s → length d < length c → (t : List Text) × (c ≡ d ++ l ∷ t)
split_longer [] [] l m r s e n = absurd (omega arith)
split_longer [] (y ∷ ys) l m r s e n = (ys, cc)
split_longer (x ∷ xs) [] l m r s e n = absurd (omega arith)
split_longer (x ∷ xs) (y ∷ ys) l m r s e n =
    let head : y ≡ x = cc in
    let tail : xs ++ l ∷ r ≡ ys ++ m ∷ s = cc in
    let below = split_longer xs ys l m r s tail (omega arith) in
    (below.0, ap₂ ◌∷◌ head below.1)

module _ {E W : Type 0} (format : Format E W) where
  not_earlier : (lines : List Text) (n m : ℕ) (why other : W) (f : RefusesLine format lines n why) (g : RefusesLine format lines m other) → length f.done < length g.done → ⊥
  not_earlier lines n m why other f g lt =
      let longer = split_longer f.done g.done f.line g.line f.rest g.rest (sym f.split ∙ g.split) lt in
      never_both format g.done g.entries n why g.before (record {
        done = f.done;
        line = f.line;
        rest = longer.0;
        entries = f.entries;
        split = longer.1;
        before = f.before;
        here = f.here;
        numbered = f.numbered;
      })

  -- two refusals name the same line, and the same cause
  pub one_refusal : (lines : List Text) (n m : ℕ) (why other : W) → RefusesLine format lines n why → RefusesLine format lines m other → (n ≡ m) × (why ≡ other)
  one_refusal lines n m why other f g =
      let low = not_earlier lines n m why other f g in
      let high = not_earlier lines m n other why g f in
      let len : length f.done ≡ length g.done = omega arith in
      let same = split_agree f.done g.done f.line g.line f.rest g.rest (sym f.split ∙ g.split) len in
      let entries = same_entries format g.done f.entries g.entries (subst (λ (d : List Text). Reads format d f.entries) same.0 f.before) g.before in
      let cause = sym f.here ∙ ap₂ format.says entries same.1 ∙ g.here in
      (f.numbered ∙ ap number_after len ∙ sym g.numbered, cc)

module _ {E W : Type 0} (format : Format E W) where
  -- a file that is accepted is not refused
  pub never_refused : (lines : List Text) (entries : List E) (number : ℕ) (why : W) → Accepts format lines entries → Refuses format lines number why → ⊥
  never_refused lines entries number why a (inl f) = never_both format lines entries number why a.reads f
  never_refused lines entries number why a (inr f) =
      let same = same_entries format lines entries f.entries a.reads f.reads in
      let bad = sym a.ends ∙ ap format.at_end same ∙ f.ends in
      cc

  -- a file is refused at one line, for one cause
  pub refused_once : (lines : List Text) (number other : ℕ) (why cause : W) → Refuses format lines number why → Refuses format lines other cause → (number ≡ other) × (why ≡ cause)
  refused_once lines number other why cause (inl f) (inl g) = one_refusal format lines number other why cause f g
  refused_once lines number other why cause (inl f) (inr g) = absurd (never_both format lines g.entries number why g.reads f)
  refused_once lines number other why cause (inr f) (inl g) = absurd (never_both format lines f.entries other cause f.reads g)
  refused_once lines number other why cause (inr f) (inr g) =
      let same = same_entries format lines f.entries g.entries f.reads g.reads in
      let cause_same = sym f.ends ∙ ap format.at_end same ∙ g.ends in
      (f.numbered ∙ ap (last_nonblank_line format.is_blank) same ∙ sym g.numbered, cc)
