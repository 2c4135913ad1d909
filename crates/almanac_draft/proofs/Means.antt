-- An accepted almanac means its records.
use Rattle.std.proofs.Common.{◌≡◌, ◌==◌, ◌⊎◌, ◌<◌, ◌≤◌, ◌+◌, ℕ, suc, zero, Bool, true, false, nat_lt, nat_le, List, [], ◌∷◌, ◌++◌, length, take, get_or, map, filter, Option, Some, None, Result, Ok, refl, sym, ap, ap₂, ◌∙◌, subst, inl, inr, arith, append_assoc, append-nil, length-append, unsigned_abs, if◌then◌else◌}
use Rattle.std.specs.List.{list_any, flat_map}
use Rattle.std.proofs.lemmas.Bool.Decides.{nat_tests}
use Rattle.std.proofs.lemmas.List.Elements.{filter-append}
use Rattle.std.proofs.lemmas.List.Sums.{fold-append}
use Rattle.std.proofs.lemmas.Grind.{flat_map-append}
use Rattle.std.proofs.lemmas.List.{map-append}
use Rattle.std.proofs.Math.Seq.{take-suc, take-length}
use Rattle.raim_model.specs.declared.Span.{Span}
use Rattle.raim_model.specs.declared.TextWhy.{TextWhy}
use Rattle.raim_model.specs.declared.TextWhy.TheVariants.{Short, CountDiffers}
use Rattle.raim_model.specs.declared.AlmRecord.{AlmRecord}
use Rattle.almanac_fields.specs.Prns.{fresh_prn_of}
use Rattle.almanac_fields.proofs.Differing.{Differ, differ_more, fresh_passes}
use Rattle.text_lines.specs.Lines.{Text}
use Rattle.text_lines.specs.Words.{words_of, is_nonblank}
use Rattle.text_lines.specs.Fields.{◌>>=◌}
use Rattle.text_lines.specs.Reading.{Reads, Accepts}
use Rattle.text_lines.proofs.FieldLemmas.{bind_then, ok_is, unless_then}
use Rattle.text_lines.proofs.Parts.{cons_same}
use Rattle.almanac_draft.specs.declared.begun.Begun.{Begun}
use Rattle.almanac_draft.specs.Forms.{Form, IsForm, first_of, none_is}
use Rattle.almanac_draft.specs.Counts.{further, count_end, IsCount}
use Rattle.almanac_draft.specs.Lines.{Said, said_first, said_on, said_next, said_behind, records_in, prn_said, line_said, words_entry_of, entry_of, end_of, almanac_lines, almanac_records}
use Rattle.almanac_draft.specs.Almanacs.{run, record_at, IsAlmanac}
use Rattle.almanac_draft.proofs.Runs.{follows, none_at, some_at, one_some, run_more}

-- there are no more records than the almanac says
abbrev pub Within : Option ℕ → ℕ → Type 0
Within None n = Unit {0}
Within (Some said) n = n ≤ said

-- a further record may begin
abbrev pub Below : Option ℕ → ℕ → Type 0
Below None n = Unit {0}
Below (Some said) n = n < said

-- the PRN is that of no record, and there is room for one more
pub record Apart (declared : Option ℕ) (records : List AlmRecord) (begun : Begun) : Type 0 where
  pub new : list_any (λ r. r.prn == begun.values.prn) records ≡ false
  pub room : length records < 32
  pub below : Below declared (length records)

below : (declared : Option ℕ) (n m : ℕ) → further declared n ≡ Ok m → Below declared n
below None n m h = tt
below (Some said) n m h = let p = unless_then (nat_le said n) (CountDiffers said (said + 1)) (Ok n) m h in let q = p.0 in grind (arith, nat_tests)

within_more : (declared : Option ℕ) (n : ℕ) → Below declared n → Within declared (n + 1)
within_more None n h = tt
within_more (Some said) n h = omega (arith, h)

within_none : (declared : Option ℕ) → Within declared 0
within_none None = tt
within_none (Some said) = omega arith

some_is : {X : Type 0} (x y : X) → ◌≡◌ {A = Option X} (Some x) (Some y) → x ≡ y
some_is x y h = cc

-- the lines that are not blank, with one more
nonblank_more : (lines : List Text) (line : Text) → is_nonblank line ≡ true → filter is_nonblank (lines ++ line ∷ []) ≡ filter is_nonblank lines ++ line ∷ []
nonblank_more lines line h = filter-append is_nonblank lines (line ∷ []) ∙ ap (λ x. filter is_nonblank lines ++ x) one
  where
    one : filter is_nonblank (line ∷ []) ≡ line ∷ []
    one = rw h refl

blank_more : (lines : List Text) (line : Text) → is_nonblank line ≡ false → filter is_nonblank (lines ++ line ∷ []) ≡ filter is_nonblank lines
blank_more lines line h = filter-append is_nonblank lines (line ∷ []) ∙ ap (λ x. filter is_nonblank lines ++ x) none ∙ append-nil (filter is_nonblank lines)
  where
    none : filter is_nonblank (line ∷ []) ≡ []
    none = rw h refl

room_is : (n : ℕ) → n < 32 → nat_lt n 32 ≡ true
room_is n h = grind (arith, nat_tests)

module _ {K : Type 0} (form : Form K) where
  -- the lines of the whole almanac have begun
  pub record Heads (first end : ℕ) (lines : List Text) (said : Said K) : Type 0 where
    pub done : List K
    pub todo : List K
    pub split : form.heads ≡ done ++ said.kind ∷ todo
    pub ran : run form first end done form.nothing (filter is_nonblank lines) ≡ Ok said.current
    pub none : said.records ≡ []

  -- they are read, and so are whole records and the front of one
  pub record Records (first end : ℕ) (lines : List Text) (said : Said K) : Type 0 where
    pub head_lines : List Text
    pub parts : List (List Text)
    pub open_lines : List Text
    pub whole : filter is_nonblank lines ≡ head_lines ++ (flat_map (λ part. part) parts ++ open_lines)
    pub headed : run form first end form.heads form.nothing head_lines ≡ Ok said.head
    pub done : List K
    pub todo : List K
    pub split : form.lines ≡ done ++ said.kind ∷ todo
    pub ran : run form first end done said.head open_lines ≡ Ok said.current
    pub each : map (record_at form first end said.head) parts ≡ map (λ r. Ok r) said.records
    pub apart : none_is form.names done ≡ false → Apart said.head.declared said.records said.current
    pub differ : Differ said.records
    pub few : length said.records ≤ 32
    pub within : Within said.head.declared (length said.records)

  -- what is true behind each line
  abbrev pub Sound : (first end : ℕ) → List Text → Said K → Type 0
  Sound first end lines said = Heads first end lines said ⊎ Records first end lines said

  goes_on : (said : Said K) (c : Begun) (k : K) → form.next said.kind ≡ Some k → form.begins k ≡ false → record { kind = k; head = said.head; current = c; records = said.records } ≡ said_on form said c (form.next said.kind)
  goes_on said c k n b = rw (n, b) refl

  begins : (said : Said K) (c : Begun) (k : K) → form.next said.kind ≡ Some k → form.begins k ≡ true → record { kind = k; head = c; current = c; records = said.records } ≡ said_on form said c (form.next said.kind)
  begins said c k n b = rw (n, b) refl

  ends : (said : Said K) (c : Begun) → form.next said.kind ≡ None → length said.records < 32
      → record { kind = form.start; head = said.head; current = said.head; records = said.records ++ c.values ∷ [] } ≡ said_on form said c (form.next said.kind)
  ends said c n room = let b = room_is (length said.records) room in rw (n, b) refl

  -- what is known of a line that says something
  pub record Passes (first end : ℕ) (said : Said K) (line : Text) (c : Begun) : Type 0 where
    pub read : form.reads first end said.kind said.current line ≡ Ok c
    pub apart : form.names said.kind ≡ true → Apart said.head.declared said.records c

  prn_passes : (first end : ℕ) (said : Said K) (line : Text) (c : Begun) → prn_said form first end said line ≡ Ok c → Passes first end said line c
  prn_passes first end said line c h =
      let n = length said.records in
      let p = bind_then (further said.head.declared n) _ c h in
      let q = bind_then (form.reads first end said.kind said.current line) _ c p.2 in
      let f = bind_then (fresh_prn_of said.records q.0.values.prn) (λ fresh. Ok q.0) c q.2 in
      let same : q.0 ≡ c = ok_is q.0 c f.2 in
      let new = fresh_passes said.records q.0.values.prn f.0 f.1 in
      subst (Passes first end said line) same (record {
        read = q.1;
        apart = λ named. record {
          new = subst (λ (x : ℕ). list_any (λ r. r.prn == x) said.records ≡ false) (sym new.2) new.0;
          room = new.1;
          below = below said.head.declared n p.0 p.1;
        };
      })

  line_passes : (first end : ℕ) (said : Said K) (line : Text) (c : Begun) → line_said form first end said line ≡ Ok c → Passes first end said line c
  line_passes first end said line c h = go (form.names said.kind) refl h
    where
      go : (b : Bool) → form.names said.kind ≡ b → (if b then prn_said form first end said line else form.reads first end said.kind said.current line) ≡ Ok c → Passes first end said line c
      go true e h = prn_passes first end said line c h
      go false e h = record { read = h; apart = λ named. cc }

  module _ (lawful : IsForm form) (first end : ℕ) where
    -- a line of the whole almanac
    head_more : (lines : List Text) (said : Said K) (line : Text) (c : Begun) → is_nonblank line ≡ true → Passes first end said line c → Heads first end lines said
        → Sound first end (lines ++ line ∷ []) (said_on form said c (form.next said.kind))
    head_more lines said line c nonblank p s = go s.todo refl
      where
        ran : run form first end (s.done ++ said.kind ∷ []) form.nothing (filter is_nonblank (lines ++ line ∷ [])) ≡ Ok c
        ran = ap (run form first end (s.done ++ said.kind ∷ []) form.nothing) (nonblank_more lines line nonblank) ∙ run_more form first end s.done said.kind form.nothing said.current c (filter is_nonblank lines) line s.ran p.read

        next : form.next said.kind ≡ first_of s.todo (Some form.start)
        next = follows form.next s.done said.kind s.todo (Some form.start) (rw (sym s.split) lawful.heads_follow)

        go : (todo : List K) → s.todo ≡ todo → Sound first end (lines ++ line ∷ []) (said_on form said c (form.next said.kind))
        go [] e =
            let all : form.heads ≡ s.done ++ said.kind ∷ [] = s.split ∙ ap (λ (x : List K). s.done ++ said.kind ∷ x) e in
            subst (Sound first end (lines ++ line ∷ [])) (begins said c form.start (next ∙ ap (λ (x : List K). first_of x (Some form.start)) e) lawful.start_begins) (inr (record {
              head_lines = filter is_nonblank (lines ++ line ∷ []);
              parts = [];
              open_lines = [];
              whole = sym (append-nil (filter is_nonblank (lines ++ line ∷ [])));
              headed = ap (λ (ks : List K). run form first end ks form.nothing (filter is_nonblank (lines ++ line ∷ []))) all ∙ ran;
              done = [];
              todo = lawful.rest;
              split = lawful.lines;
              ran = refl;
              each = ap (λ (rs : List AlmRecord). map (λ r. Ok r) rs) (sym s.none);
              apart = λ named. cc;
              differ = subst Differ (sym s.none) (λ i j d lt below. absurd (omega arith));
              few = rw s.none (omega arith);
              within = rw s.none (within_none c.declared);
            }))
        go (k ∷ ks) e =
            let all : form.heads ≡ (s.done ++ said.kind ∷ []) ++ k ∷ ks = s.split ∙ ap (λ (x : List K). s.done ++ said.kind ∷ x) e ∙ sym (append_assoc s.done (said.kind ∷ []) (k ∷ ks)) in
            let closed : form.begins k ≡ false = none_at form.begins (s.done ++ said.kind ∷ []) k ks (rw (sym all) lawful.heads_begin_none) in
            subst (Sound first end (lines ++ line ∷ [])) (goes_on said c k (next ∙ ap (λ (x : List K). first_of x (Some form.start)) e) closed) (inl (record {
              done = s.done ++ said.kind ∷ [];
              todo = ks;
              split = all;
              ran = ran;
              none = s.none;
            }))

    -- the PRN of the record that has begun, behind one more line
    apart_more : (said : Said K) (line : Text) (c : Begun) (done : List K) → Passes first end said line c → (none_is form.names done ≡ false → Apart said.head.declared said.records said.current)
        → none_is form.names (done ++ said.kind ∷ []) ≡ false → Apart said.head.declared said.records c
    apart_more said line c done p before named = go (form.names said.kind) refl
      where
        kept : form.names said.kind ≡ false → Apart said.head.declared said.records said.current → Apart said.head.declared said.records c
        kept unnamed a =
            let same = lawful.keeps first end said.kind said.current c line unnamed p.read in
            record { new = subst (λ (x : ℕ). list_any (λ r. r.prn == x) said.records ≡ false) same a.new; room = a.room; below = a.below }

        go : (b : Bool) → form.names said.kind ≡ b → Apart said.head.declared said.records c
        go true e = p.apart e
        go false e = by (some_at form.names done said.kind named)
          where
            by : (form.names said.kind ≡ true) ⊎ (none_is form.names done ≡ false) → Apart said.head.declared said.records c
            by (inl named) = p.apart named
            by (inr begun) = kept e (before begun)

    -- a line of a record
    record_more : (lines : List Text) (said : Said K) (line : Text) (c : Begun) → is_nonblank line ≡ true → Passes first end said line c → Records first end lines said
        → Sound first end (lines ++ line ∷ []) (said_on form said c (form.next said.kind))
    record_more lines said line c nonblank p s = go s.todo refl
      where
        parts : List Text
        parts = flat_map (λ part. part) s.parts

        part : List Text
        part = s.open_lines ++ line ∷ []

        cut : filter is_nonblank (lines ++ line ∷ []) ≡ s.head_lines ++ (parts ++ part)
        cut = nonblank_more lines line nonblank ∙ ap (λ (x : List Text). x ++ line ∷ []) s.whole
            ∙ append_assoc s.head_lines (parts ++ s.open_lines) (line ∷ []) ∙ ap (λ (x : List Text). s.head_lines ++ x) (append_assoc parts s.open_lines (line ∷ []))

        ran : run form first end (s.done ++ said.kind ∷ []) said.head part ≡ Ok c
        ran = run_more form first end s.done said.kind said.head said.current c s.open_lines line s.ran p.read

        next : form.next said.kind ≡ first_of s.todo None
        next = follows form.next s.done said.kind s.todo None (rw (sym s.split) lawful.lines_follow)

        apart : none_is form.names (s.done ++ said.kind ∷ []) ≡ false → Apart said.head.declared said.records c
        apart = apart_more said line c s.done p s.apart

        go : (todo : List K) → s.todo ≡ todo → Sound first end (lines ++ line ∷ []) (said_on form said c (form.next said.kind))
        go [] e =
            let all : form.lines ≡ s.done ++ said.kind ∷ [] = s.split ∙ ap (λ (x : List K). s.done ++ said.kind ∷ x) e in
            let a = apart (ap (none_is form.names) (sym all) ∙ one_some form.names form.lines lawful.one_names) in
            let whole : record_at form first end said.head part ≡ Ok c.values = ap (λ (ks : List K). run form first end ks said.head part >>= (λ (x : Begun). Ok x.values)) all ∙ ap (λ (x : Result Begun TextWhy). x >>= (λ (y : Begun). Ok y.values)) ran in
            subst (Sound first end (lines ++ line ∷ [])) (ends said c (next ∙ ap (λ (x : List K). first_of x None) e) a.room) (inr (record {
              head_lines = s.head_lines;
              parts = s.parts ++ part ∷ [];
              open_lines = [];
              whole = cut ∙ ap (λ (x : List Text). s.head_lines ++ x) (ap (λ (x : List Text). parts ++ x) (sym (append-nil part))
                  ∙ sym (flat_map-append (λ part. part) s.parts (part ∷ [])) ∙ sym (append-nil (flat_map (λ part. part) (s.parts ++ part ∷ []))));
              headed = s.headed;
              done = [];
              todo = lawful.rest;
              split = lawful.lines;
              ran = refl;
              each = map-append (record_at form first end said.head) s.parts (part ∷ []) ∙ ap₂ ◌++◌ s.each (ap (λ r. r ∷ []) whole)
                  ∙ sym (map-append (λ r. Ok r) said.records (c.values ∷ []));
              apart = λ named. cc;
              differ = differ_more said.records c.values s.differ a.new;
              few = let n = length-append said.records (c.values ∷ []) in omega (arith, n, a.room);
              within = subst (Within said.head.declared) (sym (length-append said.records (c.values ∷ []))) (within_more said.head.declared (length said.records) a.below);
            }))
        go (k ∷ ks) e =
            let all : form.lines ≡ (s.done ++ said.kind ∷ []) ++ k ∷ ks = s.split ∙ ap (λ (x : List K). s.done ++ said.kind ∷ x) e ∙ sym (append_assoc s.done (said.kind ∷ []) (k ∷ ks)) in
            subst (Sound first end (lines ++ line ∷ [])) (goes_on said c k (next ∙ ap (λ (x : List K). first_of x None) e) (closed s.done all)) (inr (record {
              head_lines = s.head_lines;
              parts = s.parts;
              open_lines = part;
              whole = cut;
              headed = s.headed;
              done = s.done ++ said.kind ∷ [];
              todo = ks;
              split = all;
              ran = ran;
              each = s.each;
              apart = apart;
              differ = s.differ;
              few = s.few;
              within = s.within;
            }))
          where
            closed : (done : List K) → form.lines ≡ (done ++ said.kind ∷ []) ++ k ∷ ks → form.begins k ≡ false
            closed [] all = let rest : lawful.rest ≡ [] ++ k ∷ ks = (cons_same form.start said.kind lawful.rest (k ∷ ks) (sym lawful.lines ∙ all)).1 in
                none_at form.begins [] k ks (subst (λ (x : List K). none_is form.begins x ≡ true) rest lawful.rest_begins_none)
            closed (j ∷ js) all = let rest : lawful.rest ≡ (js ++ said.kind ∷ []) ++ k ∷ ks = (cons_same form.start j lawful.rest ((js ++ said.kind ∷ []) ++ k ∷ ks) (sym lawful.lines ∙ all)).1 in
                none_at form.begins (js ++ said.kind ∷ []) k ks (rw (sym rest) lawful.rest_begins_none)

    -- one more line
    step : (lines : List Text) (said : Said K) (line : Text) (e : Option Begun) → entry_of form first end said line ≡ Ok e → Sound first end lines said → Sound first end (lines ++ line ∷ []) (said_next form said e)
    step lines said line e h s = go (words_of line) refl h
      where
        more : is_nonblank line ≡ true → (c : Begun) → line_said form first end said line ≡ Ok c → Sound first end lines said → Sound first end (lines ++ line ∷ []) (said_on form said c (form.next said.kind))
        more nonblank c h (inl s) = head_more lines said line c nonblank (line_passes first end said line c h) s
        more nonblank c h (inr s) = record_more lines said line c nonblank (line_passes first end said line c h) s

        blank : is_nonblank line ≡ false → Sound first end lines said → Sound first end (lines ++ line ∷ []) said
        blank white (inl s) = inl (record { done = s.done; todo = s.todo; split = s.split; ran = ap (run form first end s.done form.nothing) (blank_more lines line white) ∙ s.ran; none = s.none })
        blank white (inr s) = inr (record {
          head_lines = s.head_lines;
          parts = s.parts;
          open_lines = s.open_lines;
          whole = blank_more lines line white ∙ s.whole;
          headed = s.headed;
          done = s.done;
          todo = s.todo;
          split = s.split;
          ran = s.ran;
          each = s.each;
          apart = s.apart;
          differ = s.differ;
          few = s.few;
          within = s.within;
        })

        go : (words : List Text) → words_of line ≡ words → words_entry_of form first end said words line ≡ Ok e → Sound first end (lines ++ line ∷ []) (said_next form said e)
        go [] w h = subst (λ (x : Option Begun). Sound first end (lines ++ line ∷ []) (said_next form said x)) (ok_is None e h) (blank (rw w refl) s)
        go (word ∷ words) w h =
            let p = bind_then (line_said form first end said line) (λ c. Ok (Some c)) e h in
            subst (λ (x : Option Begun). Sound first end (lines ++ line ∷ []) (said_next form said x)) (ok_is (Some p.0) e p.2) (more (rw w refl) p.0 p.1 s)

    none : Sound first end [] (said_first form)
    none = go form.heads refl
      where
        go : (heads : List K) → form.heads ≡ heads → Sound first end [] (said_first form)
        go [] e =
            let start : form.start ≡ form.first = some_is form.start form.first (ap (λ (x : List K). first_of x (Some form.start)) (sym e) ∙ lawful.first) in
            inr (record {
              head_lines = [];
              parts = [];
              open_lines = [];
              whole = refl;
              headed = ap (λ (x : List K). run form first end x form.nothing []) e;
              done = [];
              todo = lawful.rest;
              split = lawful.lines ∙ ap (λ (x : K). x ∷ lawful.rest) start;
              ran = refl;
              each = refl;
              apart = λ named. cc;
              differ = λ i j d lt below. absurd (omega arith);
              few = omega arith;
              within = within_none form.nothing.declared;
            })
        go (k ∷ ks) e =
            let start : k ≡ form.first = some_is k form.first (ap (λ (x : List K). first_of x (Some form.start)) (sym e) ∙ lawful.first) in
            inl (record {
              done = [];
              todo = ks;
              split = e ∙ ap (λ (x : K). x ∷ ks) start;
              ran = refl;
              none = refl;
            })

    front : (lines : List Text) (entries : List (Option Begun)) → Reads (almanac_lines form first end) lines entries → (k : ℕ) → k ≤ length lines → Sound first end (take k lines) (said_behind form (take k entries))
    front lines entries r zero h = none
    front lines entries r (suc k) h =
        let below : k < length lines = omega arith in
        let few : k < length entries = rw r.count below in
        let line = get_or lines k [] in
        let e = get_or entries k None in
        let before = front lines entries r k (omega arith) in
        let next = step (take k lines) (said_behind form (take k entries)) line e (r.each k None below) before in
        let more : said_behind form (take (suc k) entries) ≡ said_next form (said_behind form (take k entries)) e =
        ap (λ (es : List (Option Begun)). said_behind form es) (take-suc entries k None few) ∙ fold-append (said_next form) (said_first form) (take k entries) (e ∷ []) in
        subst (λ (ls : List Text). Sound first end ls (said_behind form (take (suc k) entries))) (sym (take-suc lines k [] below))
        (subst (Sound first end (take k lines ++ line ∷ [])) (sym more) next)

    pub all_sound : (lines : List Text) (entries : List (Option Begun)) → Reads (almanac_lines form first end) lines entries → Sound first end lines (said_behind form entries)
    all_sound lines entries r =
        subst (λ (ls : List Text). Sound first end ls (said_behind form entries)) (take-length lines)
        (subst (λ (es : List (Option Begun)). Sound first end (take (length lines) lines) (said_behind form es)) (ap (λ n. take n entries) (sym r.count) ∙ take-length entries)
        (front lines entries r (length lines) (omega arith)))

    -- where a record begins, no line of it is read
    pub at_start : (done todo : List K) (k : K) → form.lines ≡ done ++ k ∷ todo → form.begins k ≡ true → done ≡ []
    at_start [] todo k all h = refl
    at_start (j ∷ js) todo k all h =
        let rest : lawful.rest ≡ js ++ k ∷ todo = (cons_same form.start j lawful.rest (js ++ k ∷ todo) (sym lawful.lines ∙ all)).1 in
        let no = none_at form.begins js k todo (rw (sym rest) lawful.rest_begins_none) in cc

  counted : (declared : Option ℕ) (n : ℕ) → Within declared n → count_end declared n ≡ None → IsCount declared n
  counted None zero w h = cc
  counted None (suc n) w h = omega arith
  counted (Some said) n w h = go (nat_lt n said) refl h
    where
      go : (b : Bool) → nat_lt n said ≡ b → (if b then Some (CountDiffers said n) else None) ≡ None → n ≡ said
      go true e h = cc
      go false e h = grind (arith, nat_tests)

  ended : (said : Said K) → end_of form said ≡ None → (form.begins said.kind ≡ true) × (count_end said.head.declared (length said.records) ≡ None)
  ended said h = go (form.begins said.kind) refl h
    where
      go : (b : Bool) → form.begins said.kind ≡ b → (if b then count_end said.head.declared (length said.records) else Some Short) ≡ None
          → (form.begins said.kind ≡ true) × (count_end said.head.declared (length said.records) ≡ None)
      go true e h = (e, h)
      go false e h = cc

  -- an accepted almanac means its records
  pub means_records : IsForm form → (span : Span) (lines : List Text) (entries : List (Option Begun)) → Accepts (almanac_records form span) lines entries → IsAlmanac form span lines (records_in form entries)
  means_records lawful span lines entries a = go (all_sound lawful first end lines entries a.reads)
    where
      first : ℕ
      first = unsigned_abs span.first

      end : ℕ
      end = unsigned_abs span.end

      said : Said K
      said = said_behind form entries

      e : (form.begins said.kind ≡ true) × (count_end said.head.declared (length said.records) ≡ None)
      e = ended said a.ends

      closed : (done : List K) (ls : List Text) (c : Begun) → done ≡ [] → run form first end done said.head ls ≡ Ok c → ls ≡ []
      closed [] [] c e h = refl
      closed [] (l ∷ ls) c e h = cc
      closed (k ∷ ks) ls c e h = cc

      go : Sound first end lines said → IsAlmanac form span lines (records_in form entries)
      go (inl s) = let no = none_at form.begins s.done said.kind s.todo (rw (sym s.split) lawful.heads_begin_none) in absurd (clash no e.0)
        where
          clash : form.begins said.kind ≡ false → form.begins said.kind ≡ true → ⊥
          clash p q = cc
      go (inr s) =
          let none = closed s.done s.open_lines said.current (at_start lawful first end s.done s.todo said.kind s.split e.0) s.ran in
          record {
            head_lines = s.head_lines;
            parts = s.parts;
            head = said.head;
            whole = s.whole ∙ ap (λ (x : List Text). s.head_lines ++ (flat_map (λ part. part) s.parts ++ x)) none ∙ ap (λ (x : List Text). s.head_lines ++ x) (append-nil (flat_map (λ part. part) s.parts));
            headed = s.headed;
            each = s.each;
            distinct = s.differ;
            few = s.few;
            count = counted said.head.declared (length said.records) s.within e.1;
          }
