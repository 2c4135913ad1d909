-- A text is refused at one line, for one cause.
use Rattle.std.proofs.Common.{◌≡◌, ◌⊎◌, ◌+◌, ℕ, ℤ, ◌&&◌, Bool, true, false, List, [], ◌∷◌, ◌++◌, length, refl, sym, ap, ap₂, ◌∙◌, subst, append_assoc, arith, inl, inr}
use Rattle.std.specs.Prelude.{All}
use Rattle.std.specs.List.{list_all}
use Rattle.std.proofs.lemmas.List.{append_cancel_left}
use Rattle.std.proofs.lemmas.List.Elements.{All-head, All-tail}
use Rattle.raim_model.specs.declared.TextWhy.{TextWhy}
use Rattle.raim_model.specs.declared.verdict.Run.{Run}
use Rattle.text_lines.specs.Lines.{Text, is_inside}
use Rattle.text_lines.specs.Reading.{number_after}
use Rattle.text_lines.proofs.ReadingLaws.{never_refused, refused_once}
use Rattle.report_text.specs.ReportLines.{report_lines, pieces_of}
use Rattle.report_text.proofs.ReportLaws.{report_reads, one_meaning}
use Rattle.report_chart.specs.Chart.{end_after}
use Rattle.fleet_text.specs.Fleet.{head_of, block_of, blocks_from}
use Rattle.chart_text.specs.LineNumbers.{lines_in, number_behind}
use Rattle.chart_text.specs.Flights.{CannotFollow, BreaksFlight, RefusesFlight}
use Rattle.chart_text.specs.Blocks.{Said, is_reason, body_of, IsSayable, RefusesReason, RefusesBody, RefusesBlock}
use Rattle.chart_text.specs.Fleets.{AreBodiesOf, RefusesFleet}
use Rattle.chart_text.specs.Charts.{is_fleet, RefusesChart}
use Rattle.chart_text.proofs.FlightLemmas.{flight_unbroken}
use Rattle.chart_text.proofs.MeaningLemmas.{true_false, same_first, first_passes, refused_stops, stop_more}

-- two lines and two causes are the same
abbrev pub Same : ℕ → ℕ → TextWhy → TextWhy → Type 0
Same n m cause other = (n ≡ m) × (cause ≡ other)

-- two places in one list are one, or one stands before the other
abbrev Places : (done after : List Run) (run next : Run) → Type 0
Places done after run next =
    ((done ≡ after) × (run ≡ next)) ⊎ (((t : List Run) × (after ≡ done ++ run ∷ t)) ⊎ ((t : List Run) × (done ≡ after ++ next ∷ t)))

places : (done after rest more : List Run) (run next : Run) → done ++ run ∷ rest ≡ after ++ next ∷ more → Places done after run next
places [] [] rest more run next e = inl (refl, cc)
places [] (y ∷ ys) rest more run next e = let head : run ≡ y = cc in inr (inl (ys, ap (λ (r : Run). r ∷ ys) (sym head)))
places (x ∷ xs) [] rest more run next e = let head : x ≡ next = cc in inr (inr (xs, ap (λ (r : Run). r ∷ xs) head))
places (x ∷ xs) (y ∷ ys) rest more run next e =
    let head : x ≡ y = cc in
    let tail : xs ++ run ∷ rest ≡ ys ++ next ∷ more = cc in
    go head (places xs ys rest more run next tail)
  where
    go : x ≡ y → Places xs ys run next → Places (x ∷ xs) (y ∷ ys) run next
    go head (inl p) = inl (ap₂ ◌∷◌ head p.0, p.1)
    go head (inr (inl p)) = inr (inl (p.0, ap₂ ◌∷◌ (sym head) p.1))
    go head (inr (inr p)) = inr (inr (p.0, ap₂ ◌∷◌ head p.1))

-- a front of runs begins with the first
begins_so : (runs : List Run) (first : Run) (later done t more : List Run) (run : Run) → runs ≡ first ∷ later → runs ≡ done ++ run ∷ t ++ more → (rest : List Run) × (done ++ run ∷ t ≡ first ∷ rest)
begins_so runs first later [] t more run e s = let whole = sym e ∙ s in let head : first ≡ run = cc in (t, ap (λ (r : Run). r ∷ t) (sym head))
begins_so runs first later (d ∷ ds) t more run e s = let whole = sym e ∙ s in let head : first ≡ d = cc in (ds ++ run ∷ t, ap (λ (r : Run). r ∷ (ds ++ run ∷ t)) (sym head))

-- no run before one that breaks a flight breaks it
not_before : (runs : List Run) (n m : ℕ) (cause other : TextWhy) (f : BreaksFlight runs n cause) (g : BreaksFlight runs m other) (t : List Run) → g.done ≡ f.done ++ f.run ∷ t → ⊥
not_before runs n m cause other f g t e =
    let starts = begins_so runs f.first f.later f.done t (g.run ∷ g.rest) f.run f.starts (g.split ∙ ap (λ (rs : List Run). rs ++ g.run ∷ g.rest) e) in
    flight_unbroken g.done n cause g.before (record {
      first = f.first;
      later = starts.0;
      starts = e ∙ starts.1;
      done = f.done;
      run = f.run;
      rest = t;
      split = e;
      before = f.before;
      here = f.here;
      numbered = f.numbered;
    })

-- a run has one cause
one_cause : (start end : ℤ) (run : Run) (cause other : TextWhy) → CannotFollow start end run cause → CannotFollow start end run other → cause ≡ other
one_cause start end run cause other (inl f) (inl g) = f.0 ∙ sym g.0
one_cause start end run cause other (inl f) (inr g) = absurd (f.1 g.1)
one_cause start end run cause other (inr f) (inl g) = absurd (g.1 f.1)
one_cause start end run cause other (inr f) (inr g) = f.0 ∙ sym g.0

one_break : (runs : List Run) (n m : ℕ) (cause other : TextWhy) → BreaksFlight runs n cause → BreaksFlight runs m other → Same n m cause other
one_break runs n m cause other f g = go (places f.done g.done f.rest g.rest f.run g.run (sym f.split ∙ g.split))
  where
    go : Places f.done g.done f.run g.run → Same n m cause other
    go (inl p) =
        let firsts : f.first ≡ g.first = (let whole = sym f.starts ∙ g.starts in cc) in
        let end : end_after f.first.first f.done ≡ end_after g.first.first g.done = ap₂ (λ (r : Run) (rs : List Run). end_after r.first rs) firsts p.0 in (
          f.numbered ∙ ap (λ (rs : List Run). number_after (length rs)) p.0 ∙ sym g.numbered,
          one_cause g.first.first (end_after g.first.first g.done) g.run cause other
              (subst (λ (r : Run). CannotFollow g.first.first (end_after g.first.first g.done) r cause) p.1
              (subst (λ (t : ℤ). CannotFollow g.first.first t f.run cause) end (subst (λ (r : Run). CannotFollow r.first (end_after f.first.first f.done) f.run cause) firsts f.here)))
              g.here,
        )
    go (inr (inl p)) = absurd (not_before runs n m cause other f g p.0 p.1)
    go (inr (inr p)) = absurd (not_before runs m n other cause g f p.0 p.1)

-- a report is refused once
flight_once : (text : Text) (n m : ℕ) (cause other : TextWhy) → RefusesFlight text n cause → RefusesFlight text m other → Same n m cause other
flight_once text n m cause other (inl f) (inl g) = refused_once (report_lines 0) (pieces_of text) n m cause other f g
flight_once text n m cause other (inl f) (inr g) = absurd (never_refused (report_lines 0) (pieces_of text) g.0 n cause (report_reads 0 g.0 text g.1 g.2) f)
flight_once text n m cause other (inr f) (inl g) = absurd (never_refused (report_lines 0) (pieces_of text) f.0 m other (report_reads 0 f.0 text f.1 f.2) g)
flight_once text n m cause other (inr f) (inr g) =
    one_break f.0 n m cause other f.3 (subst (λ (rs : List Run). BreaksFlight rs m other) (one_meaning 0 f.0 g.0 text f.1 f.2 g.1 g.2) g.3)

-- a line in the place of a report is
feed_inside : (first rest : Text) → list_all is_inside (first ++ 10 ∷ rest) ≡ true → ⊥
feed_inside [] rest e = cc
feed_inside (b ∷ bs) rest e = feed_inside bs rest (tail (is_inside b) (list_all is_inside (bs ++ 10 ∷ rest)) e)
  where
    tail : (a b : Bool) → (a && b) ≡ true → b ≡ true
    tail true b h = h
    tail false b h = cc

reason_once : (body : Text) (n m : ℕ) (cause other : TextWhy) → RefusesReason body n cause → RefusesReason body m other → Same n m cause other
reason_once body n m cause other (inl f) (inl g) = (f.0 ∙ sym g.0, f.1 ∙ sym g.1)
reason_once body n m cause other (inl f) (inr g) = absurd (feed_inside g.2.0 g.2.1 (ap (list_all is_inside) (sym g.2.4) ∙ f.2))
reason_once body n m cause other (inr f) (inl g) = absurd (feed_inside f.2.0 f.2.1 (ap (list_all is_inside) (sym f.2.4) ∙ g.2))
reason_once body n m cause other (inr f) (inr g) = (f.0 ∙ sym g.0, f.1 ∙ sym g.1)

body_once : (body : Text) (n m : ℕ) (cause other : TextWhy) → RefusesBody body n cause → RefusesBody body m other → Same n m cause other
body_once body n m cause other (inl f) (inl g) = reason_once body n m cause other f.1 g.1
body_once body n m cause other (inl f) (inr g) = true_false (is_reason body) f.0 g.0
body_once body n m cause other (inr f) (inl g) = true_false (is_reason body) g.0 f.0
body_once body n m cause other (inr f) (inr g) = flight_once body n m cause other f.1 g.1

block_once : (number : ℕ) (text : Text) (n m : ℕ) (cause other : TextWhy) → RefusesBlock number text n cause → RefusesBlock number text m other → Same n m cause other
block_once number text n m cause other (inl f) (inl g) = (f.line_is ∙ sym g.line_is, f.why_is ∙ sym g.why_is)
block_once number text n m cause other (inl f) (inr g) = absurd (f.other g.tail g.split)
block_once number text n m cause other (inr f) (inl g) = absurd (g.other f.tail f.split)
block_once number text n m cause other (inr f) (inr g) =
    let tail : f.tail ≡ g.tail = append_cancel_left (head_of number) f.tail g.tail (sym f.split ∙ g.split) in
    let same = body_once (body_of g.tail) f.under g.under cause other (subst (λ (t : Text). RefusesBody (body_of t) f.under cause) tail f.refused) g.refused in
    (f.line_is ∙ ap (number_behind 1) same.0 ∙ sym g.line_is, same.1)

-- the blocks before a refused one are the same
record SameFront (number : ℕ) (fronts besides : List Text) (line more : ℕ) (cause other : TextWhy) : Type 0 where
  front_is : blocks_from number fronts ≡ blocks_from number besides
  refusal_is : Same line more cause other

blocks_once : (number : ℕ) (done again : List Said) (fronts besides : List Text) (back beyond : Text) (line more : ℕ) (cause other : TextWhy) → AreBodiesOf done fronts → All IsSayable done → AreBodiesOf again besides → All IsSayable again
    → blocks_from number fronts ++ back ≡ blocks_from number besides ++ beyond → RefusesBlock (number + length done) back line cause → RefusesBlock (number + length again) beyond more other
    → SameFront number fronts besides line more cause other
blocks_once number [] [] [] [] back beyond line more cause other are can too may e f g = record {
  front_is = refl;
  refusal_is = block_once number back line more cause other (subst (λ (n : ℕ). RefusesBlock n back line cause) (omega arith) f)
      (subst (λ (t : Text). RefusesBlock number t more other) (sym e) (subst (λ (n : ℕ). RefusesBlock n beyond more other) (omega arith) g));
}
blocks_once number [] [] [] (o ∷ os) back beyond line more cause other are can too may e f g = absurd too
blocks_once number [] again (b ∷ bs) besides back beyond line more cause other are can too may e f g = absurd are
blocks_once number (s ∷ ss) again [] besides back beyond line more cause other are can too may e f g = absurd are
blocks_once number [] (t ∷ ts) [] [] back beyond line more cause other are can too may e f g = absurd too
blocks_once number (s ∷ ss) [] (b ∷ bs) (o ∷ os) back beyond line more cause other are can too may e f g = absurd too
blocks_once number (s ∷ ss) (t ∷ ts) (b ∷ bs) [] back beyond line more cause other are can too may e f g = absurd too
blocks_once number [] (t ∷ ts) [] (o ∷ os) back beyond line more cause other are can too may e f g =
    absurd (first_passes number t o (blocks_from (number + 1) os ++ beyond) line cause too.0 (All-head IsSayable t ts may)
    (stop_more (number + 1) os beyond (refused_stops (number + length (t ∷ ts)) beyond more other g))
    (subst (λ (u : Text). RefusesBlock number u line cause) (e ∙ append_assoc (block_of number o) (blocks_from (number + 1) os) beyond)
    (subst (λ (n : ℕ). RefusesBlock n back line cause) (omega arith) f)))
blocks_once number (s ∷ ss) [] (b ∷ bs) [] back beyond line more cause other are can too may e f g =
    absurd (first_passes number s b (blocks_from (number + 1) bs ++ back) more other are.0 (All-head IsSayable s ss can)
    (stop_more (number + 1) bs back (refused_stops (number + length (s ∷ ss)) back line cause f))
    (subst (λ (u : Text). RefusesBlock number u more other) (sym e ∙ append_assoc (block_of number b) (blocks_from (number + 1) bs) back)
    (subst (λ (n : ℕ). RefusesBlock n beyond more other) (omega arith) g)))
blocks_once number (s ∷ ss) (t ∷ ts) (b ∷ bs) (o ∷ os) back beyond line more cause other are can too may e f g =
    let first = same_first number s t b o (blocks_from (number + 1) bs ++ back) (blocks_from (number + 1) os ++ beyond) are.0 (All-head IsSayable s ss can)
    (stop_more (number + 1) bs back (refused_stops (number + length (s ∷ ss)) back line cause f)) too.0 (All-head IsSayable t ts may)
    (stop_more (number + 1) os beyond (refused_stops (number + length (t ∷ ts)) beyond more other g))
    (sym (append_assoc (block_of number b) (blocks_from (number + 1) bs) back) ∙ e ∙ append_assoc (block_of number o) (blocks_from (number + 1) os) beyond) in
    let rest = blocks_once (number + 1) ss ts bs os back beyond line more cause other are.1 (All-tail IsSayable s ss can) too.1 (All-tail IsSayable t ts may) first.more_is
    (subst (λ (n : ℕ). RefusesBlock n back line cause) (omega arith) f) (subst (λ (n : ℕ). RefusesBlock n beyond more other) (omega arith) g) in
    record { front_is = ap₂ (λ (x y : Text). block_of number x ++ y) first.body_is rest.front_is; refusal_is = rest.refusal_is }

fleet_once : (text : Text) (n m : ℕ) (cause other : TextWhy) → RefusesFleet text n cause → RefusesFleet text m other → Same n m cause other
fleet_once text n m cause other f g =
    let same = blocks_once 1 f.saids g.saids f.before.0 g.before.0 f.back g.back f.line g.line cause other f.before.1 f.sayable g.before.1 g.sayable
    (ap (λ (t : Text). t ++ f.back) (sym f.before.2) ∙ sym f.split ∙ g.split ∙ ap (λ (t : Text). t ++ g.back) g.before.2)
    (subst (λ (k : ℕ). RefusesBlock k f.back f.line cause) (omega arith) f.here) (subst (λ (k : ℕ). RefusesBlock k g.back g.line other) (omega arith) g.here) in
    let front : f.front ≡ g.front = f.before.2 ∙ same.front_is ∙ sym g.before.2 in
    (f.numbered ∙ ap₂ (λ (t : Text) (k : ℕ). number_behind (lines_in t) k) front same.refusal_is.0 ∙ sym g.numbered, same.refusal_is.1)

-- a text for a chart is refused once
pub chart_once : (text : Text) (n m : ℕ) (cause other : TextWhy) → RefusesChart text n cause → RefusesChart text m other → Same n m cause other
chart_once text n m cause other (inl f) (inl g) = fleet_once text n m cause other f.1 g.1
chart_once text n m cause other (inl f) (inr g) = true_false (is_fleet text) f.0 g.0
chart_once text n m cause other (inr f) (inl g) = true_false (is_fleet text) g.0 f.0
chart_once text n m cause other (inr f) (inr g) = flight_once text n m cause other f.1 g.1
