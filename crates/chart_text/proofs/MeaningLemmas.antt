-- A text says one fleet or one flight, and what says something is not refused.
use Rattle.std.proofs.Common.{◌≡◌, ◌⊎◌, ◌<◌, ◌+◌, ◌&&◌, ℕ, Bool, true, false, List, [], ◌∷◌, ◌++◌, length, drop, Option, Some, Result, Ok, Err, refl, sym, ap, ap₂, ◌∙◌, subst, append_assoc, arith, inl, inr}
use Rattle.std.specs.Prelude.{codes, decimal, All, IfOk, IfErr}
use Rattle.std.specs.List.{list_all}
use Rattle.std.proofs.lemmas.Fmt.{decimal_digit}
use Rattle.std.proofs.lemmas.List.{append_cancel_left, append_cancel_right}
use Rattle.std.proofs.lemmas.List.Elements.{All-head, All-tail}
use Rattle.raim_model.specs.declared.Refusal.{Refusal}
use Rattle.raim_model.specs.declared.Refusal.TheVariants.{Memory, Text as Refused}
use Rattle.raim_model.specs.declared.TextWhy.{TextWhy}
use Rattle.raim_model.specs.declared.verdict.Run.{Run}
use Rattle.text_lines.specs.Lines.{Text, is_inside}
use Rattle.text_lines.proofs.Feeds.{inside_all}
use Rattle.report_text.specs.Report.{IsReport}
use Rattle.report_text.specs.ReportLines.{cut_at}
use Rattle.report_text.proofs.CutLemmas.{cut_plain, some_same}
use Rattle.report_text.proofs.ReportLaws.{one_meaning}
use Rattle.fleet_text.specs.Fleet.{head_of, block_of, blocks_from, fleet_text}
use Rattle.chart_text.specs.Blocks.{Said, Flew, Reason, is_head, is_reason, body_of, IsBodyOf, IsSayable, RefusesReason, RefusesBody, RefusesBlock}
use Rattle.chart_text.specs.Fleets.{AreBodiesOf, IsFleetOf, RefusesFleet}
use Rattle.chart_text.specs.Charts.{Shown, OneFlight, Routes, IsChartText, IsShowable, is_fleet, RefusesChart}
use Rattle.chart_text.specs.Refusals.{IsChartRefused}
use Rattle.chart_text.proofs.BeginLemmas.{begins_back, begins_front, head_begins}
use Rattle.chart_text.proofs.FlightLemmas.{flight_passes, flight_readable}
use Rattle.chart_text.proofs.BodyLemmas.{Stops, BeginsWithDigit, not_begun, said_body, report_digit, report_no_reason, reason_more, block_splits, blocks_stop}

pub true_false : {A : Type 0} (b : Bool) → b ≡ true → b ≡ false → A
true_false true p q = cc
true_false false p q = cc

-- a body says one thing
one_said : (said other : Said) (body : Text) → IsBodyOf said body → IsSayable said → IsBodyOf other body → IsSayable other → said ≡ other
one_said (Flew runs) (Flew others) body is can too may = ap Flew (one_meaning 0 others runs body too (flight_readable others may) is (flight_readable runs can))
one_said (Flew runs) (Reason line) body is can too may =
    true_false (is_reason body) (ap is_reason too ∙ reason_more line (10 ∷ []) may.1) (report_no_reason runs body is)
one_said (Reason line) (Flew runs) body is can too may =
    true_false (is_reason body) (ap is_reason is ∙ reason_more line (10 ∷ []) can.1) (report_no_reason runs body too)
one_said (Reason line) (Reason other) body is can too may = ap Reason (append_cancel_right line other (10 ∷ []) (sym is ∙ too))

-- two texts of blocks that are the same have the same first block, and the same behind it
pub record SameFirst (body other more beyond : Text) : Type 0 where
  pub body_is : body ≡ other
  pub more_is : more ≡ beyond

pub same_first : (number : ℕ) (said again : Said) (body other more beyond : Text) → IsBodyOf said body → IsSayable said → Stops more → IsBodyOf again other → IsSayable again → Stops beyond
    → block_of number body ++ more ≡ block_of number other ++ beyond → SameFirst body other more beyond
same_first number said again body other more beyond is can stops too may ends e =
    let tails : body ++ more ≡ other ++ beyond = append_cancel_left (head_of number) (body ++ more) (other ++ beyond) (sym (block_splits number body more) ∙ e ∙ block_splits number other beyond) in
    let same : body ≡ other = sym (said_body said body more is can stops) ∙ ap body_of tails ∙ said_body again other beyond too may ends in
    record { body_is = same; more_is = append_cancel_left other more beyond (ap (λ (t : Text). t ++ more) (sym same) ∙ tails) }

-- a text of blocks is not empty
some_block : (number : ℕ) (body more : Text) → [] ≡ block_of number body ++ more → ⊥
some_block number body more e = let first : [] ≡ codes "route " ++ (decimal number ++ 10 ∷ (body ++ more)) = e ∙ block_splits number body more ∙ append_assoc (codes "route " ++ decimal number) (10 ∷ []) (body ++ more) ∙ append_assoc (codes "route ") (decimal number) (10 ∷ (body ++ more)) in cc

-- blocks say one thing each
same_blocks : (number : ℕ) (saids others : List Said) (bodies besides : List Text) → AreBodiesOf saids bodies → All IsSayable saids → AreBodiesOf others besides → All IsSayable others
    → blocks_from number bodies ≡ blocks_from number besides → saids ≡ others
same_blocks number [] [] [] [] are can too may e = refl
same_blocks number [] [] [] (o ∷ os) are can too may e = absurd too
same_blocks number [] [] (b ∷ bs) besides are can too may e = absurd are
same_blocks number [] (t ∷ ts) (b ∷ bs) besides are can too may e = absurd are
same_blocks number [] (t ∷ ts) [] [] are can too may e = absurd too
same_blocks number [] (t ∷ ts) [] (o ∷ os) are can too may e = absurd (some_block number o (blocks_from (number + 1) os) e)
same_blocks number (s ∷ ss) others [] besides are can too may e = absurd are
same_blocks number (s ∷ ss) [] (b ∷ bs) (o ∷ os) are can too may e = absurd too
same_blocks number (s ∷ ss) [] (b ∷ bs) [] are can too may e = absurd (some_block number b (blocks_from (number + 1) bs) (sym e))
same_blocks number (s ∷ ss) (t ∷ ts) (b ∷ bs) [] are can too may e = absurd too
same_blocks number (s ∷ ss) (t ∷ ts) (b ∷ bs) (o ∷ os) are can too may e =
    let first = same_first number s t b o (blocks_from (number + 1) bs) (blocks_from (number + 1) os) are.0 (All-head IsSayable s ss can) (blocks_stop (number + 1) bs)
    too.0 (All-head IsSayable t ts may) (blocks_stop (number + 1) os) e in
    ap₂ ◌∷◌ (one_said s t o (subst (IsBodyOf s) first.body_is are.0) (All-head IsSayable s ss can) too.0 (All-head IsSayable t ts may))
    (same_blocks (number + 1) ss ts bs os are.1 (All-tail IsSayable s ss can) too.1 (All-tail IsSayable t ts may) first.more_is)

-- a line in the place of a report passes its tests
reason_passes : (line body : Text) (number : ℕ) (cause : TextWhy) → body ≡ line ++ 10 ∷ [] → list_all is_inside line ≡ true → RefusesReason body number cause → ⊥
reason_passes line body number cause is inside (inl f) = fed line (ap (list_all is_inside) (sym is) ∙ f.2)
  where
    fed : (line : Text) → list_all is_inside (line ++ 10 ∷ []) ≡ true → ⊥
    fed [] e = cc
    fed (b ∷ bs) e = fed bs (inside_tail (is_inside b) (list_all is_inside (bs ++ 10 ∷ [])) e)
      where
        inside_tail : (a b : Bool) → (a && b) ≡ true → b ≡ true
        inside_tail true b h = h
        inside_tail false b h = cc
reason_passes line body number cause is inside (inr f) =
    let first : Text = f.2.0 in
    let rest : Text = f.2.1 in
    empty rest f.2.3 (sym (cut_plain 10 line [] (inside_all is_inside line inside)) ∙ ap (cut_at 10) (sym is ∙ f.2.4) ∙ cut_plain 10 first rest (inside_all is_inside first f.2.2))
  where
    empty : {first : Text} (rest : Text) → 0 < length rest → ◌≡◌ {A = Option (Text × Text)} (Some (line, [])) (Some (first, rest)) → ⊥
    empty {first = first} rest some e = let none : [] ≡ rest = ap (λ (p : Text × Text). p.1) (some_same (line, []) (first, rest) e) in let len = ap length none in absurd (omega arith)

-- what a block may say is not refused
body_passes : (said : Said) (body : Text) (number : ℕ) (cause : TextWhy) → IsBodyOf said body → IsSayable said → RefusesBody body number cause → ⊥
body_passes (Flew runs) body number cause is can (inl f) = true_false (is_reason body) f.0 (report_no_reason runs body is)
body_passes (Flew runs) body number cause is can (inr f) = flight_passes runs body number cause is can f.1
body_passes (Reason line) body number cause is can (inl f) = reason_passes line body number cause is can.0 f.1
body_passes (Reason line) body number cause is can (inr f) = true_false (is_reason body) (ap is_reason is ∙ reason_more line (10 ∷ []) can.1) f.0

-- nor is a block that says so
pub first_passes : (number : ℕ) (said : Said) (body more : Text) (line : ℕ) (cause : TextWhy) → IsBodyOf said body → IsSayable said → Stops more → RefusesBlock number (block_of number body ++ more) line cause → ⊥
first_passes number said body more line cause is can stops (inl f) = f.other (body ++ more) (block_splits number body more)
first_passes number said body more line cause is can stops (inr f) =
    let tail : f.tail ≡ body ++ more = append_cancel_left (head_of number) f.tail (body ++ more) (sym f.split ∙ block_splits number body more) in
    body_passes said body f.under cause is can (subst (λ (t : Text). RefusesBody t f.under cause) (ap body_of tail ∙ said_body said body more is can stops) f.refused)

-- nor is the first of blocks that may say so
block_passes : (number : ℕ) (saids : List Said) (bodies : List Text) (line : ℕ) (cause : TextWhy) → AreBodiesOf saids bodies → All IsSayable saids → RefusesBlock number (blocks_from number bodies) line cause → ⊥
block_passes number [] [] line cause are can (inl f) = let head = f.head in cc
block_passes number [] [] line cause are can (inr f) = let head = head_begins number [] f.tail f.split in cc
block_passes number [] (b ∷ bs) line cause are can f = are
block_passes number (s ∷ ss) [] line cause are can f = are
block_passes number (s ∷ ss) (b ∷ bs) line cause are can f = first_passes number s b (blocks_from (number + 1) bs) line cause are.0 (All-head IsSayable s ss can) (blocks_stop (number + 1) bs) f

-- what is refused begins a block
pub refused_stops : (number : ℕ) (text : Text) (line : ℕ) (cause : TextWhy) → RefusesBlock number text line cause → Stops text
refused_stops number text line cause (inl f) = inr f.head
refused_stops number text line cause (inr f) = inr (head_begins number text f.tail f.split)

-- blocks, and behind them what begins a block
pub stop_more : (number : ℕ) (bodies : List Text) (back : Text) → Stops back → Stops (blocks_from number bodies ++ back)
stop_more number [] back stops = stops
stop_more number (o ∷ os) back stops =
    inr (head_begins number (block_of number o ++ blocks_from (number + 1) os ++ back) (o ++ (blocks_from (number + 1) os ++ back))
    (append_assoc (block_of number o) (blocks_from (number + 1) os) back ∙ block_splits number o (blocks_from (number + 1) os ++ back)))

-- nor a later one
blocks_pass : (number : ℕ) (saids done : List Said) (bodies fronts : List Text) (back : Text) (line : ℕ) (cause : TextWhy) → AreBodiesOf saids bodies → All IsSayable saids → AreBodiesOf done fronts → All IsSayable done
    → blocks_from number bodies ≡ blocks_from number fronts ++ back → RefusesBlock (number + length done) back line cause → ⊥
blocks_pass number saids [] bodies [] back line cause are can too may e f =
    block_passes number saids bodies line cause are can (subst (λ (t : Text). RefusesBlock number t line cause) (sym e) (subst (λ (n : ℕ). RefusesBlock n back line cause) (omega arith) f))
blocks_pass number saids [] bodies (o ∷ os) back line cause are can too may e f = too
blocks_pass number saids (t ∷ ts) bodies [] back line cause are can too may e f = too
blocks_pass number [] (t ∷ ts) [] (o ∷ os) back line cause are can too may e f =
    some_block number o (blocks_from (number + 1) os ++ back) (e ∙ append_assoc (block_of number o) (blocks_from (number + 1) os) back)
blocks_pass number [] (t ∷ ts) (b ∷ bs) (o ∷ os) back line cause are can too may e f = are
blocks_pass number (s ∷ ss) (t ∷ ts) [] (o ∷ os) back line cause are can too may e f = are
blocks_pass number (s ∷ ss) (t ∷ ts) (b ∷ bs) (o ∷ os) back line cause are can too may e f =
    let first = same_first number s t b o (blocks_from (number + 1) bs) (blocks_from (number + 1) os ++ back) are.0 (All-head IsSayable s ss can) (blocks_stop (number + 1) bs)
    too.0 (All-head IsSayable t ts may) (stop_more (number + 1) os back (refused_stops (number + length (t ∷ ts)) back line cause f)) (e ∙ append_assoc (block_of number o) (blocks_from (number + 1) os) back) in
    blocks_pass (number + 1) ss ts bs os back line cause are.1 (All-tail IsSayable s ss can) too.1 (All-tail IsSayable t ts may) first.more_is
    (subst (λ (n : ℕ). RefusesBlock n back line cause) (omega arith) f)

-- so the text of a fleet is not refused
fleet_passes : (saids : List Said) (text : Text) (number : ℕ) (cause : TextWhy) → IsFleetOf saids text → All IsSayable saids → RefusesFleet text number cause → ⊥
fleet_passes saids text number cause fleet can f =
    blocks_pass 1 saids f.saids fleet.0 f.before.0 f.back f.line cause fleet.1 can f.before.1 f.sayable
    (sym fleet.2 ∙ f.split ∙ ap (λ (t : Text). t ++ f.back) f.before.2)
    (subst (λ (n : ℕ). RefusesBlock n f.back f.line cause) (omega arith) f.here)

-- the head of the first block
first_head : head_of 1 ≡ codes "route 1" ++ 10 ∷ []
first_head = ap (λ (d : Text). codes "route " ++ d ++ 10 ∷ []) (decimal_digit 1 (omega arith))

-- the text of a fleet begins with the head of its first block
fleet_begins : (saids : List Said) (text : Text) → 0 < length saids → IsFleetOf saids text → is_fleet text ≡ true
fleet_begins saids text some fleet = go saids fleet.0 fleet.1 fleet.2 some
  where
    go : (saids : List Said) (bodies : List Text) → AreBodiesOf saids bodies → text ≡ fleet_text bodies → 0 < length saids → is_fleet text ≡ true
    go [] bodies are e some = absurd (omega arith)
    go (s ∷ ss) [] are e some = absurd are
    go (s ∷ ss) (b ∷ bs) are e some = begins_front text (codes "route 1" ++ 10 ∷ []) (b ++ blocks_from 2 bs) (e ∙ block_splits 1 b (blocks_from 2 bs) ∙ ap (λ (h : Text). h ++ (b ++ blocks_from 2 bs)) first_head)

-- and the report of a flight does not
report_begins : (runs : List Run) (text : Text) → IsReport 0 runs text → is_fleet text ≡ false
report_begins runs text printed = go (report_digit runs text printed)
  where
    go : (text ≡ []) ⊎ BeginsWithDigit text → is_fleet text ≡ false
    go (inl e) = ap is_fleet e
    go (inr d) = ap is_fleet d.3 ∙ digit_no_fleet d.0 d.1 d.2
      where
        digit_no_fleet : (b : ℕ) (bs : Text) → b < 58 → is_fleet (b ∷ bs) ≡ false
        digit_no_fleet b bs low = not_begun b 114 bs (codes "oute 1" ++ 10 ∷ []) (λ e. absurd (omega arith))

-- a text says one thing
pub one_shown : (text : Text) (shown other : Shown) → IsChartText text shown → IsShowable shown → IsChartText text other → IsShowable other → other ≡ shown
one_shown text (OneFlight runs) (OneFlight others) is can too may = ap OneFlight (one_meaning 0 runs others text is (flight_readable runs can) too (flight_readable others may))
one_shown text (OneFlight runs) (Routes saids) is can too may = true_false (is_fleet text) (fleet_begins saids text too.0 too.1) (report_begins runs text is)
one_shown text (Routes saids) (OneFlight runs) is can too may = true_false (is_fleet text) (fleet_begins saids text is.0 is.1) (report_begins runs text too)
one_shown text (Routes saids) (Routes others) is can too may =
    ap Routes (same_blocks 1 others saids too.1.0 is.1.0 too.1.1 may is.1.1 can (sym too.1.2 ∙ is.1.2))

-- and a text that says something is not refused
pub shown_passes : (text : Text) (shown : Shown) (line : ℕ) (cause : TextWhy) → IsChartText text shown → IsShowable shown → RefusesChart text line cause → ⊥
shown_passes text (OneFlight runs) line cause is can (inl f) = true_false (is_fleet text) f.0 (report_begins runs text is)
shown_passes text (OneFlight runs) line cause is can (inr f) = flight_passes runs text line cause is can f.1
shown_passes text (Routes saids) line cause is can (inl f) = fleet_passes saids text line cause is.1 can f.1
shown_passes text (Routes saids) line cause is can (inr f) = true_false (is_fleet text) (fleet_begins saids text is.0 is.1) f.0

-- over what a reader answers
module _ {C : Type 0} (shown_of : C → Shown) (text : Text) where
  pub answer_again : (r : Result C Refusal) → IfOk r (λ x. IsChartText text (shown_of x)) → IfOk r (λ x. IsShowable (shown_of x)) → (shown : Shown) → IsChartText text shown → IsShowable shown → IfOk r (λ x. shown_of x ≡ shown)
  answer_again (Ok x) is can shown too may = one_shown text shown (shown_of x) too may is can
  answer_again (Err e) is can shown too may = tt

  pub answer_no_fault : (r : Result C Refusal) → IfErr r (IsChartRefused text) → (shown : Shown) → IsChartText text shown → IsShowable shown → IfErr r (λ e. e ≡ Memory)
  answer_no_fault (Ok x) h shown is can = tt
  answer_no_fault (Err Memory) h shown is can = refl
  answer_no_fault (Err (Refused fault)) h shown is can = absurd (shown_passes text shown fault.line fault.why is can h)

-- a fleet's text begins a block
pub fleet_head : (text : Text) → is_fleet text ≡ true → is_head text ≡ true
fleet_head text h = begins_front text (codes "route ") (codes "1" ++ 10 ∷ drop 8 text) (begins_back text (codes "route 1" ++ 10 ∷ []) h)
