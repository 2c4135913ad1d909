-- Where the body of a block ends: no line of a report begins a block, and neither does a line in its place.
use Rattle.std.proofs.Common.{◌≡◌, ◌≢◌, ◌⊎◌, ◌<◌, ◌+◌, ◌/◌, ◌||◌, ℕ, Bool, true, false, List, [], ◌∷◌, ◌++◌, length, drop, refl, sym, ap, ◌∙◌, subst, append_assoc, arith, inl, inr}
use Rattle.std.specs.Prelude.{codes}
use Rattle.raim_model.specs.declared.verdict.Run.{Run}
use Rattle.text_lines.specs.Lines.{Text, is_inside, onto_first}
use Rattle.text_lines.proofs.Cuts.{AllTrue}
use Rattle.text_lines.proofs.Feeds.{inside_all}
use Rattle.report_text.specs.Marks.{is_other}
use Rattle.report_text.specs.Report.{IsReport, IsLineOf, verdict_text}
use Rattle.report_text.specs.ReportLines.{pieces_of}
use Rattle.report_text.proofs.PieceLemmas.{pieces-cons}
use Rattle.report_text.proofs.PlainLemmas.{line_other}
use Rattle.fleet_text.specs.Fleet.{head_of, block_of, blocks_from}
use Rattle.chart_text.specs.Blocks.{Said, Flew, Reason, begins, is_head, is_reason, body_in, body_of, IsBodyOf, IsSayable}
use Rattle.chart_text.proofs.BeginLemmas.{begins_back, begins_front, head_begins}

-- a text of which another byte is the first does not begin so
pub not_begun : (b c : ℕ) (bs cs : Text) → b ≢ c → begins (b ∷ bs) (c ∷ cs) ≡ false
not_begun b c bs cs other = go (begins (b ∷ bs) (c ∷ cs)) refl
  where
    go : (t : Bool) → begins (b ∷ bs) (c ∷ cs) ≡ t → t ≡ false
    go false e = refl
    go true e = let same = begins_back (b ∷ bs) (c ∷ cs) e in absurd (other cc)

-- a text that begins with a digit begins no block
pub digit_no_head : (b : ℕ) (bs : Text) → b < 58 → is_head (b ∷ bs) ≡ false
digit_no_head b bs low = not_begun b 114 bs (codes "oute ") (λ e. absurd (omega arith))

-- and is no line in the place of a report
pub digit_no_reason : (b : ℕ) (bs : Text) → b < 58 → is_reason (b ∷ bs) ≡ false
digit_no_reason b bs low =
    rw (not_begun b 114 bs (codes "efused ") (λ e. absurd (omega arith)), not_begun b 111 bs (codes "verflow at ") (λ e. absurd (omega arith)), not_begun b 109 bs (codes "ore than ") (λ e. absurd (omega arith))) refl

-- a text that begins with a digit
abbrev pub BeginsWithDigit : Text → Type 0
BeginsWithDigit text = (b : ℕ) × (bs : Text) × (b < 58) × (text ≡ b ∷ bs)

-- as a line of a report does
pub line_digit : (run : Run) (line more : Text) → IsLineOf 0 run line → BeginsWithDigit (line ++ more)
line_digit run line more is = (
  48 + is.starts.civil.date.year / 1000,
  _,
  (let small = is.starts.spelled.date.year in omega arith),
  ap (λ (t : Text). t ++ more) (is.spelled ∙ ap (λ (t : Text). t ++ codes " " ++ is.end ++ codes " " ++ verdict_text run.verdict) is.starts.spelled.spelled),
)

-- and a report that has one
pub report_digit : (runs : List Run) (text : Text) → IsReport 0 runs text → (text ≡ []) ⊎ BeginsWithDigit text
report_digit [] text printed = inl printed
report_digit (run ∷ runs) text printed = inr (subst BeginsWithDigit (sym printed.4) (line_digit run printed.0 (10 ∷ printed.1) printed.2))

-- so a report is no line in its place
pub report_no_reason : (runs : List Run) (text : Text) → IsReport 0 runs text → is_reason text ≡ false
report_no_reason runs text printed = go (report_digit runs text printed)
  where
    go : (text ≡ []) ⊎ BeginsWithDigit text → is_reason text ≡ false
    go (inl e) = rw e refl
    go (inr d) = ap is_reason d.3 ∙ digit_no_reason d.0 d.1 d.2

-- a line and its feed, where the line does not begin a block
body_after : (line back : Text) → AllTrue (is_other 10) line → is_head (line ++ 10 ∷ []) ≡ false → body_of (line ++ 10 ∷ back) ≡ line ++ 10 ∷ body_of back
body_after line back plain other = ap body_in (pieces-cons line back plain) ∙ rw other refl ∙ append_assoc line (10 ∷ []) (body_of back)

-- nothing, or what begins a block
abbrev pub Stops : Text → Type 0
Stops back = (back ≡ []) ⊎ (is_head back ≡ true)

-- the body ends before it
pub body_stops : (back : Text) → Stops back → body_of back ≡ []
body_stops back (inl e) = ap body_of e
body_stops back (inr h) = ap body_of (begins_back back (codes "route ") h) ∙ go (pieces_of (drop 6 back))
  where
    go : (pieces : List Text) → body_in (onto_first 114 (onto_first 111 (onto_first 117 (onto_first 116 (onto_first 101 (onto_first 32 pieces)))))) ≡ []
    go [] = refl
    go (p ∷ ps) = refl

report_body : (runs : List Run) (body back : Text) → IsReport 0 runs body → Stops back → body_of (body ++ back) ≡ body
report_body [] body back printed stops = ap (λ (t : Text). body_of (t ++ back)) printed ∙ body_stops back stops ∙ sym printed
report_body (run ∷ runs) body back printed stops =
    let line : Text = printed.0 in
    let rest : Text = printed.1 in
    let first = line_digit run line (10 ∷ []) printed.2 in
    let other : is_head (line ++ 10 ∷ []) ≡ false = ap is_head first.3 ∙ digit_no_head first.0 first.1 first.2 in
    ap (λ (t : Text). body_of (t ++ back)) printed.4 ∙ ap body_of (append_assoc line (10 ∷ rest) back)
    ∙ body_after line (rest ++ back) (line_other 0 run line printed.2) other
    ∙ ap (λ (t : Text). line ++ 10 ∷ t) (report_body runs rest back printed.3 stops) ∙ sym printed.4

-- the first byte or the second tells a line in the place of a report from one that begins a block
begun_twice : (text : Text) (b c x y : ℕ) (bs cs xs : Text) → begins text (b ∷ c ∷ bs) ≡ true → text ++ xs ≡ x ∷ y ∷ cs → (x ≡ b) × (y ≡ c)
begun_twice text b c x y bs cs xs h e = let front = begins_back text (b ∷ c ∷ bs) h in let whole : b ∷ c ∷ bs ++ drop (length (b ∷ c ∷ bs)) text ++ xs ≡ x ∷ y ∷ cs = sym (ap (λ (t : Text). t ++ xs) front) ∙ e in (cc, cc)

either : (a b : Bool) → (a || b) ≡ true → (a ≡ true) ⊎ (b ≡ true)
either true b h = inl refl
either false b h = inr h

-- a line in the place of a report begins no block
reason_no_head : (line more : Text) → is_reason line ≡ true → is_head (line ++ more) ≡ false
reason_no_head line more h = go (is_head (line ++ more)) refl
  where
    clash : (text : Text) → line ++ more ≡ codes "route " ++ text → ⊥
    clash text e = three (either (begins line (codes "refused ") || begins line (codes "overflow at ")) (begins line (codes "more than ")) h)
      where
        two : (begins line (codes "refused ") ≡ true) ⊎ (begins line (codes "overflow at ") ≡ true) → ⊥
        two (inl r) = let same = (begun_twice line 114 101 114 111 (codes "fused ") (codes "ute " ++ text) more r e).1 in absurd (omega arith)
        two (inr o) = let same = (begun_twice line 111 118 114 111 (codes "erflow at ") (codes "ute " ++ text) more o e).0 in absurd (omega arith)

        three : ((begins line (codes "refused ") || begins line (codes "overflow at ")) ≡ true) ⊎ (begins line (codes "more than ") ≡ true) → ⊥
        three (inl t) = two (either (begins line (codes "refused ")) (begins line (codes "overflow at ")) t)
        three (inr m) = let same = (begun_twice line 109 111 114 111 (codes "re than ") (codes "ute " ++ text) more m e).0 in absurd (omega arith)

    go : (t : Bool) → is_head (line ++ more) ≡ t → t ≡ false
    go false e = refl
    go true e = absurd (clash _ (begins_back (line ++ more) (codes "route ") e))

-- more behind it changes nothing
begins_more : (text front more : Text) → begins text front ≡ true → begins (text ++ more) front ≡ true
begins_more text front more h = begins_front (text ++ more) front (drop (length front) text ++ more) (ap (λ (t : Text). t ++ more) (begins_back text front h) ∙ append_assoc front (drop (length front) text) more)

pub reason_more : (line more : Text) → is_reason line ≡ true → is_reason (line ++ more) ≡ true
reason_more line more h = three (either (begins line (codes "refused ") || begins line (codes "overflow at ")) (begins line (codes "more than ")) h)
  where
    first : (a b : Bool) → a ≡ true → (a || b) ≡ true
    first a b e = rw e refl

    last : (a b : Bool) → b ≡ true → (a || b) ≡ true
    last true b e = refl
    last false b e = e

    two : (begins line (codes "refused ") ≡ true) ⊎ (begins line (codes "overflow at ") ≡ true) → (begins (line ++ more) (codes "refused ") || begins (line ++ more) (codes "overflow at ")) ≡ true
    two (inl r) = first _ _ (begins_more line (codes "refused ") more r)
    two (inr o) = last (begins (line ++ more) (codes "refused ")) _ (begins_more line (codes "overflow at ") more o)

    three : ((begins line (codes "refused ") || begins line (codes "overflow at ")) ≡ true) ⊎ (begins line (codes "more than ") ≡ true) → is_reason (line ++ more) ≡ true
    three (inl t) = first _ _ (two (either (begins line (codes "refused ")) (begins line (codes "overflow at ")) t))
    three (inr m) = last (begins (line ++ more) (codes "refused ") || begins (line ++ more) (codes "overflow at ")) _ (begins_more line (codes "more than ") more m)

-- what a block says stands before the next block
pub said_body : (said : Said) (body back : Text) → IsBodyOf said body → IsSayable said → Stops back → body_of (body ++ back) ≡ body
said_body (Flew runs) body back is sayable stops = report_body runs body back is stops
said_body (Reason line) body back is sayable stops =
    ap (λ (t : Text). body_of (t ++ back)) is ∙ ap body_of (append_assoc line (10 ∷ []) back)
    ∙ body_after line back (inside_all is_inside line sayable.0) (reason_no_head line (10 ∷ []) sayable.1)
    ∙ ap (λ (t : Text). line ++ 10 ∷ t) (body_stops back stops) ∙ sym is

-- blocks begin with the head of the first
pub block_splits : (number : ℕ) (body more : Text) → block_of number body ++ more ≡ head_of number ++ (body ++ more)
block_splits number body more = append_assoc (head_of number) body more

pub blocks_stop : (number : ℕ) (bodies : List Text) → Stops (blocks_from number bodies)
blocks_stop number [] = inl refl
blocks_stop number (body ∷ bodies) = inr (head_begins number _ (body ++ blocks_from (number + 1) bodies) (block_splits number body (blocks_from (number + 1) bodies)))
