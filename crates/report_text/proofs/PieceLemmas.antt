-- The first line of a report, and what it says.
use Rattle.std.proofs.Common.{◌≡◌, ◌<◌, ◌==◌, ℕ, [], ◌∷◌, ◌++◌, length, Some, None, Err, ap, ◌∙◌, refl, arith, length-append}
use Rattle.raim_model.specs.declared.TextWhy.TheVariants.{Short}
use Rattle.text_lines.specs.Lines.{Text}
use Rattle.text_lines.proofs.Cuts.{AllTrue}
use Rattle.report_text.specs.Marks.{is_other}
use Rattle.report_text.specs.ReportLines.{pieces_of, cut_at, entry_of, run_of}
use Rattle.report_text.proofs.CutLemmas.{not_true, none_other, cut_plain, cut_back}

-- a line that a line feed ends is the first
pub pieces-cons : (line back : Text) → AllTrue (is_other 10) line → pieces_of (line ++ 10 ∷ back) ≡ (line ++ 10 ∷ []) ∷ pieces_of back
pieces-cons [] back h = refl
pieces-cons (b ∷ bs) back h = rw (not_true (b == 10) h.0, pieces-cons bs back h.1) refl

-- a text without a line feed is one line
pieces-last : (b : ℕ) (bs : Text) → AllTrue (is_other 10) (b ∷ bs) → pieces_of (b ∷ bs) ≡ (b ∷ bs) ∷ []
pieces-last b [] h = rw (not_true (b == 10) h.0) refl
pieces-last b (c ∷ cs) h = rw (not_true (b == 10) h.0, pieces-last c cs h.1) refl

-- a line with its line feed says what it says without it
pub entry_says : (leap : ℕ) (line : Text) → AllTrue (is_other 10) line → entry_of leap (line ++ 10 ∷ []) ≡ run_of leap line
entry_says leap line h = rw (cut_plain 10 line [] h) refl

-- what stands behind a line is shorter
longer : (text line rest : Text) → text ≡ line ++ 10 ∷ rest → length rest < length text
longer text line rest h = rw (h, length-append line (10 ∷ rest)) (omega arith)

-- the first line, where the text has a line feed
pub next_piece : (leap : ℕ) (text : Text) (p : Text × Text) → cut_at 10 text ≡ Some p
    → (pieces_of text ≡ (p.0 ++ 10 ∷ []) ∷ pieces_of p.1) × (entry_of leap (p.0 ++ 10 ∷ []) ≡ run_of leap p.0) × (length p.1 < length text)
next_piece leap text p h =
    let back = cut_back 10 text p h in
    (ap pieces_of back.0 ∙ pieces-cons p.0 p.1 back.1, entry_says leap p.0 back.1, longer text p.0 p.1 back.0)

-- and where it has none: that line is short
pub last_piece : (leap : ℕ) (text : Text) → 0 < length text → cut_at 10 text ≡ None → (pieces_of text ≡ text ∷ []) × (entry_of leap text ≡ Err Short)
last_piece leap [] some h = absurd (omega arith)
last_piece leap (b ∷ bs) some h = (pieces-last b bs (none_other 10 (b ∷ bs) h), rw h refl)
