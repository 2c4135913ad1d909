-- A file has no more notices than lines, and no more lines than bytes.
use Rattle.std.proofs.Common.{◌≡◌, ℕ, ◌+◌, ◌≤◌, ◌==◌, ◌&&◌, Bool, true, false, cond, List, [], ◌∷◌, length, Result, Ok, Err, arith, ap}
use Rattle.std.specs.Prelude.{IfOk}
use Rattle.text_lines.specs.Lines.{Text, lines_of, onto_first, begins_with_feed}
use Rattle.notice_model.specs.declared.notice.Notice.{Notice}
use Rattle.nanu_text.specs.declared.stage.Entry.{Entry}
use Rattle.nanu_text.specs.declared.stage.Entry.TheVariants as entry
use Rattle.nanu_text.specs.Nanus.{notices_in}
use Rattle.nanu_text.specs.Answers.{SayNotices}

onto_few : (b : ℕ) (lines : List Text) → length (onto_first b lines) ≤ length lines + 1
onto_few b [] = omega arith
onto_few b (line ∷ lines) = omega arith

lines_few : (text : Text) → length (lines_of text) ≤ length text
lines_few [] = omega arith
lines_few (b ∷ bs) = by_tests (b == 10) (b == 13 && begins_with_feed bs) (lines_few bs)
  where
    by_tests : (feed return : Bool) → length (lines_of bs) ≤ length bs → length (cond feed ([] ∷ lines_of bs) (cond return (lines_of bs) (onto_first b (lines_of bs)))) ≤ length (b ∷ bs)
    by_tests true return few = omega (arith, few)
    by_tests false true few = omega (arith, few)
    by_tests false false few = omega (arith, few, onto_few b (lines_of bs))

notices_few : (entries : List Entry) → length (notices_in entries) ≤ length entries
notices_few [] = omega arith
notices_few (entry.Blank ∷ es) = omega (arith, notices_few es)
notices_few (entry.Goes stage ∷ es) = omega (arith, notices_few es)
notices_few (entry.Ends said ∷ es) = omega (arith, notices_few es)

-- what a file says
few_said : (text : Text) (notices : List Notice) → SayNotices (lines_of text) notices → length notices ≤ length text
few_said text notices said =
    let same : length notices ≡ length (notices_in said.entries) = ap length said.same in
    omega (arith, same, notices_few said.entries, said.accepted.reads.count, lines_few text)

-- and the same of an answer
pub few_answered : {V E : Type 0} (items : V → List Notice) (text : Text) (result : Result V E) → IfOk result (λ v. SayNotices (lines_of text) (items v)) → IfOk result (λ v. length (items v) ≤ length text)
few_answered items text (Ok v) said = few_said text (items v) said
few_answered items text (Err e) said = tt
