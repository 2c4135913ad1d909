-- What is seen over a piece holds for every solution, and stays on each piece inside.
use Rattle.std.specs.Prelude.{◌≡◌, ℕ, ◌<◌, ◌≤◌, ℤ, ◌≤ℤ◌, if◌then◌else◌, List, [], ◌∷◌, map, length, Some, None, refl}
use Rattle.std.proofs.Common.{arith, ap, sym, subst, ◌∙◌}
use Rattle.std.proofs.lemmas.Int.{ints}
use Rattle.raim_model.specs.declared.almanac.AlmRecord.{AlmRecord}
use Rattle.raim_model.specs.CaseCuts.{InRootPiece}
use Rattle.raim_model.specs.CaseRanges.{IsCase}
use Rattle.raim_model.specs.Level.{Level}
use Rattle.raim_model.specs.Receiver.{Site, site}
use Rattle.raim_model.specs.Solution.{Case, Sighting, Sightings, Solution, is_seen, usable, rows_of}
use Rattle.flight_laws.proofs.Usable.{usable_same, usable_recorded}
use Rattle.slope_laws.specs.Rows.{NamedRow, NamedRowsLie, NamedRowsInside}
use Rattle.slope_test.specs.Named.{named}
use Rattle.verdict_laws.specs.Sights.{Sight, Visible, Hidden, Straddles, Sighted, sighted_over, count_possible, or_straddling, first_straddling, with_row, rows_seen}
use Rattle.verdict_laws.specs.Hold.{Shows}
use Rattle.verdict_laws.proofs.Seen.{AllLeave, count_left, SameSeen, same_seen}
use Rattle.verdict_laws.proofs.Pieces.{all_leave, all_show}
use Rattle.verdict_laws.proofs.Shown.{AllShow, RowsShown, rows_shown}
use Rattle.case_laws.specs.PieceVerdict.{seen_of}
use Rattle.case_laws.specs.SightOver.{sight_over}
use Rattle.case_laws.proofs.Looks.{sights_hold}
use Rattle.piece_verdict.specs.declared.looks.Looks.{Looks}
use Rattle.piece_verdict.specs.declared.looks.Looks.TheVariants.{Few, Straddle, Rows}
use Rattle.piece_verdict.specs.Looks.{AreLooks, LeavesLooks, visible_prns, prns_of}

-- ---- on each piece inside
-- what is seen inside, by cases of what is seen over the wider piece
leave : (n : ℕ) (wide inside : List Sighted) → count_possible inside ≤ count_possible wide → (first_straddling wide ≡ None → SameSeen wide inside)
    → (w i : Looks) → AreLooks n wide w → AreLooks n inside i → LeavesLooks w i
leave n wide inside le same Few Few h k = refl
leave n wide inside le same Few (Straddle prn) h k = absurd (let m = k.0 in omega arith)
leave n wide inside le same Few (Rows rows) h k = absurd (let m = k.0 in omega arith)
leave n wide inside le same (Straddle prn) i h k = tt
leave n wide inside le same (Rows w) Few h k = absurd (let m = h.0 in let e = (same h.1).count in omega arith)
leave n wide inside le same (Rows w) (Straddle prn) h k = absurd (let a : Some prn ≡ None = sym k.1 ∙ (same h.1).none in cc)
leave n wide inside le same (Rows w) (Rows rows) h k =
    subst (λ xs. NamedRowsInside xs (named w.items)) (sym k.2) (subst (λ ws. NamedRowsInside (rows_seen inside) ws) (sym h.2) (same h.1).rows)

-- what a test makes of it
pub looks_leave : (c : Case) → IsCase c → (first last a b : ℤ) → InRootPiece c first last → first ≤ℤ a → a ≤ℤ b → b ≤ℤ last
    → (n : ℕ) (w i : Looks) → AreLooks n (seen_of c first last) w → AreLooks n (seen_of c a b) i → LeavesLooks w i
looks_leave c i first last a b p low ordered high n w x h k =
    let f : AlmRecord → Sight = λ rec. sight_over c rec first last in
    let g : AlmRecord → Sight = λ rec. sight_over c rec a b in
    let e : usable c a ≡ usable c first = usable_same c first last a p low (omega (arith, ints)) in
    let l : AllLeave f g (usable c first) = all_leave c (sight_over c) (sights_hold c i) first last a b p low ordered high (usable c first) (usable_recorded c first) in
    leave n (sighted_over f (usable c first)) (sighted_over g (usable c first)) (count_left f g (usable c first) l) (same_seen f g (usable c first) l) w x h
    (subst (λ recs. AreLooks n (sighted_over g recs) x) e k)

-- ---- in every solution
-- those of a solution
shown : (c : Case) → IsCase c → (first last t : ℤ) → InRootPiece c first last → first ≤ℤ t → t ≤ℤ last → (N : Level) (s : Solution N c t)
    → AllShow N c t (site s.receiver) (λ rec. sight_over c rec first last) (usable c t) s.sightings
shown c i first last t p low high N s = all_show c (sight_over c) (sights_hold c i) first last t p low high N s.leg s.receiver (usable c t) (usable_recorded c t) s.sightings

-- what is seen of the satellites that are usable at t is what is seen over the piece
seen_at : (c : Case) (first last t : ℤ) → InRootPiece c first last → first ≤ℤ t → t ≤ℤ last → sighted_over (λ rec. sight_over c rec first last) (usable c t) ≡ seen_of c first last
seen_at c first last t p low high = ap (λ recs. sighted_over (λ rec. sight_over c rec first last) recs) (usable_same c first last t p low high)

-- how many rows a solution has, and what they are where none straddles
rows_in : (c : Case) → IsCase c → (first last t : ℤ) → InRootPiece c first last → first ≤ℤ t → t ≤ℤ last → (N : Level) (s : Solution N c t) → RowsShown (seen_of c first last) (rows_of s)
rows_in c i first last t p low high N s =
    subst (λ seen. RowsShown seen (rows_of s)) (seen_at c first last t p low high)
    (rows_shown N c t (site s.receiver) (λ rec. sight_over c rec first last) (usable c t) s.sightings (shown c i first last t p low high N s))

-- too few may be visible
pub few_rows : (c : Case) → IsCase c → (first last t : ℤ) → InRootPiece c first last → first ≤ℤ t → t ≤ℤ last → (N : Level) (s : Solution N c t) → (n : ℕ) → count_possible (seen_of c first last) < n → length (rows_of s) < n
few_rows c i first last t p low high N s n h = let le = (rows_in c i first last t p low high N s).count in omega arith

-- the rows lie in those that are seen
pub rows_lie : (c : Case) → IsCase c → (first last t : ℤ) → InRootPiece c first last → first ≤ℤ t → t ≤ℤ last → (N : Level) (s : Solution N c t)
    → (rows : List NamedRow) → first_straddling (seen_of c first last) ≡ None → rows ≡ rows_seen (seen_of c first last) → NamedRowsLie rows (rows_of s)
rows_lie c i first last t p low high N s rows none e = subst (λ rs. NamedRowsLie rs (rows_of s)) (sym e) ((rows_in c i first last t p low high N s).rows none)

-- the numbers of the rows' satellites
abbrev numbers : List NamedRow → List ℕ
numbers rows = map (λ row. row.prn) rows

-- a satellite more
number_here : (N : Level) (c : Case) (t : ℤ) (from : Site) (rec : AlmRecord) (w : Sight) (s : Sighting N c t from rec) (seen : List Sighted) (prns : List ℕ) → Shows w s
    → or_straddling rec.prn w (first_straddling seen) ≡ None → (first_straddling seen ≡ None → numbers (rows_seen seen) ≡ prns)
    → numbers (with_row rec.prn w (rows_seen seen)) ≡ (if is_seen s then rec.prn ∷ prns else prns)
number_here N c t from rec (Visible r) s seen prns h o k = rw h.0 (ap (λ xs. rec.prn ∷ xs) (k o))
number_here N c t from rec Hidden s seen prns h o k = rw h (k o)
number_here N c t from rec Straddles s seen prns h o k = absurd (cc)

-- the numbers of the satellites that are visible
numbers_shown : (N : Level) (c : Case) (t : ℤ) (from : Site) (sight : AlmRecord → Sight) (recs : List AlmRecord) (s : Sightings N c t from recs) → AllShow N c t from sight recs s
    → first_straddling (sighted_over sight recs) ≡ None → numbers (rows_seen (sighted_over sight recs)) ≡ visible_prns N c t from recs s
unfolding visible_prns
numbers_shown N c t from sight [] s h o = refl
numbers_shown N c t from sight (rec ∷ recs) s h o =
    number_here N c t from rec (sight rec) s.0 (sighted_over sight recs) (visible_prns N c t from recs s.1) h.0 o (numbers_shown N c t from sight recs s.1 h.1)

-- and of a solution
pub prns_are : (c : Case) → IsCase c → (first last t : ℤ) → InRootPiece c first last → first ≤ℤ t → t ≤ℤ last → (N : Level) (s : Solution N c t)
    → (rows : List NamedRow) → first_straddling (seen_of c first last) ≡ None → rows ≡ rows_seen (seen_of c first last) → numbers rows ≡ prns_of s
prns_are c i first last t p low high N s rows none e =
    let f : AlmRecord → Sight = λ rec. sight_over c rec first last in
    let same : sighted_over f (usable c t) ≡ seen_of c first last = seen_at c first last t p low high in
    ap numbers (e ∙ ap rows_seen (sym same))
    ∙ numbers_shown N c t (site s.receiver) f (usable c t) s.sightings (shown c i first last t p low high N s) (ap first_straddling same ∙ none)
