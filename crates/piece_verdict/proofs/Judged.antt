-- What the answer of a judgement says of the solutions of a piece.
use Rattle.std.specs.Prelude.{◌≡◌, ℕ, ℤ, ◌≤ℤ◌, ◌<ℤ◌, Bool, true, false, List, refl}
use Rattle.std.proofs.Common.{ap, sym, subst, inl, inr, ◌∙◌}
use Rattle.std.proofs.lemmas.Bool.{cases_Bool}
use Rattle.std.proofs.lemmas.Int.{ints}
use Rattle.std.proofs.Common.{arith}
use Rattle.raim_model.specs.declared.verdict.Cmp.TheVariants.{Mask}
use Rattle.raim_model.specs.declared.verdict.Piece.{Piece}
use Rattle.raim_model.specs.declared.verdict.Piece.TheVariants.{Decided, Split}
use Rattle.raim_model.specs.declared.verdict.Verdict.{Verdict}
use Rattle.raim_model.specs.declared.verdict.Verdict.TheVariants.{Undecided}
use Rattle.raim_model.specs.CaseCuts.{MayBeJudged}
use Rattle.raim_model.specs.Judgements.{Answers, is_certain}
use Rattle.raim_model.specs.Level.{Level}
use Rattle.raim_model.specs.Solution.{Case, Solution}
use Rattle.slope_laws.specs.ShiftSlopes.{squared_shift, slopes_for}
use Rattle.slope_laws.proofs.ShiftSlopes.{shift_holds}
use Rattle.verdict_laws.specs.NearMask.{IsNearMaskAlways}
use Rattle.verdict_laws.proofs.Existence.{solution}
use Rattle.verdict_laws.proofs.Masks.{undecided_is_near}
use Rattle.verdict_laws.proofs.Pieces.{piece_is_right}
use Rattle.flight_laws.proofs.Usable.{judged_inside}
use Rattle.case_laws.specs.SightOver.{sight_over}
use Rattle.case_laws.proofs.Choices.{has_choices}
use Rattle.case_laws.proofs.Looks.{sights_hold}
use Rattle.time_split.specs.Told.{MayAnswer}
use Rattle.piece_verdict.specs.declared.alert.Alert.{Alert}
use Rattle.piece_verdict.specs.Alerts.{MayBeJudgedAgainst, shift_of, limit_of, verdict_against, verdict_knowing, HasVerdictAgainst}
use Rattle.piece_verdict.specs.AlertLaws.{some_limit}
use Rattle.piece_verdict.specs.Hidden.{KnowsHidden}
use Rattle.piece_verdict.specs.HiddenLaws.{verdict_sharper, verdict_each, verdict_single}

-- a certain answer is the verdict of every solution
pub judged_right : (alert : Alert) (c : Case) (first last : ℤ) → MayBeJudgedAgainst alert c first last → (answer : Piece) → Answers first last (verdict_against alert c first last) answer
    → (v : Verdict) (t : ℤ) → answer ≡ Decided v → is_certain v ≡ true → first ≤ℤ t → t ≤ℤ last → HasVerdictAgainst alert c t v
judged_right alert c first last p answer a v t e certain low high =
    let h = subst (λ x. Answers first last (verdict_against alert c first last) x) e a in
    subst (λ x. HasVerdictAgainst alert c t x) (sym h.0)
    (piece_is_right (squared_shift (shift_of alert)) (slopes_for (shift_of alert)) (shift_holds (shift_of alert)) c (limit_of alert c) (some_limit alert p.held c p.judged.case) (sight_over c) (sights_hold c p.judged.case) first last t p.judged.piece (subst (λ x. is_certain x ≡ true) h.0 certain) low high)

-- there is a solution at each millisecond
pub judged_solution : (c : Case) (first last : ℤ) → MayBeJudged c first last → (N : Level) (t : ℤ) → first ≤ℤ t → t ≤ℤ last → Solution N c t
judged_solution c first last p N t low high =
    let s = p.piece.started in let o = p.piece.not_over in
    solution c (has_choices c p.case) N t (record { started = omega (arith, ints); not_over = omega (arith, ints) })

-- an answer that is undecided by the mask is of one millisecond, near equality
pub judged_near : (alert : Alert) (c : Case) (first last : ℤ) → MayBeJudgedAgainst alert c first last → (answer : Piece) → Answers first last (verdict_against alert c first last) answer
    → (prn : ℕ) → answer ≡ Decided (Undecided (Mask prn)) → (first ≡ last) × IsNearMaskAlways c first prn
judged_near alert c first last p answer a prn e =
    let h = subst (λ x. Answers first last (verdict_against alert c first last) x) e a in
    let one : first ≡ last = h.1 (ap is_certain (sym h.0)) in
    let w : verdict_against alert c first first ≡ Undecided (Mask prn) = ap (λ t. verdict_against alert c first t) one ∙ sym h.0 in
    let q : MayBeJudged c first first = judged_inside c first last first first p.judged (omega (arith, ints)) (omega (arith, ints)) in
    (one, undecided_is_near (slopes_for (shift_of alert)) (limit_of alert c) c q.case (sight_over c) (sights_hold c q.case) first q.piece prn w)

-- ---- what may be answered by what is known
-- a verdict that is certain, or of a piece that is one millisecond
certain_or_one : (v : Verdict) (first last : ℤ) → (is_certain v ≡ false → first ≡ last) → first <ℤ last → is_certain v ≡ true
certain_or_one v first last one lt = elim (cases_Bool (is_certain v)) [
  | inl e ↦ e
  | inr e ↦ absurd (let at : first ≡ last = one e in omega (arith, ints))
]

-- at each millisecond it is the written verdict
knowing_at : (alert : Alert) (c : Case) (hidden : List Bool) (first last : ℤ) → MayBeJudgedAgainst alert c first last → first ≤ℤ last → KnowsHidden c hidden first last
    → (is_certain (verdict_knowing alert c hidden first last) ≡ false → first ≡ last) → (t : ℤ) → first ≤ℤ t → t ≤ℤ last → verdict_against alert c t t ≡ verdict_knowing alert c hidden first last
knowing_at alert c hidden first last p ordered k one t low high = elim (cases_Bool (is_certain (verdict_knowing alert c hidden first last))) [
  | inl e ↦ verdict_each alert c hidden first last t p k low high e
  | inr e ↦
      let same : first ≡ last = one e in
      let here : t ≡ first = omega (arith, ints) in
      ap (λ u. verdict_against alert c u u) here
      ∙ sym (verdict_single alert c hidden first (subst (λ l. KnowsHidden c hidden first l) (sym same) k))
      ∙ ap (λ l. verdict_knowing alert c hidden first l) same
]

pub answers_knowing : (alert : Alert) (c : Case) (hidden : List Bool) (first last : ℤ) → MayBeJudgedAgainst alert c first last → first ≤ℤ last → KnowsHidden c hidden first last → (answer : Piece)
    → Answers first last (verdict_knowing alert c hidden first last) answer → MayAnswer (verdict_against alert c) first last answer
answers_knowing alert c hidden first last p ordered k Split a = (a.0, open_ (is_certain (verdict_against alert c first last)) refl)
  where
    open_ : (b : Bool) → is_certain (verdict_against alert c first last) ≡ b → is_certain (verdict_against alert c first last) ≡ false
    open_ false e = e
    open_ true e = absurd (let s = verdict_sharper alert c hidden first last p ordered k e in let q : true ≡ false = sym e ∙ ap is_certain (sym s) ∙ a.1 in cc)
answers_knowing alert c hidden first last p ordered k (Decided d) a = (
  record { each = λ t low high. knowing_at alert c hidden first last p ordered k a.1 t low (omega (arith, ints)) ∙ sym a.0 },
  λ lt. ap is_certain a.0 ∙ certain_or_one (verdict_knowing alert c hidden first last) first last a.1 lt,
)
