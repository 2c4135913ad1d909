-- Four texts have one body, and so a fleet has one text.
use Rattle.std.proofs.Common.{◌≡◌, ◌≢◌, ◌<◌, ℕ, ℤ, List, [], ◌∷◌, ◌++◌, length, zero, suc, slice_index_or, Result, Ok, Err, IfOk, IfErr, refl, sym, ap, ◌∙◌, subst, arith, codes}
use Rattle.raim_model.specs.declared.Run.{Run}
use Rattle.raim_model.specs.Solution.{Case}
use Rattle.raim_base.specs.MemDeskState.{Each}
use Rattle.text_lines.specs.Lines.{Text}
use Rattle.gps_week.proofs.InstantLemmas.{one_text as one_instant}
use Rattle.gps_week.specs.GpsTime.{SpellsInstant}
use Rattle.report_text.specs.Report.{IsReport, prn_text}
use Rattle.raim_base.specs.CauseWords.{refusal_line}
use Rattle.fleet_text.specs.Fleet.{Outcome, IsBody, IsOverflowLine, fleet_text}
use Rattle.fleet_text.specs.Fleet.Outcome.{Predicted, Refused, Overflows, Manifold}
use Rattle.raim_run.specs.declared.Status.{Status}
use Rattle.raim_run.specs.declared.Status.TheVariants as status
use Rattle.raim_run.specs.Texts.{from_texts, held_in, IsPredicted, IsUnpredicted, Settle}
use Rattle.raim_run.proofs.Clashes.{case_once}
use Rattle.raim_run.proofs.PredictLemmas.{are_told, texts_settle}
use Rattle.fleet_run.specs.Blocks.{HaveLeap, IsOutcomeOf, IsBodyOf, AreBodiesOf, with_route}
use Rattle.fleet_run.specs.Laws.{HasOneText, AreAlike, StandsAlone}

-- an outcome and its body, as the answer of a prediction
abbrev answer_of : Outcome → Text → Result Text Status
answer_of (Predicted runs) body = Ok body
answer_of (Refused file line why) body = Err (status.Refused file line why)
answer_of (Overflows at prn) body = Err (status.Overflow at prn)
answer_of Manifold body = Err status.TooManyRuns

-- the line of a status that has no time
abbrev line_of : Status → Text
line_of (status.Refused file line why) = codes "refused " ++ refusal_line file line why
line_of other = []

err_is : (a b : Status) → ◌≡◌ {A = Result Text Status} (Err a) (Err b) → a ≡ b
err_is a b e = cc

module _ (texts : Each Text) where
  is_predicted : (leap : ℕ) (runs : List Run) (body : Text) → IsOutcomeOf texts leap (Predicted runs) → IsReport leap runs body → IsPredicted texts body
  is_predicted leap runs body says report = record { case = says.0; runs = runs; found = says.1; written = subst (λ (l : ℕ). IsReport l runs body) says.2 report }

  is_ok : (leap : ℕ) (outcome : Outcome) (body : Text) → IsOutcomeOf texts leap outcome → IsBody leap outcome body → IfOk (answer_of outcome body) (IsPredicted texts)
  is_ok leap (Predicted runs) body says is = is_predicted leap runs body says is
  is_ok leap (Refused file line why) body says is = tt
  is_ok leap (Overflows at prn) body says is = tt
  is_ok leap Manifold body says is = tt

  is_err : (leap : ℕ) (outcome : Outcome) (body : Text) → IsOutcomeOf texts leap outcome → IfErr (answer_of outcome body) (IsUnpredicted texts)
  is_err leap (Predicted runs) body says = tt
  is_err leap (Refused file line why) body says = says
  is_err leap (Overflows at prn) body says = says.0
  is_err leap Manifold body says = says

  remembered : (outcome : Outcome) (body : Text) → answer_of outcome body ≢ Err status.Memory
  remembered (Predicted runs) body e = cc
  remembered (Refused file line why) body e = cc
  remembered (Overflows at prn) body e = cc
  remembered Manifold body e = cc

  same_leap : (a b : ℕ) → HaveLeap texts a → HaveLeap texts b → a ≡ b
  same_leap a b p q = p.2 ∙ ap (λ (c : Case). c.limits.leap) (case_once from_texts (held_in texts) (are_told texts) p.0 q.0 p.1 q.1) ∙ sym q.2

  same_time : (leap leap' : ℕ) (at at' : ℤ) (prn prn' : ℕ) (body other : Text) → leap ≡ leap' → at ≡ at' → prn ≡ prn' → IsOverflowLine leap at prn body → IsOverflowLine leap' at' prn' other → body ≡ other
  same_time leap leap' at at' prn prn' body other l a p x y =
      let spells = subst (λ (t : ℤ). SpellsInstant x.time leap' t) a (subst (λ (k : ℕ). SpellsInstant x.time k at) l x.spells) in
      let time = one_instant y.time x.time leap' at' y.spells spells in
      x.spelled ∙ ap (λ (t : Text). codes "overflow at " ++ t ++ codes " PRN " ++ prn_text prn ++ 10 ∷ []) time ∙ ap (λ (n : ℕ). codes "overflow at " ++ y.time ++ codes " PRN " ++ prn_text n ++ 10 ∷ []) p ∙ sym y.spelled

  -- of two outcomes with their bodies, where the first settles what is answered
  same_body : (leap leap' : ℕ) (outcome other : Outcome) (body body' : Text) → Settle texts (λ t. t) (answer_of outcome body)
      → IsOutcomeOf texts leap outcome → IsBody leap outcome body → IsOutcomeOf texts leap' other → IsBody leap' other body' → body ≡ body'
  same_body leap leap' (Predicted runs) (Predicted runs') body body' s p a q b = s.predicted body' (is_predicted leap' runs' body' q b)
  same_body leap leap' (Refused file line why) (Predicted runs') body body' s p a q b = absurd (s.predicted body' (is_predicted leap' runs' body' q b))
  same_body leap leap' (Overflows at prn) (Predicted runs') body body' s p a q b = absurd (s.predicted body' (is_predicted leap' runs' body' q b))
  same_body leap leap' Manifold (Predicted runs') body body' s p a q b = absurd (s.predicted body' (is_predicted leap' runs' body' q b))
  same_body leap leap' (Predicted runs) (Refused file line why) body body' s p a q b = absurd (let e = s.refused file line why q in cc)
  same_body leap leap' (Refused file line why) (Refused f n w) body body' s p a q b = a ∙ ap line_of (err_is _ _ (s.refused f n w q)) ∙ sym b
  same_body leap leap' (Overflows at prn) (Refused file line why) body body' s p a q b = absurd (let e = s.refused file line why q in cc)
  same_body leap leap' Manifold (Refused file line why) body body' s p a q b = absurd (let e = s.refused file line why q in cc)
  same_body leap leap' (Predicted runs) (Overflows at prn) body body' s p a q b = absurd (let e = s.overflow at prn q.0 in cc)
  same_body leap leap' (Refused file line why) (Overflows at prn) body body' s p a q b = absurd (let e = s.overflow at prn q.0 in cc)
  same_body leap leap' (Overflows at prn) (Overflows at' prn') body body' s p a q b =
      let e = s.overflow at' prn' q.0 in
      same_time leap leap' at at' prn prn' body body' (same_leap leap leap' p.1 q.1) (at_is at at' prn prn' e) (prn_is at at' prn prn' e) a b
    where
      at_is : (at at' : ℤ) (prn prn' : ℕ) → ◌≡◌ {A = Result Text Status} (Err (status.Overflow at prn)) (Err (status.Overflow at' prn')) → at ≡ at'
      at_is at at' prn prn' e = cc

      prn_is : (at at' : ℤ) (prn prn' : ℕ) → ◌≡◌ {A = Result Text Status} (Err (status.Overflow at prn)) (Err (status.Overflow at' prn')) → prn ≡ prn'
      prn_is at at' prn prn' e = cc
  same_body leap leap' Manifold (Overflows at prn) body body' s p a q b = absurd (let e = s.overflow at prn q.0 in cc)
  same_body leap leap' (Predicted runs) Manifold body body' s p a q b = absurd (let e = s.too_many q in cc)
  same_body leap leap' (Refused file line why) Manifold body body' s p a q b = absurd (let e = s.too_many q in cc)
  same_body leap leap' (Overflows at prn) Manifold body body' s p a q b = absurd (let e = s.too_many q in cc)
  same_body leap leap' Manifold Manifold body body' s p a q b = a ∙ sym b

  pub one_body : (body other : Text) → IsBodyOf texts body → IsBodyOf texts other → body ≡ other
  one_body body other a b =
      let settle : Settle texts (λ t. t) (answer_of a.outcome body)
      = texts_settle texts (λ t. t) (answer_of a.outcome body) (is_ok a.leap a.outcome body a.says a.written) (is_err a.leap a.outcome body a.says) (remembered a.outcome body) in
      same_body a.leap b.leap a.outcome b.outcome body other settle a.says a.written b.says b.written

-- a fleet has one list of bodies
one_bodies : (texts : Each Text) (routes bodies others : List Text) → AreBodiesOf texts routes bodies → AreBodiesOf texts routes others → bodies ≡ others
one_bodies texts [] [] [] a b = refl
one_bodies texts [] [] (o ∷ os) a b = absurd b
one_bodies texts [] (x ∷ xs) others a b = absurd a
one_bodies texts (r ∷ rs) [] others a b = absurd a
one_bodies texts (r ∷ rs) (x ∷ xs) [] a b = absurd b
one_bodies texts (r ∷ rs) (x ∷ xs) (o ∷ os) a b = let first = one_body (with_route texts r) x o a.0 b.0 in let rest = one_bodies texts rs xs os a.1 b.1 in cc

pub one_fleet : HasOneText
one_fleet texts routes text other a b = a.spelled ∙ ap fleet_text (one_bodies texts routes a.bodies b.bodies a.each b.each) ∙ sym b.spelled

-- the body beside a route is its own
body_at : (texts : Each Text) (routes bodies : List Text) (k : ℕ) → AreBodiesOf texts routes bodies → k < length routes → IsBodyOf (with_route texts (slice_index_or routes k [])) (slice_index_or bodies k [])
body_at texts [] bodies k each lt = absurd (omega arith)
body_at texts (r ∷ rs) [] k each lt = absurd each
body_at texts (r ∷ rs) (b ∷ bs) zero each lt = each.0
body_at texts (r ∷ rs) (b ∷ bs) (suc k) each lt = body_at texts rs bs k each.1 (omega arith)

same_texts : (texts other : Each Text) (route route' : Text) → AreAlike texts other → route ≡ route' → with_route texts route ≡ with_route other route'
same_texts texts other route route' alike r = λ i. record { limits = alike.limits i; almanac = alike.almanac i; outages = alike.outages i; route = r i }

pub stands_alone : StandsAlone
stands_alone texts other routes others bodies besides k alike each each' lt lt' same =
    let here = subst (λ (t : Each Text). IsBodyOf t (slice_index_or bodies k [])) (same_texts texts other _ _ alike same) (body_at texts routes bodies k each lt) in
    one_body (with_route other (slice_index_or others k [])) (slice_index_or bodies k []) (slice_index_or besides k []) here (body_at other others besides k each' lt')
