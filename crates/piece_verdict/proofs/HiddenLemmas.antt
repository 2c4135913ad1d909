-- What is known of the satellites that are hidden.
use Rattle.std.specs.Prelude.{◌≡◌, ℕ, ◌<◌, ◌≤◌, ◌-◌, ◌⊎◌, ℤ, ◌≤ℤ◌, Bool, true, false, List, length, slice_index_or, All, AllPairs, Contains, refl}
use Rattle.std.proofs.Common.{◌≢◌, arith, ap, sym, subst, inl, inr, ◌∙◌}
use Rattle.std.proofs.lemmas.Bool.{cases_lt}
use Rattle.std.proofs.lemmas.Int.{ints}
use Rattle.std.proofs.lemmas.List.{get_or_default}
use Rattle.raim_model.specs.declared.almanac.AlmRecord.{AlmRecord}
use Rattle.raim_model.specs.declared.limits.Weight.{Weight}
use Rattle.raim_model.specs.AlmanacInForce.{in_force}
use Rattle.raim_model.specs.CaseCuts.{MayBeJudged}
use Rattle.raim_model.specs.Solution.{Case}
use Rattle.fix_interval.specs.Ends.{Ends}
use Rattle.site_laws.specs.Frames.{FrameEnds}
use Rattle.site_laws.specs.Sights.{SightEnds, hidden}
use Rattle.slope_test.proofs.MarkLemmas.{same_or_not, none_marked}
use Rattle.verdict_laws.specs.Hold.{LeavesSight}
use Rattle.verdict_laws.specs.Sights.{Sight, Hidden}
use Rattle.case_laws.specs.SightOver.{mask_of, sight_given, sight_over}
use Rattle.case_laws.proofs.Looks.{sights_hold}
use Rattle.piece_verdict.specs.Hidden.{is_marked, KnowsHidden, AddsHidden}
use Rattle.piece_verdict.specs.HiddenLaws.{listed_in_force}
use Rattle.piece_verdict.specs.Views.{seen_from}

-- ---- one satellite more
-- two records of one number are one
distinct : (recs : List AlmRecord) → AllPairs (λ before after. before.prn < after.prn) recs → All (λ rec. 1 ≤ rec.prn) recs → (i j : ℕ) (d : AlmRecord) → i < length recs → j < length recs
    → (slice_index_or recs i d).prn - 1 ≡ (slice_index_or recs j d).prn - 1 → slice_index_or recs i d ≡ slice_index_or recs j d
distinct recs rising some i j d p q e = elim (same_or_not i j) [
  | inl h ↦ ap (λ k. slice_index_or recs k d) h
  | inr h ↦ elim (cases_lt i j) [
    | inl lt ↦ absurd (let a = rising i j d lt q in let b = some i d p in let c = some j d q in omega arith)
    | inr le ↦ absurd (let a = rising j i d (omega arith) p in let b = some i d p in let c = some j d q in omega arith)
  ]
]

-- where it may be marked, others stay as they are
pub adds_more : (sight : AlmRecord → Sight) (recs : List AlmRecord) (before old new : List Bool) (i : ℕ) (rec : AlmRecord) → AllPairs (λ before after. before.prn < after.prn) recs → All (λ rec. 1 ≤ rec.prn) recs
    → i < length recs → rec ≡ slice_index_or recs i rec → (is_marked new rec ≡ true → (is_marked old rec ≡ true) ⊎ (sight rec ≡ Hidden)) → (is_marked before rec ≡ true → new ≡ old)
    → ((k : ℕ) → k ≢ rec.prn - 1 → slice_index_or new k false ≡ slice_index_or old k false) → AddsHidden sight recs before old → AddsHidden sight recs before new
adds_more sight recs before old new i rec rising some p is found kept others h = record {
  kept = λ q m. elim (same_or_not (q.prn - 1) (rec.prn - 1)) [
    | inl e ↦ subst (λ places. is_marked places q ≡ true) (sym (kept (ap (λ k. slice_index_or before k false) (sym e) ∙ m))) (h.kept q m)
    | inr d ↦ others (q.prn - 1) d ∙ h.kept q m
  ];
  found = λ q has m. elim (same_or_not (q.prn - 1) (rec.prn - 1)) [
    | inl e ↦
        let one : q ≡ rec = same q has e in
        elim (found (subst (λ r. is_marked new r ≡ true) one m)) [
          | inl a ↦ h.found q has (subst (λ r. is_marked old r ≡ true) (sym one) a)
          | inr b ↦ inr (ap sight one ∙ b)
        ]
    | inr d ↦ h.found q has (sym (others (q.prn - 1) d) ∙ m)
  ];
}
  where
    same : (q : AlmRecord) → Contains recs q → q.prn - 1 ≡ rec.prn - 1 → q ≡ rec
    same q has e =
        let at : slice_index_or recs has.0 q ≡ q = has.2 in
        let here : slice_index_or recs i q ≡ rec = get_or_default recs i q rec p ∙ sym is in
        sym at ∙ distinct recs rising some has.0 i q has.1 p (ap (λ (r : AlmRecord). r.prn - 1) at ∙ e ∙ ap (λ (r : AlmRecord). r.prn - 1) (sym here)) ∙ here

-- what is hidden is given so
pub hidden_given_of : {A : Type 0} (k : Ends) (look : SightEnds) → A ⊎ (look ≡ hidden) → A ⊎ (sight_given k look ≡ Hidden)
hidden_given_of k look (inl a) = inl a
hidden_given_of k look (inr e) = inr (ap (sight_given k) e)

-- none yet
pub adds_none : (sight : AlmRecord → Sight) (recs : List AlmRecord) (places : List Bool) → AddsHidden sight recs places places
adds_none sight recs places = record { kept = λ rec m. m; found = λ rec has m. inl m }

-- ---- a case
-- what is found from the frame is found over the piece
pub adds_over : (c : Case) (first last : ℤ) (frame : FrameEnds) (mask : Ends) (weights : List Weight) (recs : List AlmRecord) (before now : List Bool) → recs ≡ in_force first c.almanacs → mask ≡ mask_of c.limits → weights ≡ c.limits.weights.items
    → ((rec : AlmRecord) → seen_from frame (mask_of c.limits) c.limits.weights.items first last rec ≡ sight_over c rec first last)
    → AddsHidden (seen_from frame mask weights first last) recs before now → AddsHidden (λ rec. sight_over c rec first last) (in_force first c.almanacs) before now
adds_over c first last frame mask weights recs before now r m w e h =
    let a = subst (λ x. AddsHidden (seen_from frame x weights first last) recs before now) m h in
    let b = subst (λ x. AddsHidden (seen_from frame (mask_of c.limits) x first last) recs before now) w a in
    let d = subst (λ rs. AddsHidden (seen_from frame (mask_of c.limits) c.limits.weights.items first last) rs before now) r b in
    record { kept = d.kept; found = λ rec has t. elim (d.found rec has t) [ inl q ↦ inl q | inr q ↦ inr (sym (e rec) ∙ q) ] }

-- and known of each millisecond
left_hidden : (w i : Sight) → w ≡ Hidden → LeavesSight w i → i ≡ Hidden
left_hidden w i e l = subst (λ x. LeavesSight x i) e l

pub hidden_known : (c : Case) (first last : ℤ) (before now : List Bool) → MayBeJudged c first last → KnowsHidden c before first last
    → AddsHidden (λ rec. sight_over c rec first last) (in_force first c.almanacs) before now → KnowsHidden c now first last
hidden_known c first last before now p k h = λ rec has m t low high.
    elim (h.found rec has m) [
      | inl q ↦ k rec has q t low high
      | inr q ↦ left_hidden (sight_over c rec first last) (sight_over c rec t t) q ((sights_hold c p.case).isotone first last t t p.piece low (omega (arith, ints)) high rec (listed_in_force c p.case first rec has))
    ]

-- ---- of none
pub none_hidden : (c : Case) (first last : ℤ) (places : List Bool) → ((k : ℕ) → slice_index_or places k false ≡ false) → KnowsHidden c places first last
none_hidden c first last places h = λ rec has m t low high. absurd (none_marked places h (rec.prn - 1) m)
