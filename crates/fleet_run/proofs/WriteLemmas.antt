-- Block after block.
use Rattle.std.proofs.Common.{◌≡◌, ◌≤◌, ◌+◌, ℕ, suc, List, [], ◌∷◌, ◌++◌, length, IfSome, IfNone, refl, sym, ap, ◌∙◌, subst, arith, append-nil, append_assoc, length-append}
use Rattle.std.specs.declared.option.Option.{Option}
use Rattle.std.specs.declared.option.Option.TheVariants.{Some, None}
use Rattle.std.specs.Io.KnownBytes.{Appends}
use Rattle.std.proofs.KnownBytes.{Appends-nil, Appends-trans}
use Rattle.raim_base.specs.Causes.{GrowsByFront}
use Rattle.raim_base.specs.MemDeskState.{Each}
use Rattle.text_lines.specs.Lines.{Text}
use Rattle.fleet_text.specs.Fleet.{block_of, blocks_from, fleet_text}
use Rattle.fleet_text.specs.Routes.{routes_of, most_routes}
use Rattle.raim_run.specs.declared.Status.{Status}
use Rattle.raim_run.specs.declared.Status.TheVariants.{Done, Usage, Refused, ReadFault, WriteFault, Overflow, TooManyRuns, Memory}
use Rattle.raim_run.specs.Texts.{TakesSteps}
use Rattle.fleet_run.specs.Blocks.{IsBodyOf, AreBodiesOf, with_route}
use Rattle.fleet_run.specs.Causes.{BlocksEnd, BlockEnds}
use Rattle.fleet_run.specs.Steps.{TakeStepsInTurn, TakeFirstSteps}

-- what stands behind the first route
pub later_routes : {X : Type 0} (bytes : X → Text) (text route : Text) (after : Option X) → IfNone after (routes_of text ≡ route ∷ []) → IfSome after (λ r. routes_of text ≡ route ∷ routes_of (bytes r))
    → (later : List Text) × (routes_of text ≡ route ∷ later)
later_routes bytes text route None last first = ([], last)
later_routes bytes text route (Some r) last first = (routes_of (bytes r), first)

-- an option that is no value
pub none_is : {X : Type 0} (o : Option X) → ((x : X) → o ≡ Some x → ⊥) → o ≡ None
none_is None never = refl
none_is (Some x) never = absurd (never x refl)

-- one block more
blocks_more : (number : ℕ) (bodies : List Text) (body : Text) → blocks_from number (bodies ++ body ∷ []) ≡ blocks_from number bodies ++ block_of (number + length bodies) body
blocks_more number [] body = append-nil (block_of number body) ∙ ap (λ (n : ℕ). block_of n body) (same number)
  where
    same : (n : ℕ) → n ≡ n + 0
    same n = omega arith
blocks_more number (b ∷ bs) body =
    ap (λ (t : Text). block_of number b ++ t) (blocks_more (number + 1) bs body)
    ∙ sym (append_assoc (block_of number b) (blocks_from (number + 1) bs) (block_of (number + 1 + length bs) body))
    ∙ ap (λ (n : ℕ). (block_of number b ++ blocks_from (number + 1) bs) ++ block_of n body) (on number (length bs))
  where
    on : (n m : ℕ) → n + 1 + m ≡ n + suc m
    on n m = omega arith

bodies_more : (texts : Each Text) (routes bodies : List Text) (route body : Text) → AreBodiesOf texts routes bodies → IsBodyOf (with_route texts route) body
    → AreBodiesOf texts (routes ++ route ∷ []) (bodies ++ body ∷ [])
bodies_more texts [] [] route body each here = (here, tt)
bodies_more texts [] (b ∷ bs) route body each here = absurd each
bodies_more texts (r ∷ rs) [] route body each here = absurd each
bodies_more texts (r ∷ rs) (b ∷ bs) route body each here = (each.0, bodies_more texts rs bs route body each.1 here)

as_long : (texts : Each Text) (routes bodies : List Text) → AreBodiesOf texts routes bodies → length bodies ≡ length routes
as_long texts [] [] each = refl
as_long texts [] (b ∷ bs) each = absurd each
as_long texts (r ∷ rs) [] each = absurd each
as_long texts (r ∷ rs) (b ∷ bs) each = ap suc (as_long texts rs bs each.1)

steps_more : (texts : Each Text) (routes : List Text) (route : Text) (old next new : ℕ) → TakeStepsInTurn texts routes old next → TakesSteps (with_route texts route) next new
    → TakeStepsInTurn texts (routes ++ route ∷ []) old new
steps_more texts [] route old next new before here = (new, subst (λ (n : ℕ). TakesSteps (with_route texts route) n new) before here, refl)
steps_more texts (r ∷ rs) route old next new before here = (before.0, before.1, steps_more texts rs route before.0 next new before.2 here)

grows_on : (old now new : Option Text) (done text : Text) → Appends old now done → GrowsByFront now new text → GrowsByFront old new (done ++ text)
grows_on old now new done text before front =
    (done ++ front.0, front.1, ap (λ (t : Text). done ++ t) front.2 ∙ sym (append_assoc done front.0 front.1), Appends-trans old now new done front.0 before front.3)

-- The blocks of the first routes are written: what the output held before and now, the steps before and now, what is left of
-- the routes' file, and the number of the next block.
pub record SoFar (texts : Each Text) (old now : Option Text) (start taken : ℕ) (rest : Text) (number : ℕ) : Type 0 where
  pub first : List Text
  pub bodies : List Text
  pub split : routes_of texts.route ≡ first ++ routes_of rest
  pub each : AreBodiesOf texts first bodies
  pub counted : number ≡ 1 + length bodies
  pub gained : Appends old now (fleet_text bodies)
  pub steps : TakeStepsInTurn texts first start taken

pub begins : (texts : Each Text) (old : Option Text) (start : ℕ) → SoFar texts old old start start texts.route 1
begins texts old start = record { first = []; bodies = []; split = refl; each = tt; counted = refl; gained = Appends-nil old; steps = refl }

module _ (texts : Each Text) (old now : Option Text) (start taken : ℕ) (rest : Text) (number : ℕ) (s : SoFar texts old now start taken rest number) where
  -- the number of a block is no more than one above the most routes
  pub numbered : length (routes_of texts.route) ≤ most_routes → number ≤ 65
  numbered few =
      let long : length (routes_of texts.route) ≡ length s.first + length (routes_of rest) = ap length s.split ∙ length-append s.first (routes_of rest) in
      let same = as_long texts s.first s.bodies s.each in
      let is = s.counted in
      omega arith

  module _ (new : Option Text) (taken' : ℕ) (route : Text) (later : List Text) (next : routes_of rest ≡ route ∷ later) (steps : TakesSteps (with_route texts route) taken taken') where
    split_on : routes_of texts.route ≡ (s.first ++ route ∷ []) ++ later
    split_on = s.split ∙ ap (λ (rs : List Text). s.first ++ rs) next ∙ sym (append_assoc s.first (route ∷ []) later)

    steps_on : TakeStepsInTurn texts (s.first ++ route ∷ []) start taken'
    steps_on = steps_more texts s.first route start taken taken' s.steps steps

    pub steps_end : TakeFirstSteps texts (routes_of texts.route) start taken'
    steps_end = (s.first ++ route ∷ [], later, split_on, steps_on)

    module _ (body : Text) (is : IsBodyOf (with_route texts route) body) where
      fleet_on : fleet_text (s.bodies ++ body ∷ []) ≡ fleet_text s.bodies ++ block_of number body
      fleet_on = blocks_more 1 s.bodies body ∙ ap (λ (n : ℕ). fleet_text s.bodies ++ block_of n body) (sym s.counted)

      each_on : AreBodiesOf texts (s.first ++ route ∷ []) (s.bodies ++ body ∷ [])
      each_on = bodies_more texts s.first s.bodies route body s.each is

      gained_on : Appends now new (block_of number body) → Appends old new (fleet_text (s.bodies ++ body ∷ []))
      gained_on wrote = subst (Appends old new) (sym fleet_on) (Appends-trans old now new (fleet_text s.bodies) (block_of number body) s.gained wrote)

      pub goes_on : (rest' : Text) (number' : ℕ) → later ≡ routes_of rest' → number' ≡ number + 1 → Appends now new (block_of number body) → SoFar texts old new start taken' rest' number'
      goes_on rest' number' more up wrote = record {
        first = s.first ++ route ∷ [];
        bodies = s.bodies ++ body ∷ [];
        split = split_on ∙ ap (λ (rs : List Text). (s.first ++ route ∷ []) ++ rs) more;
        each = each_on;
        counted = up ∙ (let is = s.counted in let long = length-append s.bodies (body ∷ []) in omega arith);
        gained = gained_on wrote;
        steps = steps_on;
      }

      pub all_written : later ≡ [] → (failed fails : ℕ) → Appends now new (block_of number body) → BlocksEnd texts old new failed fails Done
      all_written none failed fails wrote = (
        fleet_text (s.bodies ++ body ∷ []),
        record {
          bodies = s.bodies ++ body ∷ [];
          each = subst (λ (rs : List Text). AreBodiesOf texts rs (s.bodies ++ body ∷ [])) (sym (split_on ∙ ap (λ (rs : List Text). (s.first ++ route ∷ []) ++ rs) none ∙ append-nil (s.first ++ route ∷ []))) each_on;
          spelled = refl;
        },
        gained_on wrote,
      )

    -- the block was not written whole
    pub cut_off : (failed failed' fails : ℕ) → failed ≤ failed' → (status : Status) → BlockEnds (with_route texts route) number now new failed' fails status → BlocksEnd texts old new failed fails status
    cut_off failed failed' fails le Memory same = (
      fleet_text s.bodies,
      record { first = s.first; later = routes_of rest; split = s.split; fleet = record { bodies = s.bodies; each = s.each; spelled = refl } },
      subst (λ (n : Option Text). Appends old n (fleet_text s.bodies)) (sym same) s.gained,
    )
    cut_off failed failed' fails le WriteFault (body, is, front, rose) = (
      fleet_text (s.bodies ++ body ∷ []),
      record { first = s.first ++ route ∷ []; later = later; split = split_on; fleet = record { bodies = s.bodies ++ body ∷ []; each = each_on body is; spelled = refl } },
      subst (GrowsByFront old new) (sym (fleet_on body is)) (grows_on old now new (fleet_text s.bodies) (block_of number body) s.gained front),
      grind (arith, rose),
    )
    cut_off failed failed' fails le Done ends = absurd ends
    cut_off failed failed' fails le Usage ends = absurd ends
    cut_off failed failed' fails le (Refused file line why) ends = absurd ends
    cut_off failed failed' fails le (ReadFault file) ends = absurd ends
    cut_off failed failed' fails le (Overflow at prn) ends = absurd ends
    cut_off failed failed' fails le TooManyRuns ends = absurd ends
