-- What four accepted files say is one thing.
use Rattle.std.proofs.Common.{◌≡◌, ◌≢◌, ◌<◌, ℕ, Bool, List, [], ◌∷◌, filter_map, Option, sym, ap, ◌∙◌, subst, arith, AllPairs, IsPermutation, IsSortedByKey}
use Rattle.std.specs.Ordering.{nat_cmp}
use Rattle.std.proofs.lemmas.List.Sorted.{IsPermutation-sym, IsPermutation-trans}
use Rattle.raim_model.specs.declared.AlmRecord.{AlmRecord}
use Rattle.raim_model.specs.declared.FileNo.TheVariants as file
use Rattle.raim_model.specs.declared.Limits.{Limits}
use Rattle.raim_model.specs.declared.Weight.{Weight}
use Rattle.raim_model.specs.declared.Outage.{Outage}
use Rattle.raim_model.specs.declared.Waypoint.{Waypoint}
use Rattle.raim_model.specs.Ranges.{IsLimits}
use Rattle.raim_model.specs.Route.{flight_of}
use Rattle.raim_base.specs.MemDeskState.{Each}
use Rattle.text_lines.specs.Lines.{Text}
use Rattle.text_lines.proofs.ReadingLaws.{same_entries}
use Rattle.text_lines.proofs.Rising.{rises}
use Rattle.text_lines.proofs.Sorting.{sorted_once}
use Rattle.limits_text.specs.Limits.{limits_lines, IsMode, leap_in, mask_in, alert_in, mode_in, bias_in, weight_in}
use Rattle.limits_text.specs.Answers.{SayLimits}
use Rattle.route_interp.specs.Answers.{SayWaypoints}
use Rattle.outage_notice.specs.Outages.{outage_lines, outages_in}
use Rattle.outage_notice.specs.Answers.{SayOutages}
use Rattle.alm_reader.specs.Almanacs.{SayAlmanacs}
use Rattle.alm_reader.proofs.SomeReading.{file_one}
use Rattle.flight_files.specs.declared.files.FlightFiles.{FlightFiles}
use Rattle.flight_files.specs.Files.{IsRouteFile, IsOutagesFile, IsAlmanacFile, AreAcceptedFiles}
use Rattle.flight_files.specs.Settled.{AreTold, AreTheFiles}
use Rattle.flight_files.proofs.Clashes.{meet, first_is, route_once}

unequal : (m n : ℕ) → m < n → m ≢ n
unequal m n lt e = absurd (omega arith)

weights_once : (xs ys zs : List Weight) → IsPermutation xs zs → AllPairs (λ a b. a.prn < b.prn) zs → IsPermutation xs ys → IsSortedByKey (λ w. w.prn) nat_cmp ys → ys ≡ zs
weights_once xs ys zs p rising q sorted =
    let over : IsPermutation zs ys = IsPermutation-trans zs xs ys (IsPermutation-sym xs zs p) q in
    let up = rises (λ (w : Weight). w.prn) zs ys over (λ i j d lt below. unequal _ _ (rising i j d lt below)) sorted in
    sorted_once (λ (w : Weight). w.prn) xs ys zs up rising q p

mode_once : (modes : List Bool) (a b : Bool) → IsMode modes a → IsMode modes b → a ≡ b
mode_once [] a b p q = p ∙ sym q
mode_once (m ∷ []) a b p q = sym p ∙ q
mode_once (m ∷ n ∷ ms) a b p q = absurd p

same_limits : (a b : Limits) → a.leap ≡ b.leap → a.exclude ≡ b.exclude → a.mask ≡ b.mask → a.alert_mm ≡ b.alert_mm → a.bias_mm.items ≡ b.bias_mm.items → a.weights.items ≡ b.weights.items → a ≡ b
same_limits a b e f g h j k = λ i. record { leap = e i; exclude = f i; mask = g i; alert_mm = h i; bias_mm = record { items = j i }; weights = record { items = k i } }

limits_once : (lines : List Text) (a b : Limits) → SayLimits lines a → SayLimits lines b → IsLimits b → a ≡ b
limits_once lines a b p q r =
    let same = same_entries limits_lines lines p.entries q.entries p.accepted.reads q.accepted.reads in
    same_limits a b
    (first_is a.leap b.leap (sym p.same.leap ∙ ap (λ es. filter_map leap_in es) same ∙ q.same.leap))
    (mode_once (filter_map mode_in q.entries) a.exclude b.exclude (subst (λ (ms : List Bool). IsMode ms a.exclude) (ap (λ es. filter_map mode_in es) same) p.same.mode) q.same.mode)
    (first_is a.mask b.mask (sym p.same.mask ∙ ap (λ es. filter_map mask_in es) same ∙ q.same.mask))
    (first_is a.alert_mm b.alert_mm (sym p.same.alert ∙ ap (λ es. filter_map alert_in es) same ∙ q.same.alert))
    (sym p.same.biases ∙ ap (λ es. filter_map bias_in es) same ∙ q.same.biases)
    (weights_once (filter_map weight_in q.entries) a.weights.items b.weights.items q.same.weights r.weights.rising
    (subst (λ (ws : List Weight). IsPermutation ws a.weights.items) (ap (λ es. filter_map weight_in es) same) p.same.weights) p.same.rising)

outages_once : (leap : ℕ) (lines : List Text) (a b : List Outage) → SayOutages leap lines a → SayOutages leap lines b → a ≡ b
outages_once leap lines a b p q =
    p.same ∙ ap outages_in (same_entries (outage_lines leap) lines p.entries q.entries p.accepted.reads q.accepted.reads) ∙ sym q.same

-- two readings of four files are one
pub record AreOne (limits limits' : Limits) (route route' : List Waypoint) (outages outages' : List Outage) (almanacs almanacs' : List (List AlmRecord)) : Type 0 where
  pub limits_is : limits ≡ limits'
  pub route_is : route ≡ route'
  pub outages_is : outages ≡ outages'
  pub almanacs_is : almanacs ≡ almanacs'

module _ (holds : Text → Option Text) (paths : Each Text) (told : AreTold holds paths) where
  pub values_once : (limits limits' : Limits) (route route' : List Waypoint) (outages outages' : List Outage) (almanacs almanacs' : List (List AlmRecord))
      → AreAcceptedFiles holds paths limits route outages almanacs → AreAcceptedFiles holds paths limits' route' outages' almanacs' → IsLimits limits'
      → AreOne limits limits' route route' outages outages' almanacs almanacs'
  values_once limits limits' route route' outages outages' almanacs almanacs' a b r =
      let ls = meet (holds paths.limits) (λ lines. SayLimits lines limits) (λ lines. SayLimits lines limits') (told file.Limits) a.limits_file b.limits_file in
      let limits_same = limits_once ls.0 limits limits' ls.1 ls.2 r in
      let leap_same : limits.leap ≡ limits'.leap = ap (λ (l : Limits). l.leap) limits_same in
      let rs = meet (holds paths.route) (λ lines. SayWaypoints limits'.leap lines route) (λ lines. SayWaypoints limits'.leap lines route') (told file.Route)
      (subst (λ (l : ℕ). IsRouteFile holds paths l route) leap_same a.route_file) b.route_file in
      let route_same = route_once limits'.leap rs.0 route route' rs.1 rs.2 in
      let os = meet (holds paths.outages) (λ lines. SayOutages limits'.leap lines outages) (λ lines. SayOutages limits'.leap lines outages') (told file.Outages)
      (subst (λ (l : ℕ). IsOutagesFile holds paths l outages) leap_same a.outages_file) b.outages_file in
      let as' = meet (holds paths.almanac) (λ lines. SayAlmanacs (flight_of route') lines almanacs) (λ lines. SayAlmanacs (flight_of route') lines almanacs') (told file.Almanac)
      (subst (λ (w : List Waypoint). IsAlmanacFile holds paths (flight_of w) almanacs) route_same a.almanac_file) b.almanac_file in
      record {
        limits_is = limits_same;
        route_is = route_same;
        outages_is = outages_once limits'.leap os.0 outages outages' os.1 os.2;
        almanacs_is = file_one (flight_of route') as'.0 almanacs almanacs' as'.1 as'.2;
      }

  -- files that are said by the four paths are those that were answered
  pub files_once : (limits : Limits) (route : List Waypoint) (outages : List Outage) (almanacs : List (List AlmRecord)) (files : FlightFiles)
      → AreAcceptedFiles holds paths limits route outages almanacs
      → AreAcceptedFiles holds paths files.limits files.route files.outages.items files.almanacs.items → IsLimits files.limits
      → AreTheFiles limits route outages almanacs files
  files_once limits route outages almanacs files a b r =
      let one = values_once limits files.limits route files.route outages files.outages.items almanacs files.almanacs.items a b r in
      record { limits_are = sym one.limits_is; route_is = sym one.route_is; outages_are = sym one.outages_is; almanacs_are = sym one.almanacs_is }
