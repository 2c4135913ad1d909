use Rattle.std.proofs.Common.{ap, sym, ◌∙◌, ℕ, ◌^◌, unsigned_abs}
use Rattle.std.specs.Option.{option_map}
use Rattle.site_laws.specs.Places.{widest_place}
use Rattle.site_laws.proofs.PlaceOver.{latitude_inside, longitude_inside, height_inside}
use Rattle.time_forms.specs.Programs.{form}
use Rattle.time_forms.proofs.Shorts.{short_within}
use Rattle.site_forms.specs.Places.{place_form}
use Rattle.site_forms.proofs.Bounds.{inside_bound}
use Rattle.site_forms.proofs.FoundPlaces.{short_line, place_none, place_half, place_short, place_some}
use Rattle.site_forms.proofs.place.between.Goals as goal

pub along-requires-clause-a_small : goal.along-requires-clause-a_small
along-requires-clause-a_small c = inside_bound c.from_dec_over.result _ widest_place.lat (2 ^ 39) c.from_dec_over.ensures.exact (latitude_inside c.args.start.now.lat c.requires.start.latitude) (record { le = tt }) (record { le = tt })

pub along-requires-clause-b_small : goal.along-requires-clause-b_small
along-requires-clause-b_small c = inside_bound c.from_dec_over-2.result _ widest_place.lat (2 ^ 39) c.from_dec_over-2.ensures.exact (latitude_inside c.args.stop.now.lat c.requires.stop.latitude) (record { le = tt }) (record { le = tt })

pub returns-in_err-lat-clause-exact : goal.returns-in_err-lat-clause-exact
returns-in_err-lat-clause-exact c =
    let l = c.args.leg.now in
    let h : ℕ = unsigned_abs l.half in
    ap (option_map place_form) c.from_residual.ensures
    ∙ place_none c.args.start.now c.args.stop.now l.middle h (c.in_err-lat.ensures ∙ short_line l.middle h (sym c.requires.start_time) (sym c.requires.stop_time) c.from_dec_over.ensures.exact c.from_dec_over-2.ensures.exact)

pub along-requires-2-clause-a_small : goal.along-requires-2-clause-a_small
along-requires-2-clause-a_small c = inside_bound c.from_dec_over-3.result _ widest_place.lon (2 ^ 39) c.from_dec_over-3.ensures.exact (longitude_inside c.args.start.now.lon c.requires.start.longitude) (record { le = tt }) (record { le = tt })

pub along-requires-2-clause-b_small : goal.along-requires-2-clause-b_small
along-requires-2-clause-b_small c = inside_bound c.from_dec_over-4.result _ widest_place.lon (2 ^ 39) c.from_dec_over-4.ensures.exact (longitude_inside c.args.stop.now.lon c.requires.stop.longitude) (record { le = tt }) (record { le = tt })

pub returns-in_err-lon-clause-exact : goal.returns-in_err-lon-clause-exact
returns-in_err-lon-clause-exact c =
    let l = c.args.leg.now in
    let h : ℕ = unsigned_abs l.half in
    let s = sym c.requires.start_time in
    let e = sym c.requires.stop_time in
    ap (option_map place_form) c.from_residual-in_err-lon.ensures
    ∙ place_half c.args.start.now c.args.stop.now l.middle h (form c.in_ok-lat.lat)
    (c.in_ok-lat.ensures ∙ short_line l.middle h s e c.from_dec_over.ensures.exact c.from_dec_over-2.ensures.exact)
    (c.in_err-lon.ensures ∙ short_line l.middle h s e c.from_dec_over-3.ensures.exact c.from_dec_over-4.ensures.exact)

pub along-requires-3-clause-a_small : goal.along-requires-3-clause-a_small
along-requires-3-clause-a_small c = inside_bound c.from_dec_over-5.result _ widest_place.height (2 ^ 39) c.from_dec_over-5.ensures.exact (height_inside c.args.start.now.height c.requires.start.height) (record { le = tt }) (record { le = tt })

pub along-requires-3-clause-b_small : goal.along-requires-3-clause-b_small
along-requires-3-clause-b_small c = inside_bound c.from_dec_over-6.result _ widest_place.height (2 ^ 39) c.from_dec_over-6.ensures.exact (height_inside c.args.stop.now.height c.requires.stop.height) (record { le = tt }) (record { le = tt })

pub returns-in_err-height-clause-exact : goal.returns-in_err-height-clause-exact
returns-in_err-height-clause-exact c =
    let l = c.args.leg.now in
    let h : ℕ = unsigned_abs l.half in
    let s = sym c.requires.start_time in
    let e = sym c.requires.stop_time in
    ap (option_map place_form) c.from_residual-in_err-height.ensures
    ∙ place_short c.args.start.now c.args.stop.now l.middle h (form c.in_ok-lat.lat) (form c.in_ok-lon.lon)
    (c.in_ok-lat.ensures ∙ short_line l.middle h s e c.from_dec_over.ensures.exact c.from_dec_over-2.ensures.exact)
    (c.in_ok-lon.ensures ∙ short_line l.middle h s e c.from_dec_over-3.ensures.exact c.from_dec_over-4.ensures.exact)
    (c.in_err-height.ensures ∙ short_line l.middle h s e c.from_dec_over-5.ensures.exact c.from_dec_over-6.ensures.exact)

pub returns-clause-exact : goal.returns-clause-exact
returns-clause-exact c =
    let l = c.args.leg.now in
    let h : ℕ = unsigned_abs l.half in
    let s = sym c.requires.start_time in
    let e = sym c.requires.stop_time in
    place_some c.args.start.now c.args.stop.now l.middle h (form c.in_ok-lat.lat) (form c.in_ok-lon.lon) (form c.in_ok-height.height)
    (c.in_ok-lat.ensures ∙ short_line l.middle h s e c.from_dec_over.ensures.exact c.from_dec_over-2.ensures.exact)
    (c.in_ok-lon.ensures ∙ short_line l.middle h s e c.from_dec_over-3.ensures.exact c.from_dec_over-4.ensures.exact)
    (c.in_ok-height.ensures ∙ short_line l.middle h s e c.from_dec_over-5.ensures.exact c.from_dec_over-6.ensures.exact)

pub returns-clause-small : goal.returns-clause-small
returns-clause-small c = record {
  lat = short_within _ (form c.in_ok-lat.lat) (sym c.in_ok-lat.ensures);
  lon = short_within _ (form c.in_ok-lon.lon) (sym c.in_ok-lon.ensures);
  height = short_within _ (form c.in_ok-height.height) (sym c.in_ok-height.ensures);
}
