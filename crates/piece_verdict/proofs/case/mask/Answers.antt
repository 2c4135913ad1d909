use Rattle.std.proofs.Common.{arith, ap, subst, sym, ◌∙◌}
use Rattle.std.proofs.lemmas.Int.{ints}
use Rattle.fix_interval.specs.Ends.{IsInside}
use Rattle.fix_interval.specs.Intervals.{ends}
use Rattle.trig_laws.specs.SinCos.{sin_cos_of}
use Rattle.site_laws.specs.Places.{widest_place}
use Rattle.site_laws.proofs.PlaceOver.{latitude_inside}
use Rattle.case_laws.specs.SightOver.{mask_of}
use Rattle.piece_verdict.proofs.case.mask.Goals as goal

pub sin_cos-requires : goal.sin_cos-requires
sin_cos-requires c =
    let i : IsInside (ends c.from_dec_over.result) widest_place.lat = subst (λ a. IsInside a widest_place.lat) (sym c.from_dec_over.ensures.exact) (latitude_inside c.args.limits.now.mask c.requires.mask) in
    let l = i.low in let h = i.high in
    record { low = omega (arith, ints); high = omega (arith, ints) }

pub returns : goal.returns
unfolding mask_of
returns c = ap (λ p. p.sine) (c.sin_cos.ensures.exact ∙ ap sin_cos_of c.from_dec_over.ensures.exact)
