use Rattle.std.proofs.Common.{arith, rules, refl, ap, ap₂, ◌∙◌, ℤ, pos, negsuc, ◌^◌, ◌*◌, ◌+ℤ◌, ◌*ℤ◌, ◌≤ℤ◌, ◌≡◌, unsigned_abs}
use Rattle.std.proofs.lemmas.Int.{ints}
use mir.Syntax.{w128}
use mir.Val.{SFits}
use Rattle.whole_numbers.specs.Rounding.{floor_of}
use Rattle.whole_numbers.proofs.Casts.{plain}
use Rattle.time_forms.specs.Forms.{Form, size, least_of}
use Rattle.time_forms.specs.QuotientForms.{quotient_centre, quotient_turn, quotient_offset, quotient_sway, div_form}
use Rattle.time_forms.specs.Programs.{form_from, short_of, wide}
use Rattle.time_forms.proofs.FormSums.{same_form}
use Rattle.time_forms.proofs.quotients.quotient_of_parts.Goals as goal

in_turn : (z : ℤ) → z *ℤ pos (2 ^ 38) ≡ pos (2 ^ 38) *ℤ z
in_turn z = omega (arith, ints)

sizes : (y z : ℤ) → pos 1 ≤ℤ y → pos 1 ≤ℤ z → unsigned_abs (y *ℤ z) ≡ unsigned_abs y * unsigned_abs z
sizes (pos m) (pos n) p q = refl
sizes (pos m) (negsuc n) p q = absurd (omega (arith, ints))
sizes (negsuc m) z p q = absurd (omega (arith, ints))

-- the quotient of the numbers that the program has
parts : (f g : Form) (q e s l o : ℤ) → q ≡ quotient_centre f g → e ≡ quotient_turn f g → s ≡ quotient_sway f g → l ≡ least_of g → o ≡ quotient_offset f g → pos 1 ≤ℤ g.centre → pos 1 ≤ℤ l
    → form_from q (floor_of (e *ℤ pos (2 ^ 38)) (unsigned_abs g.centre))
    ((((floor_of (o *ℤ pos (2 ^ 38)) (unsigned_abs l) +ℤ pos 1) +ℤ (floor_of (s *ℤ pos (2 ^ 38)) (unsigned_abs (g.centre *ℤ l)) +ℤ pos 1)) +ℤ (floor_of g.centre (unsigned_abs l) +ℤ pos 1)) +ℤ pos 2)
    ≡ div_form f g
unfolding div_form
parts f g q e s l o qe ee se le oe cp lp = rw (in_turn o, in_turn s, sizes g.centre l cp lp) (rw (qe, ee, se, le, oe) refl)

pub returns : goal.returns
returns c =
    let ar : SFits w128 c.args.a.remainder = search rules in
    let bc : SFits w128 c.args.b.centre = search rules in
    let br : SFits w128 c.args.b.remainder = search rules in
    let pt : SFits w128 c.part.result = search rules in
    let iu : SFits w128 c.in_units.result = search rules in
    let of : SFits w128 c.offset_of.result = search rules in
    let rr : SFits w128 c.quotient_remainder.result = search rules in
    let off : c.offset_of.result ≡ quotient_offset (wide c.args.a) (wide c.args.b) =
    (rw (plain ar, plain c.ranges.centre, plain br) at c.offset_of.ensures.value) ∙ ap (λ z. (c.args.a.remainder +ℤ floor_of (size z *ℤ c.args.b.remainder) (2 ^ 38)) +ℤ pos 2) c.requires.centre in
    c.short_form.ensures ∙ ap short_of (same_form (plain c.ranges.centre)
    (plain pt ∙ c.part.ensures.value ∙ ap₂ (λ x y. floor_of x (unsigned_abs y)) (plain iu ∙ c.in_units.ensures.value ∙ ap (λ x. x *ℤ pos (2 ^ 38)) (plain c.ranges.turn)) (plain bc))
    (plain rr ∙ (rw (plain of, plain c.ranges.sway, plain bc, plain c.ranges.least) at c.quotient_remainder.ensures))
    ∙ parts (wide c.args.a) (wide c.args.b) c.args.centre c.args.turn c.args.sway c.args.least c.offset_of.result c.requires.centre c.requires.turn c.requires.sway c.requires.least off c.requires.b_positive c.requires.least_positive)
