use Rattle.std.proofs.Common.{ap, ◌∙◌, ◌^◌, ℤ, ◌≡◌, Option, Some, None}
use Rattle.std.specs.Option.{option_map}
use Rattle.whole_numbers.proofs.Casts.{plain}
use Rattle.time_forms.specs.Forms.{Form}
use Rattle.time_forms.specs.Operations.{neg_form}
use Rattle.time_forms.specs.Programs.{form, short_of, wide}
use Rattle.orbit_forms.specs.Lines.{line_form}
use Rattle.orbit_forms.specs.Positions.{PairForm}
use Rattle.angle_forms.specs.Pairs.{pair_form}
use Rattle.angle_forms.specs.Checked.{◌>>=◌, short_lines}
use Rattle.angle_forms.proofs.Steps.{none_step, some_step}
use Rattle.angle_forms.proofs.lines.both_lines.Goals as goal

-- the pair, after the sine
abbrev after : PairForm → Form → ℤ → Form → Option PairForm
after p u k s = short_of (line_form p.cosine (neg_form p.sine) u k) >>= (λ c. Some (record { sine = s; cosine = c }))

first_none : (p : PairForm) (u : Form) (k : ℤ) → None ≡ short_of (line_form p.sine p.cosine u k) → None ≡ short_lines p u k
unfolding short_lines
first_none p u k e = none_step (short_of (line_form p.sine p.cosine u k)) (after p u k) e

first_some : (p : PairForm) (u : Form) (k : ℤ) (s : Form) → Some s ≡ short_of (line_form p.sine p.cosine u k) → after p u k s ≡ short_lines p u k
unfolding short_lines
first_some p u k s e = some_step (short_of (line_form p.sine p.cosine u k)) s (after p u k) e

second_none : (p : PairForm) (u : Form) (k : ℤ) (s : Form) → None ≡ short_of (line_form p.cosine (neg_form p.sine) u k) → None ≡ after p u k s
second_none p u k s e = none_step (short_of (line_form p.cosine (neg_form p.sine) u k)) (λ c. Some (record { sine = s; cosine = c })) e

second_some : (p : PairForm) (u : Form) (k : ℤ) (s c : Form) → Some c ≡ short_of (line_form p.cosine (neg_form p.sine) u k) → Some (record { sine = s; cosine = c }) ≡ after p u k s
second_some p u k s c e = some_step (short_of (line_form p.cosine (neg_form p.sine) u k)) c (λ c. Some (record { sine = s; cosine = c })) e

pub line_about-requires-2-clause-y_small : goal.line_about-requires-2-clause-y_small
line_about-requires-2-clause-y_small c = c.neg.ensures.small (2 ^ 60) c.requires.at_small.sine

pub returns-in_err-sine : goal.returns-in_err-sine
returns-in_err-sine c = ap (option_map pair_form) c.from_residual.ensures ∙ first_none (pair_form c.args.at) (wide c.args.u) c.args.slack (rw (plain c.ranges.slack) at c.in_err-sine.ensures)

pub returns-in_err-cosine : goal.returns-in_err-cosine
returns-in_err-cosine c =
    let p = pair_form c.args.at in
    let u = wide c.args.u in
    ap (option_map pair_form) c.from_residual-in_err-cosine.ensures
    ∙ second_none p u c.args.slack (form c.in_ok-sine.sine) ((rw (plain c.ranges.slack) at c.in_err-cosine.ensures) ∙ ap (λ f. short_of (line_form p.cosine f u c.args.slack)) c.neg.ensures.exact)
    ∙ first_some p u c.args.slack (form c.in_ok-sine.sine) (rw (plain c.ranges.slack) at c.in_ok-sine.ensures)

pub returns : goal.returns
returns c =
    let p = pair_form c.args.at in
    let u = wide c.args.u in
    second_some p u c.args.slack (form c.in_ok-sine.sine) (form c.in_ok-cosine.cosine) ((rw (plain c.ranges.slack) at c.in_ok-cosine.ensures) ∙ ap (λ f. short_of (line_form p.cosine f u c.args.slack)) c.neg.ensures.exact)
    ∙ first_some p u c.args.slack (form c.in_ok-sine.sine) (rw (plain c.ranges.slack) at c.in_ok-sine.ensures)
