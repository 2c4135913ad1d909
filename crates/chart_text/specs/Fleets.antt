-- The text of a fleet, and the first of its lines that is refused.
use Rattle.std.specs.Prelude.{◌≡◌, ◌+◌, ℕ, List, [], ◌∷◌, ◌++◌, length, All}
use Rattle.raim_model.specs.declared.TextWhy.{TextWhy}
use Rattle.text_lines.specs.Lines.{Text}
use Rattle.fleet_text.specs.Fleet.{fleet_text}
use Rattle.chart_text.specs.LineNumbers.{lines_in, number_behind}
use Rattle.chart_text.specs.Blocks.{Said, IsBodyOf, IsSayable, RefusesBlock}

-- each body is what its block says
abbrev pub AreBodiesOf : List Said → List Text → Type 0
AreBodiesOf [] [] = Unit {0}
AreBodiesOf (said ∷ saids) (body ∷ bodies) = IsBodyOf said body × AreBodiesOf saids bodies
AreBodiesOf saids bodies = ⊥

-- the text is that of a fleet whose blocks say this, in their order from number 1
abbrev pub IsFleetOf : List Said → Text → Type 0
IsFleetOf saids text = (bodies : List Text) × AreBodiesOf saids bodies × (text ≡ fleet_text bodies)

-- The text is no fleet's, first at this line for this cause: the blocks before it are a fleet's, and the next is refused.
pub record RefusesFleet (text : Text) (number : ℕ) (why : TextWhy) : Type 0 where
  pub front : Text
  pub back : Text
  pub split : text ≡ front ++ back
  pub saids : List Said
  pub before : IsFleetOf saids front
  pub sayable : All IsSayable saids
  pub line : ℕ
  pub here : RefusesBlock (length saids + 1) back line why
  pub numbered : number ≡ number_behind (lines_in front) line
