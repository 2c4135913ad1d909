-- What is promised of the blocks of fleets as such.
use Rattle.std.specs.Prelude.{◌≡◌, ◌<◌, ℕ, List, length, slice_index_or, []}
use Rattle.raim_base.specs.MemDeskState.{Each}
use Rattle.text_lines.specs.Lines.{Text}
use Rattle.fleet_run.specs.Blocks.{IsBodyOf, AreBodiesOf, IsFleetOf}

-- four texts have one body
abbrev pub HasOneBody : Type 0
HasOneBody = (texts : Each Text) (body other : Text) → IsBodyOf texts body → IsBodyOf texts other → body ≡ other

-- a fleet has one text
abbrev pub HasOneText : Type 0
HasOneText = (texts : Each Text) (routes : List Text) (text other : Text) → IsFleetOf texts routes text → IsFleetOf texts routes other → text ≡ other

-- the two fleets have these files alike, the routes' file aside
pub record AreAlike (texts other : Each Text) : Type 0 where
  pub limits : texts.limits ≡ other.limits
  pub almanac : texts.almanac ≡ other.almanac
  pub outages : texts.outages ≡ other.outages

-- Fleets under one set of limits, almanacs and outages that agree in route k have the same body of block k, whatever their
-- other routes are.
abbrev pub StandsAlone : Type 0
StandsAlone = (texts other : Each Text) (routes others bodies besides : List Text) (k : ℕ) → AreAlike texts other
    → AreBodiesOf texts routes bodies → AreBodiesOf other others besides → k < length routes → k < length others
    → slice_index_or routes k [] ≡ slice_index_or others k [] → slice_index_or bodies k [] ≡ slice_index_or besides k []
