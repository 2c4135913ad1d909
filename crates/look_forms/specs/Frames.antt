-- The receiver's position and directions, and the direction of a satellite, as time forms.
use Rattle.std.specs.Prelude.{ℕ, ℤ}
use Rattle.site_laws.specs.Frames.{FrameEnds}
use Rattle.site_laws.specs.Sights.{DirectionEnds}
use Rattle.time_forms.specs.Forms.{Form, Holds}
use Rattle.orbit_forms.specs.Positions.{VectorForm, VectorHolds}

-- the receiver's position and directions
pub record FrameForm : Type 0 where
  pub position : VectorForm
  pub east : VectorForm
  pub north : VectorForm
  pub up : VectorForm

pub record FrameHolds (h : ℕ) (d : ℤ) (f : FrameForm) (a : FrameEnds) : Type 0 where
  pub position : VectorHolds h d f.position a.position
  pub east : VectorHolds h d f.east a.east
  pub north : VectorHolds h d f.north a.north
  pub up : VectorHolds h d f.up a.up

-- a direction's parts to the east, to the north and up
pub record DirectionForm : Type 0 where
  pub east : Form
  pub north : Form
  pub up : Form

pub record DirectionHolds (h : ℕ) (d : ℤ) (f : DirectionForm) (a : DirectionEnds) : Type 0 where
  pub east : Holds h d f.east a.east
  pub north : Holds h d f.north a.north
  pub up : Holds h d f.up a.up
