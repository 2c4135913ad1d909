-- How contracts see a frame of the program.
use Rattle.site_laws.specs.Frames.{FrameEnds}
use Rattle.wgs_position.specs.declared.site_frame.SiteFrame.{SiteFrame}
use Rattle.fix_interval.specs.Vectors.{vector_ends}

-- the ends of the position and of the directions
abbrev pub frame_ends : SiteFrame → FrameEnds
frame_ends f = record { position = vector_ends f.pos; east = vector_ends f.east; north = vector_ends f.north; up = vector_ends f.up }
