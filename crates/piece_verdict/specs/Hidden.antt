-- Which satellites of the almanac in force are known to be hidden at each millisecond of a piece of time, by their numbers, and what is
-- seen over the piece where they are.
use Rattle.std.specs.Prelude.{◌≡◌, ◌⊎◌, ◌-◌, ℤ, ◌≤ℤ◌, Bool, true, false, List, slice_index_or, Contains}
use Rattle.raim_model.specs.declared.almanac.AlmRecord.{AlmRecord}
use Rattle.raim_model.specs.AlmanacInForce.{in_force}
use Rattle.raim_model.specs.Solution.{Case}
use Rattle.verdict_laws.specs.Sights.{Sight, Hidden, Sighted}
use Rattle.verdict_laws.specs.PieceVerdict.{seen_over}
use Rattle.case_laws.specs.SightOver.{sight_over}

-- whether the satellite of a record is marked: number n has place n - 1
abbrev pub is_marked : (places : List Bool) → AlmRecord → Bool
is_marked places rec = slice_index_or places (rec.prn - 1) false

-- each satellite that is marked is hidden at each millisecond of the piece
abbrev pub KnowsHidden : Case → (places : List Bool) → (first last : ℤ) → Type 0
KnowsHidden c places first last =
    (rec : AlmRecord) → Contains (in_force first c.almanacs) rec → is_marked places rec ≡ true → (t : ℤ) → first ≤ℤ t → t ≤ℤ last → sight_over c rec t t ≡ Hidden

-- ---- what is seen
-- hidden where it is marked
abbrev pub unless_marked : Bool → Sight → Sight
unless_marked true sight = Hidden
unless_marked false sight = sight

-- over a piece, of one satellite
abbrev pub sight_knowing : Case → (places : List Bool) → AlmRecord → (first last : ℤ) → Sight
sight_knowing c places rec first last = unless_marked (is_marked places rec) (sight_over c rec first last)

-- of those that are usable at its first millisecond
abbrev pub seen_knowing : Case → (places : List Bool) → (first last : ℤ) → List Sighted
seen_knowing c places first last = seen_over (sight_knowing c places) c first last

-- ---- what is marked more
-- those that were marked are, and each that is was, or is hidden
pub record AddsHidden (sight : AlmRecord → Sight) (recs : List AlmRecord) (before now : List Bool) : Type 0 where
  pub kept : (rec : AlmRecord) → is_marked before rec ≡ true → is_marked now rec ≡ true
  pub found : (rec : AlmRecord) → Contains recs rec → is_marked now rec ≡ true → (is_marked before rec ≡ true) ⊎ (sight rec ≡ Hidden)
