-- Files by their names and their places in the order.
use Rattle.std.proofs.Common.{◌≡◌, ◌≢◌, ◌⊎◌, ◌<◌, ◌≤◌, Option, Some, None, List, refl, ap, inl, inr, subst, arith, IfSome}
use Rattle.raim_model.specs.declared.FileNo.{FileNo}
use Rattle.raim_model.specs.declared.FileNo.TheVariants.{Limits, Route, Outages, Almanac}
use Rattle.text_lines.specs.Lines.{Text}
use Rattle.flight_files.specs.Order.{place_of}
use Rattle.flight_files.specs.Files.{HasLines}

pub is_or_not : (a b : FileNo) → (a ≡ b) ⊎ (a ≢ b)
is_or_not Limits Limits = inl refl
is_or_not Limits Route = inr (λ e. cc)
is_or_not Limits Outages = inr (λ e. cc)
is_or_not Limits Almanac = inr (λ e. cc)
is_or_not Route Limits = inr (λ e. cc)
is_or_not Route Route = inl refl
is_or_not Route Outages = inr (λ e. cc)
is_or_not Route Almanac = inr (λ e. cc)
is_or_not Outages Limits = inr (λ e. cc)
is_or_not Outages Route = inr (λ e. cc)
is_or_not Outages Outages = inl refl
is_or_not Outages Almanac = inr (λ e. cc)
is_or_not Almanac Limits = inr (λ e. cc)
is_or_not Almanac Route = inr (λ e. cc)
is_or_not Almanac Outages = inr (λ e. cc)
is_or_not Almanac Almanac = inl refl

-- files at two places are two
pub differs : (a b : FileNo) → place_of a < place_of b → b ≢ a
differs a b before same = let at : place_of b ≡ place_of a = ap place_of same in absurd (omega arith)

-- a file that is not another is read before it or after it
pub before_or_after : (a b : FileNo) → (a ≡ b) ⊎ ((place_of a < place_of b) ⊎ (place_of b < place_of a))
before_or_after Limits Limits = inl refl
before_or_after Limits Route = inr (inl (omega arith))
before_or_after Limits Outages = inr (inl (omega arith))
before_or_after Limits Almanac = inr (inl (omega arith))
before_or_after Route Limits = inr (inr (omega arith))
before_or_after Route Route = inl refl
before_or_after Route Outages = inr (inl (omega arith))
before_or_after Route Almanac = inr (inl (omega arith))
before_or_after Outages Limits = inr (inr (omega arith))
before_or_after Outages Route = inr (inr (omega arith))
before_or_after Outages Outages = inl refl
before_or_after Outages Almanac = inr (inl (omega arith))
before_or_after Almanac Limits = inr (inr (omega arith))
before_or_after Almanac Route = inr (inr (omega arith))
before_or_after Almanac Outages = inr (inr (omega arith))
before_or_after Almanac Almanac = inl refl

-- no file is read after the almanac
pub at_most_last : (file : FileNo) → place_of file ≤ place_of Almanac
at_most_last Limits = omega arith
at_most_last Route = omega arith
at_most_last Outages = omega arith
at_most_last Almanac = omega arith

-- what holds of the lines that were read holds of the told ones
pub of_told : (told : Option Text) (read : Text) (Are : List Text → Type 0) → IfSome told (λ bytes. read ≡ bytes) → HasLines (Some read) Are → HasLines told Are
of_told None read Are e h = tt
of_told (Some bytes) read Are e h = subst (λ (t : Text). HasLines (Some t) Are) e h
