-- A text that was written grows what held it by a front of it, whether the writing failed or not.
use Rattle.std.proofs.Common.{ℕ, List, [], Option, Result, Ok, Err, OnOk, OnErr, sym, append-nil}
use Rattle.std.specs.Io.KnownBytes.{Appends}
use Rattle.raim_base.specs.Causes.{GrowsByFront}

-- by a front of the text in either case
pub grows : {E : Type 0} (old new : Option (List ℕ)) (text : List ℕ) (result : Result (Unit {0}) E)
    → OnOk result (Appends old new text) → OnErr result (GrowsByFront old new text) → GrowsByFront old new text
grows old new text (Ok x) whole front = (text, [], sym (append-nil text), whole)
grows old new text (Err e) whole front = front

-- and by all of it where it did not fail
pub grows_whole : {E : Type 0} (old new : Option (List ℕ)) (text : List ℕ) (result : Result (Unit {0}) E) (Rose : Type 0)
    → OnOk result (Appends old new text) → OnErr result Rose → (Rose → ⊥) → Appends old new text
grows_whole old new text (Ok x) Rose whole failed quiet = whole
grows_whole old new text (Err e) Rose whole failed quiet = absurd (quiet failed)
