-- What an almanac means: its lines that are not blank are those of the whole almanac and then those of its records, and
-- each record is what its own lines say, behind those of the whole almanac.
use Rattle.std.specs.Prelude.{◌≡◌, ◌≢◌, ◌≤◌, AllPairs, ℕ, List, [], ◌∷◌, ◌++◌, Result, Ok, Err, map, filter, length, unsigned_abs}
use Rattle.std.specs.List.{flat_map}
use Rattle.raim_model.specs.declared.TextWhy.{TextWhy}
use Rattle.raim_model.specs.declared.TextWhy.TheVariants.{Short}
use Rattle.raim_model.specs.declared.AlmRecord.{AlmRecord}
use Rattle.raim_model.specs.declared.Span.{Span}
use Rattle.text_lines.specs.Lines.{Text}
use Rattle.text_lines.specs.Words.{is_nonblank}
use Rattle.text_lines.specs.Fields.{◌>>=◌}
use Rattle.almanac_draft.specs.declared.begun.Begun.{Begun}
use Rattle.almanac_draft.specs.Forms.{Form}
use Rattle.almanac_draft.specs.Counts.{IsCount}

module _ {K : Type 0} (form : Form K) (first end : ℕ) where
  -- what lines of these kinds say one behind the other, each exactly once
  abbrev pub run : List K → Begun → List Text → Result Begun TextWhy
  run [] begun [] = Ok begun
  run [] begun (line ∷ lines) = Err Short
  run (k ∷ ks) begun [] = Err Short
  run (k ∷ ks) begun (line ∷ lines) = do
    next ← form.reads first end k begun line
    run ks next lines

  -- the record that its lines say, behind what the lines of the whole almanac say
  abbrev pub record_at : Begun → List Text → Result AlmRecord TextWhy
  record_at head part = do
    begun ← run form.lines head part
    Ok begun.values

-- at most 32 records of distinct satellites, one behind the other, in the order of the file, and as many as the almanac
-- says; where it says none, one at least
pub record IsAlmanac {K : Type 0} (form : Form K) (span : Span) (lines : List Text) (records : List AlmRecord) : Type 0 where
  pub head_lines : List Text
  pub parts : List (List Text)
  pub head : Begun
  pub whole : filter is_nonblank lines ≡ head_lines ++ flat_map (λ part. part) parts
  pub headed : run form (unsigned_abs span.first) (unsigned_abs span.end) form.heads form.nothing head_lines ≡ Ok head
  pub each : map (record_at form (unsigned_abs span.first) (unsigned_abs span.end) head) parts ≡ map (λ r. Ok r) records
  pub distinct : AllPairs (λ before after. before.prn ≢ after.prn) records
  pub few : length records ≤ 32
  pub count : IsCount head.declared (length records)
