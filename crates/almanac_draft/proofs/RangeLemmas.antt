-- The records of an accepted almanac are in their ranges, and apply to the flight.
use Rattle.std.proofs.Common.{◌≡◌, ◌≤◌, ◌++◌, ℕ, suc, zero, false, List, [], ◌∷◌, length, map, Option, Some, None, Ok, unsigned_abs, refl, subst, arith, All}
use lib.Dec.{lit≤}
use Rattle.std.proofs.lemmas.List.Sorted.{All-permutation, length_permutation}
use Rattle.raim_model.specs.declared.AlmRecord.{AlmRecord}
use Rattle.raim_model.specs.declared.Span.{Span}
use Rattle.raim_model.specs.Span.{IsFlight}
use Rattle.raim_model.specs.Decimal.{decimal, IsCanonical}
use Rattle.raim_model.specs.AlmanacRanges.{IsAlmRecord, AreRecords}
use Rattle.almanac_fields.proofs.RangeLemmas.{AreNear}
use Rattle.text_lines.specs.Lines.{Text}
use Rattle.text_lines.proofs.FieldLemmas.{bind_then, ok_is}
use Rattle.text_lines.proofs.Parts.{cons_same}
use Rattle.text_lines.proofs.Rising.{rises}
use Rattle.almanac_draft.specs.declared.begun.Begun.{Begun}
use Rattle.almanac_draft.specs.Forms.{Form, IsForm}
use Rattle.almanac_draft.specs.Counts.{IsCount}
use Rattle.almanac_draft.specs.Lines.{records_in}
use Rattle.almanac_draft.specs.Answers.{SayRecords}
use Rattle.almanac_draft.specs.Almanacs.{run, record_at, IsAlmanac}
use Rattle.almanac_draft.specs.Ranges.{IsInRange, IsRanged, SaysSome}
use Rattle.almanac_draft.proofs.Means.{means_records}

some_records : (declared : Option ℕ) (n : ℕ) → SaysSome declared → IsCount declared n → 1 ≤ n
some_records None n s c = c
some_records (Some said) n s c = omega (arith, s, c)

module _ {K : Type 0} (form : Form K) where
  module _ (first end : ℕ) where
    -- what every line keeps, lines keep
    pub run_holds : (P : Begun → Type 0) → ((k : K) (c d : Begun) (line : Text) → form.reads first end k c line ≡ Ok d → P c → P d)
        → (ks : List K) (c d : Begun) (lines : List Text) → run form first end ks c lines ≡ Ok d → P c → P d
    run_holds P each [] c d [] h p = subst P (ok_is c d h) p
    run_holds P each [] c d (l ∷ ls) h p = cc
    run_holds P each (k ∷ ks) c d [] h p = cc
    run_holds P each (k ∷ ks) c d (l ∷ ls) h p = let b = bind_then (form.reads first end k c l) (λ n. run form first end ks n ls) d h in run_holds P each ks b.0 d ls b.2 (each k c b.0 l b.1 p)

    -- the last line is read
    pub run_last : (ks : List K) (k : K) (c d : Begun) (lines : List Text) → run form first end (ks ++ k ∷ []) c lines ≡ Ok d → (before : Begun) × (line : Text) × (form.reads first end k before line ≡ Ok d)
    run_last [] k c d [] h = cc
    run_last [] k c d (l ∷ []) h = let b = bind_then (form.reads first end k c l) (λ n. run form first end [] n []) d h in (c, l, rw b.1 b.2)
    run_last [] k c d (l ∷ m ∷ ms) h = let b = bind_then (form.reads first end k c l) (λ n. run form first end [] n (m ∷ ms)) d h in none b.0 b.2
      where
        none : {X : Type 0} (n : Begun) → run form first end [] n (m ∷ ms) ≡ Ok d → X
        none n h = cc
    run_last (j ∷ js) k c d [] h = cc
    run_last (j ∷ js) k c d (l ∷ ls) h = let b = bind_then (form.reads first end j c l) (λ n. run form first end (js ++ k ∷ []) n ls) d h in run_last js k b.0 d ls b.2

  -- the records that an accepted almanac says
  pub are_ranged : IsForm form → IsRanged form → (flight : Span) (lines : List Text) (records : List AlmRecord) → IsFlight flight → SayRecords form flight lines records → AreRecords flight records
  are_ranged lawful ranged flight lines records f s = record {
    some = rw long (some_records a.head.declared (length said) (ranged.some first end a.head_lines a.head a.headed) a.count);
    few = rw long a.few;
    each = λ k d below. (all k d below).ranges;
    rising = rises (λ (r : AlmRecord). r.prn) said records s.same a.distinct s.rising;
    at_first = λ k d below. (all k d below).at_first;
    at_end = λ k d below. (all k d below).at_end;
  }
    where
      first : ℕ
      first = unsigned_abs flight.first

      end : ℕ
      end = unsigned_abs flight.end

      a : IsAlmanac form flight lines (records_in form s.entries)
      a = means_records form lawful flight lines s.entries s.accepted

      said : List AlmRecord
      said = records_in form s.entries

      one : (part : List Text) (r : AlmRecord) → record_at form first end a.head part ≡ Ok r → IsInRange flight r
      one part r h =
          let p = bind_then (run form first end form.lines a.head part) (λ c. Ok c.values) r h in
          subst (IsInRange flight) (ok_is p.0.values r p.2) (ranged.each flight a.head_lines part a.head p.0 f a.headed p.1)

      each : (parts : List (List Text)) (records : List AlmRecord) → map (record_at form first end a.head) parts ≡ map (λ r. Ok r) records → All (IsInRange flight) records
      each parts [] h k d below = absurd (omega arith)
      each [] (r ∷ rs) h k d below = cc
      each (part ∷ parts) (r ∷ rs) h zero d below = one part r (cons_same _ _ _ _ h).0
      each (part ∷ parts) (r ∷ rs) h (suc k) d below = each parts rs (cons_same _ _ _ _ h).1 k d (omega arith)

      all : All (IsInRange flight) records
      all = All-permutation (IsInRange flight) said records s.same (each a.parts said a.each)

      long : length records ≡ length said
      long = length_permutation said records s.same

pub canonical_zero : IsCanonical (decimal false 0 0)
canonical_zero = record { few_digits = lit≤ tt; few_places = lit≤ tt; no_trailing_zero = λ h _. absurd (omega (arith, h)); one_zero = λ _. refl }

-- the least square root of a semi-major axis
pub canonical_least : IsCanonical (decimal false 4000 0)
canonical_least = record { few_digits = lit≤ tt; few_places = lit≤ tt; no_trailing_zero = λ h _. absurd (omega (arith, h)); one_zero = λ h. absurd (omega (arith, h)) }

-- a record that is in its ranges, with a time of applicability near the flight
pub in_range : (flight : Span) (r : AlmRecord) → IsAlmRecord r → AreNear r.toa_ms flight.first × AreNear r.toa_ms flight.end → IsInRange flight r
in_range flight r ranges near = record {
  ranges = ranges;
  at_first = record { not_before = near.0.0; not_after = near.0.1 };
  at_end = record { not_before = near.1.0; not_after = near.1.1 };
}
