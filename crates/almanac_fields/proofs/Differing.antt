-- Records of distinct satellites, and one more.
use Rattle.std.proofs.Common.{◌≡◌, ◌≢◌, ◌==◌, ◌<◌, ℕ, Bool, true, false, nat_le, List, [], ◌∷◌, ◌++◌, length, Ok, refl, ◌∙◌, subst, arith, AllPairs, IsPermutation, IsSortedByKey}
use Rattle.std.specs.List.{list_any}
use Rattle.std.specs.Ordering.{nat_cmp}
use Rattle.std.proofs.lemmas.Bool.Decides.{nat_tests}
use Rattle.raim_model.specs.declared.TextWhy.TheVariants.{PrnTwice}
use Rattle.raim_model.specs.declared.AlmRecord.{AlmRecord}
use Rattle.text_lines.specs.Fields.{unless}
use Rattle.text_lines.proofs.FieldLemmas.{unless_then, ok_is}
use Rattle.text_lines.proofs.Rising.{one_more, rises}
use Rattle.text_lines.proofs.Sorting.{sorted_once}
use Rattle.almanac_fields.specs.Prns.{fresh_prn_of}

abbrev pub Differ : List AlmRecord → Type 0
Differ records = AllPairs (λ before after. before.prn ≢ after.prn) records

-- one more record, whose PRN is new
pub differ_more : (records : List AlmRecord) (c : AlmRecord) → Differ records → list_any (λ r. r.prn == c.prn) records ≡ false → Differ (records ++ c ∷ [])
differ_more records c differ new = one_more (λ (r : AlmRecord). r.prn) records c differ new

fewer : (n : ℕ) (full : Bool) → nat_le 32 n ≡ full → full ≡ false → n < 32
fewer n full h f = let g : nat_le 32 n ≡ false = h ∙ f in grind (arith, nat_tests)

-- a PRN that is new finds room
pub fresh_passes : (records : List AlmRecord) (prn fresh : ℕ) → fresh_prn_of records prn ≡ Ok fresh → (list_any (λ r. r.prn == fresh) records ≡ false) × (length records < 32) × (prn ≡ fresh)
fresh_passes records prn fresh h =
    let p = unless_then (list_any (λ (r : AlmRecord). r.prn == prn) records) PrnTwice (unless (nat_le 32 (length records)) PrnTwice (Ok prn)) fresh h in
    let q = unless_then (nat_le 32 (length records)) PrnTwice (Ok prn) fresh p.1 in
    let same = ok_is prn fresh q.1 in
    (subst (λ (n : ℕ). list_any (λ r. r.prn == n) records ≡ false) same p.0, fewer (length records) (nat_le 32 (length records)) refl q.0, same)

room_left : (n : ℕ) (full : Bool) → nat_le 32 n ≡ full → n < 32 → full ≡ false
room_left n true h low = absurd (grind (arith, nat_tests))
room_left n false h low = refl

-- a PRN that no record has passes, where there is room
pub fresh_found : (records : List AlmRecord) (prn : ℕ) → list_any (λ r. r.prn == prn) records ≡ false → length records < 32 → fresh_prn_of records prn ≡ Ok prn
fresh_found records prn new room =
    let few = room_left (length records) (nat_le 32 (length records)) refl room in
    rw (new, few) refl

-- records of distinct satellites are sorted by PRN in one way
pub sorted_alike : (records some other : List AlmRecord) → Differ records → IsPermutation records some → IsSortedByKey (λ r. r.prn) nat_cmp some
    → IsPermutation records other → IsSortedByKey (λ r. r.prn) nat_cmp other → some ≡ other
sorted_alike records some other differ p s q t =
    sorted_once (λ (r : AlmRecord). r.prn) records some other
    (rises (λ (r : AlmRecord). r.prn) records some p differ s) (rises (λ (r : AlmRecord). r.prn) records other q differ t) p q
