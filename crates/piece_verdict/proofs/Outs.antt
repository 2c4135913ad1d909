-- Outages, and which satellites count.
use Rattle.std.specs.Prelude.{◌≡◌, ◌≢◌, ℕ, zero, suc, ◌+◌, ◌<◌, ℤ, Bool, true, false, not, ◌||◌, ◌&&◌, ◌==◌, List, [], ◌∷◌, ◌++◌, take, length, slice_index_or, refl}
use Rattle.std.proofs.Common.{arith, ap, sym, ◌∙◌}
use Rattle.std.proofs.lemmas.List.{take_more}
use Rattle.std.proofs.lemmas.Bool.{eq-eqb, ne_eqb}
use Rattle.raim_model.specs.declared.almanac.AlmRecord.{AlmRecord}
use Rattle.raim_model.specs.declared.outage.Outage.{Outage}
use Rattle.raim_model.specs.Usable.{holds, is_out, is_usable}

-- one of two
or_right : (a b : Bool) → b ≡ true → (a || b) ≡ true
or_right true b e = refl
or_right false b e = e

-- an outage that holds the millisecond is found at its place
pub out_found : (os : List Outage) (prn : ℕ) (t : ℤ) (i : ℕ) (d : Outage) → i < length os → ((slice_index_or os i d).prn == prn && holds (slice_index_or os i d) t) ≡ true → true ≡ is_out os prn t
out_found [] prn t i d p e = absurd (omega arith)
out_found (o ∷ os) prn t zero d p e = rw e refl
out_found (o ∷ os) prn t (suc i) d p e = sym (or_right (o.prn == prn && holds o t) (is_out os prn t) (sym (out_found os prn t i d (omega arith) e)))

-- three tests, one after another
regroup : (a b c : Bool) → (a || (b || c)) ≡ ((a || b) || c)
regroup true b c = refl
regroup false b c = refl

-- the outages of two lists
out-append : (xs ys : List Outage) (prn : ℕ) (t : ℤ) → is_out (xs ++ ys) prn t ≡ (is_out xs prn t || is_out ys prn t)
out-append [] ys prn t = refl
out-append (x ∷ xs) ys prn t = ap (λ b. (x.prn == prn && holds x t) || b) (out-append xs ys prn t) ∙ regroup (x.prn == prn && holds x t) (is_out xs prn t) (is_out ys prn t)

-- none among the first i + 1
pub out_more : (os : List Outage) (prn : ℕ) (t : ℤ) (i : ℕ) (d : Outage) → i < length os → ((slice_index_or os i d).prn == prn && holds (slice_index_or os i d) t) ≡ false → is_out (take i os) prn t ≡ false → is_out (take (i + 1) os) prn t ≡ false
out_more os prn t i d p e h =
    ap (λ xs. is_out xs prn t) (take_more os i d p) ∙ out-append (take i os) (slice_index_or os i d ∷ []) prn t ∙ rw (h, e) refl

-- a healthy satellite counts unless it is out
pub usable_is : (outages : List Outage) (t : ℤ) (rec : AlmRecord) (o : Bool) → rec.health ≡ 0 → o ≡ is_out outages rec.prn t → not o ≡ is_usable outages t rec
unfolding is_usable
usable_is outages t rec o h e = rw (eq-eqb rec.health 0 h) (ap not e)

-- another one does not
pub usable_not : (outages : List Outage) (t : ℤ) (rec : AlmRecord) → rec.health ≢ 0 → false ≡ is_usable outages t rec
unfolding is_usable
usable_not outages t rec h = rw (ne_eqb rec.health 0 h) refl
