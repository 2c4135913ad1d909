-- What is seen of one satellite more.
use Rattle.std.specs.Prelude.{◌≡◌, ℕ, zero, suc, ◌+◌, ◌<◌, ◌^◌, pos, neg_ℤ, List, [], ◌∷◌, ◌++◌, length, slice_index_or, All, None, refl}
use Rattle.std.specs.declared.option.Option.{Option}
use Rattle.std.proofs.Common.{arith, ap, ◌∙◌}
use Rattle.std.proofs.lemmas.List.{map-append}
use Rattle.fix_interval.specs.declared.interval.Iv.{Iv}
use Rattle.fix_interval.specs.Ends.{Ends, IsInside}
use Rattle.fix_interval.specs.Intervals.{ends, IsWithin}
use Rattle.site_laws.specs.Sights.{DirectionInside, widest_direction}
use Rattle.geom_laws.specs.Rows.{RowEnds, weighed_of}
use Rattle.geom_inverse.specs.declared.row.Row.{Row}
use Rattle.geom_inverse.specs.Views.{row_ends}
use Rattle.slope_test.specs.Named.{named_row, named}
use Rattle.slope_laws.specs.Rows.{NamedRow}
use Rattle.verdict_laws.specs.Sights.{Sight, Visible, Hidden, Straddles, Sighted, one_if_possible, count_possible, or_straddling, first_straddling, with_row, rows_seen}
use Rattle.elev_mask.specs.Sights.{direction_ends}
use Rattle.piece_verdict.specs.Seen.{first_kept}

-- a visible one has a row more
pub rows_more : (seen : List Sighted) (prn : ℕ) (row : RowEnds) → rows_seen (seen ++ record { prn = prn; sight = Visible row } ∷ []) ≡ rows_seen seen ++ record { prn = prn; ends = row } ∷ []
rows_more [] prn row = refl
rows_more (s ∷ ss) prn row = step s.prn s.sight (rows_seen ss) (rows_seen (ss ++ record { prn = prn; sight = Visible row } ∷ [])) (record { prn = prn; ends = row } ∷ []) (rows_more ss prn row)
  where
    step : (p : ℕ) (w : Sight) (xs ys zs : List NamedRow) → ys ≡ xs ++ zs → with_row p w ys ≡ with_row p w xs ++ zs
    step p (Visible r) xs ys zs e = ap (λ t. record { prn = p; ends = r } ∷ t) e
    step p Hidden xs ys zs e = e
    step p Straddles xs ys zs e = e

-- one without a row changes none
pub rows_same : (seen : List Sighted) (prn : ℕ) (w : Sight) → with_row prn w [] ≡ [] → rows_seen (seen ++ record { prn = prn; sight = w } ∷ []) ≡ rows_seen seen
rows_same [] prn w h = h
rows_same (s ∷ ss) prn w h = ap (λ t. with_row s.prn s.sight t) (rows_same ss prn w h)

-- how many may be visible
pub count_more : (seen : List Sighted) (prn : ℕ) (w : Sight) → count_possible (seen ++ record { prn = prn; sight = w } ∷ []) ≡ count_possible seen + one_if_possible w
count_more [] prn w = omega arith
count_more (s ∷ ss) prn w = let h = count_more ss prn w in omega arith

-- one that does not straddle changes no first
pub first_same : (seen : List Sighted) (prn : ℕ) (w : Sight) → or_straddling prn w None ≡ None → first_straddling (seen ++ record { prn = prn; sight = w } ∷ []) ≡ first_straddling seen
first_same [] prn w h = h
first_same (s ∷ ss) prn w h = ap (λ t. or_straddling s.prn s.sight t) (first_same ss prn w h)

-- one that straddles is the first, where there was none
pub first_more : (seen : List Sighted) (prn : ℕ) → first_straddling (seen ++ record { prn = prn; sight = Straddles } ∷ []) ≡ first_kept (first_straddling seen) prn
first_more [] prn = refl
first_more (s ∷ ss) prn = ap (λ t. or_straddling s.prn s.sight t) (first_more ss prn) ∙ step s.prn s.sight (first_straddling ss) prn
  where
    step : (p : ℕ) (w : Sight) (o : Option ℕ) (q : ℕ) → or_straddling p w (first_kept o q) ≡ first_kept (or_straddling p w o) q
    step p (Visible r) o q = refl
    step p Hidden o q = refl
    step p Straddles o q = refl

-- a row more, with its name
pub named_more : (rows : List Row) (r : Row) → named (rows ++ r ∷ []) ≡ named rows ++ named_row r ∷ []
named_more rows r = map-append named_row rows (r ∷ [])

-- ---- the direction of a visible satellite
-- a part of a direction is small
within : (a : Iv) → IsInside (ends a) record { lo = neg_ℤ (pos (2 ^ 38 + 1)); hi = pos (2 ^ 38 + 1) } → IsWithin a (2 ^ 38 + 1)
within a i = record { low = i.low; high = i.high }

-- and so are all three
pub direction_within : (xs : List Iv) → length xs ≡ 3 → DirectionInside (direction_ends xs) widest_direction → All (λ x. IsWithin x (2 ^ 38 + 1)) xs
direction_within [] e d = absurd (omega arith)
direction_within (x ∷ []) e d = absurd (omega arith)
direction_within (x ∷ y ∷ []) e d = absurd (omega arith)
direction_within (x ∷ y ∷ z ∷ []) e d = λ k f p. at k p f
  where
    at : (k : ℕ) → k < 3 → (f : Iv) → IsWithin (slice_index_or (x ∷ y ∷ z ∷ []) k f) (2 ^ 38 + 1)
    at zero p f = within x d.east
    at (suc zero) p f = within y d.north
    at (suc (suc zero)) p f = within z d.up
    at (suc (suc (suc k))) p f = absurd (omega arith)
direction_within (x ∷ y ∷ z ∷ w ∷ ws) e d = absurd (omega arith)

-- its row
pub row_given : (xs : List Iv) (r : Row) (k : Ends) → length xs ≡ 3 → ((e n u : Iv) → xs ≡ e ∷ n ∷ u ∷ [] → row_ends r ≡ weighed_of (ends e) (ends n) (ends u) k)
    → row_ends r ≡ weighed_of (direction_ends xs).east (direction_ends xs).north (direction_ends xs).up k
row_given [] r k e h = absurd (omega arith)
row_given (x ∷ []) r k e h = absurd (omega arith)
row_given (x ∷ y ∷ []) r k e h = absurd (omega arith)
row_given (x ∷ y ∷ z ∷ []) r k e h = h x y z refl
row_given (x ∷ y ∷ z ∷ w ∷ ws) r k e h = absurd (omega arith)
