-- Which satellites are usable.
use Rattle.std.specs.Prelude.{◌≡◌, ◌≢◌, ℕ, suc, ℤ, Bool, true, false, ◌&&◌, ◌||◌, ◌==◌, List, [], ◌∷◌, ◌++◌, All, refl}
use Rattle.std.proofs.Common.{arith}
use Rattle.std.proofs.lemmas.Bool.Decides.{nat_tests}
use Rattle.raim_model.specs.declared.almanac.AlmRecord.{AlmRecord}
use Rattle.raim_model.specs.declared.outage.Outage.{Outage}
use Rattle.raim_model.specs.Usable.{holds, is_healthy, is_out, is_usable}

or_right : (a b : Bool) → b ≡ true → (a || b) ≡ true
or_right true b e = refl
or_right false b e = e

not_and : (a b : Bool) → (a ≡ true → b ≡ false) → (a && b) ≡ false
not_and true b h = h refl
not_and false b h = refl

same : (m n : ℕ) → m ≡ n → (m == n) ≡ true
same m n e = grind (arith, nat_tests)

same_out : (m n : ℕ) → (m == n) ≡ true → m ≡ n
same_out m n e = grind (arith, nat_tests)

other : (m n : ℕ) → m ≢ n → (m == n) ≡ false
other m n e = grind (arith, nat_tests)

pub is_out_by : (before after : List Outage) (o : Outage) (prn : ℕ) (t : ℤ) → o.prn ≡ prn → holds o t ≡ true → is_out (before ++ (o ∷ after)) prn t ≡ true
is_out_by [] after o prn t e h = rw (same o.prn prn e, h) refl
is_out_by (b ∷ bs) after o prn t e h = or_right ((b.prn == prn) && holds b t) _ (is_out_by bs after o prn t e h)

pub is_out_by_none : (outages : List Outage) (prn : ℕ) (t : ℤ) → All (λ o. o.prn ≡ prn → holds o t ≡ false) outages → is_out outages prn t ≡ false
is_out_by_none [] prn t h = refl
is_out_by_none (o ∷ os) prn t h =
    rw (not_and (o.prn == prn) (holds o t) (λ e. h 0 o (omega arith) (same_out o.prn prn e)), is_out_by_none os prn t (λ k d p. h (suc k) d (omega (arith, p)))) refl

pub is_unhealthy : (outages : List Outage) (t : ℤ) (rec : AlmRecord) → rec.health ≢ 0 → is_usable outages t rec ≡ false
unfolding is_usable
is_unhealthy outages t rec n = rw (other rec.health 0 n) refl

pub is_usable_not : (outages : List Outage) (t : ℤ) (rec : AlmRecord) → is_out outages rec.prn t ≡ true → is_usable outages t rec ≡ false
unfolding is_usable
is_usable_not outages t rec e = rw e (by_health (is_healthy rec.health))
  where
    by_health : (b : Bool) → (b && false) ≡ false
    by_health true = refl
    by_health false = refl

pub is_usable_then : (outages : List Outage) (t : ℤ) (rec : AlmRecord) → rec.health ≡ 0 → is_out outages rec.prn t ≡ false → is_usable outages t rec ≡ true
unfolding is_usable
is_usable_then outages t rec h e = rw (same rec.health 0 h, e) refl
