-- Over fractions: the eccentric anomaly follows the line about one whose mean anomaly is near.
use Rattle.std.specs.Prelude.{◌≡◌, pos, ◌^◌, [], ◌∷◌}
use Rattle.std.proofs.Common.{subst}
use Rattle.fractions.specs.Fraction.{Fraction, ratio, zeroᶠ, oneᶠ, ◌+ᶠ◌, ◌-ᶠ◌, ◌*ᶠ◌, neg, ◌≤ᶠ◌, IsNear}
use Rattle.fractions.proofs.Certificates.{at_most, equal_by, vanishing, not_negative, constants}
use Rattle.fractions.proofs.Laws.{≤ᶠ_trans}
use Rattle.fractions.proofs.Quote.{quote}
use Rattle.orbit_forms.proofs.Units.{units, unit}
use Rattle.orbit_forms.proofs.Lines.{near_factor, square_at_most}

abbrev pub gap43 : Fraction
gap43 = ratio (pos 1) (2 ^ 43)

abbrev pub gap98 : Fraction
gap98 = ratio (pos 1) (2 ^ 98)

abbrev pub gap42 : Fraction
gap42 = ratio (pos 1) (2 ^ 42)

abbrev pub gap97 : Fraction
gap97 = ratio (pos 1) (2 ^ 97)

-- a slope of the mean anomaly
pub record IsSlope (k : Fraction) : Type 0 where
  pub low : ratio (pos 19) 20 ≤ᶠ k
  pub high : k ≤ᶠ ratio (pos 21) 20

-- what the bracket of the centre leaves open of the mean anomaly
abbrev pub centre_miss : Fraction → Fraction
centre_miss r = ratio (pos 11) 10 *ᶠ r +ᶠ ratio (pos 1) 2048 *ᶠ unit

-- the mean anomalies of E and of c, which are at most r apart
pub centre_near : (e k E c r M m : Fraction) → zeroᶠ ≤ᶠ e → e ≤ᶠ ratio (pos 1) 128 → IsSlope k → IsNear E c r → r ≤ᶠ units (pos 18)
    → IsNear (k *ᶠ (E -ᶠ c)) (M -ᶠ m) (e *ᶠ (ratio (pos 20) 1 *ᶠ ((E -ᶠ c) *ᶠ (E -ᶠ c)) +ᶠ gap43) +ᶠ gap98) → IsNear M m (centre_miss r)
centre_near e k E c r M m el eh s n rh law =
    let x : Fraction = E -ᶠ c in
    let kl : ratio (pos 19) 20 ≤ᶠ k = s.low in
    let kh : k ≤ᶠ ratio (pos 21) 20 = s.high in
    let nl : E ≤ᶠ c +ᶠ r = n.low in
    let nh : c ≤ᶠ E +ᶠ r = n.high in
    let xh : x ≤ᶠ r = at_most (E ∷ c ∷ r ∷ []) ((c +ᶠ r) -ᶠ E) (search not_negative) (search quote depth 20) tt in
    let xl : neg r ≤ᶠ x = at_most (E ∷ c ∷ r ∷ []) ((E +ᶠ r) -ᶠ c) (search not_negative) (search quote depth 20) tt in
    by_step x xl xh kl kh law.low law.high
  where
    by_step : (x : Fraction) → neg r ≤ᶠ x → x ≤ᶠ r → ratio (pos 19) 20 ≤ᶠ k → k ≤ᶠ ratio (pos 21) 20
        → k *ᶠ x ≤ᶠ (M -ᶠ m) +ᶠ (e *ᶠ (ratio (pos 20) 1 *ᶠ (x *ᶠ x) +ᶠ gap43) +ᶠ gap98) → M -ᶠ m ≤ᶠ k *ᶠ x +ᶠ (e *ᶠ (ratio (pos 20) 1 *ᶠ (x *ᶠ x) +ᶠ gap43) +ᶠ gap98) → IsNear M m (centre_miss r)
    by_step x xl xh kl kh ll lh =
        let rn : zeroᶠ ≤ᶠ r = at_most (x ∷ r ∷ []) (ratio (pos 1) 2 *ᶠ ((r -ᶠ x) +ᶠ (x -ᶠ neg r))) (search not_negative) (search quote depth 20) tt in
        let a : (ratio (pos 20) 128) *ᶠ units (pos 18) ≤ᶠ ratio (pos 1) 20 = constants (search quote depth 20) tt in
        let b : ratio (pos 1) 128 *ᶠ gap43 +ᶠ gap98 ≤ᶠ ratio (pos 1) 2048 *ᶠ unit = constants (search quote depth 20) tt in
        let lost : e *ᶠ (ratio (pos 20) 1 *ᶠ (x *ᶠ x) +ᶠ gap43) +ᶠ gap98 ≤ᶠ ratio (pos 1) 20 *ᶠ r +ᶠ ratio (pos 1) 2048 *ᶠ unit = at_most (e ∷ x ∷ r ∷ [])
        ((ratio (pos 20) 1 *ᶠ e) *ᶠ ((r -ᶠ x) *ᶠ (x -ᶠ neg r)) +ᶠ ratio (pos 20) 1 *ᶠ ((ratio (pos 1) 128 -ᶠ e) *ᶠ (r *ᶠ r)) +ᶠ ratio (pos 20) 128 *ᶠ (r *ᶠ (units (pos 18) -ᶠ r)) +ᶠ (ratio (pos 1) 20 -ᶠ (ratio (pos 20) 128) *ᶠ units (pos 18)) *ᶠ r
        +ᶠ (ratio (pos 1) 128 -ᶠ e) *ᶠ gap43 +ᶠ (ratio (pos 1) 2048 *ᶠ unit -ᶠ (ratio (pos 1) 128 *ᶠ gap43 +ᶠ gap98))) (search not_negative depth 12) (search quote depth 40 fits 30000) tt in
        let y : Fraction = e *ᶠ (ratio (pos 20) 1 *ᶠ (x *ᶠ x) +ᶠ gap43) +ᶠ gap98 in
        let kx : k *ᶠ x ≤ᶠ ratio (pos 21) 20 *ᶠ r = at_most (k ∷ x ∷ r ∷ []) (k *ᶠ (r -ᶠ x) +ᶠ (ratio (pos 21) 20 -ᶠ k) *ᶠ r) (let kn : zeroᶠ ≤ᶠ k = ≤ᶠ_trans (constants (search quote depth 20) tt) kl in search not_negative) (search quote depth 20) tt in
        let xk : neg (ratio (pos 21) 20 *ᶠ r) ≤ᶠ k *ᶠ x = at_most (k ∷ x ∷ r ∷ []) (k *ᶠ (x -ᶠ neg r) +ᶠ (ratio (pos 21) 20 -ᶠ k) *ᶠ r) (let kn : zeroᶠ ≤ᶠ k = ≤ᶠ_trans (constants (search quote depth 20) tt) kl in search not_negative) (search quote depth 20) tt in
        ends (k *ᶠ x) y ll lh lost kx xk
      where
        ends : (p y : Fraction) → p ≤ᶠ (M -ᶠ m) +ᶠ y → M -ᶠ m ≤ᶠ p +ᶠ y → y ≤ᶠ ratio (pos 1) 20 *ᶠ r +ᶠ ratio (pos 1) 2048 *ᶠ unit → p ≤ᶠ ratio (pos 21) 20 *ᶠ r → neg (ratio (pos 21) 20 *ᶠ r) ≤ᶠ p → IsNear M m (centre_miss r)
        ends p y ll lh yl pl ph = record {
          low = at_most (p ∷ y ∷ M ∷ m ∷ r ∷ []) (((p +ᶠ y) -ᶠ (M -ᶠ m)) +ᶠ ((ratio (pos 1) 20 *ᶠ r +ᶠ ratio (pos 1) 2048 *ᶠ unit) -ᶠ y) +ᶠ (ratio (pos 21) 20 *ᶠ r -ᶠ p)) (search not_negative) (search quote depth 30) tt;
          high = at_most (p ∷ y ∷ M ∷ m ∷ r ∷ []) ((((M -ᶠ m) +ᶠ y) -ᶠ p) +ᶠ ((ratio (pos 1) 20 *ᶠ r +ᶠ ratio (pos 1) 2048 *ᶠ unit) -ᶠ y) +ᶠ (p -ᶠ neg (ratio (pos 21) 20 *ᶠ r))) (search not_negative) (search quote depth 30) tt;
        }

-- the turning over the slope: v is near V / k where V is near d v and d near k
turn_near : (k i d v V T f g : Fraction) → k *ᶠ i ≡ oneᶠ → zeroᶠ ≤ᶠ i → i ≤ᶠ ratio (pos 20) 19 → neg oneᶠ ≤ᶠ T → T ≤ᶠ oneᶠ → neg (ratio (pos 1) 2) ≤ᶠ v → v ≤ᶠ ratio (pos 1) 2 → IsNear V (d *ᶠ v) f → IsNear d k g
    → IsNear ((V *ᶠ T) *ᶠ i) (v *ᶠ T) (ratio (pos 20) 19 *ᶠ (f +ᶠ ratio (pos 1) 2 *ᶠ g))
turn_near k i d v V T f g e il ih tl th vl vh n s =
    let a = near_factor v (ratio (pos 1) 2) d k g vl vh s in
    let al : v *ᶠ d ≤ᶠ v *ᶠ k +ᶠ ratio (pos 1) 2 *ᶠ g = a.low in
    let ah : v *ᶠ k ≤ᶠ v *ᶠ d +ᶠ ratio (pos 1) 2 *ᶠ g = a.high in
    let nl : V ≤ᶠ d *ᶠ v +ᶠ f = n.low in
    let nh : d *ᶠ v ≤ᶠ V +ᶠ f = n.high in
    let b : IsNear V (k *ᶠ v) (f +ᶠ ratio (pos 1) 2 *ᶠ g) = record {
      low = at_most (V ∷ d ∷ v ∷ k ∷ f ∷ g ∷ []) (((d *ᶠ v +ᶠ f) -ᶠ V) +ᶠ ((v *ᶠ k +ᶠ ratio (pos 1) 2 *ᶠ g) -ᶠ v *ᶠ d)) (search not_negative) (search quote depth 20) tt;
      high = at_most (V ∷ d ∷ v ∷ k ∷ f ∷ g ∷ []) (((V +ᶠ f) -ᶠ d *ᶠ v) +ᶠ ((v *ᶠ d +ᶠ ratio (pos 1) 2 *ᶠ g) -ᶠ v *ᶠ k)) (search not_negative) (search quote depth 20) tt;
    } in
    let h : T *ᶠ i ≤ᶠ ratio (pos 20) 19 = at_most (T ∷ i ∷ []) ((oneᶠ -ᶠ T) *ᶠ i +ᶠ (ratio (pos 20) 19 -ᶠ i)) (search not_negative) (search quote depth 20) tt in
    let l : neg (ratio (pos 20) 19) ≤ᶠ T *ᶠ i = at_most (T ∷ i ∷ []) ((T -ᶠ neg oneᶠ) *ᶠ i +ᶠ (ratio (pos 20) 19 -ᶠ i)) (search not_negative) (search quote depth 20) tt in
    let c = near_factor (T *ᶠ i) (ratio (pos 20) 19) V (k *ᶠ v) (f +ᶠ ratio (pos 1) 2 *ᶠ g) l h b in
    let p : (T *ᶠ i) *ᶠ V ≡ (V *ᶠ T) *ᶠ i = equal_by (T ∷ i ∷ V ∷ []) zeroᶠ refl' (search quote depth 20) tt in
    let q : (T *ᶠ i) *ᶠ (k *ᶠ v) ≡ v *ᶠ T = equal_by (k ∷ i ∷ v ∷ T ∷ []) ((T *ᶠ v) *ᶠ (k *ᶠ i -ᶠ oneᶠ)) (search vanishing) (search quote depth 20) tt in
    subst (λ z. IsNear z (v *ᶠ T) (ratio (pos 20) 19 *ᶠ (f +ᶠ ratio (pos 1) 2 *ᶠ g))) p (subst (λ z. IsNear ((T *ᶠ i) *ᶠ V) z (ratio (pos 20) 19 *ᶠ (f +ᶠ ratio (pos 1) 2 *ᶠ g))) q c)
  where
    refl' : zeroᶠ ≡ zeroᶠ
    refl' = Rattle.std.specs.Prelude.refl

-- the eccentric anomaly F of the mean anomaly X, about c, whose mean anomaly is m
pub follows : (e k i c F X M m V W T R A d v f g : Fraction) → k *ᶠ i ≡ oneᶠ → zeroᶠ ≤ᶠ i → i ≤ᶠ ratio (pos 20) 19 → neg oneᶠ ≤ᶠ T → T ≤ᶠ oneᶠ → neg (ratio (pos 1) 2) ≤ᶠ v → v ≤ᶠ ratio (pos 1) 2 → neg W ≤ᶠ V → V ≤ᶠ W → zeroᶠ ≤ᶠ e
    → IsNear V (d *ᶠ v) f → IsNear d k g → IsNear M m A → IsNear X (M +ᶠ V *ᶠ T) R
    → IsNear (F -ᶠ c) ((X -ᶠ m) *ᶠ i) (e *ᶠ (ratio (pos 25) 1 *ᶠ ((X -ᶠ m) *ᶠ (X -ᶠ m)) +ᶠ gap42) +ᶠ gap97)
    → IsNear F (c +ᶠ v *ᶠ T) (ratio (pos 20) 19 *ᶠ ((R +ᶠ A) +ᶠ (f +ᶠ ratio (pos 1) 2 *ᶠ g)) +ᶠ (e *ᶠ (ratio (pos 25) 1 *ᶠ ((W +ᶠ (R +ᶠ A)) *ᶠ (W +ᶠ (R +ᶠ A))) +ᶠ gap42) +ᶠ gap97))
follows e k i c F X M m V W T R A d v f g ki il ih tl th vl vh wl wh el n s a p law =
    let al : M ≤ᶠ m +ᶠ A = a.low in
    let ah : m ≤ᶠ M +ᶠ A = a.high in
    let pl : X ≤ᶠ (M +ᶠ V *ᶠ T) +ᶠ R = p.low in
    let ph : M +ᶠ V *ᶠ T ≤ᶠ X +ᶠ R = p.high in
    let q : IsNear X (m +ᶠ V *ᶠ T) (R +ᶠ A) = record {
      low = at_most (X ∷ M ∷ m ∷ V ∷ T ∷ R ∷ A ∷ []) ((((M +ᶠ V *ᶠ T) +ᶠ R) -ᶠ X) +ᶠ ((m +ᶠ A) -ᶠ M)) (search not_negative) (search quote depth 20) tt;
      high = at_most (X ∷ M ∷ m ∷ V ∷ T ∷ R ∷ A ∷ []) (((X +ᶠ R) -ᶠ (M +ᶠ V *ᶠ T)) +ᶠ ((M +ᶠ A) -ᶠ m)) (search not_negative) (search quote depth 20) tt;
    } in
    let sq : (X -ᶠ m) *ᶠ (X -ᶠ m) ≤ᶠ (W +ᶠ (R +ᶠ A)) *ᶠ (W +ᶠ (R +ᶠ A)) = square_at_most X m V W (R +ᶠ A) T tl th wl wh q in
    let nil : neg (ratio (pos 20) 19) ≤ᶠ i = at_most (i ∷ []) (i +ᶠ ratio (pos 20) 19) (search not_negative) (search quote depth 20) tt in
    let ql : X ≤ᶠ (m +ᶠ V *ᶠ T) +ᶠ (R +ᶠ A) = q.low in
    let qh : m +ᶠ V *ᶠ T ≤ᶠ X +ᶠ (R +ᶠ A) = q.high in
    let x : IsNear (X -ᶠ m) (V *ᶠ T) (R +ᶠ A) = record {
      low = at_most (X ∷ m ∷ V ∷ T ∷ R ∷ A ∷ []) (((m +ᶠ V *ᶠ T) +ᶠ (R +ᶠ A)) -ᶠ X) (search not_negative) (search quote depth 20) tt;
      high = at_most (X ∷ m ∷ V ∷ T ∷ R ∷ A ∷ []) ((X +ᶠ (R +ᶠ A)) -ᶠ (m +ᶠ V *ᶠ T)) (search not_negative) (search quote depth 20) tt;
    } in
    let y = near_factor i (ratio (pos 20) 19) (X -ᶠ m) (V *ᶠ T) (R +ᶠ A) nil ih x in
    let z = turn_near k i d v V T f g ki il ih tl th vl vh n s in
    joined (X -ᶠ m) (V *ᶠ T) ((X -ᶠ m) *ᶠ (X -ᶠ m)) ((W +ᶠ (R +ᶠ A)) *ᶠ (W +ᶠ (R +ᶠ A))) (R +ᶠ A) (f +ᶠ ratio (pos 1) 2 *ᶠ g) sq y.low y.high z.low z.high law.low law.high
  where
    joined : (x y s q b h : Fraction) → s ≤ᶠ q → i *ᶠ x ≤ᶠ i *ᶠ y +ᶠ ratio (pos 20) 19 *ᶠ b → i *ᶠ y ≤ᶠ i *ᶠ x +ᶠ ratio (pos 20) 19 *ᶠ b → y *ᶠ i ≤ᶠ v *ᶠ T +ᶠ ratio (pos 20) 19 *ᶠ h → v *ᶠ T ≤ᶠ y *ᶠ i +ᶠ ratio (pos 20) 19 *ᶠ h
        → F -ᶠ c ≤ᶠ x *ᶠ i +ᶠ (e *ᶠ (ratio (pos 25) 1 *ᶠ s +ᶠ gap42) +ᶠ gap97) → x *ᶠ i ≤ᶠ (F -ᶠ c) +ᶠ (e *ᶠ (ratio (pos 25) 1 *ᶠ s +ᶠ gap42) +ᶠ gap97)
        → IsNear F (c +ᶠ v *ᶠ T) (ratio (pos 20) 19 *ᶠ (b +ᶠ h) +ᶠ (e *ᶠ (ratio (pos 25) 1 *ᶠ q +ᶠ gap42) +ᶠ gap97))
    joined x y s q b h sq yl yh zl zh ll lh = record {
      low = at_most (x ∷ y ∷ s ∷ q ∷ b ∷ h ∷ e ∷ F ∷ c ∷ v ∷ T ∷ i ∷ [])
          (((x *ᶠ i +ᶠ (e *ᶠ (ratio (pos 25) 1 *ᶠ s +ᶠ gap42) +ᶠ gap97)) -ᶠ (F -ᶠ c)) +ᶠ ((i *ᶠ y +ᶠ ratio (pos 20) 19 *ᶠ b) -ᶠ i *ᶠ x) +ᶠ ((v *ᶠ T +ᶠ ratio (pos 20) 19 *ᶠ h) -ᶠ y *ᶠ i) +ᶠ (ratio (pos 25) 1 *ᶠ e) *ᶠ (q -ᶠ s)) (search not_negative depth 10) (search quote depth 30) tt;
      high = at_most (x ∷ y ∷ s ∷ q ∷ b ∷ h ∷ e ∷ F ∷ c ∷ v ∷ T ∷ i ∷ [])
          ((((F -ᶠ c) +ᶠ (e *ᶠ (ratio (pos 25) 1 *ᶠ s +ᶠ gap42) +ᶠ gap97)) -ᶠ x *ᶠ i) +ᶠ ((i *ᶠ x +ᶠ ratio (pos 20) 19 *ᶠ b) -ᶠ i *ᶠ y) +ᶠ ((y *ᶠ i +ᶠ ratio (pos 20) 19 *ᶠ h) -ᶠ v *ᶠ T) +ᶠ (ratio (pos 25) 1 *ᶠ e) *ᶠ (q -ᶠ s)) (search not_negative depth 10) (search quote depth 30) tt;
    }
