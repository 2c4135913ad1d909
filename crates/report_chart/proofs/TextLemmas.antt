-- Texts that grow part by part.
use Rattle.std.proofs.Common.{◌≡◌, ◌∙◌, sym, ap, ℕ, ◌+◌, ◌<◌, List, [], ◌∷◌, ◌++◌, append_assoc, length, take, get_or, append-nil, Result, Ok, Err}
use Rattle.std.specs.Prelude.{OnOk}
use Rattle.std.specs.List.{flat_map}
use Rattle.std.proofs.lemmas.List.{take_more}
use Rattle.std.proofs.lemmas.List.Concat.{flat_map-append}
use Rattle.text_lines.specs.Lines.{Text}

-- two parts, one after the other
pub onto : (t0 t1 t2 a b : Text) → t1 ≡ t0 ++ a → t2 ≡ t1 ++ b → t2 ≡ t0 ++ (a ++ b)
onto t0 t1 t2 a b p q = q ∙ ap (λ t. t ++ b) p ∙ append_assoc t0 a b

-- and the last part
pub ends : {T E : Type 0} (r : Result T E) (t0 t1 t2 a b : Text) → t1 ≡ t0 ++ a → OnOk r (t2 ≡ t1 ++ b) → OnOk r (t2 ≡ t0 ++ (a ++ b))
ends (Ok x) t0 t1 t2 a b p q = onto t0 t1 t2 a b p q
ends (Err e) t0 t1 t2 a b p q = tt

-- three to seven parts
joined3 : (t0 t1 t2 t3 a1 a2 a3 : Text) → t1 ≡ t0 ++ a1 → t2 ≡ t1 ++ a2 → t3 ≡ t2 ++ a3 → t3 ≡ t0 ++ (a1 ++ a2 ++ a3)
joined3 t0 t1 t2 t3 a1 a2 a3 p1 p2 p3 = onto t0 t2 t3 (a1 ++ a2) a3 (onto t0 t1 t2 a1 a2 p1 p2) p3

joined4 : (t0 t1 t2 t3 t4 a1 a2 a3 a4 : Text) → t1 ≡ t0 ++ a1 → t2 ≡ t1 ++ a2 → t3 ≡ t2 ++ a3 → t4 ≡ t3 ++ a4 → t4 ≡ t0 ++ (a1 ++ a2 ++ a3 ++ a4)
joined4 t0 t1 t2 t3 t4 a1 a2 a3 a4 p1 p2 p3 p4 = onto t0 t3 t4 (a1 ++ a2 ++ a3) a4 (joined3 t0 t1 t2 t3 a1 a2 a3 p1 p2 p3) p4

joined5 : (t0 t1 t2 t3 t4 t5 a1 a2 a3 a4 a5 : Text) → t1 ≡ t0 ++ a1 → t2 ≡ t1 ++ a2 → t3 ≡ t2 ++ a3 → t4 ≡ t3 ++ a4 → t5 ≡ t4 ++ a5 → t5 ≡ t0 ++ (a1 ++ a2 ++ a3 ++ a4 ++ a5)
joined5 t0 t1 t2 t3 t4 t5 a1 a2 a3 a4 a5 p1 p2 p3 p4 p5 = onto t0 t4 t5 (a1 ++ a2 ++ a3 ++ a4) a5 (joined4 t0 t1 t2 t3 t4 a1 a2 a3 a4 p1 p2 p3 p4) p5

joined6 : (t0 t1 t2 t3 t4 t5 t6 a1 a2 a3 a4 a5 a6 : Text) → t1 ≡ t0 ++ a1 → t2 ≡ t1 ++ a2 → t3 ≡ t2 ++ a3 → t4 ≡ t3 ++ a4 → t5 ≡ t4 ++ a5 → t6 ≡ t5 ++ a6 → t6 ≡ t0 ++ (a1 ++ a2 ++ a3 ++ a4 ++ a5 ++ a6)
joined6 t0 t1 t2 t3 t4 t5 t6 a1 a2 a3 a4 a5 a6 p1 p2 p3 p4 p5 p6 = onto t0 t5 t6 (a1 ++ a2 ++ a3 ++ a4 ++ a5) a6 (joined5 t0 t1 t2 t3 t4 t5 a1 a2 a3 a4 a5 p1 p2 p3 p4 p5) p6

pub parts3 : {T E : Type 0} (r : Result T E) (t0 t1 t2 t3 a1 a2 a3 : Text)
    → t1 ≡ t0 ++ a1 → t2 ≡ t1 ++ a2 → OnOk r (t3 ≡ t2 ++ a3)
    → OnOk r (t3 ≡ t0 ++ (a1 ++ a2 ++ a3))
parts3 r t0 t1 t2 t3 a1 a2 a3 p1 p2 p3 =
    ends r t0 t2 t3 (a1 ++ a2) a3 (onto t0 t1 t2 a1 a2 p1 p2) p3

pub parts4 : {T E : Type 0} (r : Result T E) (t0 t1 t2 t3 t4 a1 a2 a3 a4 : Text)
    → t1 ≡ t0 ++ a1 → t2 ≡ t1 ++ a2 → t3 ≡ t2 ++ a3 → OnOk r (t4 ≡ t3 ++ a4)
    → OnOk r (t4 ≡ t0 ++ (a1 ++ a2 ++ a3 ++ a4))
parts4 r t0 t1 t2 t3 t4 a1 a2 a3 a4 p1 p2 p3 p4 =
    ends r t0 t3 t4 (a1 ++ a2 ++ a3) a4 (joined3 t0 t1 t2 t3 a1 a2 a3 p1 p2 p3) p4

pub parts5 : {T E : Type 0} (r : Result T E) (t0 t1 t2 t3 t4 t5 a1 a2 a3 a4 a5 : Text)
    → t1 ≡ t0 ++ a1 → t2 ≡ t1 ++ a2 → t3 ≡ t2 ++ a3 → t4 ≡ t3 ++ a4 → OnOk r (t5 ≡ t4 ++ a5)
    → OnOk r (t5 ≡ t0 ++ (a1 ++ a2 ++ a3 ++ a4 ++ a5))
parts5 r t0 t1 t2 t3 t4 t5 a1 a2 a3 a4 a5 p1 p2 p3 p4 p5 =
    ends r t0 t4 t5 (a1 ++ a2 ++ a3 ++ a4) a5 (joined4 t0 t1 t2 t3 t4 a1 a2 a3 a4 p1 p2 p3 p4) p5

pub parts6 : {T E : Type 0} (r : Result T E) (t0 t1 t2 t3 t4 t5 t6 a1 a2 a3 a4 a5 a6 : Text)
    → t1 ≡ t0 ++ a1 → t2 ≡ t1 ++ a2 → t3 ≡ t2 ++ a3 → t4 ≡ t3 ++ a4 → t5 ≡ t4 ++ a5 → OnOk r (t6 ≡ t5 ++ a6)
    → OnOk r (t6 ≡ t0 ++ (a1 ++ a2 ++ a3 ++ a4 ++ a5 ++ a6))
parts6 r t0 t1 t2 t3 t4 t5 t6 a1 a2 a3 a4 a5 a6 p1 p2 p3 p4 p5 p6 =
    ends r t0 t5 t6 (a1 ++ a2 ++ a3 ++ a4 ++ a5) a6 (joined5 t0 t1 t2 t3 t4 t5 a1 a2 a3 a4 a5 p1 p2 p3 p4 p5) p6

pub parts7 : {T E : Type 0} (r : Result T E) (t0 t1 t2 t3 t4 t5 t6 t7 a1 a2 a3 a4 a5 a6 a7 : Text)
    → t1 ≡ t0 ++ a1 → t2 ≡ t1 ++ a2 → t3 ≡ t2 ++ a3 → t4 ≡ t3 ++ a4 → t5 ≡ t4 ++ a5 → t6 ≡ t5 ++ a6 → OnOk r (t7 ≡ t6 ++ a7)
    → OnOk r (t7 ≡ t0 ++ (a1 ++ a2 ++ a3 ++ a4 ++ a5 ++ a6 ++ a7))
parts7 r t0 t1 t2 t3 t4 t5 t6 t7 a1 a2 a3 a4 a5 a6 a7 p1 p2 p3 p4 p5 p6 p7 =
    ends r t0 t6 t7 (a1 ++ a2 ++ a3 ++ a4 ++ a5 ++ a6) a7 (joined6 t0 t1 t2 t3 t4 t5 t6 a1 a2 a3 a4 a5 a6 p1 p2 p3 p4 p5 p6) p7

-- one more item of a list, each of which is printed
pub flat_step : {X : Type 0} (f : X → Text) (xs : List X) (i : ℕ) (d : X) (t0 a t1 t2 : Text) → i < length xs → t1 ≡ t0 ++ (a ++ flat_map f (take i xs)) → t2 ≡ t1 ++ f (get_or xs i d)
    → t2 ≡ t0 ++ (a ++ flat_map f (take (i + 1) xs))
flat_step f xs i d t0 a t1 t2 within p q =
    let more : flat_map f (take (i + 1) xs) ≡ flat_map f (take i xs) ++ f (get_or xs i d) =
    ap (flat_map f) (take_more xs i d within) ∙ flat_map-append f (take i xs) (get_or xs i d ∷ []) ∙ ap (λ t. flat_map f (take i xs) ++ t) (append-nil (f (get_or xs i d))) in
    q ∙ ap (λ t. t ++ f (get_or xs i d)) p ∙ append_assoc t0 (a ++ flat_map f (take i xs)) (f (get_or xs i d)) ∙ ap (λ t. t0 ++ t) (append_assoc a (flat_map f (take i xs)) (f (get_or xs i d)) ∙ ap (λ t. a ++ t) (sym more))
