-- Blocks one after another: how a reading of them goes on, and that a text has one.
use Rattle.std.proofs.Common.{◌≡◌, ◌+◌, ◌-◌, ℕ, suc, true, false, List, [], ◌∷◌, ◌++◌, length, take, refl, sym, ap, ap₂, ◌∙◌, subst, append-nil, append_assoc, length-append, arith, inr}
use Rattle.std.specs.Prelude.{All, map}
use Rattle.std.proofs.Math.Seq.{take-append_seam}
use Rattle.std.proofs.lemmas.List.{map-append, length-map}
use Rattle.std.proofs.lemmas.List.Elements.{All-append, All-cons, All-nil}
use Rattle.raim_model.specs.declared.Refusal.{Refusal}
use Rattle.raim_model.specs.declared.Refusal.TheVariants.{Memory, Text as Refused}
use Rattle.text_lines.specs.Lines.{Text}
use Rattle.report_text.specs.ReportLines.{pieces_of}
use Rattle.fleet_text.specs.Fleet.{head_of, block_of, blocks_from}
use Rattle.report_chart.specs.declared.Row.{Row}
use Rattle.report_chart.specs.Chart.{IsRow}
use Rattle.chart_text.specs.LineNumbers.{lines_in, number_behind, refusal_behind}
use Rattle.chart_text.specs.Blocks.{Said, said_by, is_head, body_in, body_of, IsBodyOf, IsSayable, RefusesBlock}
use Rattle.chart_text.specs.Fleets.{AreBodiesOf, IsFleetOf}
use Rattle.chart_text.specs.Refusals.{IsBodyRefused, IsBlockRefused, IsFleetRefused}
use Rattle.chart_text.proofs.BodyLemmas.{Stops}

-- one more line of a body
pub body_on : (text rest line after : Text) → ((front : Text) × (text ≡ front ++ rest) × (body_of text ≡ front ++ body_of rest)) → pieces_of rest ≡ line ∷ pieces_of after → rest ≡ line ++ after → is_head line ≡ false
    → (front : Text) × (text ≡ front ++ after) × (body_of text ≡ front ++ body_of after)
body_on text rest line after so pieces split other = (
  so.0 ++ line,
  so.1 ∙ ap (λ (t : Text). so.0 ++ t) split ∙ sym (append_assoc so.0 line after),
  so.2 ∙ ap (λ (t : Text). so.0 ++ t) (ap body_in pieces ∙ goes_on other) ∙ sym (append_assoc so.0 line (body_of after)),
)
  where
    goes_on : is_head line ≡ false → body_in (line ∷ pieces_of after) ≡ line ++ body_of after
    goes_on h = rw h refl

-- a body that is refused is so behind its head
pub body_refused : (number : ℕ) (text tail : Text) (refusal : Refusal) → text ≡ head_of number ++ tail → IsBodyRefused (body_of tail) refusal → IsBlockRefused number text (refusal_behind 1 refusal)
body_refused number text tail Memory e h = tt
body_refused number text tail (Refused fault) e h = inr (record { tail = tail; under = fault.line; split = e; refused = h; line_is = refl })

-- one more block
bodies_more : (saids : List Said) (bodies : List Text) (said : Said) (body : Text) → AreBodiesOf saids bodies → IsBodyOf said body → AreBodiesOf (saids ++ said ∷ []) (bodies ++ body ∷ [])
bodies_more [] [] said body are is = (is, tt)
bodies_more [] (b ∷ bs) said body are is = absurd are
bodies_more (s ∷ ss) [] said body are is = absurd are
bodies_more (s ∷ ss) (b ∷ bs) said body are is = (are.0, bodies_more ss bs said body are.1 is)

bodies_len : (saids : List Said) (bodies : List Text) → AreBodiesOf saids bodies → length bodies ≡ length saids
bodies_len [] [] are = refl
bodies_len [] (b ∷ bs) are = absurd are
bodies_len (s ∷ ss) [] are = absurd are
bodies_len (s ∷ ss) (b ∷ bs) are = ap suc (bodies_len ss bs are.1)

blocks_more : (number : ℕ) (bodies : List Text) (body : Text) → blocks_from number (bodies ++ body ∷ []) ≡ blocks_from number bodies ++ block_of (number + length bodies) body
blocks_more number [] body = append-nil (block_of number body) ∙ ap (λ (n : ℕ). block_of n body) (omega arith)
blocks_more number (b ∷ bs) body =
    ap (λ (t : Text). block_of number b ++ t) (blocks_more (number + 1) bs body ∙ ap (λ (n : ℕ). blocks_from (number + 1) bs ++ block_of n body) (omega arith))
    ∙ sym (append_assoc (block_of number b) (blocks_from (number + 1) bs) (block_of (number + length (b ∷ bs)) body))

fleet_more : (saids : List Said) (front : Text) (said : Said) (body : Text) → IsFleetOf saids front → IsBodyOf said body → IsFleetOf (saids ++ said ∷ []) (front ++ block_of (length saids + 1) body)
fleet_more saids front said body fleet is = (
  fleet.0 ++ body ∷ [],
  bodies_more saids fleet.0 said body fleet.1 is,
  ap₂ (λ (t : Text) (n : ℕ). t ++ block_of n body) fleet.2 (let same = bodies_len saids fleet.0 fleet.1 in omega arith) ∙ sym (blocks_more 1 fleet.0 body),
)

-- a text that is read up to the rest, whose blocks say what the rows say
pub record IsReadTo (rows : List Row) (text rest : Text) : Type 0 where
  pub front : Text
  pub split : text ≡ front ++ rest
  pub fleet : IsFleetOf (map said_by rows) front
  pub sayable : All IsSayable (map said_by rows)
  pub are_rows : All IsRow rows
  pub stops : Stops rest

pub none_read : (text : Text) → is_head text ≡ true → IsReadTo [] text text
none_read text head = record { front = []; split = refl; fleet = ([], tt, refl); sayable = All-nil IsSayable; are_rows = All-nil IsRow; stops = inr head }

-- one row more
module _ (rows new : List Row) (row : Row) (text rest after : Text) (number : ℕ) (read : IsReadTo rows text rest) (n : number ≡ length rows + 1) where
  pub read_more : ((body : Text) × IsBodyOf (said_by row) body × (rest ≡ block_of number body ++ after)) → IsSayable (said_by row) → IsRow row → Stops after → new ≡ rows ++ row ∷ [] → IsReadTo new text after
  read_more block sayable is stops e = subst (λ (rs : List Row). IsReadTo rs text after) (sym e) (record {
    front = read.front ++ block_of (length (map said_by rows) + 1) block.0;
    split = read.split ∙ ap (λ (t : Text). read.front ++ t) (block.2 ∙ ap (λ (k : ℕ). block_of k block.0 ++ after) (n ∙ ap (λ (k : ℕ). k + 1) (sym (length-map rows said_by))))
        ∙ sym (append_assoc read.front (block_of (length (map said_by rows) + 1) block.0) after);
    fleet = subst (λ (ss : List Said). IsFleetOf ss (read.front ++ block_of (length (map said_by rows) + 1) block.0)) (sym (map-append said_by rows (row ∷ [])))
        (fleet_more (map said_by rows) read.front (said_by row) block.0 read.fleet block.1);
    sayable = subst (All IsSayable) (sym (map-append said_by rows (row ∷ []))) (All-append IsSayable (map said_by rows) (said_by row ∷ []) read.sayable (All-cons IsSayable (said_by row) [] sayable (All-nil IsSayable)));
    are_rows = All-append IsRow rows (row ∷ []) read.are_rows (All-cons IsRow row [] is (All-nil IsRow));
    stops = stops;
  })

-- and the first block that is refused
module _ (rows : List Row) (text rest : Text) (number : ℕ) (read : IsReadTo rows text rest) (n : number ≡ length rows + 1) where
  pub refused_next : (refusal : Refusal) (before : ℕ) → before ≡ lines_in (take (length text - length rest) text) → IsBlockRefused number rest refusal → IsFleetRefused text (refusal_behind before refusal)
  refused_next Memory before b h = tt
  refused_next (Refused fault) before b h = record {
    front = read.front;
    back = rest;
    split = read.split;
    saids = map said_by rows;
    before = read.fleet;
    sayable = read.sayable;
    line = fault.line;
    here = subst (λ (k : ℕ). RefusesBlock k rest fault.line fault.why) (n ∙ ap (λ (k : ℕ). k + 1) (sym (length-map rows said_by))) h;
    numbered = ap (λ (k : ℕ). number_behind k fault.line) (b ∙ ap lines_in front_is);
  }
    where
      front_is : take (length text - length rest) text ≡ read.front
      front_is =
          let len : length text ≡ length read.front + length rest = ap length read.split ∙ length-append read.front rest in
          ap (λ (k : ℕ). take k text) (omega (arith, len)) ∙ ap (λ (t : Text). take (length read.front) t) read.split ∙ take-append_seam read.front rest

-- at the end of the text
pub read_whole : (rows : List Row) (text rest : Text) → IsReadTo rows text rest → rest ≡ [] → IsFleetOf (map said_by rows) text
read_whole rows text rest read e = subst (IsFleetOf (map said_by rows)) (sym (read.split ∙ ap (λ (t : Text). read.front ++ t) e ∙ append-nil read.front)) read.fleet
