-- Lines and routes of a file.
use Rattle.std.proofs.Common.{◌≡◌, ◌<◌, ◌≤◌, ◌==◌, ◌+◌, ◌-◌, ℕ, Bool, true, false, List, [], ◌∷◌, ◌++◌, length, take, drop, cond, refl, sym, ap, ◌∙◌, subst, arith, append-nil, append_assoc, take-append-drop, length-append, length-drop}
use Rattle.std.specs.List.{list_all}
use Rattle.std.specs.declared.option.Option.TheVariants.{Some, None}
use Rattle.std.proofs.Math.Seq.{take-append_seam, drop-append_seam, take-length, drop-length, take-add}
use Rattle.std.proofs.lemmas.Bool.{eqb-true, eqb-false}
use Rattle.std.proofs.lemmas.List.{drop-drop}
use Rattle.text_lines.specs.Lines.{Text, is_inside, without_return}
use Rattle.text_lines.specs.Reading.{number_after}
use Rattle.text_lines.proofs.Cuts.{AllTrue}
use Rattle.text_lines.proofs.Feeds.{inside_all, cut_at_feed, cut_at_end}
use Rattle.report_text.specs.ReportLines.{pieces_of}
use Rattle.report_text.proofs.CutLemmas.{not_true}
use Rattle.report_text.proofs.PieceLemmas.{pieces-cons}
use Rattle.alm_reader.specs.Almanacs.{is_separator}
use Rattle.fleet_text.specs.Routes.{is_first_separator, is_parting, onto_route, routes_in, routes_of, parting_after}

-- a line that a line feed ends, of so many bytes
module _ (text line rest : Text) (len : ℕ) (e : text ≡ line ++ 10 ∷ rest) (inside : list_all is_inside line ≡ true) (l : len ≡ length text - length rest) where
  seam : text ≡ (line ++ 10 ∷ []) ++ rest
  seam = e ∙ sym (append_assoc line (10 ∷ []) rest)

  long : len ≡ length (line ++ 10 ∷ [])
  long = l ∙ ap (λ (t : Text). length t - length rest) seam ∙ ap (λ (n : ℕ). n - length rest) (length-append (line ++ 10 ∷ []) rest) ∙ (omega arith)

  ended_is : take len text ≡ line ++ 10 ∷ []
  ended_is = ap (λ (n : ℕ). take n text) long ∙ ap (λ (t : Text). take (length (line ++ 10 ∷ [])) t) seam ∙ take-append_seam (line ++ 10 ∷ []) rest

  rest_is : drop len text ≡ rest
  rest_is = ap (λ (n : ℕ). drop n text) long ∙ ap (λ (t : Text). drop (length (line ++ 10 ∷ [])) t) seam ∙ drop-append_seam (line ++ 10 ∷ []) rest

  pub ended_pieces : pieces_of text ≡ take len text ∷ pieces_of (drop len text)
  ended_pieces = ap pieces_of e ∙ pieces-cons line rest (inside_all is_inside line inside) ∙ ap (λ (t : Text). t ∷ pieces_of rest) (sym ended_is) ∙ ap (λ (t : Text). take len text ∷ pieces_of t) (sym rest_is)

  pub ended_parts : is_separator (without_return line) ≡ is_parting (take len text)
  ended_parts = sym (ap is_parting ended_is ∙ ap is_first (cut_at_feed line [] inside))
    where
      is_first : List Text → Bool
      is_first [] = false
      is_first (l ∷ ls) = is_separator l

pieces_last : (b : ℕ) (bs : Text) → AllTrue is_inside (b ∷ bs) → pieces_of (b ∷ bs) ≡ (b ∷ bs) ∷ []
pieces_last b [] h = rw (not_true (b == 10) h.0) refl
pieces_last b (c ∷ cs) h = rw (not_true (b == 10) h.0, pieces_last c cs h.1) refl

-- a last line, which the file ends
module _ (text : Text) (some : 0 < length text) (inside : list_all is_inside text ≡ true) where
  pub last_pieces : pieces_of text ≡ take (length text) text ∷ pieces_of (drop (length text) text)
  last_pieces = go text some (inside_all is_inside text inside) ∙ ap (λ (t : Text). t ∷ []) (sym (take-length text)) ∙ ap (λ (t : Text). take (length text) text ∷ pieces_of t) (sym (drop-length text))
    where
      go : (t : Text) → 0 < length t → AllTrue is_inside t → pieces_of t ≡ t ∷ []
      go [] some h = absurd (omega arith)
      go (b ∷ bs) some h = pieces_last b bs h

  pub last_parts : is_separator text ≡ is_parting (take (length text) text)
  last_parts = sym (ap is_parting (take-length text) ∙ go text some inside)
    where
      go : (t : Text) → 0 < length t → list_all is_inside t ≡ true → is_parting t ≡ is_separator t
      go [] some h = absurd (omega arith)
      go (b ∷ bs) some h = ap is_first_separator (cut_at_end (b ∷ bs) h)

-- what stands behind so many bytes, as code takes it
tail : (text : Text) (end : ℕ) → take (length text - end) (drop end text) ≡ drop end text
tail text end = ap (λ (n : ℕ). take n (drop end text)) (sym (length-drop end text)) ∙ take-length (drop end text)

-- a `---` line ends a route, and any other line goes on with it
parted : (piece : Text) (pieces : List Text) → is_parting piece ≡ true → routes_in (piece ∷ pieces) ≡ [] ∷ routes_in pieces
parted piece pieces h = rw h refl

kept : (piece : Text) (pieces : List Text) → is_parting piece ≡ false → routes_in (piece ∷ pieces) ≡ onto_route piece (routes_in pieces)
kept piece pieces h = rw h refl

-- a piece in front of a route is in front of what stands in front of it
onto_twice : (a b : Text) (routes : List Text) → onto_route a (onto_route b routes) ≡ onto_route (a ++ b) routes
onto_twice a b [] = refl
onto_twice a b (route ∷ routes) = ap (λ (t : Text). t ∷ routes) (sym (append_assoc a b route))

onto_some : (piece : Text) (routes : List Text) → 1 ≤ length (onto_route piece routes)
onto_some piece [] = omega arith
onto_some piece (route ∷ routes) = omega arith

-- a file has a route
some_route : (pieces : List Text) → 1 ≤ length (routes_in pieces)
some_route [] = omega arith
some_route (piece ∷ pieces) = go (is_parting piece)
  where
    go : (t : Bool) → 1 ≤ length (cond t ([] ∷ routes_in pieces) (onto_route piece (routes_in pieces)))
    go true = omega arith
    go false = onto_some piece (routes_in pieces)

above : (n : ℕ) → 0 < n → (n == 0) ≡ false
above n some = go (n == 0) refl
  where
    go : (t : Bool) → (n == 0) ≡ t → t ≡ false
    go false e = refl
    go true e = let zero = eqb-true n 0 e in absurd (omega arith)

-- the routes of a file of which so many bytes stand before the rest
module _ (text : Text) (end len : ℕ) (before : routes_of text ≡ onto_route (take end text) (routes_of (drop end text)))
    (pieces : pieces_of (drop end text) ≡ take len (drop end text) ∷ pieces_of (drop len (drop end text))) where
  pub route_goes_on : is_parting (take len (drop end text)) ≡ false → routes_of text ≡ onto_route (take (end + len) text) (routes_of (drop (end + len) text))
  route_goes_on parts =
      before
      ∙ ap (onto_route (take end text)) (ap routes_in pieces ∙ kept (take len (drop end text)) (pieces_of (drop len (drop end text))) parts)
      ∙ onto_twice (take end text) (take len (drop end text)) (routes_of (drop len (drop end text)))
      ∙ ap (λ (t : Text). onto_route t (routes_of (drop len (drop end text)))) (sym (take-add end len text))
      ∙ ap (λ (t : Text). onto_route (take (end + len) text) (routes_of t)) (drop-drop len end text)

  pub route_ends : is_parting (take len (drop end text)) ≡ true → routes_of text ≡ take end text ∷ routes_of (drop (end + len) text)
  route_ends parts =
      before
      ∙ ap (onto_route (take end text)) (ap routes_in pieces ∙ parted (take len (drop end text)) (pieces_of (drop len (drop end text))) parts)
      ∙ ap (λ (t : Text). t ∷ routes_of (drop len (drop end text))) (append-nil (take end text))
      ∙ ap (λ (t : Text). take end text ∷ routes_of t) (drop-drop len end text)

-- the same of what stands behind so many bytes, as code takes it
module _ (text : Text) (end len : ℕ) (parts : Bool) (within : end ≤ length text) (before : routes_of text ≡ onto_route (take end text) (routes_of (drop end text)))
    (long : len ≤ length (take (length text - end) (drop end text)))
    (pieces : pieces_of (take (length text - end) (drop end text)) ≡ take len (take (length text - end) (drop end text)) ∷ pieces_of (drop len (take (length text - end) (drop end text))))
    (is : parts ≡ is_parting (take len (take (length text - end) (drop end text)))) where
  behind : pieces_of (drop end text) ≡ take len (drop end text) ∷ pieces_of (drop len (drop end text))
  behind = subst (λ (s : Text). pieces_of s ≡ take len s ∷ pieces_of (drop len s)) (tail text end) pieces

  line_is : is_parting (take len (drop end text)) ≡ parts
  line_is = ap (λ (s : Text). is_parting (take len s)) (sym (tail text end)) ∙ sym is

  pub still_within : end + len ≤ length text
  still_within =
      let few : len ≤ length (drop end text) = subst (λ (s : Text). len ≤ length s) (tail text end) long in
      let left = length-drop end text in
      omega arith

  pub line_on : parts ≡ false → routes_of text ≡ onto_route (take (end + len) text) (routes_of (drop (end + len) text))
  line_on off = route_goes_on text end len before behind (line_is ∙ off)

  pub line_ends : parts ≡ true → routes_of text ≡ take end text ∷ routes_of (drop (end + len) text)
  line_ends on = route_ends text end len before behind (line_is ∙ on)

pub route_begins : (text : Text) → routes_of text ≡ onto_route [] (routes_of text)
route_begins text = go (routes_of text) (some_route (pieces_of text))
  where
    go : (routes : List Text) → 1 ≤ length routes → routes ≡ onto_route [] routes
    go [] some = absurd (omega arith)
    go (route ∷ routes) some = refl

pub route_last : (text : Text) (end : ℕ) → routes_of text ≡ onto_route (take end text) (routes_of (drop end text)) → drop end text ≡ [] → routes_of text ≡ text ∷ []
route_last text end before none =
    before
    ∙ ap (λ (t : Text). onto_route (take end text) (routes_of t)) none
    ∙ ap (λ (t : Text). t ∷ []) (ap (λ (t : Text). take end text ++ t) (sym none) ∙ take-append-drop end text)

onto_long : (piece : Text) (routes : List Text) (most : ℕ) → length routes ≤ most + 1 → length (onto_route piece routes) ≤ most + 1
onto_long piece [] most few = omega arith
onto_long piece (route ∷ routes) most few = few

-- the routes of pieces are one more than their `---` lines
pub few_in : (before last : ℕ) (pieces : List Text) → parting_after before last pieces ≡ None → length (routes_in pieces) ≤ before + 1
few_in before last [] none = omega arith
few_in before last (piece ∷ pieces) none = go (λ b l. few_in b l pieces) (is_parting piece) (before == 0) refl none
  where
    go : ((b l : ℕ) → parting_after b l pieces ≡ None → length (routes_in pieces) ≤ b + 1) → (t z : Bool) → (before == 0) ≡ z
        → cond t (cond z (Some (number_after last)) (parting_after (before - 1) (number_after last) pieces)) (parting_after before (number_after last) pieces) ≡ None
        → length (cond t ([] ∷ routes_in pieces) (onto_route piece (routes_in pieces))) ≤ before + 1
    go again true true e none = cc
    go again true false e none = let few = again (before - 1) (number_after last) none in let some = eqb-false before 0 e in omega arith
    go again false z e none = onto_long piece (routes_in pieces) before (again before (number_after last) none)

-- the count of `---` lines and the number of the line go on
past_other : (before last : ℕ) (piece : Text) (pieces : List Text) → is_parting piece ≡ false → parting_after before last (piece ∷ pieces) ≡ parting_after before (number_after last) pieces
past_other before last piece pieces h = rw h refl

past_parting : (before last : ℕ) (piece : Text) (pieces : List Text) → is_parting piece ≡ true → 0 < before → parting_after before last (piece ∷ pieces) ≡ parting_after (before - 1) (number_after last) pieces
past_parting before last piece pieces h some = rw (h, above before some) refl

at_parting : (before last : ℕ) (piece : Text) (pieces : List Text) → is_parting piece ≡ true → before ≡ 0 → parting_after before last (piece ∷ pieces) ≡ Some (number_after last)
at_parting before last piece pieces h none = rw (h, none) refl

module _ (rest : Text) (before last len : ℕ) (pieces : pieces_of rest ≡ take len rest ∷ pieces_of (drop len rest)) where
  pub other_line : is_parting (take len rest) ≡ false → parting_after before last (pieces_of rest) ≡ parting_after before (number_after last) (pieces_of (drop len rest))
  other_line parts = ap (parting_after before last) pieces ∙ past_other before last (take len rest) (pieces_of (drop len rest)) parts

  pub parting_line : is_parting (take len rest) ≡ true → 0 < before → parting_after before last (pieces_of rest) ≡ parting_after (before - 1) (number_after last) (pieces_of (drop len rest))
  parting_line parts some = ap (parting_after before last) pieces ∙ past_parting before last (take len rest) (pieces_of (drop len rest)) parts some

  pub last_parting : is_parting (take len rest) ≡ true → before ≡ 0 → parting_after before last (pieces_of rest) ≡ Some (number_after last)
  last_parting parts none = ap (parting_after before last) pieces ∙ at_parting before last (take len rest) (pieces_of (drop len rest)) parts none
