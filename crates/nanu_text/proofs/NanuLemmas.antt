-- One more line of a file of messages.
use Rattle.std.proofs.Common.{◌∷◌, [], ◌++◌, List, Option, Some, None, sym, ap, ◌∙◌, subst, append-nil}
use Rattle.std.specs.Prelude.{All}
use Rattle.std.specs.Option.{option_to_list}
use Rattle.std.proofs.lemmas.List.Sums.{fold-append}
use Rattle.std.proofs.lemmas.List.Elements.{All-push}
use Rattle.text_lines.proofs.ReadingMore.{filter_map-more}
use Rattle.notice_model.specs.declared.notice.Notice.{Notice}
use Rattle.notice_model.specs.Notices.{IsWellFormed}
use Rattle.nanu_text.specs.declared.stage.Stage.{Stage}
use Rattle.nanu_text.specs.declared.stage.Stage.TheVariants.{Nothing}
use Rattle.nanu_text.specs.declared.stage.Entry.{Entry}
use Rattle.nanu_text.specs.declared.stage.Entry.TheVariants as entry
use Rattle.nanu_text.specs.declared.draft.Draft.{Draft}
use Rattle.nanu_text.specs.Nanus.{notice_in, stage_next}
use Rattle.nanu_text.specs.Stages.{IsStage, Fits}
use Rattle.nanu_text.specs.Drafts.{IsDraft, IsAfter, AddsTo, Say, told_in}

stage_fits : (stage : Stage) (e : Entry) → IsStage stage → Fits e → IsStage (stage_next stage e)
stage_fits stage entry.Blank s f = s
stage_fits stage (entry.Goes next) s f = f
stage_fits stage (entry.Ends said) s f = tt

notices_formed : (notices : List Notice) (e : Entry) → All IsWellFormed notices → Fits e → All IsWellFormed (notices ++ option_to_list (notice_in e))
notices_formed notices entry.Blank all f = subst (All IsWellFormed) (sym (append-nil notices)) all
notices_formed notices (entry.Goes next) all f = subst (All IsWellFormed) (sym (append-nil notices)) all
notices_formed notices (entry.Ends said) all f = All-push IsWellFormed notices said all f

-- nothing is added where the notices stay
pub adds_none : (told : Option (List Notice)) → AddsTo told [] told
adds_none None = tt
adds_none (Some notices) = sym (append-nil notices)

say_more : (old new : Option (List Notice)) (entries : List Entry) (e : Entry) → Say entries old → Fits e → AddsTo old (option_to_list (notice_in e)) new → Say (entries ++ e ∷ []) new
say_more old None entries e s f a = tt
say_more None (Some new) entries e s f a = absurd a
say_more (Some old) (Some new) entries e s f a = (
  a ∙ ap (λ ns. ns ++ option_to_list (notice_in e)) s.0 ∙ sym (filter_map-more notice_in entries e),
  subst (All IsWellFormed) (sym a) (notices_formed old e s.1 f),
)

-- the draft after one more line
pub draft_more : (old new : Draft) (entries : List Entry) (e : Entry) → IsDraft old entries → Fits e → IsAfter old e new → IsDraft new (entries ++ e ∷ [])
draft_more old new entries e d f a = record {
  stage = a.stage ∙ ap (λ (s : Stage). stage_next s e) d.stage ∙ sym (fold-append stage_next Nothing entries (e ∷ []));
  fits = subst IsStage (sym a.stage) (stage_fits old.stage e d.fits f);
  notices = say_more (told_in old.notices) (told_in new.notices) entries e d.notices f a.notices;
}
