-- What is kept of the lines so far.
use Rattle.std.specs.Prelude.{◌≡◌, List, ◌++◌, All, Option, Some, None, option_map, IfSome, Vec}
use Rattle.std.specs.Global.{Global}
use Rattle.std.specs.Option.{option_to_list}
use Rattle.notice_model.specs.declared.notice.Notice.{Notice}
use Rattle.notice_model.specs.Notices.{IsWellFormed}
use Rattle.nanu_text.specs.declared.stage.Entry.{Entry}
use Rattle.nanu_text.specs.declared.draft.Draft.{Draft}
use Rattle.nanu_text.specs.Nanus.{notice_in, notices_in, stage_next, stage_behind}
use Rattle.nanu_text.specs.Stages.{IsStage}

-- the notices, where there was memory for all of them
abbrev pub told_in : Option (Vec Notice Global) → Option (List Notice)
told_in notices = option_map (λ v. v.items) notices

-- with these behind them, where there was memory
abbrev pub AddsTo : Option (List Notice) → List Notice → Option (List Notice) → Type 0
AddsTo old more None = Unit {0}
AddsTo None more (Some new) = ⊥
AddsTo (Some old) more (Some new) = new ≡ old ++ more

-- the entries say these notices, and each is well formed
abbrev pub Say : List Entry → Option (List Notice) → Type 0
Say entries told = IfSome told (λ notices. (notices ≡ notices_in entries) × All IsWellFormed notices)

-- the draft is what these entries say
pub record IsDraft (draft : Draft) (entries : List Entry) : Type 0 where
  pub stage : draft.stage ≡ stage_behind entries
  pub fits : IsStage draft.stage
  pub notices : Say entries (told_in draft.notices)

-- new is old with one more line, which says the entry
pub record IsAfter (old : Draft) (entry : Entry) (new : Draft) : Type 0 where
  pub stage : new.stage ≡ stage_next old.stage entry
  pub notices : AddsTo (told_in old.notices) (option_to_list (notice_in entry)) (told_in new.notices)
