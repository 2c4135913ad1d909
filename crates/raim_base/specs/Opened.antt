-- What is opened of the four files, and what a read does to one.
use Rattle.std.specs.Prelude.{◌≡◌, ◌≢◌, ℕ, List, Result, Ok}
use Rattle.std.specs.declared.option.Option.{Option}
use Rattle.std.specs.declared.option.Option.TheVariants.{Some, None}
use Rattle.std.specs.Io.KnownBytes.{ReadConsumes}
use Rattle.raim_model.specs.declared.FileNo.{FileNo}
use Rattle.raim_model.specs.declared.FileNo.TheVariants.{Limits, Almanac, Outages, Route}
use Rattle.raim_base.specs.declared.file_desk.OpenedFiles.{OpenedFiles}

-- what is opened as a file
abbrev pub opened_as : {F : Type 0} → OpenedFiles F → FileNo → Option F
opened_as opened Limits = opened.limits
opened_as opened Almanac = opened.almanac
opened_as opened Outages = opened.outages
opened_as opened Route = opened.route

-- the opened file gives what its reader has left; where none is opened there is nothing to give
abbrev pub ReadsOpened : {F E : Type 0} → (F → Option (List ℕ)) → Option F → Option F → Result ℕ E → List ℕ → Type 0
ReadsOpened left None new r buf = (r ≡ Ok 0) × (new ≡ None)
ReadsOpened left (Some f) None r buf = ⊥
ReadsOpened left (Some f) (Some g) r buf = ReadConsumes (left f) (left g) r buf

-- what is opened as another file stays
abbrev pub KeepsOpened : {F : Type 0} → OpenedFiles F → OpenedFiles F → FileNo → Type 0
KeepsOpened old new file = (f : FileNo) → f ≢ file → opened_as new f ≡ opened_as old f
