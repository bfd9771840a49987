-- How often passes opened the head of an object, by their traces.
use Rattle.std.specs.Prelude.{ℕ, ◌+◌, ◌==◌, ◌&&◌, Bool, true, false, List, count_by, sum_by}
use Rattle.at_view.specs.declared.mark.Mark.{Mark}
use Rattle.at_view.specs.declared.mark.StepKind as step_kind
use Rattle.at_view.specs.declared.mark.StepKind.TheVariants as kinds
use Rattle.at_view.specs.declared.view.View.{View}
use Rattle.at_view.specs.Words.{number_of, head}

abbrev pub opens_head : step_kind.StepKind → Bool
opens_head kinds.LockTake = false
opens_head kinds.LockGive = false
opens_head kinds.SlotOut = false
opens_head kinds.SlotIn = false
opens_head kinds.Split = false
opens_head kinds.Join = false
opens_head kinds.PlaceLoad = false
opens_head kinds.IntentStore = false
opens_head kinds.Commit = false
opens_head kinds.TagLoad = false
opens_head kinds.TagGive = false
opens_head kinds.TagDrop = false
opens_head kinds.SequenceLoad = false
opens_head kinds.FieldLoad = false
opens_head kinds.SequenceTake = false
opens_head kinds.FieldStore = false
opens_head kinds.SequenceClose = false
opens_head kinds.HeadLoad = false
opens_head kinds.HeadOpen = true
opens_head kinds.HeadClose = false
opens_head kinds.InlineLoad = false
opens_head kinds.InlineStore = false
opens_head kinds.KeyLoad = false
opens_head kinds.KeyAppend = false
opens_head kinds.CommitIf = false
opens_head kinds.GlobalLoad = false
opens_head kinds.Retire = false
opens_head kinds.Checkpoint = false
opens_head kinds.Online = false
opens_head kinds.Offline = false
opens_head kinds.ScanLoad = false

abbrev pub is_opening : ℕ → Mark → Bool
is_opening o m = opens_head m.kind && (m.word == number_of (head o))

abbrev pub openings_in : ℕ → List Mark → ℕ
openings_in o marks = count_by (is_opening o) marks

-- in the trace of a view, and in those of the passes that it took in
abbrev pub openings_of : ℕ → View → ℕ
openings_of o v = openings_in o v.trace + sum_by (λ trail. openings_in o trail.marks) v.kept
