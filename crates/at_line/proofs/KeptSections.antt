-- Lines of one thread have no writes of others.
use Rattle.std.proofs.Common.{◌≡◌, ◌∙◌, ℕ, ◌<◌, eq-eqb, Bool, List, [], ◌∷◌, ◌++◌, if◌then◌else◌, length, take, refl, sym, ap, subst}
use Rattle.std.specs.Prelude.{All}
use Rattle.std.proofs.lemmas.List.Elements.{All-nil, All-head, All-tail, All-get_or}
use Rattle.std.proofs.lemmas.Option.{slice_get_within, get_or_from_slice_get}
use Rattle.at_value.specs.declared.operation.Op as op
use Rattle.at_line.specs.declared.line.Line.{Line}
use Rattle.at_line.specs.declared.line.LineOp.TheVariants as line_ops
use Rattle.at_line.specs.declared.line.LineReply.TheVariants as line_replies
use Rattle.at_line.specs.declared.line.What as what
use Rattle.at_line.specs.declared.line.What.TheVariants as whats
use Rattle.at_model.specs.World.{World}
use Rattle.at_line.specs.Lines.{write_in}
use Rattle.at_line.specs.Kept.{Section, whats_of_thread, writes_beside, open_sections, LeavesAlone, IsLeftAlone, IsKeptEnd, IsKept}

abbrev OfThread : ℕ → Line → Type 0
OfThread thread line = line.thread ≡ thread

none_beside : (thread : ℕ) (lines : List Line) → All (OfThread thread) lines → writes_beside thread lines ≡ []
none_beside thread [] all = refl
none_beside thread (line ∷ lines) all =
    ap (λ (b : Bool). if b then writes_beside thread lines else write_in line.what ++ writes_beside thread lines) (eq-eqb line.thread thread (All-head (OfThread thread) line lines all))
    ∙ none_beside thread lines (All-tail (OfThread thread) line lines all)

-- where no other thread writes, each section is left alone
left_alone : (opened : World) (history : List op.Op) (ended : ℕ) (sections : List Section) → IsLeftAlone opened history ended [] sections
left_alone opened history ended [] = tt
left_alone opened history ended (section ∷ sections) = All-nil (LeavesAlone opened history section.begun ended section.objects)

kept_end : (opened : World) (history : List op.Op) (sections : List Section) (w : what.What) → IsKeptEnd opened history [] sections w
kept_end opened history sections (whats.Did place path (line_ops.Of operation) reply) = tt
kept_end opened history sections (whats.Did place path (line_ops.Begin first second) reply) = tt
kept_end opened history sections (whats.Did place path line_ops.Finish (line_replies.Of reply)) = tt
kept_end opened history sections (whats.Did place path line_ops.Finish line_replies.Kept) = left_alone opened history place.0 sections
kept_end opened history sections (whats.Did place path line_ops.Finish (line_replies.Suspended times)) = tt
kept_end opened history sections (whats.Local local) = tt

pub one_thread_kept : (opened : World) (thread : ℕ) (lines : List Line) (history : List op.Op) → All (λ (line : Line). line.thread ≡ thread) lines → IsKept opened history lines
one_thread_kept opened thread lines history all i line at =
    let within : i < length lines = slice_get_within lines i line at in
    let is : line.thread ≡ thread = subst (OfThread thread) (get_or_from_slice_get lines i line line at) (All-get_or (OfThread thread) lines i line within all) in
    let none : writes_beside line.thread lines ≡ [] = ap (λ (t : ℕ). writes_beside t lines) is ∙ none_beside thread lines all in
    let sections : List Section = open_sections [] (whats_of_thread line.thread (take i lines)) in
    subst (λ ws. IsKeptEnd opened history ws sections line.what) (sym none) (kept_end opened history sections line.what)
