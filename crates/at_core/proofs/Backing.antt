-- The steps that stand behind lines.
use Rattle.std.proofs.Common.{◌≡◌, ℕ, zero, suc, List, [], ◌∷◌, ◌++◌, inl, inr, true≢false, refl, sym, ap, ◌∙◌, subst}
use Rattle.std.proofs.lemmas.List.{append_assoc, append-nil}
use Rattle.std.specs.Prelude.{◌⊎◌, Bool, true, false, Some, unwrap_or}
use Rattle.at_value.specs.declared.reply.Path as path
use Rattle.at_value.specs.declared.reply.Place.{Place}
use Rattle.at_line.specs.Lines.{is_write_reply}
use Rattle.at_line.specs.declared.line.LineOp as line_op
use Rattle.at_line.specs.declared.line.LineOp.TheVariants as line_ops
use Rattle.at_line.specs.declared.line.LineReply as line_reply
use Rattle.at_line.specs.declared.line.What as what
use Rattle.at_line.specs.declared.line.What.TheVariants as whats
use Rattle.at_view.specs.declared.mark.Mark.{Mark}
use Rattle.at_view.specs.declared.mark.StepKind as step_kind
use Rattle.at_view.specs.declared.mark.StepKind.TheVariants as kinds
use Rattle.at_view.specs.Words.{place, type_lock}
use Rattle.at_core.specs.Backed.{Has, TakesPlace, StandsAt, Backs, BacksAll, BackingIsJoined, BackingStays, NothingBacks, ClassIsBacked, class_marks}
use Rattle.at_core.specs.Steps.{mark}

steps_before : (marks more : List Mark) (lines : List what.What) → BacksAll more lines → BacksAll (marks ++ more) lines
steps_before marks more [] b = tt
steps_before marks more (line ∷ lines) (before, part, after, is, one, rest) = (marks ++ before, part, after, ap (λ ms. marks ++ ms) is ∙ sym (append_assoc marks before (part ++ after)), one, rest)

pub joined : BackingIsJoined
joined marks more [] others a b = steps_before marks more others b
joined marks more (line ∷ lines) others (before, part, after, is, one, rest) b = (
  before,
  part,
  after ++ more,
  ap (λ ms. ms ++ more) is ∙ (append_assoc before (part ++ after) more ∙ ap (λ ms. before ++ ms) (append_assoc part after more)),
  one,
  joined after more lines others rest b,
)

pub stays : BackingStays
stays marks more lines b = subst (BacksAll (marks ++ more)) (append-nil lines) (joined marks more lines [] b tt)

-- one step of a part is one of the whole

some_of : {m n : Mark} → Some m ≡ Some n → m ≡ n
some_of e = cc (e)

has_before : {P : Mark → Type 0} → (before marks : List Mark) → Has P marks → Has P (before ++ marks)
has_before [] marks has = has
has_before {P} (m ∷ before) marks has = let (i, n, at, p) = has_before {P = P} before marks has in (suc i, n, at, p)

has_after : {P : Mark → Type 0} → (marks after : List Mark) → Has P marks → Has P (marks ++ after)
has_after [] after (i, m, at, p) = absurd (cc (at))
has_after (n ∷ marks) after (zero, m, at, p) = (zero, m, at, p)
has_after {P} (n ∷ marks) after (suc i, m, at, p) = let (j, k, there, q) = has_after {P = P} marks after (i, m, at, p) in (suc j, k, there, q)

has_within : {P : Mark → Type 0} → (whole before part after : List Mark) → whole ≡ before ++ (part ++ after) → Has P part → Has P whole
has_within {P} whole before part after is has = subst (Has P) (sym is) (has_before before (part ++ after) (has_after part after has))

-- nothing has no step

stands_not : (write : Bool) (p : ℕ) → ¬ StandsAt write p []
stands_not true p (i, m, at, t) = absurd (cc (at))
stands_not false p (i, m, at, t) = absurd (cc (at))

backs_not : (p : Place) (way : path.Path) (operation : line_op.LineOp) (reply : line_reply.LineReply) → ¬ Backs [] (whats.Did p way operation reply)
backs_not p way (line_ops.Of operation) reply b = stands_not (is_write_reply reply) p.0 b.0
backs_not p way (line_ops.Begin first second) reply b = stands_not false p.0 b
backs_not p way line_ops.Finish reply b = stands_not false p.0 b

pub nothing : NothingBacks
nothing p way operation reply ([], [], after, is, b, rest) = backs_not p way operation reply b
nothing p way operation reply ([], m ∷ part, after, is, b, rest) = absurd (cc (is))
nothing p way operation reply (m ∷ before, part, after, is, b, rest) = absurd (cc (is))

-- A class is made

abbrev is_write_kind : step_kind.StepKind → Bool
is_write_kind kinds.Commit = true
is_write_kind kinds.CommitIf = true
is_write_kind _ = false

-- a step of another kind takes no place
no_write : (m : Mark) (kind : step_kind.StepKind) → is_write_kind kind ≡ false → kind ≡ m.kind → ¬ ((m.kind ≡ kinds.Commit) ⊎ (m.kind ≡ kinds.CommitIf))
no_write m kind other is (inl k) = true≢false (sym (ap is_write_kind (is ∙ k)) ∙ other)
no_write m kind other is (inr k) = true≢false (sym (ap is_write_kind (is ∙ k)) ∙ other)

only_commit : (p : ℕ) → Has (TakesPlace p) class_marks → p ≡ 1
only_commit p (zero, m, at, t) = absurd (no_write m kinds.LockTake refl (ap (λ (n : Mark). n.kind) (some_of at)) t.is)
only_commit p (suc zero, m, at, t) = absurd (no_write m kinds.PlaceLoad refl (ap (λ (n : Mark). n.kind) (some_of at)) t.is)
only_commit p (suc (suc zero), m, at, t) = let one : Some 1 ≡ Some p = ap (λ (n : Mark). n.left) (some_of at) ∙ t.leaves in sym (ap (λ o. unwrap_or o 0) one)
only_commit p (suc (suc (suc zero)), m, at, t) = absurd (no_write m kinds.LockGive refl (ap (λ (n : Mark). n.kind) (some_of at)) t.is)
only_commit p (suc (suc (suc (suc i))), m, at, t) = absurd (cc (at))

pub class_backed : ClassIsBacked
class_backed = (
  (
    [],
    class_marks,
    [],
    refl,
    (
      (2, mark kinds.Commit place (Some 0) (Some 1), refl, record { is = inl refl; at = refl; before = 0; finds = refl; leaves = refl; next = refl }),
      (0, mark kinds.LockTake type_lock (Some 0) (Some 1), refl, ((refl, refl), refl)),
    ),
    tt,
  ),
  λ p other b. let (before, part, after, is, backs, rest) = b in other (only_commit p (has_within class_marks before part after is backs.0)),
)
