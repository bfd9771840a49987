-- Writes of classes: they write no row, move no object, and tell no dictionary.
use Rattle.std.proofs.Common.{◌≡◌, false, true≢false, [], refl, sym, ap, ◌∙◌}
use Rattle.std.specs.Prelude.{IsTrue}
use Rattle.at_value.specs.declared.operation.Op as op
use Rattle.at_value.specs.declared.operation.Op.TheVariants as ops
use Rattle.at_value.specs.declared.reply.Reply as reply
use Rattle.at_model.proofs.OnlyWrites.{step-left}
use Rattle.at_model.specs.Step.{is_done, step}
use Rattle.at_model.specs.World.{World}
use Rattle.at_types.specs.Types.{is_class_write, IsStepped, StandsFor, TypesState}
use Rattle.at_line.specs.Kept.{rows_of}
use Rattle.at_core.specs.Writes.{moved_by, read_by}

pub record HasNoRows (w : World) (operation : op.Op) : Type 0 where
  pub rows : rows_of w operation ≡ []
  pub moved : moved_by w operation ≡ []
  pub reads : read_by w operation ≡ []

pub no_rows : (w : World) (operation : op.Op) → IsTrue (is_class_write operation) → HasNoRows w operation
no_rows w (ops.NewClass c bases) is = record { rows = refl; moved = refl; reads = refl }
no_rows w (ops.TypeSet c n v) is = record { rows = refl; moved = refl; reads = refl }
no_rows w (ops.TypeDel c n) is = record { rows = refl; moved = refl; reads = refl }
no_rows w (ops.SetBases c bases) is = record { rows = refl; moved = refl; reads = refl }
no_rows w (ops.New c) is = absurd (true≢false (sym is))
no_rows w (ops.Set o n v) is = absurd (true≢false (sym is))
no_rows w (ops.Del o n) is = absurd (true≢false (sym is))
no_rows w (ops.SetClass o c) is = absurd (true≢false (sym is))
no_rows w (ops.Share o p) is = absurd (true≢false (sym is))
no_rows w (ops.Get o n) is = absurd (true≢false (sym is))
no_rows w (ops.TypeGet c n) is = absurd (true≢false (sym is))
no_rows w (ops.Super k o n) is = absurd (true≢false (sym is))
no_rows w (ops.Special o n) is = absurd (true≢false (sym is))
no_rows w (ops.ClassOf o) is = absurd (true≢false (sym is))
no_rows w (ops.Mro c) is = absurd (true≢false (sym is))

-- a refused one leaves the types
pub same_types : (w : World) (operation : op.Op) (before after : TypesState) (reply : reply.Reply) → StandsFor before w → IsStepped operation before after reply → is_done reply ≡ false → after ≡ before
same_types w operation before after reply stands stepped refused =
    let left : (step w operation).world ≡ w = step-left w operation (sym (ap is_done (stepped.replies w stands)) ∙ refused) in
    let same : after.classes ≡ before.classes = (stepped.stands w stands).classes ∙ (ap (λ (x : World). x.classes) left ∙ sym stands.classes) in
    stepped.rest ∙ ap (λ classes. record before { classes = classes }) same
