-- States and the worlds that they stand for.
use Rattle.std.proofs.Common.{◌≡◌, ◌∙◌, ap, sym, refl, subst, ℕ, ◌+◌, ◌==◌, cond, not, length, length-append, leb, replicate, List, [], ◌∷◌, Option, Bool, true, false, IsTrue}
use Rattle.std.proofs.lemmas.Bool.{false≢true}
use Rattle.std.proofs.lemmas.List.{length-replicate}
use Rattle.at_value.specs.Numbers.{object, init}
use Rattle.at_value.specs.Widths as widths
use Rattle.at_value.specs.declared.operation.Op as op
use Rattle.at_value.specs.declared.operation.Op.TheVariants as ops
use Rattle.at_value.specs.declared.reply.Reply as reply
use Rattle.at_value.specs.declared.reply.Reply.TheVariants as replies
use Rattle.at_model.specs.declared.rows.ClassRow.{ClassRow}
use Rattle.at_model.specs.declared.rows.Object.{Object}
use Rattle.at_model.specs.World.{World, order_in, opening}
use Rattle.at_model.specs.Attributes.{Outcome, unchanged}
use Rattle.at_model.specs.Step as steps
use Rattle.at_model.proofs.OnlyWrites.{step-left}
use Rattle.at_types.specs.Types.{TypesState, StandsFor, IsReplyTo, IsStepped, opened, with_object}
use Rattle.at_types.specs.Memory.{is_early}
use Rattle.at_types.specs.Lookups.{found_in, found_after}
use Rattle.at_types.specs.Laws.{LookUpsStand, ObjectIsCounted}

pub opened_stands : (tags : ℕ) → StandsFor (opened tags) opening
opened_stands tags = record { classes = refl; objects = refl }

-- a world that the state stands for
stand_in : TypesState → World
stand_in t = record { classes = t.classes; objects = replicate t.objects (record { class = 0; dict = 0 }); dicts = [] }

stands_in : (t : TypesState) → StandsFor t (stand_in t)
unfolding stand_in
stands_in t = record { classes = refl; objects = sym (length-replicate {A = Object} t.objects (record { class = 0; dict = 0 })) }

-- an operation has one reply
one_reply : (operation : op.Op) (t : TypesState) (r s : reply.Reply) → IsReplyTo operation t r → IsReplyTo operation t s → r ≡ s
one_reply operation t r s is also = is (stand_in t) (stands_in t) ∙ sym (also (stand_in t) (stands_in t))

-- so where one is known to be early, so is the other
pub early_reply : (operation : op.Op) (t : TypesState) (r s : reply.Reply) → IsReplyTo operation t r → IsReplyTo operation t s → IsTrue (is_early r) → IsTrue (is_early s)
early_reply operation t r s is also early = sym (ap is_early (one_reply operation t r s is also)) ∙ early

pub refusals_change_nothing : (operation : op.Op) (old new : TypesState) (r : reply.Reply) → IsStepped operation old new r → steps.is_done r ≡ false → new ≡ old
refusals_change_nothing operation old new r stepped refused =
    let w = stand_in old in
    let stands = stands_in old in
    let left : (steps.step w operation).world ≡ w = step-left w operation (sym (ap steps.is_done (stepped.replies w stands)) ∙ refused) in
    let same : new.classes ≡ old.classes = (stepped.stands w stands).classes ∙ ap (λ (v : World). v.classes) left ∙ sym stands.classes in
    stepped.rest ∙ ap (λ (classes : List (Option ClassRow)). record old { classes = classes }) same

pub look_ups_stand : (t : TypesState) (w : World) → StandsFor t w → LookUpsStand t w
look_ups_stand t w stands = record {
  orders = λ c. ap (λ classes. order_in classes c) stands.classes;
  found = λ c n. ap (λ classes. found_in classes c n) stands.classes;
  after = λ k c n. ap (λ classes. found_after classes k c n) stands.classes;
}

-- a test whose one outcome is no write
no_refusal : (b : Bool) (x y : Outcome) → steps.is_done x.reply ≡ false → steps.is_done (cond b x y).reply ≡ true → (b ≡ false) × (steps.is_done y.reply ≡ true)
no_refusal true x y refused done = absurd (false≢true (sym refused ∙ done))
no_refusal false x y refused done = (refl, done)

pub object_is_counted : (t : TypesState) (w : World) (c : ℕ) → StandsFor t w → steps.is_write w (ops.New c) ≡ true → ObjectIsCounted t w c
object_is_counted t w c stands done =
    let made = no_refusal (not (steps.are_made w (c ∷ []))) (unchanged w replies.NoClass) (steps.new_effect w c) refl done in
    let subject = no_refusal (c == object) (unchanged w replies.Immutable) _ refl made.1 in
    let few = no_refusal (leb widths.objects (length w.objects)) (unchanged w replies.Full) _ refl subject.1 in
    let last : Outcome = record { reply = replies.Made (length w.objects) (found_in w.classes c init); world = steps.with_object w c } in
    let is : steps.step w (ops.New c) ≡ last = rw (made.0, subject.0, few.0) refl in
    record {
      replied = ap (λ (o : Outcome). o.reply) is ∙ ap (λ n. replies.Made n (found_in w.classes c init)) (sym stands.objects) ∙ ap (λ classes. replies.Made t.objects (found_in classes c init)) (sym stands.classes);
      stands = subst (λ (o : Outcome). StandsFor (with_object t) o.world) (sym is) (record {
        classes = stands.classes;
        objects = ap (λ n. n + 1) stands.objects ∙ sym (length-append w.objects _);
      });
    }
