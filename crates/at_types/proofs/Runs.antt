-- Lists of calls, and the worlds that their operations lead to.
use Rattle.std.proofs.Common.{◌≡◌, ◌∙◌, ap, sym, refl, subst, ℕ, ◌+◌, ◌-◌, ◌^◌, ◌<◌, ◌==◌, not, leb, length, get_or, List, [], ◌∷◌, ◌++◌, Some, None, Bool, true, false, is_some, slice_get, drop, arith}
use Rattle.std.proofs.lemmas.Bool.{false≢true, ne_eqb, lt-leb}
use Rattle.std.proofs.lemmas.Option.{get_or_from_slice_get, slice_get-get_or}
use Rattle.std.proofs.lemmas.List.{length-set, length-replicate}
use Rattle.at_c3.proofs.CountLemmas.{list_from_head}
use Rattle.at_value.specs.Numbers.{object, init}
use Rattle.at_value.specs.Widths as widths
use Rattle.at_value.specs.declared.operation.Op as op
use Rattle.at_value.specs.declared.operation.Op.TheVariants as ops
use Rattle.at_value.specs.declared.reply.Reply.TheVariants as replies
use Rattle.at_model.specs.World.{World, IsWellFormed, row_of, order_in, find_in, opening}
use Rattle.at_model.specs.Attributes.{get_reply, special_reply, super_reply, type_get_reply, class_of_reply, mro_reply}
use Rattle.at_model.specs.Step as steps
use Rattle.at_model.specs.History.{replay}
use Rattle.at_model.proofs.OnlyObjects.{Leaves, leaves, leaves_test, set_on-leaves, del_on-leaves, set_class_on-leaves, share_on-leaves}
use Rattle.at_model.proofs.Worlds.{opening_is_formed}
use Rattle.at_model.proofs.WorldSteps.{replay-formed}
use Rattle.at_types.specs.Calls as calls
use Rattle.at_types.specs.Calls.{Call, CanMake, IsCall, IsRun, operations_of, operations, is_elsewhere, IsAnswer, AreAnswers, RunStands}
use Rattle.at_types.specs.Laws.{ObjectIsCounted}
use Rattle.at_types.specs.declared.tags.LimboRow.{LimboRow}
use Rattle.at_types.specs.Tags.{TagState, IsPool, tags_to, counted, next_given, new_row, in_limbo, row_at, with_goal, with_kept, with_freed}
use Rattle.at_types.specs.Types.{TypesState, StandsFor, opened, with_number, with_tags}
use Rattle.at_types.proofs.StandingLaws.{opened_stands, look_ups_stand, object_is_counted}
use Rattle.at_types.proofs.TagLemmas.{pool-next, pool-in_limbo, pool-with_row, pool-freed, length-tags_to}

-- Operations that neither change a class nor make an object

effect-leaves : (w : World) (operation : op.Op) → is_elsewhere operation ≡ true → Leaves w (steps.effect w operation)
effect-leaves w (ops.NewClass c bases) is = absurd (false≢true is)
effect-leaves w (ops.TypeSet c n v) is = absurd (false≢true is)
effect-leaves w (ops.TypeDel c n) is = absurd (false≢true is)
effect-leaves w (ops.SetBases c bases) is = absurd (false≢true is)
effect-leaves w (ops.New c) is = absurd (false≢true is)
effect-leaves w (ops.Set o n v) is = set_on-leaves w o n v (slice_get w.objects o)
effect-leaves w (ops.Del o n) is = del_on-leaves w o n (slice_get w.objects o)
effect-leaves w (ops.SetClass o c) is = set_class_on-leaves w o c (slice_get w.objects o)
effect-leaves w (ops.Share o p) is = share_on-leaves w o (slice_get w.objects o) (slice_get w.objects p)
effect-leaves w (ops.Get o n) is = leaves w (get_reply w o n)
effect-leaves w (ops.TypeGet c n) is = leaves w (type_get_reply w c n)
effect-leaves w (ops.Super k o n) is = leaves w (super_reply w k o n)
effect-leaves w (ops.Special o n) is = leaves w (special_reply w o n)
effect-leaves w (ops.ClassOf o) is = leaves w (class_of_reply w o)
effect-leaves w (ops.Mro c) is = leaves w (mro_reply w c)

step-leaves : (w : World) (operation : op.Op) → is_elsewhere operation ≡ true → Leaves w (steps.step w operation)
step-leaves w operation is =
    leaves_test w (not (steps.are_objects w (steps.objects_in operation))) _ _ (leaves w replies.NoAttr)
    (leaves_test w (not (steps.are_made w (steps.classes_in operation))) _ _ (leaves w replies.NoClass)
    (effect-leaves w operation is))

-- The worlds that calls lead to

-- an object that can be made is made
made_object : (t : TypesState) (w : World) (c : ℕ) → StandsFor t w → CanMake t c → steps.is_write w (ops.New c) ≡ true
made_object t w c stands can =
    let made : is_some (row_of w.classes c) ≡ true = ap (λ classes. is_some (row_of classes c)) (sym stands.classes) ∙ can.made in
    let are : not (steps.are_made w (c ∷ [])) ≡ false = rw made refl in
    let other : (c == object) ≡ false = ne_eqb c object can.other in
    let few : leb widths.objects (length w.objects) ≡ false = lt-leb widths.objects (length w.objects) (omega (arith, can.room, stands.objects)) in
    rw (are, other, few) refl

-- the state stands for the world after the operation of the call, whose answer is the data model's
pub call_stands : (call : Call) (old new : TypesState) (w : World) → StandsFor old w → IsCall call old new
    → StandsFor new (replay w (operations_of call)) × IsAnswer w call
call_stands (calls.changed operation r) old new w stands is = (is.1.stands w stands, is.1.replies w stands)
call_stands (calls.failed operation) old new w stands is = (subst (λ t. StandsFor t w) (sym is) stands, tt)
call_stands (calls.added c o) old new w stands is =
    let counted : ObjectIsCounted old w c = object_is_counted old w c stands (made_object old w c stands is.0) in (
      subst (λ t. StandsFor t (steps.step w (ops.New c)).world) (sym is.2) counted.stands,
      ap (λ n. replies.Made n (find_in w c init)) is.1
          ∙ ap (replies.Made old.objects) (sym ((look_ups_stand old w stands).found c init)) ∙ sym counted.replied,
    )
call_stands (calls.elsewhere operation) old new w stands is =
    let same = step-leaves w operation is.0 in (
      subst (λ t. StandsFor t (steps.step w operation).world) (sym is.1) (record {
        classes = stands.classes ∙ sym same.classes;
        objects = stands.objects ∙ sym same.objects;
      }),
      tt,
    )
call_stands (calls.taken None) old new w stands is = (subst (λ t. StandsFor t w) (sym is) stands, tt)
call_stands (calls.taken (Some q)) old new w stands is =
    (subst (λ t. StandsFor t w) (sym is.1) (record { classes = stands.classes; objects = stands.objects }), tt)
call_stands (calls.returned q) old new w stands is =
    (subst (λ t. StandsFor t w) (sym is.1) (record { classes = stands.classes; objects = stands.objects }), tt)
call_stands (calls.given None) old new w stands is = (subst (λ t. StandsFor t w) (sym is.1) stands, tt)
call_stands (calls.given (Some tag)) old new w stands is =
    (subst (λ t. StandsFor t w) (sym is.1) (record { classes = stands.classes; objects = stands.objects }), tt)
call_stands (calls.dropped tag) old new w stands is =
    (subst (λ t. StandsFor t w) (sym is.1) (record { classes = stands.classes; objects = stands.objects }), tt)
call_stands (calls.goal_set i goal) old new w stands is =
    (subst (λ t. StandsFor t w) (sym is.1) (record { classes = stands.classes; objects = stands.objects }), tt)
call_stands (calls.kept_set i kept) old new w stands is =
    (subst (λ t. StandsFor t w) (sym is.1) (record { classes = stands.classes; objects = stands.objects }), tt)
call_stands (calls.freed i) old new w stands is =
    (subst (λ t. StandsFor t w) (sym is.1) (record { classes = stands.classes; objects = stands.objects }), tt)

replay-append : (w : World) (first second : List op.Op) → replay w (first ++ second) ≡ replay (replay w first) second
replay-append w [] second = refl
replay-append w (operation ∷ first) second = replay-append (steps.step w operation).world first second

run_stands : (list : List Call) (old new : TypesState) (w : World) → StandsFor old w → IsRun list old new
    → StandsFor new (replay w (operations list)) × AreAnswers w list
run_stands [] old new w stands is = (subst (λ t. StandsFor t w) (sym is) stands, tt)
run_stands (call ∷ list) old new w stands is =
    let first = call_stands call old is.0 w stands is.1 in
    let rest = run_stands list is.0 new (replay w (operations_of call)) first.0 is.2 in
    (subst (StandsFor new) (sym (replay-append w (operations_of call) (operations list))) rest.0, (first.1, rest.1))

-- What stays true of passes and tags

record Holds (t : TypesState) : Type 0 where
  passes : length t.numbers ≡ widths.passes
  pool : IsPool t.tags

opened_holds : (tags : ℕ) → tags < 2 ^ 16 → Holds (opened tags)
opened_holds tags small =
    let long : length (tags_to tags) ≡ tags = length-tags_to tags in
    record {
      passes = length-replicate {A = Bool} widths.passes true;
      pool = record {
        small = small;
        single = λ tag. omega arith;
        true_counts = record { fits = omega (arith, long); balance = λ _. omega (arith, long) };
      };
    }

with_pool : (old new : TypesState) (tags : TagState) → Holds old → IsPool tags → new ≡ with_tags old tags → Holds new
with_pool old new tags holds pool is = subst Holds (sym is) (record { passes = holds.passes; pool = pool })

with_passes : (old new : TypesState) (q : ℕ) (free : Bool) → Holds old → new ≡ with_number old q free → Holds new
with_passes old new q free holds is =
    subst Holds (sym is) (record { passes = length-set old.numbers q free ∙ holds.passes; pool = holds.pool })

row_is : (limbo : List LimboRow) (i : ℕ) → i < length limbo → row_at limbo i ≡ get_or limbo i (row_at limbo i)
row_is limbo i within =
    sym (get_or_from_slice_get limbo i (row_at limbo i) (row_at limbo i) (slice_get-get_or limbo i (new_row 0) within))

call_holds : (call : Call) (old new : TypesState) → Holds old → IsCall call old new → Holds new
call_holds (calls.changed operation r) old new holds is =
    subst Holds (sym is.1.rest) (record { passes = holds.passes; pool = holds.pool })
call_holds (calls.failed operation) old new holds is = subst Holds (sym is) holds
call_holds (calls.added c o) old new holds is = subst Holds (sym is.2) (record { passes = holds.passes; pool = holds.pool })
call_holds (calls.elsewhere operation) old new holds is = subst Holds (sym is.1) holds
call_holds (calls.taken None) old new holds is = subst Holds (sym is) holds
call_holds (calls.taken (Some q)) old new holds is = with_passes old new q false holds is.1
call_holds (calls.returned q) old new holds is = with_passes old new q true holds is.1
call_holds (calls.given None) old new holds is = subst Holds (sym is.1) holds
call_holds (calls.given (Some tag)) old new holds is =
    let s = old.tags in
    let first : s.free ≡ tag ∷ drop 1 s.free = list_from_head s.free tag (sym is.0) in
    with_pool old new (next_given s) holds
    (pool-next s.size tag s.given s.freed (counted s.given) (drop 1 s.free) s.limbo (subst (λ free. IsPool (record s { free = free })) first holds.pool) refl)
    is.1
call_holds (calls.dropped tag) old new holds is =
    let s = old.tags in
    with_pool old new (in_limbo s tag) holds (pool-in_limbo s.size s.given s.freed tag s.free s.limbo (new_row tag) holds.pool is.0 refl) is.1
call_holds (calls.goal_set i goal) old new holds is =
    let s = old.tags in
    let row = row_at s.limbo i in
    with_pool old new (with_goal s i goal) holds
    (pool-with_row s.size s.given s.freed i s.free s.limbo row (record row { goal = Some goal }) holds.pool is.0 (row_is s.limbo i is.0) refl) is.1
call_holds (calls.kept_set i kept) old new holds is =
    let s = old.tags in
    let row = row_at s.limbo i in
    with_pool old new (with_kept s i kept) holds
    (pool-with_row s.size s.given s.freed i s.free s.limbo row (record row { kept_by = kept }) holds.pool is.0 (row_is s.limbo i is.0) refl) is.1
call_holds (calls.freed i) old new holds is =
    let s = old.tags in
    with_pool old new (with_freed s i) holds
    (pool-freed s.size s.given s.freed (counted s.freed) i s.free s.limbo (row_at s.limbo i) holds.pool is.0 (row_is s.limbo i is.0) refl) is.1

run_holds : (list : List Call) (old new : TypesState) → Holds old → IsRun list old new → Holds new
run_holds [] old new holds is = subst Holds (sym is) holds
run_holds (call ∷ list) old new holds is = run_holds list is.0 new (call_holds call old is.0 holds is.1) is.2

pub every_run_stands : (tags : ℕ) (list : List Call) (t : TypesState) → tags < 2 ^ 16 → IsRun list (opened tags) t → RunStands list t
every_run_stands tags list t small run =
    let w = replay opening (operations list) in
    let both = run_stands list (opened tags) t opening (opened_stands tags) run in
    let formed : IsWellFormed w = replay-formed opening (operations list) opening_is_formed in
    let holds = run_holds list (opened tags) t (opened_holds tags small) run in
    record {
      stands = both.0;
      answers = both.1;
      would = λ operation reply is. is w both.0;
      look_ups = look_ups_stand t w both.0;
      invariant = record {
        numbered = ap length both.0.classes ∙ formed.numbered;
        ordered = λ c made.
            let found = formed.ordered c (ap (λ classes. is_some (row_of classes c)) (sym both.0.classes) ∙ made) in
            (found.0, ap (λ classes. order_in classes c) both.0.classes ∙ found.1);
        few = omega (arith, both.0.objects, formed.few);
        passes = holds.passes;
        pool = holds.pool;
      };
    }
