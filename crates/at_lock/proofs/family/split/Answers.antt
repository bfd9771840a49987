use Rattle.std.proofs.Common.{◌≡◌, ◌<◌, ◌≤◌, Bool, List, sym, ap, ◌∙◌, subst, arith}
use Rattle.std.specs.Prelude.{Some, position}
use Rattle.at_types.specs.Tags.{times}
use Rattle.at_view.specs.declared.view.View.{View}
use Rattle.at_core.specs.declared.lock.Lock.TheVariants as locks
use Rattle.at_core.specs.Locks.{holds}
use Rattle.at_core.specs.Passes.{view}
use Rattle.at_core.specs.Steps.{given, parted, child, next_number, HoldsTypesAlone, IsShut}
use Rattle.at_core.proofs.HandOf.{empty_hand}
use Rattle.at_core.proofs.LockLemmas.{holds_child}
use Rattle.at_core.specs.Locks.{HoldsNone}
use Rattle.at_lock.specs.Families.{HasComeOnline, HasSeenMore}
use Rattle.at_lock.proofs.Families.{alone, alone_shut, alone_parted, none_given, more_taken, numbers_of, least_number, online_free, child_among, same_children, more_children}
use Rattle.at_lock.proofs.family.split.Goals as goal

pub returns-in_default-clause-out : goal.returns-in_default-clause-out
returns-in_default-clause-out g c =
    let held = view c.take.new.pass in
    let same : view c.put_back.new.pass ≡ given locks.Types held = c.put_back.ensures.given ∙ ap (given locks.Types) c.types_out-types.ensures.same.2 in
    subst HoldsNone (sym same) (none_given held (alone (view c.args.pass.now) held c.requires.out c.take.ensures.taken))

pub returns-in_default-clause-seen : goal.returns-in_default-clause-seen
returns-in_default-clause-seen g c =
    let held = view c.take.new.pass in
    let v = view c.args.pass.now in
    let same : view c.put_back.new.pass ≡ given locks.Types held = c.put_back.ensures.given ∙ ap (given locks.Types) c.types_out-types.ensures.same.2 in
    let more = more_taken v held c.take.ensures.taken in
    subst (λ (w : View). HasSeenMore v w × (w.history.own ≡ v.history.own)) (sym same) (record { seen = more.0.seen; birth = more.0.birth; number = more.0.number }, more.1)

pub returns-in_default-clause-children : goal.returns-in_default-clause-children
returns-in_default-clause-children g c b =
    let v = view c.args.pass.now in
    let held = view c.take.new.pass in
    let same : view c.put_back.new.pass ≡ given locks.Types held = c.put_back.ensures.given ∙ ap (given locks.Types) c.types_out-types.ensures.same.2 in
    let children : (view c.put_back.new.pass).who.children ≡ v.who.children = ap (λ (w : View). w.who.children) same ∙ same_children v held c.take.ensures.taken in
    let e : times b (view c.put_back.new.pass).who.children ≡ times b v.who.children = ap (times b) children in
    omega arith

pub split_off-new-requires-clause-may : goal.split_off-new-requires-clause-may
split_off-new-requires-clause-may g c =
    let held = view c.take.new.pass in
    let same = c.types_out-types.ensures.same.2 in
    let types = c.types_out-types.result in
    let numbers = numbers_of (view c.types_out-types.new.pass) types c.types_out-types.ensures.right in
    let least : position (λ free. free) types.value.numbers ≡ Some c.in-Some.number = ap (λ t. position (λ free. free) t.numbers) (sym c.deref_mut.ensures.value) ∙ (sym c.take_number.ensures.least ∙ c.in-Some.is) in (
      record {
        alone = subst HoldsTypesAlone (sym same) (alone (view c.args.pass.now) held c.requires.out c.take.ensures.taken);
        free = ap (λ (ns : List Bool). next_number ns) (sym numbers) ∙ least;
      },
      c.in-Some.ensures.taken.0,
    )

pub put_back-requires-2-clause-out : goal.put_back-requires-2-clause-out
put_back-requires-2-clause-out g c =
    let held = view c.take.new.pass in
    let same : view c.split_off-new.new.pass ≡ parted held = c.split_off-new.ensures.parted ∙ ap parted c.types_out-types.ensures.same.2 in
    record {
      held = ap (holds locks.Types) same ∙ (alone_parted held (alone (view c.args.pass.now) held c.requires.out c.take.ensures.taken)).types;
      out = c.split_off-new.ensures.same.2 locks.Types ∙ c.types_out-types.ensures.out.out;
    }

pub put_back-requires-clause-shut : goal.put_back-requires-clause-shut
put_back-requires-clause-shut g c =
    let held = view c.take.new.pass in
    subst (IsShut locks.Types) (sym c.types_out-types.ensures.same.2) (alone_shut held (alone (view c.args.pass.now) held c.requires.out c.take.ensures.taken))

pub put_back-requires-2-clause-shut : goal.put_back-requires-2-clause-shut
put_back-requires-2-clause-shut g c =
    let held = view c.take.new.pass in
    let same : view c.split_off-new.new.pass ≡ parted held = c.split_off-new.ensures.parted ∙ ap parted c.types_out-types.ensures.same.2 in
    subst (IsShut locks.Types) (sym same) (alone_shut (parted held) (alone_parted held (alone (view c.args.pass.now) held c.requires.out c.take.ensures.taken)))

pub returns-clause-out : goal.returns-clause-out
returns-clause-out g c =
    let held = view c.take.new.pass in
    let same : view c.put_back-2.new.pass ≡ given locks.Types (parted held) = c.put_back-2.ensures.given ∙ ap (given locks.Types) (c.split_off-new.ensures.parted ∙ ap parted c.types_out-types.ensures.same.2) in
    subst HoldsNone (sym same) (none_given (parted held) (alone_parted held (alone (view c.args.pass.now) held c.requires.out c.take.ensures.taken)))

-- the new pass came online
comes_online : (g : _) (c : goal.After-come_online g) → HasComeOnline (child (view c.take.new.pass)) (view c.come_online.new.pass)
comes_online g c =
    let begins : view c.split_off-new.result ≡ child (view c.take.new.pass) = c.split_off-new.ensures.new.1 ∙ ap child c.types_out-types.ensures.same.2 in
    subst (λ (u : View). HasComeOnline u (view c.come_online.new.pass)) begins c.come_online.ensures.online

pub returns-clause-ok : goal.returns-clause-ok
returns-clause-ok g c =
    let held = view c.take.new.pass in
    let same = c.types_out-types.ensures.same.2 in
    let types = c.types_out-types.result in
    let numbers = numbers_of (view c.types_out-types.new.pass) types c.types_out-types.ensures.right in
    let least : position (λ free. free) types.value.numbers ≡ Some c.in-Some.number = ap (λ t. position (λ free. free) t.numbers) (sym c.deref_mut.ensures.value) ∙ (sym c.take_number.ensures.least ∙ c.in-Some.is) in
    let free : next_number held.types.lists.numbers ≡ Some c.in-Some.number = ap (λ (v : View). next_number v.types.lists.numbers) (sym same) ∙ (ap (λ (ns : List Bool). next_number ns) (sym numbers) ∙ least) in
    let new = c.come_online.new.pass in
    record {
      held = held;
      taken = c.take.ensures.taken;
      free = least_number held (view new) c.in-Some.number free (comes_online g c);
      after = c.put_back-2.ensures.given ∙ ap (given locks.Types) (c.split_off-new.ensures.parted ∙ ap parted same);
      begins = comes_online g c;
    }

pub returns-clause-new : goal.returns-clause-new
returns-clause-new g c =
    let held = view c.take.new.pass in
    let new = c.come_online.new.pass in
    let free : HoldsNone (view new) = λ l. online_free (child held) (view new) l (comes_online g c) ∙ holds_child l held in
    (c.come_online.ensures.same.1, empty_hand new free, ap (λ x. x.items) c.come_online.ensures.same.0.notes ∙ c.split_off-new.ensures.new.2, free)

pub returns-clause-child : goal.returns-clause-child
returns-clause-child g c =
    let held = view c.take.new.pass in
    let same : view c.put_back-2.new.pass ≡ given locks.Types (parted held) = c.put_back-2.ensures.given ∙ ap (given locks.Types) (c.split_off-new.ensures.parted ∙ ap parted c.types_out-types.ensures.same.2) in
    let Q : View × View → Type 0 = λ q. 0 < times q.0.history.birth q.1.who.children in
    subst Q (λ i. (sym (comes_online g c).after i, sym same i)) (child_among held)

pub returns-clause-children : goal.returns-clause-children
returns-clause-children g c b =
    let held = view c.take.new.pass in
    let same : view c.put_back-2.new.pass ≡ given locks.Types (parted held) = c.put_back-2.ensures.given ∙ ap (given locks.Types) (c.split_off-new.ensures.parted ∙ ap parted c.types_out-types.ensures.same.2) in
    subst (λ (w : View). times b (view c.args.pass.now).who.children ≤ times b w.who.children) (sym same) (more_children (view c.args.pass.now) held b c.take.ensures.taken)

pub returns-clause-seen : goal.returns-clause-seen
returns-clause-seen g c =
    let held = view c.take.new.pass in
    let v = view c.args.pass.now in
    let same : view c.put_back-2.new.pass ≡ given locks.Types (parted held) = c.put_back-2.ensures.given ∙ ap (given locks.Types) (c.split_off-new.ensures.parted ∙ ap parted c.types_out-types.ensures.same.2) in
    let more = more_taken v held c.take.ensures.taken in
    subst (λ (w : View). HasSeenMore v w × (w.history.own ≡ v.history.own)) (sym same) (record { seen = more.0.seen; birth = more.0.birth; number = more.0.number }, more.1)
