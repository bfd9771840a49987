use Rattle.std.proofs.Common.{◌≡◌, ℕ, ◌<◌, ◌≤◌, ◌++◌, List, sym, ap, ◌∙◌, subst}
use Rattle.at_types.specs.Tags.{times}
use Rattle.at_view.specs.declared.view.HistoryView.{HistoryView}
use Rattle.at_view.specs.declared.view.View.{View}
use mathlib.Core.List.{IsPrefix}
use Rattle.at_core.specs.declared.lock.Lock.TheVariants as locks
use Rattle.at_core.specs.Locks.{holds}
use Rattle.at_core.specs.Passes.{view}
use Rattle.at_core.specs.Plays.{Brought}
use Rattle.at_core.specs.Steps.{given, merged, HoldsTypesAlone, IsShut}
use Rattle.at_core.proofs.Prefixes.{prefix_trans}
use Rattle.at_core.specs.Locks.{HoldsNone}
use Rattle.at_lock.specs.Families.{HasSeenMore}
use Rattle.at_lock.proofs.Waiting.{who_waited}
use Rattle.at_lock.proofs.Families.{alone, alone_shut, alone_merged, none_given, more_taken, first_seen, second_seen, ended_history, ended_write, ended_offline, ended_holds}
use Rattle.at_lock.proofs.family.join.Goals as goal

pub take_in-requires-clause-may : goal.take_in-requires-clause-may
take_in-requires-clause-may g c =
    let v = view c.args.pass.now in
    let held = view c.take.new.pass in
    let t = c.take.ensures.taken in
    let same = c.types_out-types.ensures.same.2 in
    let who = ap (λ (u : View). u.who.children) t.last.after ∙ ap (λ y. y.children) (who_waited locks.Types v t.holders) in
    let children = ap (λ (u : View). u.who.children) same ∙ who in
    let other = view c.end.new.pass in
    let ends = c.end.ensures.ended in
    let born : other.history.birth ≡ (view c.args.other).history.birth = ap (λ h. h.birth) (ended_history (view c.args.other) other ends) in
    let Q : ℕ × List ℕ → Type 0 = λ q. 0 < times q.0 q.1 in
    record {
      alone = subst HoldsTypesAlone (sym same) (alone v held c.requires.out.0 t);
      child = subst Q (λ i. (sym born i, sym children i)) c.requires.may.child;
      lockless = λ l. ended_holds (view c.args.other) other l ends ∙ c.requires.out.1 l;
      closed = ap (λ w. w.writing) (ended_write (view c.args.other) other ends) ∙ c.requires.may.closed;
      offline = ended_offline (view c.args.other) other ends;
    }

pub put_back-requires-clause-out : goal.put_back-requires-clause-out
put_back-requires-clause-out g c =
    let held = view c.take.new.pass in
    let other = view c.end.new.pass in
    let same : view c.take_in.new.pass ≡ merged held other = c.take_in.ensures.merged ∙ ap (λ (v : View). merged v other) c.types_out-types.ensures.same.2 in
    record {
      held = ap (holds locks.Types) same ∙ (alone_merged held other (alone (view c.args.pass.now) held c.requires.out.0 c.take.ensures.taken)).types;
      out = c.take_in.ensures.same.2 locks.Types ∙ c.types_out-types.ensures.out.out;
    }

pub put_back-requires-clause-shut : goal.put_back-requires-clause-shut
put_back-requires-clause-shut g c =
    let held = view c.take.new.pass in
    let other = view c.end.new.pass in
    let same : view c.take_in.new.pass ≡ merged held other = c.take_in.ensures.merged ∙ ap (λ (v : View). merged v other) c.types_out-types.ensures.same.2 in
    subst (IsShut locks.Types) (sym same) (alone_shut (merged held other) (alone_merged held other (alone (view c.args.pass.now) held c.requires.out.0 c.take.ensures.taken)))

pub returns-clause-out : goal.returns-clause-out
returns-clause-out g c =
    let held = view c.take.new.pass in
    let other = view c.end.new.pass in
    let same : view c.put_back.new.pass ≡ given locks.Types (merged held other) = c.put_back.ensures.given ∙ ap (given locks.Types) (c.take_in.ensures.merged ∙ ap (λ (v : View). merged v other) c.types_out-types.ensures.same.2) in
    subst HoldsNone (sym same) (none_given (merged held other) (alone_merged held other (alone (view c.args.pass.now) held c.requires.out.0 c.take.ensures.taken)))

pub returns-clause-seen : goal.returns-clause-seen
returns-clause-seen g c =
    let v = view c.args.pass.now in
    let held = view c.take.new.pass in
    let other = view c.end.new.pass in
    let merges : view c.take_in.new.pass ≡ merged held other = c.take_in.ensures.merged ∙ ap (λ (u : View). merged u other) c.types_out-types.ensures.same.2 in
    let same : view c.put_back.new.pass ≡ given locks.Types (merged held other) = c.put_back.ensures.given ∙ ap (given locks.Types) merges in
    let more = (more_taken v held c.take.ensures.taken).0 in
    let first = first_seen held other (subst Brought merges c.put_back.ensures.brought) in
    subst (HasSeenMore v) (sym same) (record { seen = prefix_trans v.history.seen held.history.seen (merged held other).history.seen more.seen first; birth = more.birth; number = more.number })

pub returns-clause-others : goal.returns-clause-others
returns-clause-others g c =
    let held = view c.take.new.pass in
    let other = view c.end.new.pass in
    let merges : view c.take_in.new.pass ≡ merged held other = c.take_in.ensures.merged ∙ ap (λ (u : View). merged u other) c.types_out-types.ensures.same.2 in
    let same : view c.put_back.new.pass ≡ given locks.Types (merged held other) = c.put_back.ensures.given ∙ ap (given locks.Types) merges in
    let Q : HistoryView × View → Type 0 = λ q. IsPrefix q.0.seen q.1.history.seen in
    subst Q (λ i. (ended_history (view c.args.other) other c.end.ensures.ended i, sym same i)) (second_seen held other (subst Brought merges c.put_back.ensures.brought))

pub returns-clause-own : goal.returns-clause-own
returns-clause-own g c =
    let held = view c.take.new.pass in
    let other = view c.end.new.pass in
    let merges : view c.take_in.new.pass ≡ merged held other = c.take_in.ensures.merged ∙ ap (λ (u : View). merged u other) c.types_out-types.ensures.same.2 in
    let same : view c.put_back.new.pass ≡ given locks.Types (merged held other) = c.put_back.ensures.given ∙ ap (given locks.Types) merges in
    let more = more_taken (view c.args.pass.now) held c.take.ensures.taken in
    ap (λ (w : View). w.history.own) same ∙ (ap (λ (ps : List ℕ). ps ++ other.history.own) more.1 ∙ ap (λ (h : HistoryView). (view c.args.pass.now).history.own ++ h.own) (ended_history (view c.args.other) other c.end.ensures.ended))

pub returns-clause-once : goal.returns-clause-once
returns-clause-once g c p =
    let own = ap (λ (w : View). w.history.own) c.put_back.ensures.given in
    subst (λ (ps : List ℕ). times p ps ≤ 1) (sym own) (c.put_back.ensures.brought.once p)
