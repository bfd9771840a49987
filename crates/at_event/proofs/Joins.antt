-- What a view has seen that takes in another.
use Rattle.std.proofs.Common.{◌≡◌, ◌∙◌, ℕ, ◌<◌, ◌≤◌, ltb, cond, Bool, true, false, List, [], ◌∷◌, ◌++◌, length, set, Option, Some, None, refl, sym, ap, subst, append-nil, arith, get_or-set_same, get_or-set_other}
use Rattle.std.proofs.lemmas.Bool.{ltb-true}
use Rattle.std.proofs.lemmas.List.{length-set}
use Rattle.at_model.specs.World.{World}
use Rattle.at_value.specs.declared.operation.Op as op
use Rattle.at_line.specs.declared.line.What as what
use Rattle.at_view.specs.declared.view.HistoryView.{HistoryView}
use Rattle.at_event.specs.Calls.{IsPrefix}
use Rattle.at_view.specs.Views.{longer}
use Rattle.at_event.specs.Events.{EventState, Event, join, first_state, view_of, joined_view, option_join, IsEnabled, after_event, IsEventRun}
use Rattle.at_event.proofs.Views.{live_within, IsKnown}
use Rattle.at_event.proofs.Sound.{run_knows}

-- of two prefixes of one list, the shorter begins the longer
prefix_of_longer : (first second whole : List op.Op) → IsPrefix first whole → IsPrefix second whole → length first ≤ length second → IsPrefix first second
prefix_of_longer [] second whole is_first is_second less = (second, refl)
prefix_of_longer (x ∷ first) [] whole is_first is_second less = absurd (omega arith)
prefix_of_longer (x ∷ first) (y ∷ second) [] is_first is_second less = absurd (cc is_first.1)
prefix_of_longer (x ∷ first) (y ∷ second) (z ∷ whole) is_first is_second less =
    let heads : y ≡ x = cc (is_first.1, is_second.1) in
    let rest = prefix_of_longer first second whole (is_first.0, cc (is_first.1)) (is_second.0, cc (is_second.1)) (omega arith) in
    (rest.0, cc (heads, rest.1))

prefix_itself : (xs : List op.Op) → IsPrefix xs xs
prefix_itself xs = ([], sym (append-nil xs))

both_in_longer : (first second whole : List op.Op) → IsPrefix first whole → IsPrefix second whole → IsPrefix first (longer first second) × IsPrefix second (longer first second)
both_in_longer first second whole is_first is_second = by_test (ltb (length first) (length second)) refl
  where
    by_test : (b : Bool) → ltb (length first) (length second) ≡ b → IsPrefix first (cond b second first) × IsPrefix second (cond b second first)
    by_test true is = let less : length first < length second = ltb-true (length first) (length second) is in (prefix_of_longer first second whole is_first is_second (omega arith), prefix_itself second)
    by_test false is = let less : length second ≤ length first = grind (arith, is) in (prefix_itself first, prefix_of_longer second first whole is_second is_first less)

pub join_sees_both : (opened : World) (events : List Event) (said : List (ℕ × what.What)) (s : EventState) (v other : ℕ) (before taken : HistoryView)
    → IsEventRun opened first_state events said s → IsEnabled opened s (join v other) → view_of s v ≡ Some before → view_of s other ≡ Some taken
    → (now : HistoryView) × (view_of (after_event s (join v other)) v ≡ Some now) × (view_of (after_event s (join v other)) other ≡ None)
    × IsPrefix before.seen now.seen × IsPrefix taken.seen now.seen × (now.own ≡ before.own ++ taken.own)
join_sees_both opened events said s v other before taken run (live, live_other, apart) is is_other =
    let with_both = option_join (view_of s v) (view_of s other) in
    let within : v < length s.views = live_within s.views v live in
    let within_other : other < length s.views = live_within s.views other live_other in
    let long : length (set s.views v with_both) ≡ length s.views = length-set s.views v with_both in
    let join_of : Option HistoryView → Option HistoryView = λ view. option_join view (view_of s other) in
    let both_are : with_both ≡ Some (joined_view before taken) = ap join_of is ∙ ap (option_join (Some before)) is_other in
    let known = subst (IsKnown s.history v) is (run_knows opened events said s run v) in
    let known_other = subst (IsKnown s.history other) is_other (run_knows opened events said s run other) in
    let prefixes = both_in_longer before.seen taken.seen s.history known.1 known_other.1 in (
      joined_view before taken,
      get_or-set_other (set s.views v with_both) other v None None apart ∙ (get_or-set_same s.views v with_both None within ∙ both_are),
      get_or-set_same (set s.views v with_both) other None None (omega arith),
      prefixes.0,
      prefixes.1,
      refl,
    )
