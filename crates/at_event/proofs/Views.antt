-- What events keep of the views: each has its number and has seen a prefix of the history, and the own places.
use Rattle.std.proofs.Common.{◌≡◌, ◌≢◌, ◌∙◌, ◌⊎◌, inl, inr, ℕ, zero, suc, ◌+◌, ◌<◌, ◌≤◌, ◌==◌, eq-eqb, ne_eqb, cond, Bool, true, false, ltb, List, [], ◌∷◌, ◌++◌, length, get_or, set, Option, Some, None, refl, sym, ap, subst, length-append, append_assoc, append-nil, arith, get_or-set_same, get_or-set_other}
use Rattle.std.specs.Prelude.{count_by, IsSome}
use Rattle.std.proofs.lemmas.Bool.{false≢true}
use Rattle.std.proofs.lemmas.List.{get_or_append_left, get_or_push, get_or_past, length-set}
use Rattle.std.proofs.lemmas.List.Sums.{sum_by-append}
use mathlib.Core.Logic.{dite}
use native.Mathlib.Decide.{ℕ_discrete}
use Rattle.at_model.specs.World.{World}
use Rattle.at_value.specs.declared.operation.Op as op
use Rattle.at_view.specs.declared.view.HistoryView.{HistoryView}
use Rattle.at_event.specs.Calls.{IsPrefix}
use Rattle.at_view.specs.Views.{longer}
use Rattle.at_event.specs.Events.{EventState, Event, split, join, read, write, view_of, split_off, has_read, has_written, option_join, option_change, grown, IsEnabled, after_event, own_count, owner_count}

-- Views by number

pub live_within : (views : List (Option HistoryView)) (v : ℕ) → IsSome (get_or views v None) → v < length views
live_within [] v live = absurd (false≢true live)
live_within (view ∷ views) zero live = omega arith
live_within (view ∷ views) (suc v) live = let r = live_within views v live in omega arith

module _ (P : ℕ → Option HistoryView → Type 0) where
  each_set : (views : List (Option HistoryView)) (v : ℕ) (now : Option HistoryView) → ((u : ℕ) → P u (get_or views u None)) → v < length views → P v now → (u : ℕ) → P u (get_or (set views v now) u None)
  each_set views v now each within p u =
      dite (ℕ_discrete u v)
      (λ (same : u ≡ v). subst (λ (n : ℕ). P n (get_or (set views v now) n None)) (sym same) (subst (P v) (sym (get_or-set_same views v now None within)) p))
      (λ (other : u ≢ v). subst (P u) (sym (get_or-set_other views v u now None other)) (each u))

  each_push : (views : List (Option HistoryView)) (now : Option HistoryView) → ((u : ℕ) → P u (get_or views u None)) → ((u : ℕ) → P u None) → P (length views) now → (u : ℕ) → P u (get_or (views ++ now ∷ []) u None)
  each_push views now each none p u =
      dite (ℕ_discrete u (length views))
      (λ (same : u ≡ length views). subst (P u) (sym (get_or_push views now None u (sym same))) (subst (λ (n : ℕ). P n now) (sym same) p))
      (λ (other : u ≢ length views). by_test (ltb u (length views)) refl other)
    where
      by_test : (b : Bool) → ltb u (length views) ≡ b → u ≢ length views → P u (get_or (views ++ now ∷ []) u None)
      by_test true below other = let within : u < length views = grind (arith, below) in subst (P u) (sym (get_or_append_left views (now ∷ []) None u within)) (each u)
      by_test false above other =
          let past : length views ≤ u = grind (arith, above) in
          let long : length (views ++ now ∷ []) ≡ length views + 1 = length-append views (now ∷ []) in
          subst (P u) (sym (get_or_past (views ++ now ∷ []) u None (omega arith))) (none u)

-- What each view has seen

-- where the view is live, it has this number and has seen a prefix of the history
abbrev pub IsKnown : List op.Op → ℕ → Option HistoryView → Type 0
IsKnown history v None = Unit {0}
IsKnown history v (Some view) = (view.birth ≡ v) × IsPrefix view.seen history

abbrev pub AreKnown : EventState → Type 0
AreKnown s = (v : ℕ) → IsKnown s.history v (view_of s v)

split_known : (history : List op.Op) (v n : ℕ) (view : Option HistoryView) → IsKnown history v view → IsKnown history n (option_change (split_off n) view)
split_known history v n None known = tt
split_known history v n (Some view) known = (refl, known.1)

longer_prefix : (history first second : List op.Op) → IsPrefix first history → IsPrefix second history → IsPrefix (longer first second) history
longer_prefix history first second is_first is_second = by_test (ltb (length first) (length second))
  where
    by_test : (b : Bool) → IsPrefix (cond b second first) history
    by_test true = is_second
    by_test false = is_first

join_known : (history : List op.Op) (v u : ℕ) (view other : Option HistoryView) → IsKnown history v view → IsKnown history u other → IsKnown history v (option_join view other)
join_known history v u None other known known_other = tt
join_known history v u (Some view) None known known_other = known
join_known history v u (Some view) (Some other) known known_other = (known.0, longer_prefix history view.seen other.seen known.1 known_other.1)

read_known : (history : List op.Op) (v : ℕ) (view : Option HistoryView) → IsKnown history v view → IsKnown history v (option_change (has_read history) view)
read_known history v None known = tt
read_known history v (Some view) known = (known.0, ([], sym (append-nil history)))

known_more : (history : List op.Op) (operation : op.Op) (v : ℕ) (view : Option HistoryView) → IsKnown history v view → IsKnown (history ++ operation ∷ []) v view
known_more history operation v None known = tt
known_more history operation v (Some view) (number, prefix) = (number, (prefix.0 ++ operation ∷ [], ap (λ xs. xs ++ operation ∷ []) prefix.1 ∙ append_assoc view.seen prefix.0 (operation ∷ [])))

write_known : (history : List op.Op) (v : ℕ) (view : Option HistoryView) → IsKnown history v view → IsKnown history v (option_change (has_written history) view)
write_known history v None known = tt
write_known history v (Some view) known = (known.0, ([], sym (append-nil history)))

pub events_know : (opened : World) (s : EventState) (event : Event) → IsEnabled opened s event → AreKnown s → AreKnown (after_event s event)
events_know opened s (split v) live known =
    each_push (IsKnown s.history) s.views (option_change (split_off (length s.views)) (view_of s v)) known (λ u. tt) (split_known s.history v (length s.views) (view_of s v) (known v))
events_know opened s (join v other) (live, live_other, apart) known =
    let with_both = option_join (view_of s v) (view_of s other) in
    let within : v < length s.views = live_within s.views v live in
    let within_other : other < length s.views = live_within s.views other live_other in
    let long : length (set s.views v with_both) ≡ length s.views = length-set s.views v with_both in
    each_set (IsKnown s.history) (set s.views v with_both) other None
    (each_set (IsKnown s.history) s.views v with_both known within (join_known s.history v other (view_of s v) (view_of s other) (known v) (known other)))
    (omega arith) tt
events_know opened s (read v operation way) (live, reads) known =
    each_set (IsKnown s.history) s.views v (option_change (has_read s.history) (view_of s v)) known (live_within s.views v live) (read_known s.history v (view_of s v) (known v))
events_know opened s (write v operation way) (live, writes) known =
    each_set (IsKnown (grown s operation)) s.views v (option_change (has_written (grown s operation)) (view_of s v))
    (λ u. known_more s.history operation u (view_of s u) (known u)) (live_within s.views v live)
    (write_known (grown s operation) v (view_of s v) (known_more s.history operation v (view_of s v) (known v)))

-- Own places

owner_set : (place : ℕ) (views : List (Option HistoryView)) (v : ℕ) (now : Option HistoryView) → v < length views → owner_count place (set views v now) + own_count place (get_or views v None) ≡ owner_count place views + own_count place now
owner_set place [] v now within = absurd (omega arith)
owner_set place (view ∷ views) zero now within = omega arith
owner_set place (view ∷ views) (suc v) now within = let r = owner_set place views v now (omega arith) in omega arith

owner_push : (place : ℕ) (views : List (Option HistoryView)) (now : Option HistoryView) → owner_count place (views ++ now ∷ []) ≡ owner_count place views + own_count place now
owner_push place [] now = omega arith
owner_push place (view ∷ views) now = let r = owner_push place views now in omega arith

count_both : (place : ℕ) (xs ys : List ℕ) → count_by (λ own. own == place) (xs ++ ys) ≡ count_by (λ own. own == place) xs + count_by (λ own. own == place) ys
count_both place xs ys = sum_by-append (λ own. cond (own == place) 1 0) xs ys

split_owns : (place n : ℕ) (view : Option HistoryView) → own_count place (option_change (split_off n) view) ≡ 0
split_owns place n None = refl
split_owns place n (Some view) = refl

join_owns : (place : ℕ) (view other : Option HistoryView) → IsSome view → IsSome other → own_count place (option_join view other) ≡ own_count place view + own_count place other
join_owns place None other live live_other = absurd (false≢true live)
join_owns place (Some view) None live live_other = absurd (false≢true live_other)
join_owns place (Some view) (Some other) live live_other = count_both place view.own other.own

read_owns : (place : ℕ) (history : List op.Op) (view : Option HistoryView) → own_count place (option_change (has_read history) view) ≡ own_count place view
read_owns place history None = refl
read_owns place history (Some view) = refl

write_owns : (place : ℕ) (history : List op.Op) (view : Option HistoryView) → IsSome view → own_count place (option_change (has_written history) view) ≡ own_count place view + cond (length history == place) 1 0
write_owns place history None live = absurd (false≢true live)
write_owns place history (Some view) live = let both = count_both place view.own (length history ∷ []) in omega arith

abbrev weight : Bool → ℕ
weight here = cond here 1 0

-- 1 for each number from 1 to n, else 0
abbrev pub once : ℕ → ℕ → ℕ
once place zero = 0
once place (suc n) = cond (suc n == place) 1 0 + once place n

abbrev pub AreOwned : EventState → Type 0
AreOwned s = (place : ℕ) → owner_count place s.views ≡ once place (length s.history)

pub events_own : (opened : World) (s : EventState) (event : Event) → IsEnabled opened s event → AreOwned s → AreOwned (after_event s event)
events_own opened s (split v) live owned place =
    let now = owner_push place s.views (option_change (split_off (length s.views)) (view_of s v)) in
    let nothing = split_owns place (length s.views) (view_of s v) in
    let was = owned place in omega arith
events_own opened s (join v other) (live, live_other, apart) owned place =
    let with_both = option_join (view_of s v) (view_of s other) in
    let within : v < length s.views = live_within s.views v live in
    let within_other : other < length s.views = live_within s.views other live_other in
    let long : length (set s.views v with_both) ≡ length s.views = length-set s.views v with_both in
    let first = owner_set place s.views v with_both within in
    let second = owner_set place (set s.views v with_both) other None (omega arith) in
    let both = join_owns place (view_of s v) (view_of s other) live live_other in
    let still : own_count place (get_or (set s.views v with_both) other None) ≡ own_count place (view_of s other) = ap (own_count place) (get_or-set_other s.views v other with_both None (λ same. apart (sym same))) in
    let was = owned place in omega arith
events_own opened s (read v operation way) (live, reads) owned place =
    let now = owner_set place s.views v (option_change (has_read s.history) (view_of s v)) (live_within s.views v live) in
    let same = read_owns place s.history (view_of s v) in
    let was = owned place in omega arith
events_own opened s (write v operation way) (live, writes) owned place =
    let history = grown s operation in
    let now = owner_set place s.views v (option_change (has_written history) (view_of s v)) (live_within s.views v live) in
    let more = write_owns place history (view_of s v) live in
    let long : length history ≡ suc (length s.history) = omega (arith, length-append s.history (operation ∷ [])) in
    let was = owned place in
    let counted : own_count place (option_change (has_written history) (view_of s v)) ≡ own_count place (view_of s v) + cond (suc (length s.history) == place) 1 0 = more ∙ ap (λ (n : ℕ). own_count place (view_of s v) + cond (n == place) 1 0) long in
    let all : owner_count place (set s.views v (option_change (has_written history) (view_of s v))) ≡ once place (suc (length s.history)) = omega arith in
    all ∙ ap (once place) (sym long)

pub once_beyond : (place n : ℕ) → (place ≡ 0) ⊎ (n < place) → once place n ≡ 0
once_beyond place zero out = refl
once_beyond place (suc n) out =
    let other : suc n ≢ place = λ same. outside out same in
    let here : weight (suc n == place) ≡ 0 = ap weight (ne_eqb (suc n) place other) in
    let below = once_beyond place n (still out) in omega arith
  where
    outside : (place ≡ 0) ⊎ (suc n < place) → suc n ≡ place → ⊥
    outside (inl none) same = omega arith
    outside (inr past) same = omega arith

    still : (place ≡ 0) ⊎ (suc n < place) → (place ≡ 0) ⊎ (n < place)
    still (inl none) = inl none
    still (inr past) = inr (omega arith)

pub once_within : (place n : ℕ) → 0 < place → place ≤ n → once place n ≡ 1
once_within place zero positive within = absurd (omega arith)
once_within place (suc n) positive within =
    dite (ℕ_discrete (suc n) place)
    (λ (same : suc n ≡ place).
    let here : weight (suc n == place) ≡ 1 = ap weight (eq-eqb (suc n) place same) in
    let below = once_beyond place n (inr (omega arith)) in
    let sum : weight (suc n == place) + once place n ≡ 1 = omega arith in sum)
    (λ (other : suc n ≢ place).
    let here : weight (suc n == place) ≡ 0 = ap weight (ne_eqb (suc n) place other) in
    let below = once_within place n positive (omega arith) in
    let sum : weight (suc n == place) + once place n ≡ 1 = omega arith in sum)
