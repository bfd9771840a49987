-- Which passes are live, and what one of them knows of the others.
use Rattle.std.proofs.Common.{◌≡◌, ◌≢◌, ◌⊎◌, ℕ, zero, suc, ◌+◌, ◌<◌, ◌≤◌, ◌==◌, ◌&&◌, Bool, true, false, true≢false, List, [], ◌++◌, length, map, refl, sym, ap, ◌∙◌, subst, ⊎_elim, inl, inr, arith}
use Rattle.std.specs.Prelude.{nat_lt}
use Rattle.std.proofs.lemmas.Bool.{eqb-true}
use mathlib.Core.Option.{some, some-injective}
use mathlib.Core.List.{IsPrefix}
use mathlib.Core.Logic.{dite}
use native.Mathlib.Decide.{ℕ_discrete}
use lib.ListN.{get_elem?}
use Rattle.atomic_table.proofs.Lists.{at_map}
use Rattle.at_value.specs.declared.limits.Limits.{Limits}
use Rattle.at_model.specs.World.{World}
use Rattle.at_types.specs.Tags.{times}
use Rattle.at_view.specs.declared.view.View.{View}
use Rattle.at_view.specs.Counts.{passes}
use Rattle.at_view.specs.Views.{blank}
use Rattle.at_view.specs.Words.{Words}
use Rattle.at_core.specs.declared.lock.Lock as lock
use Rattle.at_core.specs.declared.lock.Lock.TheVariants as locks
use Rattle.at_core.specs.Locks.{lock_word, holds}
use Rattle.at_core.specs.Reads.{PastRead, past_read, KinRead, kin_read, births_of, NumberRead, number_read, HolderRead, holder_read}
use Rattle.at_core.specs.Rule.{Homes, weight, is_born, has_number, Ghost, Parts}
use Rattle.at_core.specs.Plays.{IsAlone, Found}
use Rattle.at_core.proofs.Lists.{sum_has, sum_two, sum_some, map_back}
use Rattle.at_core.proofs.Counts.{weight_same, weight_some, at_most_one, times_append}
use Rattle.at_core.proofs.Prefixes.{prefix_whole}
use Rattle.at_core.proofs.Parts.{seen_begins}

both_true : (a b : Bool) → (a && b) ≡ true → (a ≡ true) × (b ≡ true)
both_true true b e = (refl, e)
both_true false b e = absurd (true≢false (sym e))

one_of : (m n : ℕ) → 0 < m + n → (0 < m) ⊎ (0 < n)
one_of zero n h = inr (omega arith)
one_of (suc m) n h = inl (omega arith)

module _ {opened : World} {limits : Limits} {words : Words} {homes : Homes} {views : List View} {g : Ghost} (p : Parts opened limits words homes views g) where
  -- a view that isn't blank is live
  lively : (j : ℕ) (u : View) → get_elem? views j ≡ some u → (u ≡ blank → ⊥) → u.who.live ≡ true
  lively j u e filled = by_test u.who.live refl
    where
      by_test : (t : Bool) → u.who.live ≡ t → u.who.live ≡ true
      by_test true is = is
      by_test false is = absurd (filled (p.spent j u e is))

  -- a view that holds a lock is live
  holder_lives : (l : lock.Lock) (j : ℕ) (u : View) → get_elem? views j ≡ some u → holds l u ≡ true → u.who.live ≡ true
  holder_lives l j u e held = lively j u e (λ is. true≢false (sym held ∙ (ap (holds l) is ∙ blank_holds l)))
    where
      blank_holds : (l : lock.Lock) → holds l blank ≡ false
      blank_holds locks.Types = refl
      blank_holds (locks.Row o) = refl

  born_one : (j : ℕ) (u : View) → get_elem? views j ≡ some u → u.who.live ≡ true → weight (is_born u.history.birth (kin_read u)) ≡ 1
  born_one j u e live = ap (λ (t : Bool). weight (t && (u.history.birth == u.history.birth))) live ∙ weight_same u.history.birth

  -- two live views have two births
  one_birth : (i j : ℕ) (u w : View) → get_elem? views i ≡ some u → get_elem? views j ≡ some w → u.who.live ≡ true → w.who.live ≡ true → u.history.birth ≡ w.history.birth → i ≡ j
  one_birth i j u w e e' live live' same = dite (ℕ_discrete i j) (λ (is : i ≡ j). is)
      (λ (ne : i ≢ j).
      let two = sum_two (λ (k : KinRead). weight (is_born u.history.birth k)) (map kin_read views) j i (kin_read w) (kin_read u) ne (at_map kin_read views j w e') (at_map kin_read views i u e) in
      let a = born_one i u e live in
      let b : weight (is_born u.history.birth (kin_read w)) ≡ 1 = ap (λ (k : ℕ). weight (is_born k (kin_read w))) same ∙ born_one j w e' live' in
      let d = p.kin.distinct u.history.birth in
      absurd (omega arith))

  -- two live views have two numbers
  pub one_number : (i j : ℕ) (u w : View) → get_elem? views i ≡ some u → get_elem? views j ≡ some w → u.who.live ≡ true → w.who.live ≡ true → u.who.number ≡ w.who.number → i ≡ j
  one_number i j u w e e' live live' same = dite (ℕ_discrete i j) (λ (is : i ≡ j). is)
      (λ (ne : i ≢ j).
      let two = sum_two (λ (k : NumberRead). weight (has_number u.who.number k)) (map number_read views) j i (number_read w) (number_read u) ne (at_map number_read views j w e') (at_map number_read views i u e) in
      let a : weight (has_number u.who.number (number_read u)) ≡ 1 = ap (λ (t : Bool). weight (t && (u.who.number == u.who.number))) live ∙ weight_same u.who.number in
      let b : weight (has_number u.who.number (number_read w)) ≡ 1 = ap (λ (k : ℕ). weight (has_number k (number_read w))) same ∙ (ap (λ (t : Bool). weight (t && (w.who.number == w.who.number))) live' ∙ weight_same w.who.number) in
      let d = p.numbers.each u.who.number in
      let m = at_most_one (nat_lt u.who.number passes) in
      absurd (omega arith))

  -- a live view's number is one of a pass
  pub number_small : (j : ℕ) (u : View) → get_elem? views j ≡ some u → u.who.live ≡ true → u.who.number < passes
  number_small j u e live =
      let has = sum_has (λ (k : NumberRead). weight (has_number u.who.number k)) (map number_read views) j (number_read u) (at_map number_read views j u e) in
      let a : weight (has_number u.who.number (number_read u)) ≡ 1 = ap (λ (t : Bool). weight (t && (u.who.number == u.who.number))) live ∙ weight_same u.who.number in
      let d = p.numbers.each u.who.number in
      let lt : nat_lt u.who.number passes ≡ true = weight_some (nat_lt u.who.number passes) (omega arith) in
      grind (arith, lt)

  -- who has a child of a birth is there, live and born earlier
  record HasParent (b : ℕ) : Type 0 where
    at : ℕ
    parent : View
    there : get_elem? views at ≡ some parent
    live : parent.who.live ≡ true
    has : 0 < times b parent.who.children
    earlier : parent.history.birth < b

  parent_of : (j : ℕ) (u : View) → get_elem? views j ≡ some u → u.who.live ≡ true → 0 < u.history.birth → HasParent u.history.birth
  parent_of j u e live pos =
      let b = u.history.birth in
      let has = sum_has (λ (k : KinRead). weight (is_born b k)) (map kin_read views) j (kin_read u) (at_map kin_read views j u e) in
      let one = born_one j u e live in
      let c = p.kin.children b pos in
      let s = sum_some (λ (k : KinRead). times b k.children) (map kin_read views) (omega arith) in
      let x = map_back kin_read views s.0 s.1 s.2 in
      let mine : 0 < times b x.0.who.children = subst (λ (k : KinRead). 0 < times b k.children) (sym x.2) s.3 in
      record {
        at = s.0;
        parent = x.0;
        there = x.1;
        live = lively s.0 x.0 x.1 (λ is. not_empty b (subst (λ (w : View). 0 < times b w.who.children) is mine));
        has = mine;
        earlier = p.kin.later s.0 (kin_read x.0) (at_map kin_read views s.0 x.0 x.1) b mine;
      }
    where
      not_empty : (b : ℕ) → 0 < times b [] → ⊥
      not_empty b h = absurd (omega arith)

  module _ (id : ℕ) (v : View) (at : get_elem? views id ≡ some v) (live : v.who.live ≡ true) where
    -- a pass that is alone is the only live one
    only_live_within : (n : ℕ) → IsAlone v → (j : ℕ) (u : View) → get_elem? views j ≡ some u → u.who.live ≡ true → u.history.birth < n → j ≡ id
    only_live_within zero alone j u e live_u lt = absurd (omega arith)
    only_live_within (suc n) alone j u e live_u lt = by_birth u.history.birth refl (λ k w e' live_w lt'. only_live_within n alone k w e' live_w lt')
      where
        by_birth : (b : ℕ) → u.history.birth ≡ b → ((k : ℕ) (w : View) → get_elem? views k ≡ some w → w.who.live ≡ true → w.history.birth < n → k ≡ id) → j ≡ id
        by_birth zero is later = one_birth j id u v e at live_u live (is ∙ sym alone.first)
        by_birth (suc b) is later =
            let h = parent_of j u e live_u (omega arith) in
            let lt' = h.earlier in
            let mine : h.at ≡ id = later h.at h.parent h.there h.live (omega arith) in
            let same : h.parent ≡ v = some-injective h.parent v (sym h.there ∙ (ap (get_elem? views) mine ∙ at)) in
            let none : times u.history.birth h.parent.who.children ≡ 0 = ap (λ (w : View). times u.history.birth w.who.children) same ∙ ap (times u.history.birth) alone.childless in
            let some_child = h.has in
            absurd (omega arith)

    pub only_live : IsAlone v → (j : ℕ) (u : View) → get_elem? views j ≡ some u → u.who.live ≡ true → j ≡ id
    only_live alone j u e live_u = only_live_within (suc u.history.birth) alone j u e live_u (omega arith)

    -- and has seen all of the history
    pub alone_saw : IsAlone v → g.history ≡ v.history.seen
    alone_saw alone = by_length (length g.history) refl
      where
        seen : IsPrefix v.history.seen g.history
        seen = seen_begins p id v at

        by_length : (n : ℕ) → length g.history ≡ n → g.history ≡ v.history.seen
        by_length zero is = sym (prefix_whole v.history.seen g.history seen (omega arith))
        by_length (suc n) is =
            let owned = p.history.owned (suc n) in
            let one : weight (nat_lt 0 (suc n) && nat_lt (suc n) (suc (length g.history))) ≡ 1 = grind (arith, is) in
            let s = sum_some (λ (u : PastRead). times (suc n) u.own) (map past_read views) (omega arith) in
            let x = map_back past_read views s.0 s.1 s.2 in
            let mine : 0 < times (suc n) x.0.history.own = subst (λ (u : PastRead). 0 < times (suc n) u.own) (sym x.2) s.3 in
            let lives = lively s.0 x.0 x.1 (λ empty. absurd (let z : 0 < times (suc n) blank.history.own = subst (λ (w : View). 0 < times (suc n) w.history.own) empty mine in omega arith)) in
            let here : s.0 ≡ id = only_live alone s.0 x.0 x.1 lives in
            let same : x.0 ≡ v = some-injective x.0 v (sym x.1 ∙ (ap (get_elem? views) here ∙ at)) in
            let reached = p.history.reached s.0 (past_read x.0) (at_map past_read views s.0 x.0 x.1) (suc n) mine in
            let length_same : length x.0.history.seen ≡ length v.history.seen = ap (λ (w : View). length w.history.seen) same in
            sym (prefix_whole v.history.seen g.history seen (omega arith))

    -- what a held lock says of its holder, to a pass that doesn't hold it
    pub found : (l : lock.Lock) (n : ℕ) → n ≡ words (lock_word l) → n ≢ 0 → holds l v ≡ false → Found v n
    found l n is busy out =
        let h = (p.locks l).holder (positive n (words (lock_word l)) is busy) in
        let x = map_back (holder_read l) views h.0 h.1 h.2 in
        let held : holds l x.0 ≡ true = ap (λ (r : HolderRead). r.held) x.2 ∙ h.3 in
        let lives = holder_lives l h.0 x.0 x.1 held in
        let apart : h.0 ≢ id = λ e. true≢false (sym held ∙ (ap (holds l) (some-injective x.0 v (sym x.1 ∙ (ap (get_elem? views) e ∙ at))) ∙ out)) in
        record {
          number = x.0.who.number;
          is = is ∙ (p.locks l).named h.0 (holder_read l x.0) (at_map (holder_read l) views h.0 x.0 x.1) held;
          small = number_small h.0 x.0 x.1 lives;
          other = λ same. apart (one_number h.0 id x.0 v x.1 at lives live same);
          company = λ alone. apart (only_live alone h.0 x.0 x.1 lives);
        }
      where
        positive : (n k : ℕ) → n ≡ k → n ≢ 0 → 0 < k
        positive zero k e ne = absurd (ne refl)
        positive (suc n) k e ne = omega arith

    -- births to come are above those of the pass's children and of those that it took in
    pub younger : (b : ℕ) → 0 < times b (v.who.children ++ births_of v.kept) → b < g.lists.next_birth
    younger b h =
        let a = times_append b v.who.children (births_of v.kept) in
        ⊎_elim
        (λ (x : 0 < times b v.who.children).
        let lt = p.kin.later id (kin_read v) (at_map kin_read views id v at) b x in
        let has = sum_has (λ (k : KinRead). times b k.children) (map kin_read views) id (kin_read v) (at_map kin_read views id v at) in
        let c = p.kin.children b (omega arith) in
        let s = sum_some (λ (k : KinRead). weight (is_born b k)) (map kin_read views) (omega arith) in
        let born : s.1.birth ≡ b = eqb-true s.1.birth b (both_true s.1.live (s.1.birth == b) (weight_some (is_born b s.1) s.3)).1 in
        let below = p.kin.below s.0 s.1 s.2 in
        omega arith)
        (λ (x : 0 < times b (births_of v.kept)). p.kin.kept_below id (kin_read v) (at_map kin_read views id v at) b x)
        (one_of (times b v.who.children) (times b (births_of v.kept)) (omega arith))

    -- no place is own twice
    pub own_once : (q : ℕ) → times q v.history.own ≤ 1
    own_once q =
        let has = sum_has (λ (u : PastRead). times q u.own) (map past_read views) id (past_read v) (at_map past_read views id v at) in
        let o = p.history.owned q in
        let m = at_most_one (nat_lt 0 q && nat_lt q (suc (length g.history))) in
        omega arith
