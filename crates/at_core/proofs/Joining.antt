-- A pass takes in another.
use Rattle.std.proofs.Common.{◌≡◌, ◌≢◌, ◌⊎◌, ℕ, zero, suc, ◌+◌, ◌*◌, ◌<◌, ◌≤◌, ◌==◌, ◌&&◌, Bool, true, false, true≢false, cond, List, [], ◌∷◌, ◌++◌, length, map, set, get_or, refl, sym, ap, ◌∙◌, subst, ⊎_elim, inl, inr, arith, length-set}
use Rattle.std.specs.Prelude.{All, count_by, sum_by, nat_lt, slice_index}
use mathlib.Core.Option.{some, some-injective}
use mathlib.Core.List.{IsPrefix}
use mathlib.Core.Logic.{dite}
use native.Mathlib.Decide.{ℕ_discrete}
use lib.ListN.{get_elem?}
use Rattle.atomic_table.proofs.Lists.{at_map, set_here, set_else}
use Rattle.at_value.specs.declared.limits.Limits.{Limits}
use Rattle.at_value.specs.declared.operation.Op as op
use Rattle.at_model.specs.World.{World}
use Rattle.at_model.specs.History.{replay}
use Rattle.at_types.specs.Tags.{times}
use Rattle.at_view.specs.declared.mark.Trail.{Trail}
use Rattle.at_view.specs.declared.view.TypeLists.{TypeLists}
use Rattle.at_view.specs.declared.view.View.{View}
use Rattle.at_view.specs.Views.{blank, no_hold, longer}
use Rattle.at_view.specs.Counts.{passes}
use Rattle.at_view.specs.Words.{Words, place, global_sequence}
use Rattle.at_core.specs.declared.lock.Lock as lock
use Rattle.at_core.specs.declared.lock.Lock.TheVariants as locks
use Rattle.at_core.specs.Inline.{HaveGrown}
use Rattle.at_core.specs.Looks.{keys_at, IsBacked}
use Rattle.at_core.specs.Locks.{lock_word, slot_of, hold_of}
use Rattle.at_core.specs.Reads.{PastRead, past_read, fresh_read, KinRead, kin_read, births_of, NumberRead, number_read, HolderRead, holder_read, kept_read, TypesRead, types_read, row_read, open_read, known_read, looks_read, sequence_read, join_read, limit_read}
use Rattle.at_core.specs.Rule.{Homes, Each, weight, is_born, has_number, HistoryRule, KinRule, LockRule, NumberRule, SlotRule, KeptBy, TypesCopied, TypesRule, SequenceRule, Ghost, Parts, IsLock, heads_of, keys_of, own_sequences_of, types_words, row_words, shape_under}
use Rattle.at_core.specs.Steps.{MayJoin, lists_joined, merged, without}
use Rattle.at_core.specs.Openings.{openings_of}
use Rattle.at_core.proofs.OpeningCounts.{merged_openings}
use Rattle.at_core.proofs.Lists.{each_set, each_other, there, sum_set, sum_has, map_set, map_back}
use Rattle.at_core.proofs.Counts.{weight_same, weight_other, times_cons, times_append, times_without, weight_set, count_set_free}
use Rattle.at_core.proofs.Prefixes.{prefix_self, prefix_trans, prefix_length, prefix_shorter}
use Rattle.at_core.proofs.HeadFrames.{none_known, none_backed}
use Rattle.at_core.proofs.SequenceSteps.{sequence_loaded, sequence_spent}
use Rattle.at_core.proofs.Parts.{seen_begins, holder_is}

-- the longer of two prefixes is one, and each begins it
pub record IsLonger (first second whole longest : List op.Op) : Type 0 where
  pub begins : IsPrefix longest whole
  pub has_first : IsPrefix first longest
  pub has_second : IsPrefix second longest

pub longer_is : (first second whole : List op.Op) → IsPrefix first whole → IsPrefix second whole → IsLonger first second whole (longer first second)
longer_is first second whole p q = by_test (nat_lt (length first) (length second)) refl
  where
    by_test : (t : Bool) → nat_lt (length first) (length second) ≡ t → IsLonger first second whole (longer first second)
    by_test true e =
        let is : second ≡ longer first second = ap (λ (t : Bool). cond t second first) (sym e) in
        let lt : length first < length second = grind (arith, e) in
        subst (IsLonger first second whole) is (record { begins = q; has_first = prefix_shorter first second whole p q (omega arith); has_second = prefix_self second })
    by_test false e =
        let is : first ≡ longer first second = ap (λ (t : Bool). cond t second first) (sym e) in
        let le : length second ≤ length first = grind (arith, e) in
        subst (IsLonger first second whole) is (record { begins = p; has_first = prefix_self first; has_second = prefix_shorter second first whole q p le })

-- of two numbers that aren't 0 together, one isn't
one_of : (m n : ℕ) → 0 < m + n → (0 < m) ⊎ (0 < n)
one_of zero n h = inr (omega arith)
one_of (suc m) n h = inl (omega arith)

births_append : (first second : List Trail) → births_of (first ++ second) ≡ births_of first ++ births_of second
births_append [] second = refl
births_append (t ∷ first) second = ap (λ bs. t.birth ∷ bs) (births_append first second)

-- sums over a list in which one item changes and another is spent
module _ {A : Type 0} (xs : List A) (id other : ℕ) (v w m b : A) (at : get_elem? xs id ≡ some v) (apart : other ≢ id) (at' : get_elem? xs other ≡ some w) where
  abbrev pub both : List A
  both = set (set xs id m) other b

  pub other_there : get_elem? (set xs id m) other ≡ some w
  other_there = set_else xs id other m apart ∙ at'

  pub sum_both : (f : A → ℕ) → (sum_by f both + f w) + f v ≡ (sum_by f xs + f m) + f b
  sum_both f = let s = sum_set f xs id v m at in let t = sum_set f (set xs id m) other w b other_there in omega arith

  pub each_both : (Q : ℕ → A → Type 0) → Each Q xs → Q id m → Q other b → Each Q both
  each_both Q old mine gone = each_set Q (set xs id m) other b (each_set Q xs id m old mine) gone

  pub each_alone : (Q : ℕ → A → Type 0) → ((j : ℕ) (x : A) → j ≢ id → get_elem? xs j ≡ some x → Q j x) → Q id m → Q other b → Each Q both
  each_alone Q others mine gone = each_set Q (set xs id m) other b (each_other Q xs id m others mine) gone

module _ (opened : World) (limits : Limits) (words : Words) (homes : Homes) (views : List View) (g : Ghost) (p : Parts opened limits words homes views g) (id : ℕ) (v : View) (at : get_elem? views id ≡ some v) (live : v.who.live ≡ true)
    (other : ℕ) (w : View) (apart : other ≢ id) (at' : get_elem? views other ≡ some w) (live' : w.who.live ≡ true) (may : MayJoin v w) where
  abbrev m : View
  m = merged v w

  abbrev pub views_joined : List View
  views_joined = set (set views id m) other blank

  abbrev pub ghost_joined : Ghost
  ghost_joined = record g { lists = lists_joined g.lists w.who.number }

  lists_are : v.types.lists ≡ g.lists
  lists_are = (p.types id (types_read v) (at_map types_read views id v at) may.alone.types).lists_are

  long : IsLonger v.history.seen w.history.seen g.history (longer v.history.seen w.history.seen)
  long = longer_is v.history.seen w.history.seen g.history (seen_begins p id v at) (seen_begins p other w at')

  hold_joined : (k : lock.Lock) → hold_of k m ≡ hold_of k v
  hold_joined locks.Types = refl
  hold_joined (locks.Row o) = refl

  hold_blank : (k : lock.Lock) → hold_of k blank ≡ no_hold
  hold_blank locks.Types = refl
  hold_blank (locks.Row o) = refl

  mapped : {A : Type 0} (f : View → A) → map f views_joined ≡ set (set (map f views) id (f m)) other (f blank)
  mapped f = map_set f (set views id m) other blank ∙ ap (λ xs. set xs other (f blank)) (map_set f views id m)

  part_after : {A : Type 0} (f : View → A) (P : List A → Type 0) → P (set (set (map f views) id (f m)) other (f blank)) → P (map f views_joined)
  part_after f P h = subst P (sym (mapped f)) h

  each_after : {A : Type 0} (f : View → A) (Q : ℕ → A → Type 0) → Each Q (map f views) → Q id (f m) → Q other (f blank) → Each Q (map f views_joined)
  each_after f Q old mine gone = part_after f (Each Q) (each_set Q (set (map f views) id (f m)) other (f blank) (each_set Q (map f views) id (f m) old mine) gone)

  sums : {A : Type 0} (f : View → A) (h : A → ℕ) → (sum_by h (set (set (map f views) id (f m)) other (f blank)) + h (f w)) + h (f v) ≡ (sum_by h (map f views) + h (f m)) + h (f blank)
  sums f h = sum_both (map f views) id other (f v) (f w) (f m) (f blank) (at_map f views id v at) apart (at_map f views other w at') h

  types_busy : 0 < words (lock_word locks.Types)
  types_busy = let n = (p.locks locks.Types).named id (holder_read locks.Types v) (at_map (holder_read locks.Types) views id v at) may.alone.types in omega arith

  slots_after : (k : lock.Lock) → IsLock k → SlotRule limits (replay opened g.history) (lists_joined g.lists w.who.number) (shape_under (heads_of words) k) k (words (lock_word k)) (get_elem? homes (slot_of k))
  slots_after locks.Types k_is = record { at_home = λ z. absurd (let b = types_busy in omega arith); out = (p.slots locks.Types k_is).out }
  slots_after (locks.Row o) k_is = let s = p.slots (locks.Row o) k_is in record { at_home = s.at_home; out = s.out }

  history_after : HistoryRule opened (words place) g.history (map past_read views_joined)
  history_after = let h = p.history in record {
    counted = h.counted;
    proper = h.proper;
    begun = each_after past_read (λ i u. IsPrefix u.seen g.history) h.begun long.begins (g.history, refl);
    owned = λ q.
        let e = ap (sum_by (λ (u : PastRead). times q u.own)) (mapped past_read) in
        let s = sums past_read (λ (u : PastRead). times q u.own) in
        let a = times_append q v.history.own w.history.own in
        let o = h.owned q in omega arith;
    reached = each_after past_read (λ i u. (q : ℕ) → 0 < times q u.own → q ≤ length u.seen) h.reached
        (λ q has.
        let a = times_append q v.history.own w.history.own in
        ⊎_elim
        (λ (x : 0 < times q v.history.own). let r = h.reached id (past_read v) (at_map past_read views id v at) q x in let n = prefix_length v.history.seen (longer v.history.seen w.history.seen) long.has_first in omega arith)
        (λ (x : 0 < times q w.history.own). let r = h.reached other (past_read w) (at_map past_read views other w at') q x in let n = prefix_length w.history.seen (longer v.history.seen w.history.seen) long.has_second in omega arith)
        (one_of (times q v.history.own) (times q w.history.own) (omega arith)))
        (λ q has. absurd (omega arith));
  }

  born_w : (b : ℕ) → weight (is_born b (kin_read w)) ≡ weight (w.history.birth == b)
  born_w b = ap (λ (t : Bool). weight (t && (w.history.birth == b))) live'

  born_blank : (b : ℕ) → weight (is_born b (kin_read blank)) ≡ 0
  born_blank b = refl

  kept_joined : (b : ℕ) → times b (births_of m.kept) ≡ (times b (births_of v.kept) + weight (w.history.birth == b)) + times b (births_of w.kept)
  kept_joined b =
      let trail : Trail = record { birth = w.history.birth; marks = w.trace } in
      let e = ap (times b) (births_append (v.kept ++ trail ∷ []) w.kept ∙ ap (λ bs. bs ++ births_of w.kept) (births_append v.kept (trail ∷ []))) in
      let x = times_append b (births_of v.kept ++ w.history.birth ∷ []) (births_of w.kept) in
      let y = times_append b (births_of v.kept) (w.history.birth ∷ []) in
      let z = times_cons b w.history.birth [] in
      omega arith

  kin_after : KinRule g.lists.next_birth (map kin_read views_joined)
  kin_after = let k = p.kin in record {
    children = λ b pos.
        let e = ap (sum_by (λ (u : KinRead). times b u.children)) (mapped kin_read) in
        let s = sums kin_read (λ (u : KinRead). times b u.children) in
        let f = ap (sum_by (λ (u : KinRead). weight (is_born b u))) (mapped kin_read) in
        let t = sums kin_read (λ (u : KinRead). weight (is_born b u)) in
        let a = times_append b (without w.history.birth v.who.children) w.who.children in
        let d = times_without b w.history.birth v.who.children may.child in
        let n = born_w b in
        let r = k.children b pos in omega arith;
    distinct = λ b.
        let f = ap (sum_by (λ (u : KinRead). weight (is_born b u))) (mapped kin_read) in
        let t = sums kin_read (λ (u : KinRead). weight (is_born b u)) in
        let e = ap (sum_by (λ (u : KinRead). times b u.kept)) (mapped kin_read) in
        let s = sums kin_read (λ (u : KinRead). times b u.kept) in
        let a = kept_joined b in
        let n = born_w b in
        let r = k.distinct b in omega arith;
    later = each_after kin_read (λ i u. (b : ℕ) → 0 < times b u.children → u.birth < b) k.later
        (λ b h.
        let a = times_append b (without w.history.birth v.who.children) w.who.children in
        let d = times_without b w.history.birth v.who.children may.child in
        let mine = k.later id (kin_read v) (at_map kin_read views id v at) in
        ⊎_elim
        (λ (x : 0 < times b (without w.history.birth v.who.children)). mine b (omega arith))
        (λ (x : 0 < times b w.who.children). let lt = k.later other (kin_read w) (at_map kin_read views other w at') b x in let lt' = mine w.history.birth may.child in omega arith)
        (one_of (times b (without w.history.birth v.who.children)) (times b w.who.children) (omega arith)))
        (λ b h. absurd (omega arith));
    below = each_after kin_read (λ i u. u.birth < g.lists.next_birth) k.below (k.below id (kin_read v) (at_map kin_read views id v at)) (let lt = k.below id (kin_read v) (at_map kin_read views id v at) in omega arith);
    kept_below = each_after kin_read (λ i u. (b : ℕ) → 0 < times b u.kept → b < g.lists.next_birth) k.kept_below
        (λ b h.
        let a = kept_joined b in
        let new = k.below other (kin_read w) (at_map kin_read views other w at') in
        dite (ℕ_discrete w.history.birth b)
        (λ (is : w.history.birth ≡ b). omega arith)
        (λ (ne : w.history.birth ≢ b).
        let z = weight_other w.history.birth b ne in
        ⊎_elim
        (λ (x : 0 < times b (births_of v.kept)). k.kept_below id (kin_read v) (at_map kin_read views id v at) b x)
        (λ (x : 0 < times b (births_of w.kept)). k.kept_below other (kin_read w) (at_map kin_read views other w at') b x)
        (one_of (times b (births_of v.kept)) (times b (births_of w.kept)) (omega arith))))
        (λ b h. absurd (omega arith));
  }

  -- the number of the other pass isn't free, and is one of the table's
  record IsTaken (numbers : List Bool) (n : ℕ) : Type 0 where
    pub below : n < length numbers
    pub taken : get_or numbers n false ≡ false

  number_taken : IsTaken g.lists.numbers w.who.number
  number_taken =
      let one = sum_has (λ (u : NumberRead). weight (has_number w.who.number u)) (map number_read views) other (number_read w) (at_map number_read views other w at') in
      let is : weight (has_number w.who.number (number_read w)) ≡ 1 = ap (λ (t : Bool). weight (t && (w.who.number == w.who.number))) live' ∙ weight_same w.who.number in
      let each = p.numbers.each w.who.number in
      let whole = p.numbers.whole in
      by_test (nat_lt w.who.number passes) refl (get_or g.lists.numbers w.who.number false) refl is one each whole
    where
      by_test : (t : Bool) → nat_lt w.who.number passes ≡ t → (b : Bool) → get_or g.lists.numbers w.who.number false ≡ b
          → weight (has_number w.who.number (number_read w)) ≡ 1 → weight (has_number w.who.number (number_read w)) ≤ sum_by (λ (u : NumberRead). weight (has_number w.who.number u)) (map number_read views)
          → count_by (has_number w.who.number) (map number_read views) + weight (get_or g.lists.numbers w.who.number false) ≡ weight (nat_lt w.who.number passes)
          → length g.lists.numbers ≡ passes → IsTaken g.lists.numbers w.who.number
      by_test true lt false is one some_one each whole = record { below = grind (arith, lt, whole); taken = is }
      by_test true lt true is one some_one each whole = let x : weight (get_or g.lists.numbers w.who.number false) ≡ 1 = ap weight is in let y = ap weight lt in absurd (omega arith)
      by_test false ge b is one some_one each whole = let y = ap weight ge in absurd (omega arith)

  numbers_after : NumberRule (lists_joined g.lists w.who.number).numbers (map number_read views_joined)
  numbers_after = let r = p.numbers in let t = number_taken in record {
    whole = length-set g.lists.numbers w.who.number true ∙ r.whole;
    each = λ n.
        let e = ap (sum_by (λ (u : NumberRead). weight (has_number n u))) (mapped number_read) in
        let s = sums number_read (λ (u : NumberRead). weight (has_number n u)) in
        let is : weight (has_number n (number_read w)) ≡ weight (w.who.number == n) = ap (λ (b : Bool). weight (b && (w.who.number == n))) live' in
        let f = weight_set g.lists.numbers w.who.number n true t.below in
        let z : weight (get_or g.lists.numbers w.who.number false) ≡ 0 = ap weight t.taken in
        let mz = ap (λ (j : ℕ). weight (w.who.number == n) * j) z in
        let o = r.each n in omega arith;
    all =
        let e = ap (sum_by (λ (u : NumberRead). weight u.live)) (mapped number_read) in
        let s = sums number_read (λ (u : NumberRead). weight u.live) in
        let is : weight w.who.live ≡ 1 = ap weight live' in
        let f = count_set_free g.lists.numbers w.who.number true t.below in
        let z : weight (get_or g.lists.numbers w.who.number false) ≡ 0 = ap weight t.taken in
        let o = r.all in omega arith;
  }

  locks_after : (k : lock.Lock) → LockRule (words (lock_word k)) (map (holder_read k) views_joined)
  locks_after k = let r = p.locks k in let same : holder_read k m ≡ holder_read k v = (λ i. record { number = v.who.number; held = (hold_joined k i).held }) in record {
    named = each_after (holder_read k) (λ i u. u.held ≡ true → words (lock_word k) ≡ suc u.number) r.named
        (subst (λ u. u.held ≡ true → words (lock_word k) ≡ suc u.number) (sym same) (r.named id (holder_read k v) (at_map (holder_read k) views id v at)))
        (λ on. absurd (true≢false (sym on ∙ ap (λ h. h.held) (hold_blank k))));
    one = λ i j u u' e e' h h'. let a = was i u e h in let b = was j u' e' h' in r.one i j a.0 b.0 a.1.0 b.1.0 a.1.1 b.1.1;
    holder = λ busy. let o = r.holder busy in
        dite (ℕ_discrete o.0 id)
        (λ (mine : o.0 ≡ id).
        let held : (holder_read k v).held ≡ true = ap (λ (u : HolderRead). u.held) (some-injective (holder_read k v) o.1 (sym (at_map (holder_read k) views id v at) ∙ ap (get_elem? (map (holder_read k) views)) (sym mine) ∙ o.2)) ∙ o.3 in
        (id, holder_read k m, part_after (holder_read k) (λ xs. get_elem? xs id ≡ some (holder_read k m)) (set_else (set (map (holder_read k) views) id (holder_read k m)) other id (holder_read k blank) (λ e. apart (sym e)) ∙ set_here (map (holder_read k) views) id (holder_read k m) (there (map (holder_read k) views) id (holder_read k v) (at_map (holder_read k) views id v at))), ap (λ (u : HolderRead). u.held) same ∙ held))
        (λ (ne : o.0 ≢ id). dite (ℕ_discrete o.0 other)
        (λ (gone : o.0 ≡ other).
        let free : (holder_read k w).held ≡ true = ap (λ (u : HolderRead). u.held) (some-injective (holder_read k w) o.1 (sym (at_map (holder_read k) views other w at') ∙ ap (get_elem? (map (holder_read k) views)) (sym gone) ∙ o.2)) ∙ o.3 in
        absurd (true≢false (sym free ∙ may.lockless k)))
        (λ (ne' : o.0 ≢ other). (o.0, o.1, part_after (holder_read k) (λ xs. get_elem? xs o.0 ≡ some o.1) (set_else (set (map (holder_read k) views) id (holder_read k m)) other o.0 (holder_read k blank) ne' ∙ (set_else (map (holder_read k) views) id o.0 (holder_read k m) ne ∙ o.2)), o.3)));
  }
    where
      was : (i : ℕ) (u : HolderRead) → get_elem? (map (holder_read k) views_joined) i ≡ some u → u.held ≡ true → (x : HolderRead) × ((get_elem? (map (holder_read k) views) i ≡ some x) × (x.held ≡ true))
      was i u e h = each_after (holder_read k) (λ j y. y.held ≡ true → (x : HolderRead) × ((get_elem? (map (holder_read k) views) j ≡ some x) × (x.held ≡ true)))
          (λ j y e' h'. (y, (e', h')))
          (λ h'. (holder_read k v, (at_map (holder_read k) views id v at, ap (λ x. x.held) (sym (hold_joined k)) ∙ h')))
          (λ on. absurd (true≢false (sym on ∙ ap (λ x. x.held) (hold_blank k)))) i u e h

  abbrev TypesAfter : ℕ → TypesRead → Type 0
  TypesAfter i u = u.held ≡ true → TypesCopied (lists_joined g.lists w.who.number) (types_words words) u

  types_after : TypesRule (lists_joined g.lists w.who.number) (types_words words) (map types_read views_joined)
  types_after = part_after types_read (Each TypesAfter)
      (each_set TypesAfter (set (map types_read views) id (types_read m)) other (types_read blank)
      (each_other TypesAfter (map types_read views) id (types_read m) others
      (λ _. record { lists_are = ap (λ (ls : TypeLists). lists_joined ls w.who.number) lists_are; words_are = (p.types id (types_read v) (at_map types_read views id v at) may.alone.types).words_are }))
      (λ on. absurd (true≢false (sym on))))
    where
      others : (j : ℕ) (u : TypesRead) → j ≢ id → get_elem? (map types_read views) j ≡ some u → u.held ≡ true → TypesCopied (lists_joined g.lists w.who.number) (types_words words) u
      others j u ne e on =
          let x = map_back types_read views j u e in
          absurd (ne (holder_is locks.Types (words (lock_word locks.Types)) views id v (p.locks locks.Types) at may.alone.types j x.0 x.1 (ap (λ (r : TypesRead). r.held) x.2 ∙ on)))

  kept_m : (k : lock.Lock) → (hold_of k m).held ≡ true → KeptBy opened k g.history (kept_read k m)
  kept_m locks.Types on = let old = p.kept locks.Types id (kept_read locks.Types v) (at_map (kept_read locks.Types) views id v at) on in record {
    begun = prefix_trans v.types.hold.since v.history.seen (longer v.history.seen w.history.seen) old.begun long.has_first;
    came = old.came;
    protects = old.protects;
    excludes = tt;
  }
  kept_m (locks.Row o) on = absurd (true≢false (sym on ∙ may.alone.rows o))

  pub join_keeps : Parts opened limits words homes views_joined ghost_joined
  join_keeps = record {
    history = history_after;
    room =
        let e = ap (sum_by (λ (b : Bool). weight b)) (mapped fresh_read) in
        let s = sums fresh_read (λ (b : Bool). weight b) in
        let r = p.room in omega arith;
    kin = kin_after;
    locks = locks_after;
    numbers = numbers_after;
    slots = slots_after;
    headed = record {
      heads_are = p.headed.heads_are;
      open_are = λ o odd. each_after (open_read o) _ (p.headed.open_are o odd)
          (p.headed.open_are o odd id (open_read o v) (at_map (open_read o) views id v at))
          (λ row types found. absurd (true≢false (sym row)));
      rows_are = p.headed.rows_are;
      openings = λ o.
          let e = ap (sum_by (λ (n : ℕ). n)) (mapped (openings_of o)) in
          let s = sums (openings_of o) (λ (n : ℕ). n) in
          let both = merged_openings o v w in
          let r = p.headed.openings o in
          omega (arith, e, s, both, r);
      keys = p.headed.keys;
      cells = p.headed.cells;
      known = each_after known_read (λ i known. (k : ℕ) → HaveGrown (slice_index (keys_at k known)) (keys_of words k)) p.headed.known (p.headed.known id v.known (at_map known_read views id v at)) (none_known (keys_of words) [] refl);
      looks = each_after looks_read (λ i looks. All (λ look. IsBacked opened (heads_of words look.object) (keys_of words) g.history look) looks) p.headed.looks (p.headed.looks id v.looks (at_map looks_read views id v at))
          (none_backed opened (heads_of words) (keys_of words) g.history [] refl);
    };
    sequence = part_after sequence_read (SequenceRule (words global_sequence) (own_sequences_of words))
        (sequence_spent (words global_sequence) (own_sequences_of words) (set (map sequence_read views) id (sequence_read m))
        (sequence_loaded (words global_sequence) (own_sequences_of words) (map sequence_read views) p.sequence id (sequence_read v) (sequence_read m) (at_map sequence_read views id v at) (record { live = refl; number = refl }) refl
        (p.sequence.loaded id (sequence_read v) (at_map sequence_read views id v at)))
        other (sequence_read w) (sequence_read blank)
        (set_else (map sequence_read views) id other (sequence_read m) apart ∙ at_map sequence_read views other w at') live' may.offline refl refl);
    kept = λ k. each_after (kept_read k) (λ i u. u.hold.held ≡ true → KeptBy opened k g.history u) (p.kept k) (kept_m k) (λ on. absurd (true≢false (sym on ∙ ap (λ h. h.held) (hold_blank k))));
    types = types_after;
    rows = λ o. each_after (row_read o) (λ i u. u.held ≡ true → u.words ≡ row_words words o) (p.rows o) (p.rows o id (row_read o v) (at_map (row_read o) views id v at)) (λ on. absurd (true≢false (sym on)));
    joins = each_after join_read (λ i u. IsPrefix u.first g.history × IsPrefix u.second g.history) p.joins (seen_begins p id v at, seen_begins p other w at') ((g.history, refl), (g.history, refl));
    limited = each_after limit_read (λ i u. u.live ≡ true → u.limits ≡ limits) p.limited (p.limited id (limit_read v) (at_map limit_read views id v at)) (λ off. absurd (true≢false (sym off)));
    spent = each_set (λ i u. u.who.live ≡ false → u ≡ blank) (set views id m) other blank (each_set (λ i u. u.who.live ≡ false → u ≡ blank) views id m p.spent (λ off. absurd (true≢false (sym live ∙ off)))) (λ _. refl);
  }
