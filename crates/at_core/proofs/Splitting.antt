-- A new pass splits off.
use Rattle.std.proofs.Common.{◌≡◌, ◌≢◌, ℕ, zero, suc, ◌*◌, ◌<◌, ◌≤◌, ◌==◌, ◌&&◌, Bool, true, false, true≢false, List, [], ◌∷◌, ◌++◌, length, map, set, get_or, refl, sym, ap, ◌∙◌, subst, arith, length-set}
use Rattle.std.specs.Prelude.{Some, All, count_by, sum_by, unwrap_or, nat_lt, slice_index}
use Rattle.std.proofs.lemmas.List.Sums.{sum_by_push}
use mathlib.Core.Option.{some}
use mathlib.Core.List.{IsPrefix}
use mathlib.Core.Logic.{dite}
use native.Mathlib.Decide.{ℕ_discrete}
use lib.ListN.{get_elem?}
use Rattle.atomic_table.proofs.Lists.{at_map, at_longer}
use Rattle.at_value.specs.declared.limits.Limits.{Limits}
use Rattle.at_model.specs.World.{World}
use Rattle.at_model.specs.History.{replay}
use Rattle.at_types.specs.Tags.{times}
use Rattle.at_view.specs.declared.view.TypeLists.{TypeLists}
use Rattle.at_view.specs.declared.view.View.{View}
use Rattle.at_view.specs.Views.{blank, no_hold}
use Rattle.at_view.specs.Counts.{passes}
use Rattle.at_view.specs.Words.{Words, place, global_sequence}
use Rattle.at_core.specs.declared.lock.Lock as lock
use Rattle.at_core.specs.declared.lock.Lock.TheVariants as locks
use Rattle.at_core.specs.Inline.{HaveGrown}
use Rattle.at_core.specs.Looks.{keys_at, IsBacked}
use Rattle.at_core.specs.Locks.{lock_word, slot_of, hold_of}
use Rattle.at_core.specs.Reads.{PastRead, past_read, fresh_read, KinRead, kin_read, NumberRead, number_read, HolderRead, holder_read, kept_read, TypesRead, types_read, row_read, open_read, known_read, looks_read, SequenceRead, sequence_read, join_read, limit_read}
use Rattle.at_core.specs.Rule.{Homes, Each, weight, is_born, has_number, HistoryRule, RoomRule, KinRule, LockRule, NumberRule, SlotRule, KeptBy, TypesCopied, TypesRule, SequenceRule, Ghost, Parts, IsLock, heads_of, keys_of, own_sequences_of, types_words, row_words, shape_under}
use Rattle.at_core.specs.Steps.{MaySplit, next_number, lists_parted, parted, child}
use Rattle.at_core.specs.Openings.{openings_of}
use Rattle.at_core.proofs.OpeningCounts.{no_fewer, openings_left}
use Rattle.at_core.proofs.Lists.{each_set, each_other, each_snoc, sum_set, sum_has, sum_le, map_set, map_same, map_snoc, map_back}
use Rattle.at_core.proofs.HeadFrames.{none_known, none_backed}
use Rattle.at_core.proofs.SequenceSteps.{sequence_grown}
use Rattle.at_core.proofs.Counts.{at_most_one, weight_same, weight_other, times_cons, IsFree, next_is_free, weight_set, count_set_free}
use Rattle.at_core.proofs.Parts.{seen_begins, holder_is}

-- nobody has a child or a trail, and nobody was born, of a birth to come
module _ (next : ℕ) (views : List KinRead) (rule : KinRule next views) where
  pub none_born : (b : ℕ) → next ≤ b → count_by (is_born b) views ≡ 0
  none_born b le = let r = sum_le (λ v. weight (is_born b v)) (λ v. 0) views each in let z = zeros views in omega arith
    where
      each : Each (λ i v. weight (is_born b v) ≤ 0) views
      each i v e = let lt = rule.below i v e in let z = weight_other v.birth b (λ same. omega arith) in by_live v.live (omega arith)
        where
          by_live : (t : Bool) → weight (v.birth == b) ≤ 0 → weight (t && (v.birth == b)) ≤ 0
          by_live true h = h
          by_live false h = omega arith

      zeros : (vs : List KinRead) → sum_by (λ v. 0) vs ≡ 0
      zeros [] = refl
      zeros (v ∷ vs) = zeros vs

  pub none_kept : (b : ℕ) → next ≤ b → sum_by (λ v. times b v.kept) views ≡ 0
  none_kept b le = let r = sum_le (λ v. times b v.kept) (λ v. 0) views (λ i v e. none i v e (times b v.kept) refl) in let z = zeros views in omega arith
    where
      none : (i : ℕ) (v : KinRead) → get_elem? views i ≡ some v → (n : ℕ) → times b v.kept ≡ n → n ≤ 0
      none i v e zero is = omega arith
      none i v e (suc n) is = let lt = rule.kept_below i v e b (omega arith) in absurd (omega arith)

      zeros : (vs : List KinRead) → sum_by (λ v. 0) vs ≡ 0
      zeros [] = refl
      zeros (v ∷ vs) = zeros vs

abbrev parent_of : KinRead → ℕ → KinRead
parent_of v next = record v { children = next ∷ v.children }

abbrev newborn : ℕ → KinRead
newborn next = record { live = true; birth = next; children = []; kept = [] }

-- a view that is like the one before, with a child more, and a new one
kin_parted : (next : ℕ) (views : List KinRead) (id : ℕ) (v m c : KinRead) → KinRule next views → get_elem? views id ≡ some v
    → m ≡ parent_of v next → c ≡ newborn next → KinRule (suc next) (set views id m ++ c ∷ [])
kin_parted next views id v m c rule at m_is c_is = subst (λ (x : KinRead × KinRead). KinRule (suc next) (set views id x.0 ++ x.1 ∷ [])) (λ i. (sym m_is i, sym c_is i)) (record {
  children = λ b pos.
      let a = sum_set (λ (u : KinRead). times b u.children) views id v (parent_of v next) at in
      let d = sum_by_push (λ (u : KinRead). times b u.children) (set views id (parent_of v next)) (newborn next) in
      let e = sum_set (λ (u : KinRead). weight (is_born b u)) views id v (parent_of v next) at in
      let f = sum_by_push (λ (u : KinRead). weight (is_born b u)) (set views id (parent_of v next)) (newborn next) in
      let h = times_cons b next v.children in
      let r = rule.children b pos in
      omega arith;
  distinct = λ b.
      let a = sum_set (λ (u : KinRead). weight (is_born b u)) views id v (parent_of v next) at in
      let d = sum_by_push (λ (u : KinRead). weight (is_born b u)) (set views id (parent_of v next)) (newborn next) in
      let e = sum_set (λ (u : KinRead). times b u.kept) views id v (parent_of v next) at in
      let f = sum_by_push (λ (u : KinRead). times b u.kept) (set views id (parent_of v next)) (newborn next) in
      let r = rule.distinct b in
      dite (ℕ_discrete next b)
      (λ (is : next ≡ b). let x = none_born next views rule b (omega arith) in let y = none_kept next views rule b (omega arith) in let z = at_most_one (next == b) in omega arith)
      (λ (ne : next ≢ b). let z = weight_other next b ne in omega arith);
  later = each_snoc (λ i u. (b : ℕ) → 0 < times b u.children → u.birth < b) (set views id (parent_of v next)) (newborn next)
      (each_set (λ i u. (b : ℕ) → 0 < times b u.children → u.birth < b) views id (parent_of v next) rule.later
      (λ b h. let t = times_cons b next v.children in dite (ℕ_discrete next b)
      (λ (is : next ≡ b). let lt = rule.below id v at in omega arith)
      (λ (ne : next ≢ b). let z = weight_other next b ne in rule.later id v at b (omega arith))))
      (λ j b h. absurd (omega arith));
  below = each_snoc (λ i u. u.birth < suc next) (set views id (parent_of v next)) (newborn next)
      (each_set (λ i u. u.birth < suc next) views id (parent_of v next) (λ j u e. let lt = rule.below j u e in omega arith) (let lt = rule.below id v at in omega arith))
      (λ j. omega arith);
  kept_below = each_snoc (λ i u. (b : ℕ) → 0 < times b u.kept → b < suc next) (set views id (parent_of v next)) (newborn next)
      (each_set (λ i u. (b : ℕ) → 0 < times b u.kept → b < suc next) views id (parent_of v next) (λ j u e b h. let lt = rule.kept_below j u e b h in omega arith) (λ b h. let lt = rule.kept_below id v at b h in omega arith))
      (λ j b h. absurd (omega arith));
})

-- a free number is that of a new view
number_parted : (numbers : List Bool) (views : List NumberRead) (n : ℕ) → NumberRule numbers views → IsFree numbers n → NumberRule (set numbers n false) (views ++ record { live = true; number = n } ∷ [])
number_parted numbers views n rule free = record {
  whole = length-set numbers n false ∙ rule.whole;
  each = λ k.
      let a = sum_by_push (λ (u : NumberRead). weight (has_number k u)) views (record { live = true; number = n }) in
      let b = weight_set numbers n k false free.below in
      let was : weight (get_or numbers n false) ≡ 1 = ap weight free.free in
      let m = ap (λ (j : ℕ). weight (n == k) * j) was in
      let r = rule.each k in
      omega arith;
  all =
      let a = sum_by_push (λ (u : NumberRead). weight u.live) views (record { live = true; number = n }) in
      let b = count_set_free numbers n false free.below in
      let was : weight (get_or numbers n false) ≡ 1 = ap weight free.free in
      let r = rule.all in
      omega arith;
}

-- a new view holds nothing
lock_grown : (word : ℕ) (views : List HolderRead) (c : HolderRead) → LockRule word views → c.held ≡ false → LockRule word (views ++ c ∷ [])
lock_grown word views c rule none_held = record {
  named = each_snoc (λ i u. u.held ≡ true → word ≡ suc u.number) views c rule.named (λ j on. absurd (true≢false (sym on ∙ none_held)));
  one = λ i j u u' e e' h h'. rule.one i j u u' (old i u e h) (old j u' e' h') h h';
  holder = λ busy. let o = rule.holder busy in (o.0, o.1, at_longer views (c ∷ []) o.0 o.1 o.2, o.3);
}
  where
    old : (i : ℕ) (u : HolderRead) → get_elem? (views ++ c ∷ []) i ≡ some u → u.held ≡ true → get_elem? views i ≡ some u
    old i u e h = each_snoc (λ j x. x.held ≡ true → get_elem? views j ≡ some x) views c (λ j x e' _. e') (λ j on. absurd (true≢false (sym on ∙ none_held))) i u e h

module _ (opened : World) (limits : Limits) (words : Words) (homes : Homes) (views : List View) (g : Ghost) (p : Parts opened limits words homes views g) (id : ℕ) (v : View) (at : get_elem? views id ≡ some v) (live : v.who.live ≡ true)
    (number : ℕ) (may : MaySplit v number) where
  abbrev m : View
  m = parted v

  abbrev c : View
  c = child v

  abbrev pub views_parted : List View
  views_parted = set views id m ++ c ∷ []

  abbrev pub ghost_parted : Ghost
  ghost_parted = record g { lists = lists_parted g.lists }

  lists_are : v.types.lists ≡ g.lists
  lists_are = (p.types id (types_read v) (at_map types_read views id v at) may.alone.types).lists_are

  hold_parted : (k : lock.Lock) → hold_of k m ≡ hold_of k v
  hold_parted locks.Types = refl
  hold_parted (locks.Row o) = refl

  hold_child : (k : lock.Lock) → hold_of k c ≡ no_hold
  hold_child locks.Types = refl
  hold_child (locks.Row o) = refl

  -- a part over the views, of which one is like the one before and one is new
  grown : {A : Type 0} (f : View → A) (P : List A → Type 0) → f m ≡ f v → P (map f views ++ f c ∷ []) → P (map f views_parted)
  grown f P same h = subst P (sym (map_snoc f (set views id m) c ∙ ap (λ xs. xs ++ f c ∷ []) (map_same f views id v m at same))) h

  each_grown : {A : Type 0} (f : View → A) (Q : ℕ → A → Type 0) → Each Q (map f views) → Q id (f m) → ((j : ℕ) → Q j (f c)) → Each Q (map f views_parted)
  each_grown f Q old mine new = subst (Each Q) (sym (map_snoc f (set views id m) c ∙ ap (λ xs. xs ++ f c ∷ []) (map_set f views id m))) (each_snoc Q (set (map f views) id (f m)) (f c) (each_set Q (map f views) id (f m) old mine) new)

  types_busy : 0 < words (lock_word locks.Types)
  types_busy = let n = (p.locks locks.Types).named id (holder_read locks.Types v) (at_map (holder_read locks.Types) views id v at) may.alone.types in omega arith

  slots_after : (k : lock.Lock) → IsLock k → SlotRule limits (replay opened g.history) (lists_parted g.lists) (shape_under (heads_of words) k) k (words (lock_word k)) (get_elem? homes (slot_of k))
  slots_after locks.Types k_is = record { at_home = λ z. absurd (let b = types_busy in omega arith); out = (p.slots locks.Types k_is).out }
  slots_after (locks.Row o) k_is = let s = p.slots (locks.Row o) k_is in record { at_home = s.at_home; out = s.out }

  abbrev TypesAfter : ℕ → TypesRead → Type 0
  TypesAfter i u = u.held ≡ true → TypesCopied (lists_parted g.lists) (types_words words) u

  types_after : TypesRule (lists_parted g.lists) (types_words words) (map types_read views_parted)
  types_after = subst (λ xs. TypesRule (lists_parted g.lists) (types_words words) xs) (sym (map_snoc types_read (set views id m) c ∙ ap (λ xs. xs ++ types_read c ∷ []) (map_set types_read views id m)))
      (each_snoc TypesAfter (set (map types_read views) id (types_read m)) (types_read c)
      (each_other TypesAfter (map types_read views) id (types_read m) others
      (λ _. record { lists_are = ap lists_parted lists_are; words_are = (p.types id (types_read v) (at_map types_read views id v at) may.alone.types).words_are }))
      (λ j on. absurd (true≢false (sym on))))
    where
      others : (j : ℕ) (u : TypesRead) → j ≢ id → get_elem? (map types_read views) j ≡ some u → u.held ≡ true → TypesCopied (lists_parted g.lists) (types_words words) u
      others j u ne e on =
          let x = map_back types_read views j u e in
          absurd (ne (holder_is locks.Types (words (lock_word locks.Types)) views id v (p.locks locks.Types) at may.alone.types j x.0 x.1 (ap (λ (r : TypesRead). r.held) x.2 ∙ on)))

  -- nobody has the number
  free_number : (j : ℕ) (u : SequenceRead) → get_elem? (map sequence_read views) j ≡ some u → u.live ≡ true → u.number ≢ number
  free_number j u e lives same =
      let x = map_back sequence_read views j u e in
      let free = next_is_free g.lists.numbers number (ap (λ (ls : TypeLists). next_number ls.numbers) (sym lists_are) ∙ may.free) in
      let has = sum_has (λ (k : NumberRead). weight (has_number number k)) (map number_read views) j (number_read x.0) (at_map number_read views j x.0 x.1) in
      let is_live : x.0.who.live ≡ true = ap (λ (r : SequenceRead). r.live) x.2 ∙ lives in
      let is_same : x.0.who.number ≡ number = ap (λ (r : SequenceRead). r.number) x.2 ∙ same in
      let one : weight (has_number number (number_read x.0)) ≡ 1 = ap (λ (t : Bool × ℕ). weight (t.0 && (t.1 == number))) (λ i. (is_live i, is_same i)) ∙ weight_same number in
      let was : weight (get_or g.lists.numbers number false) ≡ 1 = ap weight free.free in
      let r = p.numbers.each number in
      let m = at_most_one (nat_lt number passes) in
      absurd (omega arith)

  pub split_keeps : Parts opened limits words homes views_parted ghost_parted
  split_keeps = record {
    history = grown past_read (HistoryRule opened (words place) g.history) refl (history_grown (past_read c) refl (seen_begins p id v at));
    room = grown fresh_read (RoomRule limits.place_max (words place)) refl (let s = sum_by_push (λ (b : Bool). weight b) (map fresh_read views) false in let r = p.room in omega arith);
    kin = subst (KinRule (suc g.lists.next_birth)) (sym (map_snoc kin_read (set views id m) c ∙ ap (λ xs. xs ++ kin_read c ∷ []) (map_set kin_read views id m)))
        (kin_parted g.lists.next_birth (map kin_read views) id (kin_read v) (kin_read m) (kin_read c) p.kin (at_map kin_read views id v at)
        (ap (λ (ls : TypeLists). record (kin_read v) { children = ls.next_birth ∷ v.who.children }) lists_are)
        (ap (λ (ls : TypeLists). record { live = true; birth = ls.next_birth; children = []; kept = [] }) lists_are));
    locks = λ k. grown (holder_read k) (LockRule (words (lock_word k))) (λ i. record { number = v.who.number; held = (hold_parted k i).held })
        (lock_grown (words (lock_word k)) (map (holder_read k) views) (holder_read k c) (p.locks k) (ap (λ h. h.held) (hold_child k)));
    numbers = grown number_read (NumberRule (lists_parted g.lists).numbers) refl
        (subst (λ (ns : List Bool). NumberRule (lists_parted g.lists).numbers (map number_read views ++ record { live = true; number = unwrap_or (next_number ns) 0 } ∷ [])) (sym (ap (λ (ls : TypeLists). ls.numbers) lists_are)) numbers_grown);
    slots = slots_after;
    headed = record {
      heads_are = p.headed.heads_are;
      open_are = λ o odd. each_grown (open_read o) _ (p.headed.open_are o odd)
          (p.headed.open_are o odd id (open_read o v) (at_map (open_read o) views id v at))
          (λ j row types found. absurd (true≢false (sym row)));
      rows_are = p.headed.rows_are;
      openings = λ o.
          let e = ap (sum_by (λ (n : ℕ). n)) (map_snoc (openings_of o) (set views id m) c) in
          let s = sum_by_push (λ (n : ℕ). n) (map (openings_of o) (set views id m)) (openings_of o c) in
          let r = openings_left o (heads_of words o) views id v m at (no_fewer o v m _ refl refl) (p.headed.openings o) in
          omega (arith, e, s, r);
      keys = p.headed.keys;
      cells = p.headed.cells;
      known = each_grown known_read (λ i known. (k : ℕ) → HaveGrown (slice_index (keys_at k known)) (keys_of words k)) p.headed.known (p.headed.known id v.known (at_map known_read views id v at)) (λ j. none_known (keys_of words) [] refl);
      looks = each_grown looks_read (λ i looks. All (λ look. IsBacked opened (heads_of words look.object) (keys_of words) g.history look) looks) p.headed.looks (p.headed.looks id v.looks (at_map looks_read views id v at))
          (λ j. none_backed opened (heads_of words) (keys_of words) g.history [] refl);
    };
    sequence = grown sequence_read (SequenceRule (words global_sequence) (own_sequences_of words)) refl
        (sequence_grown (words global_sequence) (own_sequences_of words) (map sequence_read views) p.sequence (sequence_read c) refl refl
        (ap (own_sequences_of words) (ap (λ n. unwrap_or n 0) may.free) ∙ p.sequence.spare number free_number));
    kept = λ k. each_grown (kept_read k) (λ i u. u.hold.held ≡ true → KeptBy opened k g.history u) (p.kept k)
        (let same : kept_read k m ≡ kept_read k v = λ i. record { hold = hold_parted k i; seen = v.history.seen; own = v.history.own } in
        subst (λ u. u.hold.held ≡ true → KeptBy opened k g.history u) (sym same) (p.kept k id (kept_read k v) (at_map (kept_read k) views id v at)))
        (λ j on. absurd (true≢false (sym on ∙ ap (λ h. h.held) (hold_child k))));
    types = types_after;
    rows = λ o. each_grown (row_read o) (λ i u. u.held ≡ true → u.words ≡ row_words words o) (p.rows o) (p.rows o id (row_read o v) (at_map (row_read o) views id v at)) (λ j on. absurd (true≢false (sym on)));
    joins = each_grown join_read (λ i u. IsPrefix u.first g.history × IsPrefix u.second g.history) p.joins (p.joins id (join_read v) (at_map join_read views id v at)) (λ j. ((g.history, refl), (g.history, refl)));
    limited = each_grown limit_read (λ i u. u.live ≡ true → u.limits ≡ limits) p.limited (p.limited id (limit_read v) (at_map limit_read views id v at)) (λ j _. p.limited id (limit_read v) (at_map limit_read views id v at) live);
    spent = each_snoc (λ i u. u.who.live ≡ false → u ≡ blank) (set views id m) c (each_set (λ i u. u.who.live ≡ false → u ≡ blank) views id m p.spent (λ off. absurd (true≢false (sym live ∙ off)))) (λ j off. absurd (true≢false off));
  }
    where
      history_grown : (new : PastRead) → new.own ≡ [] → IsPrefix new.seen g.history → HistoryRule opened (words place) g.history (map past_read views ++ new ∷ [])
      history_grown new none_own begun = let h = p.history in record {
        counted = h.counted;
        proper = h.proper;
        begun = each_snoc (λ i u. IsPrefix u.seen g.history) (map past_read views) new h.begun (λ j. begun);
        owned = λ q. let s = sum_by_push (λ (u : PastRead). times q u.own) (map past_read views) new in let z : times q new.own ≡ 0 = ap (times q) none_own in let o = h.owned q in omega arith;
        reached = each_snoc (λ i u. (q : ℕ) → 0 < times q u.own → q ≤ length u.seen) (map past_read views) new h.reached (λ j q has. let z : times q new.own ≡ 0 = ap (times q) none_own in absurd (omega arith));
      }

      free : next_number g.lists.numbers ≡ Some number
      free = ap (λ (ls : TypeLists). next_number ls.numbers) (sym lists_are) ∙ may.free

      numbers_grown : NumberRule (lists_parted g.lists).numbers (map number_read views ++ record { live = true; number = unwrap_or (next_number g.lists.numbers) 0 } ∷ [])
      numbers_grown = subst (λ n. NumberRule (set g.lists.numbers (unwrap_or n 0) false) (map number_read views ++ record { live = true; number = unwrap_or n 0 } ∷ [])) (sym free)
          (number_parted g.lists.numbers (map number_read views) number p.numbers (next_is_free g.lists.numbers number free))
