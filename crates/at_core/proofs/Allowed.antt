-- What each call on the table owes: the step is allowed whatever the table is, and tells what its play says.
use Rattle.std.proofs.Common.{◌≡◌, ◌≢◌, ◌⊎◌, inl, inr, ℕ, zero, suc, ◌%◌, ◌<◌, ◌≤◌, true, false, eqb, List, [], ◌∷◌, length, get_or, refl, sym, ap, ◌∙◌, subst, ⊎_elim, arith}
use Rattle.std.specs.Prelude.{Some, slice_index, slice_index_or}
use mathlib.Core.Option.{some, none}
use mathlib.Core.List.{IsPrefix}
use lib.ListN.{get_elem?}
use prog.Atomic.{either}
use Rattle.atomic_table.specs.Table.{Me, Act, keeps, takes, gives, step, stepped, carried_after, Valid, Allows, Splits, Joins}
use Rattle.atomic_table.proofs.Lists.{exchanged, at_map, at_set}
use Rattle.at_value.specs.declared.limits.Limits.{Limits}
use Rattle.at_value.specs.declared.operation.Op as op
use Rattle.at_model.specs.World.{World}
use Rattle.at_model.specs.History.{replay}
use Rattle.at_view.specs.declared.view.TypeLists.{TypeLists}
use Rattle.at_view.specs.declared.view.View.{View}
use Rattle.at_view.specs.Counts.{keys, inline_values}
use Rattle.at_view.specs.declared.view.Hold.{Hold}
use Rattle.at_view.specs.Views.{blank}
use Rattle.at_view.specs.Words.{family, first_index, number_of, global_sequence, own_sequence, row_lock}
use Rattle.at_view.proofs.WordLaws.{apart}
use Rattle.at_core.specs.declared.lock.Lock as lock
use Rattle.at_core.specs.declared.lock.Lock.TheVariants as locks
use Rattle.at_core.specs.declared.stored.Stored.{Stored}
use Rattle.at_core.specs.Heads.{Shape, shape_of, class_of, HasDictionary, IsWhole}
use Rattle.at_core.specs.HeadSteps.{known_keys, copied_values}
use Rattle.at_core.specs.Inline.{AreValuesOf, IsHeadOf}
use Rattle.at_core.specs.Locks.{lock_word, slot_of, hold_of, holds, IsUnchanged, Excludes, IsKeptAt}
use Rattle.at_core.specs.Reads.{kin_read, kept_read, types_read, row_read, limit_read, join_read}
use Rattle.at_core.specs.Rule.{Slot, Board, Ghost, Holds, Base, IsLock, Agrees, words_of, heads_of, keys_of, values_of, shape_under}
use Rattle.at_core.specs.Steps.{Moment, hold_from, keys_of_class, taken, missed, given, lists_given, ValueAgrees, MayGive, MaySplit, parted, child, lists_parted, MayJoin, merged, lists_joined, global_loaded, gone_online, gone_offline, copied_heads}
use Rattle.at_core.specs.Plays.{RowSays, RowsAreNamed, Took, Takes, Brought, Gives, LoadsGlobal, GoesOnline, GoesOffline}
use Rattle.at_core.proofs.Prefixes.{prefix_self, prefix_trans, prefix_shorter}
use Rattle.at_core.proofs.WordLemmas.{said}
use Rattle.at_core.proofs.LockLemmas.{lock_cases, hold_taken, hold_beside, copy_taken, copy_beside, unchanged_self}
use Rattle.at_core.proofs.Parts.{seen_begins}
use Rattle.at_core.proofs.LivePasses.{alone_saw, found, younger, own_once}
use Rattle.at_core.proofs.Taking.{excludes_all}
use Rattle.at_core.proofs.HeadFrames.{listed_all, keys_here}
use Rattle.at_core.proofs.Writing.{no_value, no_key}
use Rattle.at_core.proofs.QuietSteps.{global_moves, online_moves, offline_moves}
use Rattle.at_core.proofs.Moves.{take_moves, miss_moves, give_moves, split_moves, join_moves}

word_one : (l k : lock.Lock) → lock_word l ≡ lock_word k → l ≡ k
word_one locks.Types locks.Types e = refl
word_one locks.Types (locks.Row o) e = let z : ◌≡◌ {A = ℕ} 1 9 = ap family e in absurd (omega arith)
word_one (locks.Row o) locks.Types e = let z : ◌≡◌ {A = ℕ} 9 1 = ap family e in absurd (omega arith)
word_one (locks.Row o) (locks.Row p) e = ap (λ (n : ℕ). locks.Row n) (ap first_index e)

-- the lock that has a word is one
pub lock_one : (l k : lock.Lock) → IsLock l → IsLock k → number_of (lock_word l) ≡ number_of (lock_word k) → l ≡ k
lock_one l k is is' e = word_one l k (apart (lock_word l) (lock_word k) is is' e)

-- what a lock has kept, where this is what is known of it
kept_of : {opened : World} {history : List op.Op} (l : lock.Lock) (w : View) (hold : Hold) → hold ≡ hold_of l w → IsPrefix hold.since history → hold.entered ≤ length hold.since
    → IsUnchanged l (replay opened hold.since) (replay opened history) → Excludes opened l hold.entered w.history.own history → IsKeptAt opened l w history
kept_of {opened} {history} l w hold is begun came unchanged excludes = record {
  begun = subst (λ (h : Hold). IsPrefix h.since history) is begun;
  came = subst (λ (h : Hold). h.entered ≤ length h.since) is came;
  unchanged = subst (λ (h : Hold). IsUnchanged l (replay opened h.since) (replay opened history)) is unchanged;
  excludes = subst (λ (h : Hold). Excludes opened l h.entered w.history.own history) is excludes;
}

module _ (opened : World) (limits : Limits) where
  module _ (s : Board) (g : Ghost) (h : Holds opened limits s g) (id : ℕ) (v : View) (at : get_elem? s.views id ≡ some v) (live : v.who.live ≡ true) where
    abbrev now : Moment
    now = record { history = g.history; lists = g.lists; words = words_of s.words }

    shape_taken : (l : lock.Lock) → shape_under (heads_of (words_of s.words)) l ≡ shape_under (copied_heads (taken l v now)) l
    shape_taken locks.Types = refl
    shape_taken (locks.Row o) = ap (λ w. shape_of w.head) (sym (copy_taken o v now))

    -- the value that comes with a lock is right
    value_right : (l : lock.Lock) (x : Stored) → Agrees limits (replay opened g.history) g.lists (shape_under (heads_of (words_of s.words)) l) l x → ValueAgrees opened l (taken l v now) g.lists x
    value_right l x a =
        let limit : limits ≡ v.who.limits = sym (h.parts.limited id (limit_read v) (at_map limit_read s.views id v at) live) in
        let since : g.history ≡ (hold_of l (taken l v now)).since = ap (λ y. y.since) (sym (hold_taken l v now)) in
        let Q : Limits × List _ × Shape → Type 0 = λ y. Agrees y.0 (replay opened y.1) g.lists y.2 l x in
        subst Q (λ i. (limit i, since i, shape_taken l i)) a

    -- each lock that is held has kept what it protects
    kept_so : (l k : lock.Lock) → (l ≡ k) ⊎ (l ≢ k) → holds l (taken k v now) ≡ true → IsKeptAt opened l (taken k v now) g.history
    kept_so l k (inl same) held =
        let hold : hold_of l (taken k v now) ≡ hold_from now = subst (λ (j : lock.Lock). hold_of l (taken j v now) ≡ hold_from now) same (hold_taken l v now) in
        kept_of l (taken k v now) (hold_from now) (sym hold) (prefix_self g.history) (omega arith) (unchanged_self l (replay opened g.history)) (excludes_all opened l v.history.own g.history)
    kept_so l k (inr other) held =
        let was = hold_beside l k v now other in
        let b = h.parts.kept l id (kept_read l v) (at_map (kept_read l) s.views id v at) (sym (ap (λ y. y.held) was) ∙ held) in
        let begun = prefix_trans (hold_of l v).since v.history.seen g.history b.begun (seen_begins h.parts id v at) in
        kept_of l (taken k v now) (hold_of l v) (sym was) begun b.came (b.protects g.history begun (prefix_self g.history)) b.excludes

    -- a head that is not open is whole
    whole_head : (o : ℕ) → words_of s.words (row_lock o) ≡ 0 → IsWhole (heads_of (words_of s.words) o)
    whole_head o free = by_rest (heads_of (words_of s.words) o % 2) refl
      where
        by_rest : (r : ℕ) → heads_of (words_of s.words) o % 2 ≡ r → IsWhole (heads_of (words_of s.words) o)
        by_rest zero e = e
        by_rest (suc zero) e = let busy = (h.parts.headed.heads_are o).owned e in absurd (omega arith)
        by_rest (suc (suc r)) e = absurd (omega arith)

    -- a row that was taken says what its head says
    row_says : (l : lock.Lock) → words_of s.words (lock_word l) ≡ 0 → RowSays opened l (taken l v now)
    row_says locks.Types free = tt
    row_says (locks.Row o) free =
        let w = taken (locks.Row o) v now in
        let head_is : heads_of (words_of s.words) o ≡ copied_heads w o = ap (λ r. r.head) (sym (copy_taken o v now)) in
        let values_are : values_of (words_of s.words) o ≡ copied_values w o = sym (ap (λ r. slice_index r.values) (copy_taken o v now) ∙ listed_all inline_values (values_of (words_of s.words) o) (no_value s.words o)) in
        let c : ℕ = class_of (heads_of (words_of s.words) o) in
        let keys_are : keys_of (words_of s.words) c ≡ known_keys w c = sym (ap slice_index (keys_here c (keys_of_class (words_of s.words) c) v.known refl) ∙ listed_all keys (keys_of (words_of s.words) c) (no_key s.words c)) in
        let since : g.history ≡ (hold_of (locks.Row o) w).since = ap (λ y. y.since) (sym (hold_taken (locks.Row o) v now)) in
        let says = (h.parts.headed.heads_are o).says (whole_head o free) in
        let Q : ℕ × List op.Op → Type 0 = λ x. IsWhole x.0 × IsHeadOf (replay opened x.1) o x.0 (known_keys w) (copied_values w o) in
        subst Q (λ i. (head_is i, since i)) (
          whole_head o free,
          record {
            object = says.object;
            blank = λ e. subst (λ (f : ℕ → ℕ). (i : ℕ) → f i ≡ 0) values_are (says.blank e);
            row = says.row;
            values = λ e. subst (λ (x : (ℕ → ℕ) × (ℕ → ℕ)). AreValuesOf (slice_index_or (replay opened g.history).dicts o []) x.0 x.1) (λ i. (keys_are i, values_are i)) (says.values e);
          },
        )

    -- the copy of the head of each row that is held is the head
    head_is : (l : lock.Lock) (k : ℕ) → holds (locks.Row k) (taken l v now) ≡ true → (locks.Row k ≡ l) ⊎ (locks.Row k ≢ l) → copied_heads (taken l v now) k ≡ heads_of (words_of s.words) k
    head_is l k held (inl same) = subst (λ (j : lock.Lock). copied_heads (taken j v now) k ≡ heads_of (words_of s.words) k) same (ap (λ w. w.head) (copy_taken k v now))
    head_is l k held (inr other) =
        let had : holds (locks.Row k) v ≡ true = ap (λ y. y.held) (sym (hold_beside (locks.Row k) l v now other)) ∙ held in
        ap (λ w. w.head) (copy_beside k l v now other) ∙ ap (λ w. w.head) (h.parts.rows k id (row_read k v) (at_map (row_read k) s.views id v at) had)

    -- and it is one of a dictionary where a row that is held names it
    rows_named : (l : lock.Lock) → RowsAreNamed (taken l v now)
    rows_named l r on names =
        let is : (k : ℕ) → holds (locks.Row k) (taken l v now) ≡ true → copied_heads (taken l v now) k ≡ heads_of (words_of s.words) k = λ k held. head_is l k held (lock_cases (locks.Row k) l) in
        let has : HasDictionary (shape_of (heads_of (words_of s.words) names.0)) = subst (λ (n : ℕ). HasDictionary (shape_of n)) (is names.0 names.1) names.2 in
        let row : (shape_of (heads_of (words_of s.words) names.0)).row ≡ r = ap (λ (n : ℕ). (shape_of n).row) (sym (is names.0 names.1)) ∙ names.3 in
        let there : HasDictionary (shape_of (heads_of (words_of s.words) r)) = subst (λ (k : ℕ). HasDictionary (shape_of (heads_of (words_of s.words) k))) row (h.parts.headed.rows_are names.0 has) in
        subst (λ (n : ℕ). HasDictionary (shape_of n)) (sym (is r on)) there

    pub took : (l : lock.Lock) (x : Stored) → words_of s.words (lock_word l) ≡ 0 → Agrees limits (replay opened g.history) g.lists (shape_under (heads_of (words_of s.words)) l) l x → Took opened l v now x
    took l x free a = record {
      later = seen_begins h.parts id v at;
      alone = λ alone. alone_saw h.parts id v at live alone;
      proper = h.parts.history.proper;
      kept = λ k. kept_so k l (lock_cases k l);
      head = row_says l free;
      named = rows_named l;
      value = value_right l x a;
      numbers = h.parts.numbers.whole;
      born = h.parts.kin.below id (kin_read v) (at_map kin_read s.views id v at);
      younger = younger h.parts id v at live;
    }

    pub brought : Brought v
    brought =
        let seen = seen_begins h.parts id v at in
        let j = h.parts.joins id (join_read v) (at_map join_read s.views id v at) in
        record {
          first = λ le. prefix_shorter v.joined.first v.history.seen g.history j.0 seen le;
          second = λ le. prefix_shorter v.joined.second v.history.seen g.history j.1 seen le;
          once = own_once h.parts id v at live;
        }

  -- a try to take a lock
  pub tries : (slots id : ℕ) (me : Me Slot View) (l : lock.Lock) (new : ℕ) → IsLock l → me.0.who.live ≡ true → holds l me.0 ≡ false → new ≡ suc me.0.who.number
      → Allows (Base opened limits) slots id me (number_of (lock_word l)) (λ n. either (eqb n 0) new n) (Takes opened (step slots (number_of (lock_word l)) 0 new none) me)
  tries slots id me l new is live out mine s b deep at small =
      let v = me.0 in
      let g = b.ghost in
      let n : ℕ = get_or s.words (number_of (lock_word l)) 0 in
      let word : words_of s.words (lock_word l) ≡ n = said s.words (lock_word l) is in
      let F : ℕ → Type 0 = λ k. (w : View) × (a : Act Slot) × Valid s.homes me.1 a × Base opened limits (stepped s (number_of (lock_word l)) k id me.1 w a)
      × Takes opened (step slots (number_of (lock_word l)) 0 new none) me n (w, carried_after me.1 a) in
      exchanged n 0 new F
      (λ free.
      let home = (b.holds.parts.slots l is).at_home (word ∙ free) in
      let x = home.0 in
      let w : View = taken l v (now s g b.holds id v at live) in (
        w,
        takes (slot_of l) (Some x),
        home.1,
        subst (λ (k : ℕ). Base opened limits (stepped s (number_of (lock_word l)) k id me.1 w (takes (slot_of l) (Some x)))) (sym mine)
            (record { ghost = g; holds = take_moves opened limits s g b.holds id v at live me.1 l x is (word ∙ free) }),
        λ k k_is.
            let same : l ≡ k = lock_one l k is k_is.there k_is.is in
            let tells : (j : lock.Lock) → Type 0 = λ j. (n ≡ 0 → (a : Moment) × (y : Stored) × ◌≡◌ {A = Me Slot View} (w, (slot_of l, Some x) ∷ me.1) (taken j v a, (slot_of j, Some y) ∷ me.1) × Took opened j v a y) in
            (refl, mine, subst tells same (λ _. (now s g b.holds id v at live, x, refl, took s g b.holds id v at live l x (word ∙ free) home.2)), λ busy. absurd (busy free)),
      ))
      (λ busy. (
        missed l v n,
        keeps,
        tt,
        record { ghost = g; holds = miss_moves opened limits s g b.holds id v at live me.1 l n is (sym word) },
        λ k k_is.
            let same : l ≡ k = lock_one l k is k_is.there k_is.is in
            (refl, mine, (λ free. absurd (busy free)), λ _. (ap (λ (j : lock.Lock). (missed j v n, me.1)) same, found b.holds.parts id v at live l n (sym word) busy out)),
      ))

  -- a lock is given back
  pub returns_it : (slots id : ℕ) (v : View) (l : lock.Lock) (back : TypeLists) (x : Stored) (others : List (ℕ × Slot)) → IsLock l → v.who.live ≡ true → MayGive opened l v back x
      → let me : Me Slot View = (v, (slot_of l, Some x) ∷ others) in
      Allows (Base opened limits) slots id me (number_of (lock_word l)) (λ _. 0) (λ _. Gives (step slots (number_of (lock_word l)) 0 0 none) me 0)
  returns_it slots id v l back x others is live may s b deep at small = (
    given l v,
    gives,
    tt,
    record { ghost = record (b.ghost) { lists = lists_given l back b.ghost.lists }; holds = give_moves opened limits s b.ghost b.holds id v at live ((slot_of l, Some x) ∷ others) l back x others is may },
    λ k k_is.
        let same : l ≡ k = lock_one l k is k_is.there k_is.is in
        (refl, ap (λ (j : lock.Lock). (given j v, others)) same, brought s b.ghost b.holds id v at live),
  )

  -- the global sequence is loaded
  pub loads_global : (slots id : ℕ) (me : Me Slot View) → me.0.who.live ≡ true
      → Allows (Base opened limits) slots id me (number_of global_sequence) (λ n. n) (LoadsGlobal (step slots (number_of global_sequence) 0 0 none) me)
  loads_global slots id me live s b deep at small =
      let n : ℕ = get_or s.words (number_of global_sequence) 0 in
      let word : words_of s.words global_sequence ≡ n = said s.words global_sequence refl in
      let Q : ℕ → Type 0 = λ k. (w : View) × (a : Act Slot) × Valid s.homes me.1 a × Base opened limits (stepped s (number_of global_sequence) k id me.1 w a) × LoadsGlobal (step slots (number_of global_sequence) 0 0 none) me k (w, carried_after me.1 a) in
      subst Q word (
        global_loaded me.0 (words_of s.words global_sequence),
        keeps,
        tt,
        record { ghost = b.ghost; holds = global_moves opened limits s b.ghost b.holds id me.0 at live me.1 },
        λ _. (refl, b.holds.parts.sequence.begun, λ held. sym (ap (λ t. t.global) (b.holds.parts.types id (types_read me.0) (at_map types_read s.views id me.0 at) held).words_are)),
      )

  -- a pass goes online, or offline
  pub turns_online : (slots id : ℕ) (me : Me Slot View) → me.0.who.live ≡ true → 0 < me.0.tags.global
      → Allows (Base opened limits) slots id me (number_of (own_sequence me.0.who.number)) (λ _. me.0.tags.global) (λ _. GoesOnline (step slots (number_of (own_sequence me.0.who.number)) me.0.tags.global 0 none) me 0)
  turns_online slots id me live begun s b deep at small = (
    gone_online me.0,
    keeps,
    tt,
    record { ghost = b.ghost; holds = online_moves opened limits s b.ghost b.holds id me.0 at live me.1 begun },
    λ _. (refl, refl),
  )

  pub turns_offline : (slots id : ℕ) (me : Me Slot View) → me.0.who.live ≡ true
      → Allows (Base opened limits) slots id me (number_of (own_sequence me.0.who.number)) (λ _. 0) (λ _. GoesOffline (step slots (number_of (own_sequence me.0.who.number)) 0 0 none) me 0)
  turns_offline slots id me live s b deep at small = (
    gone_offline me.0,
    keeps,
    tt,
    record { ghost = b.ghost; holds = offline_moves opened limits s b.ghost b.holds id me.0 at live me.1 },
    λ _. (refl, refl),
  )

  -- a pass splits off
  pub splits : (id : ℕ) (v : View) (number : ℕ) → v.who.live ≡ true → MaySplit v number → Splits (Base opened limits) id v (parted v) (child v)
  splits id v number live may s b at = record {
    ghost = record (b.ghost) { lists = lists_parted b.ghost.lists };
    holds = split_moves opened limits s b.ghost b.holds id v at live [] number may;
  }

  -- a pass takes in another
  pub joins : (id : ℕ) (v : View) (other : ℕ) (w : View) → v.who.live ≡ true → w.who.live ≡ true → MayJoin v w → Joins (Base opened limits) id v other w (merged v w) blank
  joins id v other w live live' may s b at ne at' =
      let there : get_elem? s.views other ≡ some w = ⊎_elim
      (λ (t : (other ≡ id) × (merged v w ≡ w)). absurd (ne t.0))
      (λ (t : (other ≢ id) × (get_elem? s.views other ≡ some w)). t.1)
      (at_set s.views id other (merged v w) w at') in
      record {
        ghost = record (b.ghost) { lists = lists_joined b.ghost.lists w.who.number };
        holds = join_moves opened limits s b.ghost b.holds id v at live [] other w ne there live' may;
      }
