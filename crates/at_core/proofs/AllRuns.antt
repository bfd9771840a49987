-- The rule holds after each step of each run.
use Rattle.std.proofs.Common.{◌≡◌, ◌≢◌, ℕ, suc, List, [], ◌∷◌, length, set, refl, sym, ap, ◌∙◌, subst, ⊎_elim, length-set}
use Rattle.std.specs.Prelude.{Some, None, is_some}
use mathlib.Core.Option.{some}
use lib.ListN.{get_elem?}
use Rattle.at_value.specs.declared.limits.Limits.{Limits}
use Rattle.at_value.specs.declared.operation.Op as op
use Rattle.at_model.specs.World.{World}
use Rattle.at_view.specs.declared.view.View.{View}
use Rattle.at_view.specs.Views.{blank}
use Rattle.at_view.specs.declared.mark.StepKind.TheVariants as kinds
use Rattle.at_view.specs.Words.{global_sequence, place, head, key, inline_value}
use Rattle.at_core.specs.declared.lock.Lock as lock
use Rattle.at_core.specs.Locks.{slot_of, holds}
use Rattle.at_core.specs.Rule.{Slot, IsLock, copied_keys, keys_of}
use Rattle.at_core.specs.PlaceSteps.{place_loaded, intent_stored, written, unwritten}
use Rattle.at_core.specs.HeadSteps.{head_loaded, inline_loaded, key_loaded, head_opened, head_closed, inline_stored, key_appended}
use Rattle.at_core.specs.Steps.{copied_heads, taken, missed, given, parted, child, merged, global_loaded, gone_online, gone_offline}
use Rattle.at_core.specs.Runs.{Core, Event, lock_take, lock_miss, lock_give, slot_out, slot_in, split, join, global_load, go_online, go_offline, place_load, intent_store, commit, commit_if, commit_miss, head_load, inline_load, key_load, head_open, head_close, inline_store, key_append, words_at, moment_of, without_hand, Takes, Misses, Gives, Exchanges, Splits, Joins, LoadsGlobal, GoesOnline, GoesOffline, LoadsPlace, Intends, Commits, CommitsIf, MissesPlace, LoadsHead, LoadsInline, LoadsKey, Opens, Closes, StoresInline, Appends, Goes, HandsAreRight, CoreHolds, EveryRunHolds}
use Rattle.at_core.proofs.Lists.{each_set}
use Rattle.at_core.proofs.LockLemmas.{hold_taken, hold_beside, hold_given, hold_kept, holds_parted, holds_child, holds_merged, holds_blank, holds_missed, held_seen, held_stored, held_inline, held_appended}
use Rattle.at_core.proofs.LivePasses.{number_small}
use Rattle.at_core.proofs.Committing.{held_written}
use Rattle.at_core.proofs.Hands.{hands_changed, hands_exchanged, at_end, without_here, without_else}
use Rattle.at_core.proofs.QuietSteps.{IsQuiet, holds_quiet, load_quiet, online_quiet, offline_quiet, intent_quiet, unwritten_quiet, head_quiet, inline_quiet, key_quiet, global_moves, online_moves, offline_moves, intent_moves, unwritten_moves}
use Rattle.at_core.proofs.Looking.{head_load_moves, inline_load_moves, key_load_moves}
use Rattle.at_core.proofs.Placing.{place_moves}
use Rattle.at_core.proofs.InlineStoring.{inline_moves}
use Rattle.at_core.proofs.Appending.{append_moves}
use Rattle.at_core.proofs.Writing.{add_moves, exchange_moves, open_moves, close_moves}
use Rattle.at_core.proofs.Moves.{take_moves, miss_moves, give_moves, split_moves, join_moves}

same_length : {A : Type 0} (xs : List A) (i : ℕ) (x : A) → length (set xs i x) ≡ length xs
same_length xs i x = length-set xs i x

module _ (opened : World) (limits : Limits) where
  landed : (m b : Core) → b ≡ m → CoreHolds opened limits m → CoreHolds opened limits b
  landed m b e h = subst (CoreHolds opened limits) (sym e) h

  takes_keep : (id : ℕ) (l : lock.Lock) (a b : Core) → CoreHolds opened limits a → Takes id l a b → CoreHolds opened limits b
  takes_keep id l a b h t = landed _ b t.after (record {
    table_holds = take_moves opened limits a.table a.ghost h.table_holds id t.view t.makes.there t.makes.live [] l t.value t.is_lock t.free;
    hands_are = λ j u k. hands_changed a id t.view (taken l t.view (moment_of a)) l (Some (Some t.value)) h.hands_are t.makes.there
        (ap (λ x. x.held) (sym (hold_taken l t.view (moment_of a))))
        (λ k ne. ap (λ x. x.held) (hold_beside k l t.view (moment_of a) ne)) j u k;
  })

  misses_keep : (id : ℕ) (l : lock.Lock) (a b : Core) → CoreHolds opened limits a → Misses id l a b → CoreHolds opened limits b
  misses_keep id l a b h t = landed _ b t.after (record {
    table_holds = miss_moves opened limits a.table a.ghost h.table_holds id t.view t.makes.there t.makes.live [] l _ t.is_lock refl;
    hands_are = λ j u k e is. each_set (λ i x. is_some (a.hands i (slot_of k)) ≡ holds k x) a.table.views id (missed l t.view _)
        (λ i x e'. h.hands_are i x k e' is) (h.hands_are id t.view k t.makes.there is ∙ sym (holds_missed k l t.view _)) j u e;
  })

  gives_keep : (id : ℕ) (l : lock.Lock) (a b : Core) → CoreHolds opened limits a → Gives opened id l a b → CoreHolds opened limits b
  gives_keep id l a b h t = landed _ b t.after (record {
    table_holds = give_moves opened limits a.table a.ghost h.table_holds id t.view t.makes.there t.makes.live [] l t.back t.value [] t.is_lock t.asked;
    hands_are = λ j u k. hands_changed a id t.view (given l t.view) l None h.hands_are t.makes.there
        (ap (λ x. x.held) (sym (hold_given l t.view)))
        (λ k ne. ap (λ x. x.held) (hold_kept k l t.view ne)) j u k;
  })

  exchanges_keep : (id : ℕ) (l : lock.Lock) (was now : Slot) (a b : Core) → CoreHolds opened limits a → Exchanges id l was now a b → CoreHolds opened limits b
  exchanges_keep id l was now a b h t = landed _ b t.after (record {
    table_holds = h.table_holds;
    hands_are = λ j u k. hands_exchanged a id t.view l (Some now) h.hands_are t.makes.there (sym t.asked) j u k;
  })

  splits_keep : (id : ℕ) (a b : Core) → CoreHolds opened limits a → Splits id a b → CoreHolds opened limits b
  splits_keep id a b h t = landed _ b t.after (record {
    table_holds = split_moves opened limits a.table a.ghost h.table_holds id t.view t.makes.there t.makes.live [] t.number t.asked;
    hands_are = λ j u k e is. ⊎_elim
        (λ (x : (j ≢ length (set a.table.views id (parted t.view))) × (get_elem? (set a.table.views id (parted t.view)) j ≡ some u)).
        let ne : j ≢ length a.table.views = λ z. x.0 (z ∙ sym (same_length a.table.views id (parted t.view))) in
        ap is_some (without_else a (length a.table.views) j (slot_of k) ne)
        ∙ each_set (λ i y. is_some (a.hands i (slot_of k)) ≡ holds k y) a.table.views id (parted t.view) (λ i y e'. h.hands_are i y k e' is)
        (h.hands_are id t.view k t.makes.there is ∙ sym (holds_parted k t.view)) j u x.1)
        (λ (x : (j ≡ length (set a.table.views id (parted t.view))) × (child t.view ≡ u)).
        let e' : j ≡ length a.table.views = x.0 ∙ same_length a.table.views id (parted t.view) in
        ap (λ (n : ℕ). is_some (without_hand a (length a.table.views) n (slot_of k))) e' ∙ (ap is_some (without_here a (length a.table.views) (slot_of k)) ∙ (sym (holds_child k t.view) ∙ ap (holds k) x.1)))
        (at_end (set a.table.views id (parted t.view)) (child t.view) j u e);
  })

  joins_keep : (id other : ℕ) (a b : Core) → CoreHolds opened limits a → Joins id other a b → CoreHolds opened limits b
  joins_keep id other a b h t = landed _ b t.after (record {
    table_holds = join_moves opened limits a.table a.ghost h.table_holds id t.view t.makes.there t.makes.live [] other t.joined t.apart t.ends.there t.ends.live t.asked;
    hands_are = λ j u k e is. each_set (λ i y. is_some (a.hands i (slot_of k)) ≡ holds k y) (set a.table.views id (merged t.view t.joined)) other blank
        (each_set (λ i y. is_some (a.hands i (slot_of k)) ≡ holds k y) a.table.views id (merged t.view t.joined) (λ i y e'. h.hands_are i y k e' is)
        (h.hands_are id t.view k t.makes.there is ∙ sym (holds_merged k t.view t.joined)))
        (h.hands_are other t.joined k t.ends.there is ∙ (t.asked.lockless k ∙ sym (holds_blank k))) j u e;
  })

  -- a step on a sequence leaves all hands
  quiet_hands : (id : ℕ) (a : Core) (v w : View) → HandsAreRight a → get_elem? a.table.views id ≡ some v → IsQuiet v w
      → (j : ℕ) (u : View) (k : lock.Lock) → get_elem? (set a.table.views id w) j ≡ some u → IsLock k → is_some (a.hands j (slot_of k)) ≡ holds k u
  quiet_hands id a v w right at q j u k e is = each_set (λ i x. is_some (a.hands i (slot_of k)) ≡ holds k x) a.table.views id w
      (λ i x e'. right i x k e' is) (right id v k at is ∙ sym (holds_quiet v w q k)) j u e

  loads_global_keep : (id : ℕ) (a b : Core) → CoreHolds opened limits a → LoadsGlobal id a b → CoreHolds opened limits b
  loads_global_keep id a b h t =
      let w = global_loaded t.view (words_at a global_sequence) in
      landed _ b t.after (record {
        table_holds = global_moves opened limits a.table a.ghost h.table_holds id t.view t.makes.there t.makes.live [];
        hands_are = quiet_hands id a t.view w h.hands_are t.makes.there (load_quiet t.view (words_at a global_sequence));
      })

  goes_online_keep : (id : ℕ) (a b : Core) → CoreHolds opened limits a → GoesOnline id a b → CoreHolds opened limits b
  goes_online_keep id a b h t = landed _ b t.after (record {
    table_holds = online_moves opened limits a.table a.ghost h.table_holds id t.view t.makes.there t.makes.live [] t.asked.loaded;
    hands_are = quiet_hands id a t.view (gone_online t.view) h.hands_are t.makes.there (online_quiet t.view);
  })

  goes_offline_keep : (id : ℕ) (a b : Core) → CoreHolds opened limits a → GoesOffline id a b → CoreHolds opened limits b
  goes_offline_keep id a b h t = landed _ b t.after (record {
    table_holds = offline_moves opened limits a.table a.ghost h.table_holds id t.view t.makes.there t.makes.live [];
    hands_are = quiet_hands id a t.view (gone_offline t.view) h.hands_are t.makes.there (offline_quiet t.view);
  })

  -- a step on a word that changes no lock leaves all hands
  word_hands : (id : ℕ) (a : Core) (v w : View) → HandsAreRight a → get_elem? a.table.views id ≡ some v → ((k : lock.Lock) → holds k w ≡ holds k v)
      → (j : ℕ) (u : View) (k : lock.Lock) → get_elem? (set a.table.views id w) j ≡ some u → IsLock k → is_some (a.hands j (slot_of k)) ≡ holds k u
  word_hands id a v w right at same j u k e is = each_set (λ i x. is_some (a.hands i (slot_of k)) ≡ holds k x) a.table.views id w
      (λ i x e'. right i x k e' is) (right id v k at is ∙ sym (same k)) j u e

  loads_place_keep : (id : ℕ) (a b : Core) → CoreHolds opened limits a → LoadsPlace id a b → CoreHolds opened limits b
  loads_place_keep id a b h t = landed _ b t.after (record {
    table_holds = place_moves opened limits a.table a.ghost h.table_holds id t.view t.makes.there t.makes.live [];
    hands_are = word_hands id a t.view (place_loaded t.view a.ghost.history) h.hands_are t.makes.there (λ k. held_seen k t.view a.ghost.history);
  })

  intends_keep : (id j n : ℕ) (a b : Core) → CoreHolds opened limits a → Intends id j n a b → CoreHolds opened limits b
  intends_keep id j n a b h t = landed _ b t.after (record {
    table_holds = intent_moves opened limits a.table a.ghost h.table_holds id t.view t.makes.there t.makes.live [] j n t.index (number_small h.table_holds.parts id t.view t.makes.there t.makes.live);
    hands_are = quiet_hands id a t.view (intent_stored t.view j n) h.hands_are t.makes.there (intent_quiet t.view j n);
  })

  commits_keep : (id : ℕ) (operation : op.Op) (a b : Core) → CoreHolds opened limits a → Commits opened id operation a b → CoreHolds opened limits b
  commits_keep id operation a b h t = landed _ b t.after (record {
    table_holds = add_moves opened limits a.table a.ghost h.table_holds id t.view t.makes.there t.makes.live [] operation t.asked;
    hands_are = word_hands id a t.view (written kinds.Commit t.view a.ghost.history operation) h.hands_are t.makes.there (λ k. held_written k kinds.Commit t.view a.ghost.history operation);
  })

  commits_if_keep : (id : ℕ) (operation : op.Op) (a b : Core) → CoreHolds opened limits a → CommitsIf opened id operation a b → CoreHolds opened limits b
  commits_if_keep id operation a b h t = landed _ b t.after (record {
    table_holds = exchange_moves opened limits a.table a.ghost h.table_holds id t.view t.makes.there t.makes.live [] operation t.asked t.found;
    hands_are = word_hands id a t.view (written kinds.CommitIf t.view a.ghost.history operation) h.hands_are t.makes.there (λ k. held_written k kinds.CommitIf t.view a.ghost.history operation);
  })

  misses_place_keep : (id : ℕ) (operation : op.Op) (a b : Core) → CoreHolds opened limits a → MissesPlace opened id operation a b → CoreHolds opened limits b
  misses_place_keep id operation a b h t = landed _ b t.after (record {
    table_holds = unwritten_moves opened limits a.table a.ghost h.table_holds id t.view t.makes.there t.makes.live [];
    hands_are = quiet_hands id a t.view (unwritten t.view (words_at a place)) h.hands_are t.makes.there (unwritten_quiet t.view (words_at a place));
  })

  loads_head_keep : (id o : ℕ) (a b : Core) → CoreHolds opened limits a → LoadsHead id o a b → CoreHolds opened limits b
  loads_head_keep id o a b h t = landed _ b t.after (record {
    table_holds = head_load_moves opened limits a.table a.ghost h.table_holds id t.view t.makes.there t.makes.live [] o t.object;
    hands_are = quiet_hands id a t.view (head_loaded t.view o a.ghost.history (words_at a (head o))) h.hands_are t.makes.there (head_quiet t.view o a.ghost.history (words_at a (head o)));
  })

  loads_inline_keep : (id o i : ℕ) (a b : Core) → CoreHolds opened limits a → LoadsInline id o i a b → CoreHolds opened limits b
  loads_inline_keep id o i a b h t = landed _ b t.after (record {
    table_holds = inline_load_moves opened limits a.table a.ghost h.table_holds id t.view t.makes.there t.makes.live [] o i t.object t.index;
    hands_are = quiet_hands id a t.view (inline_loaded t.view o i (keys_of (words_at a)) (words_at a (inline_value o i))) h.hands_are t.makes.there
        (inline_quiet t.view o i (keys_of (words_at a)) (words_at a (inline_value o i)));
  })

  loads_key_keep : (id c i : ℕ) (a b : Core) → CoreHolds opened limits a → LoadsKey id c i a b → CoreHolds opened limits b
  loads_key_keep id c i a b h t = landed _ b t.after (record {
    table_holds = key_load_moves opened limits a.table a.ghost h.table_holds id t.view t.makes.there t.makes.live [] c i t.class t.index;
    hands_are = quiet_hands id a t.view (key_loaded t.view c i (copied_keys (keys_of (words_at a)) c) (words_at a (key c i))) h.hands_are t.makes.there
        (key_quiet t.view c i (copied_keys (keys_of (words_at a)) c) (words_at a (key c i)));
  })

  opens_keep : (id o : ℕ) (a b : Core) → CoreHolds opened limits a → Opens id o a b → CoreHolds opened limits b
  opens_keep id o a b h t = landed _ b t.after (record {
    table_holds = open_moves opened limits a.table a.ghost h.table_holds id t.view t.makes.there t.makes.live [] o t.object t.asked;
    hands_are = word_hands id a t.view (head_opened t.view o) h.hands_are t.makes.there (λ k. held_stored k kinds.HeadOpen t.view o (suc (copied_heads t.view o)));
  })

  closes_keep : (id o word : ℕ) (a b : Core) → CoreHolds opened limits a → Closes opened id o word a b → CoreHolds opened limits b
  closes_keep id o word a b h t = landed _ b t.after (record {
    table_holds = close_moves opened limits a.table a.ghost h.table_holds id t.view t.makes.there t.makes.live [] o word t.object t.asked;
    hands_are = word_hands id a t.view (head_closed t.view o word) h.hands_are t.makes.there (λ k. held_stored k kinds.HeadClose t.view o word);
  })

  stores_inline_keep : (id o i word : ℕ) (a b : Core) → CoreHolds opened limits a → StoresInline id o i word a b → CoreHolds opened limits b
  stores_inline_keep id o i word a b h t = landed _ b t.after (record {
    table_holds = inline_moves opened limits a.table a.ghost h.table_holds id t.view t.makes.there t.makes.live [] o i word t.object t.asked;
    hands_are = word_hands id a t.view (inline_stored t.view o i word) h.hands_are t.makes.there (λ k. held_inline k t.view o i word);
  })

  appends_keep : (id c i n : ℕ) (a b : Core) → CoreHolds opened limits a → Appends id c i n a b → CoreHolds opened limits b
  appends_keep id c i n a b h t = landed _ b t.after (record {
    table_holds = append_moves opened limits a.table a.ghost h.table_holds id t.view t.makes.there t.makes.live [] c i n t.asked;
    hands_are = word_hands id a t.view (key_appended t.view c i n) h.hands_are t.makes.there (λ k. held_appended k t.view c i n);
  })

  goes_keeps : (event : Event) (a b : Core) → CoreHolds opened limits a → Goes opened event a b → CoreHolds opened limits b
  goes_keeps (lock_take id l) a b h t = takes_keep id l a b h t
  goes_keeps (lock_miss id l) a b h t = misses_keep id l a b h t
  goes_keeps (lock_give id l) a b h t = gives_keep id l a b h t
  goes_keeps (slot_out id l) a b h t = exchanges_keep id l (Some t.0) None a b h t.1
  goes_keeps (slot_in id l x) a b h t = exchanges_keep id l None (Some x) a b h t
  goes_keeps (split id) a b h t = splits_keep id a b h t
  goes_keeps (join id other) a b h t = joins_keep id other a b h t
  goes_keeps (global_load id) a b h t = loads_global_keep id a b h t
  goes_keeps (go_online id) a b h t = goes_online_keep id a b h t
  goes_keeps (go_offline id) a b h t = goes_offline_keep id a b h t
  goes_keeps (place_load id) a b h t = loads_place_keep id a b h t
  goes_keeps (intent_store id j n) a b h t = intends_keep id j n a b h t
  goes_keeps (commit id operation) a b h t = commits_keep id operation a b h t
  goes_keeps (commit_if id operation) a b h t = commits_if_keep id operation a b h t
  goes_keeps (commit_miss id operation) a b h t = misses_place_keep id operation a b h t
  goes_keeps (head_load id o) a b h t = loads_head_keep id o a b h t
  goes_keeps (inline_load id o i) a b h t = loads_inline_keep id o i a b h t
  goes_keeps (key_load id c i) a b h t = loads_key_keep id c i a b h t
  goes_keeps (head_open id o) a b h t = opens_keep id o a b h t
  goes_keeps (head_close id o word) a b h t = closes_keep id o word a b h t
  goes_keeps (inline_store id o i word) a b h t = stores_inline_keep id o i word a b h t
  goes_keeps (key_append id c i n) a b h t = appends_keep id c i n a b h t

pub every_run_holds : EveryRunHolds
every_run_holds opened limits [] a b h t = subst (CoreHolds opened limits) (sym t) h
every_run_holds opened limits (event ∷ events) a b h t = every_run_holds opened limits events t.0 b (goes_keeps opened limits event a t.0 h t.1) t.2
