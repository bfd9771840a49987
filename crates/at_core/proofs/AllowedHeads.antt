-- What each load of a head, an inline value or a key owes, as in Allowed.
use Rattle.std.proofs.Common.{◌≡◌, ◌≢◌, ℕ, ◌<◌, Bool, true, false, true≢false, IsTrue, List, [], get_or, refl, sym, ap, ◌∙◌, subst, arith}
use Rattle.std.specs.Prelude.{All, Some, slice_index, slice_get}
use Rattle.std.proofs.lemmas.Bool.Decides.{nat_tests}
use Rattle.std.proofs.lemmas.List.Elements.{All-weaker}
use mathlib.Core.Option.{some, none, some-injective}
use mathlib.Core.List.{IsPrefix}
use lib.ListN.{get_elem?}
use Rattle.atomic_table.specs.Table.{Me, Act, keeps, step, stepped, carried_after, Valid, Allows}
use Rattle.atomic_table.proofs.Lists.{at_map}
use Rattle.at_value.specs.Widths.{classes, objects}
use Rattle.at_value.specs.declared.limits.Limits.{Limits}
use Rattle.at_value.specs.declared.operation.Op as op
use Rattle.at_model.specs.declared.rows.Object.{Object}
use Rattle.at_model.specs.World.{World}
use Rattle.at_model.specs.History.{replay}
use Rattle.at_view.specs.declared.view.HeadLook.{HeadLook}
use Rattle.at_view.specs.declared.view.RowWords.{RowWords}
use Rattle.at_view.specs.declared.view.TypesWords.{TypesWords}
use Rattle.at_view.specs.declared.view.View.{View}
use Rattle.at_view.specs.Counts.{keys, inline_values}
use Rattle.at_view.specs.Words.{is_there, number_of, head, key, inline_value}
use Rattle.at_core.specs.declared.lock.Lock.TheVariants as locks
use Rattle.at_core.specs.Heads.{class_of, shape_of, inline, IsWhole, IsOpened}
use Rattle.at_core.specs.HeadSteps.{head_loaded, inline_loaded, key_loaded}
use Rattle.at_core.specs.HeadPlays.{Shows, SawHead, LoadsHead, SawCell, LoadsInline, SawKey, LoadsKey}
use Rattle.at_core.specs.Inline.{AreKeys, HaveGrown, IsObjectOf}
use Rattle.at_core.specs.Locks.{lock_word, holds}
use Rattle.at_core.specs.Looks.{keys_at, KeyStays, IsBacked}
use Rattle.at_core.specs.Reads.{HolderRead, holder_read, types_read, row_read, open_read, known_read, looks_read}
use Rattle.at_core.specs.Rule.{Slot, Board, Ghost, Holds, Base, copied_keys, words_of, heads_of, keys_of, values_of}
use Rattle.at_core.proofs.Lists.{map_back}
use Rattle.at_core.proofs.Prefixes.{prefix_self}
use Rattle.at_core.proofs.WordLemmas.{said}
use Rattle.at_core.proofs.Parts.{seen_begins, holder_is}
use Rattle.at_core.proofs.HeadFrames.{listed_at, listed_all}
use Rattle.at_core.proofs.Looking.{values_then, head_load_moves, inline_load_moves, key_load_moves}
use Rattle.at_core.proofs.Writing.{no_key}
use Rattle.at_core.proofs.AllowedPlaces.{saw}

-- what says what an object is says so of each world in which the object is the same
object_then : (now then_was : World) (o word : ℕ) → slice_get now.objects o ≡ slice_get then_was.objects o → IsObjectOf now o word → IsObjectOf then_was o word
object_then now then_was o word same is = record {
  absent = λ e. ((is.absent e).0, sym same ∙ (is.absent e).1);
  present = λ e. sym same ∙ is.present e;
}

module _ (opened : World) (limits : Limits) where
  module _ (s : Board) (g : Ghost) (h : Holds opened limits s g) (id : ℕ) (v : View) (at : get_elem? s.views id ≡ some v) where
    abbrev Backs : HeadLook → Type 0
    Backs look = IsBacked opened (heads_of (words_of s.words) look.object) (keys_of (words_of s.words)) g.history look

    seen : IsPrefix v.history.seen g.history
    seen = seen_begins h.parts id v at

    backed : All Backs v.looks
    backed = h.parts.headed.looks id v.looks (at_map looks_read s.views id v at)

    -- what an earlier look says
    shows : (o : ℕ) (look : HeadLook) → Backs look → Shows opened o (heads_of (words_of s.words) o) (keys_of (words_of s.words)) v.history.seen look
    shows o look b mine same whole begins =
        let e : heads_of (words_of s.words) look.object ≡ look.word = ap (heads_of (words_of s.words)) mine ∙ same in
        let says = (h.parts.headed.heads_are look.object).says (subst IsWhole (sym e) whole) in
        record {
          object = subst (IsObjectOf (replay opened look.at) look.object) e
              (object_then (replay opened g.history) (replay opened look.at) look.object (heads_of (words_of s.words) look.object) (b.object e whole g.history b.begins (prefix_self g.history)) says.object);
          row = λ inlined. subst (λ (n : ℕ). (shape_of n).row ≡ look.object) e (says.row (subst (λ (n : ℕ). (shape_of n).layout ≡ inline) (sym e) inlined.1));
          stays = b.object e whole v.history.seen begins seen;
          born = λ inlined. b.born e inlined v.history.seen begins seen;
          cells = λ inlined. b.cells e inlined;
          used = b.used;
          unused = λ inlined. b.unused e inlined;
          named = λ inlined n none. (values_then h.parts.headed look b e inlined).named n none;
        }

    -- who has the types knows the class in a head that another pass has open
    class_shown : (o : ℕ) → IsOpened (heads_of (words_of s.words) o) → holds locks.Types v ≡ true → holds (locks.Row o) v ≡ false
        → (found : Object) → slice_get (replay opened g.history).objects o ≡ Some found → found.class ≡ class_of (heads_of (words_of s.words) o)
    class_shown o odd types out found has =
        let holder = (h.parts.locks (locks.Row o)).holder ((h.parts.headed.heads_are o).owned odd) in
        let x = map_back (holder_read (locks.Row o)) s.views holder.0 holder.1 holder.2 in
        let row : holds (locks.Row o) x.0 ≡ true = ap (λ (r : HolderRead). r.held) x.2 ∙ holder.3 in
        let ne : holder.0 ≢ id = λ is. true≢false (sym row ∙ (ap (holds (locks.Row o)) (some-injective x.0 v (sym x.1 ∙ (ap (get_elem? s.views) is ∙ at))) ∙ out)) in
        h.parts.headed.open_are o odd holder.0 (open_read o x.0) (at_map (open_read o) s.views holder.0 x.0 x.1) row (no_types holder.0 x.0 x.1 ne types (holds locks.Types x.0) refl) found has
      where
        no_types : (j : ℕ) (u : View) → get_elem? s.views j ≡ some u → j ≢ id → holds locks.Types v ≡ true → (t : Bool) → holds locks.Types u ≡ t → holds locks.Types u ≡ false
        no_types j u e ne types true on = absurd (ne (holder_is locks.Types (words_of s.words (lock_word locks.Types)) s.views id v (h.parts.locks locks.Types) at types j u e on))
        no_types j u e ne types false off = off

    saw_head : (live : v.who.live ≡ true) (o : ℕ) → SawHead opened v o (heads_of (words_of s.words) o) g.history (keys_of (words_of s.words))
    saw_head live o = record {
      saw = saw opened limits s g h id v at live;
      keys = h.parts.headed.keys;
      is = (h.parts.headed.heads_are o).is;
      object = λ whole. ((h.parts.headed.heads_are o).says whole).object;
      row = λ inlined. ((h.parts.headed.heads_are o).says inlined.0).row inlined.1;
      class = class_shown o;
      copy = λ held. sym (ap (λ r. r.head) (h.parts.rows o id (row_read o v) (at_map (row_read o) s.views id v at) held));
      looks = All-weaker Backs (Shows opened o (heads_of (words_of s.words) o) (keys_of (words_of s.words)) v.history.seen) (shows o) v.looks backed;
    }

    saw_cell : (o i : ℕ) → i < inline_values → SawCell v o i (values_of (words_of s.words) o i) (keys_of (words_of s.words))
    saw_cell o i less = record {
      cell = h.parts.headed.cells o i;
      keys = h.parts.headed.keys;
      used = All-weaker Backs (λ look. All (KeyStays (keys_of (words_of s.words))) look.keys) (λ look b. b.used) v.looks backed;
      copy = λ held. sym (ap (λ (r : RowWords). get_or r.values i 0) (h.parts.rows o id (row_read o v) (at_map (row_read o) s.views id v at) held) ∙ listed_at inline_values (values_of (words_of s.words) o) i 0 less);
    }

    saw_key : (c i : ℕ) → c < classes → i < keys → SawKey v c i (keys_of (words_of s.words) c i) (copied_keys (keys_of (words_of s.words)) c)
    saw_key c i small less = record {
      is = sym (listed_at keys (keys_of (words_of s.words) c) i 0 less);
      keys = subst AreKeys (sym all) (h.parts.headed.keys c);
      grown = subst (HaveGrown (slice_index (keys_at c v.known))) (sym all) (h.parts.headed.known id v.known (at_map known_read s.views id v at) c);
      copy = λ held. sym (ap (λ (t : TypesWords). get_or t.keys c []) (h.parts.types id (types_read v) (at_map types_read s.views id v at) held).words_are ∙ listed_at classes (copied_keys (keys_of (words_of s.words))) c [] small);
    }
      where
        all : slice_index (copied_keys (keys_of (words_of s.words)) c) ≡ keys_of (words_of s.words) c
        all = listed_all keys (keys_of (words_of s.words) c) (no_key s.words c)

  -- a head is loaded
  pub loads_head : (slots id o : ℕ) (me : Me Slot View) → me.0.who.live ≡ true → o < objects
      → Allows (Base opened limits) slots id me (number_of (head o)) (λ n. n) (LoadsHead opened (step slots (number_of (head o)) 0 0 none) me)
  loads_head slots id o me live small s b deep at fits =
      let there : IsTrue (is_there (head o)) = grind (arith, nat_tests, small) in
      let n : ℕ = words_of s.words (head o) in
      let word : n ≡ get_or s.words (number_of (head o)) 0 = said s.words (head o) there in
      let Q : ℕ → Type 0 = λ k. (w : View) × (a : Act Slot) × Valid s.homes me.1 a × Base opened limits (stepped s (number_of (head o)) k id me.1 w a) × LoadsHead opened (step slots (number_of (head o)) 0 0 none) me k (w, carried_after me.1 a) in
      subst Q word (
        head_loaded me.0 o b.ghost.history n,
        keeps,
        tt,
        record { ghost = b.ghost; holds = head_load_moves opened limits s b.ghost b.holds id me.0 at live me.1 o small },
        λ k less is.
            let same : o ≡ k = omega (arith, is) in
            let R : ℕ → Type 0 = λ x. (h : List op.Op) × (f : ℕ → ℕ → ℕ) × ◌≡◌ {A = Me Slot View} (head_loaded me.0 o b.ghost.history n, me.1) (head_loaded me.0 x h n, me.1) × SawHead opened me.0 x n h f in
            subst R same (b.ghost.history, keys_of (words_of s.words), refl, saw_head s b.ghost b.holds id me.0 at live o),
      )

  -- an inline value is loaded
  pub loads_inline : (slots id o i : ℕ) (me : Me Slot View) → me.0.who.live ≡ true → o < objects → i < inline_values
      → Allows (Base opened limits) slots id me (number_of (inline_value o i)) (λ n. n) (LoadsInline (step slots (number_of (inline_value o i)) 0 0 none) me)
  loads_inline slots id o i me live small few s b deep at fits =
      let there : IsTrue (is_there (inline_value o i)) = grind (arith, nat_tests, small, few) in
      let n : ℕ = words_of s.words (inline_value o i) in
      let f = keys_of (words_of s.words) in
      let word : n ≡ get_or s.words (number_of (inline_value o i)) 0 = said s.words (inline_value o i) there in
      let Q : ℕ → Type 0 = λ k. (w : View) × (a : Act Slot) × Valid s.homes me.1 a × Base opened limits (stepped s (number_of (inline_value o i)) k id me.1 w a) × LoadsInline (step slots (number_of (inline_value o i)) 0 0 none) me k (w, carried_after me.1 a) in
      subst Q word (
        inline_loaded me.0 o i f n,
        keeps,
        tt,
        record { ghost = b.ghost; holds = inline_load_moves opened limits s b.ghost b.holds id me.0 at live me.1 o i small few },
        λ k j less lt is.
            let one : o ≡ k = omega (arith, is, few, lt) in
            let two : i ≡ j = omega (arith, is, one) in
            let R : ℕ × ℕ → Type 0 = λ x. (f' : ℕ → ℕ → ℕ) × ◌≡◌ {A = Me Slot View} (inline_loaded me.0 o i f n, me.1) (inline_loaded me.0 x.0 x.1 f' n, me.1) × SawCell me.0 x.0 x.1 n f' in
            subst R (λ t. (one t, two t)) (f, refl, saw_cell s b.ghost b.holds id me.0 at o i few),
      )

  -- a key is loaded
  pub loads_key : (slots id c i : ℕ) (me : Me Slot View) → me.0.who.live ≡ true → c < classes → i < keys
      → Allows (Base opened limits) slots id me (number_of (key c i)) (λ n. n) (LoadsKey (step slots (number_of (key c i)) 0 0 none) me)
  loads_key slots id c i me live small few s b deep at fits =
      let there : IsTrue (is_there (key c i)) = grind (arith, nat_tests, small, few) in
      let n : ℕ = words_of s.words (key c i) in
      let known = copied_keys (keys_of (words_of s.words)) c in
      let word : n ≡ get_or s.words (number_of (key c i)) 0 = said s.words (key c i) there in
      let Q : ℕ → Type 0 = λ k. (w : View) × (a : Act Slot) × Valid s.homes me.1 a × Base opened limits (stepped s (number_of (key c i)) k id me.1 w a) × LoadsKey (step slots (number_of (key c i)) 0 0 none) me k (w, carried_after me.1 a) in
      subst Q word (
        key_loaded me.0 c i known n,
        keeps,
        tt,
        record { ghost = b.ghost; holds = key_load_moves opened limits s b.ghost b.holds id me.0 at live me.1 c i small few },
        λ d j less lt is.
            let one : c ≡ d = omega (arith, is, few, lt) in
            let two : i ≡ j = omega (arith, is, one) in
            let R : ℕ × ℕ → Type 0 = λ x. (ks : List ℕ) × ◌≡◌ {A = Me Slot View} (key_loaded me.0 c i known n, me.1) (key_loaded me.0 x.0 x.1 ks n, me.1) × SawKey me.0 x.0 x.1 n ks in
            subst R (λ t. (one t, two t)) (known, refl, saw_key s b.ghost b.holds id me.0 at c i small few),
      )
