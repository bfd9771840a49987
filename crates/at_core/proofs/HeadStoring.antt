-- The head of an object is stored by who holds its row: it is opened, or closed.
use Rattle.std.proofs.Common.{◌≡◌, ◌≢◌, ◌⊎◌, inl, inr, ℕ, ◌<◌, ◌≤◌, true, false, IsTrue, List, map, set, ne_eqb, refl, sym, ap, ◌∙◌, subst, arith, length-set}
use Rattle.std.specs.Prelude.{Some, None, slice_get}
use Rattle.std.proofs.lemmas.Bool.Decides.{nat_tests}
use Rattle.std.proofs.lemmas.List.Elements.{All-weaker}
use mathlib.Core.Option.{some}
use mathlib.Core.Logic.{dite}
use native.Mathlib.Decide.{ℕ_discrete}
use lib.ListN.{get_elem?}
use Rattle.atomic_table.specs.Table.{keeps, stepped}
use Rattle.atomic_table.proofs.Lists.{at_map}
use Rattle.at_value.specs.Widths.{objects}
use Rattle.at_value.specs.declared.limits.Limits.{Limits}
use Rattle.at_model.specs.declared.rows.Object.{Object}
use Rattle.at_model.specs.World.{World}
use Rattle.at_model.specs.History.{replay}
use Rattle.at_view.specs.declared.mark.StepKind as step_kind
use Rattle.at_view.specs.declared.view.HeadLook.{HeadLook}
use Rattle.at_view.specs.declared.view.RowWords.{RowWords}
use Rattle.at_view.specs.declared.view.View.{View}
use Rattle.at_view.specs.Words.{Words, is_there, number_of, updated, head}
use Rattle.at_core.specs.declared.lock.Lock as lock
use Rattle.at_core.specs.declared.lock.Lock.TheVariants as locks
use Rattle.at_core.specs.Heads.{class_of, sequence_of, shape_of, HasDictionary, IsHead, IsWhole, IsOpened}
use Rattle.at_core.specs.HeadSteps.{head_stored, NamesRow}
use Rattle.at_core.specs.Inline.{IsHeadOf}
use Rattle.at_core.specs.Locks.{lock_word, slot_of, holds, copy_at}
use Rattle.at_core.specs.Looks.{IsBacked}
use Rattle.at_core.specs.Reads.{row_read, OpenRead, open_read, looks_read}
use Rattle.at_core.specs.Rule.{Slot, Board, Homes, Each, SlotRule, OpenRule, HeadRule, LookRule, RowsAre, OpeningRule, IsLock, Ghost, Parts, Holds, words_of, heads_of, row_locks_of, keys_of, values_of, row_words, shape_under}
use Rattle.at_core.specs.Steps.{mark, copied_heads}
use Rattle.at_core.specs.Openings.{openings_of}
use Rattle.at_core.proofs.OpeningCounts.{no_fewer, openings_left}
use Rattle.at_core.proofs.Lists.{each_other, map_back, map_set}
use Rattle.at_core.proofs.WordLemmas.{updated_here, updated_else, stored}
use Rattle.at_core.proofs.Parts.{left_alone, known_left}
use Rattle.at_core.proofs.RowSteps.{head_of_row, lock_stands, row_mine, open_left, row_keeps}

-- What is asked of the new head, in terms of the table: it has a class and a layout; its sequence is no less, and is above that of the old one where it is whole;
-- where it is whole it says what its object is, and where it is open it says the class unless the pass has the types too; the
-- layout doesn't go back, and the row of a dictionary has one.
pub record MayBe (opened : World) (words : Words) (g : Ghost) (v : View) (o n : ℕ) : Type 0 where
  pub is : IsHead n
  pub risen : sequence_of (heads_of words o) ≤ sequence_of n
  pub above : IsWhole n → sequence_of (heads_of words o) < sequence_of n
  pub says : IsWhole n → IsHeadOf (replay opened g.history) o n (keys_of words) (values_of words o)
  pub class : IsOpened n → holds locks.Types v ≡ false → (found : Object) → slice_get (replay opened g.history).objects o ≡ Some found → found.class ≡ class_of n
  pub stays : HasDictionary (shape_of (copied_heads v o)) → HasDictionary (shape_of n)
  pub named : HasDictionary (shape_of n) → ((shape_of n).row ≡ o) ⊎ NamesRow v (shape_of n).row

module _ (opened : World) (limits : Limits) (words : Words) (homes : Homes) (views : List View) (g : Ghost) (p : Parts opened limits words homes views g) (id : ℕ) (v : View) (at : get_elem? views id ≡ some v) (live : v.who.live ≡ true)
    (kind : step_kind.StepKind) (o n : ℕ) (held : holds (locks.Row o) v ≡ true) (may : MayBe opened words g v o n)
    (often : OpeningRule n (map (openings_of o) (set views id (head_stored kind v o n)))) where
  abbrev w : View
  w = head_stored kind v o n

  abbrev new_words : RowWords
  new_words = record (copy_at o v.rows) { head = n }

  abbrev after : Words
  after = updated words (head o) n

  lock_same : (l : lock.Lock) → words (lock_word l) ≡ after (lock_word l)
  lock_same locks.Types = refl
  lock_same (locks.Row k) = refl

  copied : (k : ℕ) → holds (locks.Row k) v ≡ true → copied_heads v k ≡ heads_of words k
  copied = head_of_row opened limits words homes views g p id v at live o held

  owned : 0 < row_locks_of words o
  owned = lock_stands opened limits words homes views g p id v at live o held

  here : heads_of after o ≡ n
  here = updated_here words (head o) n

  else_same : (k : ℕ) → k ≢ o → heads_of after k ≡ heads_of words k
  else_same k ne = updated_else words (head o) (head k) n (ne_eqb k o ne)

  slots_after : (l : lock.Lock) → IsLock l → SlotRule limits (replay opened g.history) g.lists (shape_under (heads_of after) l) l (after (lock_word l)) (get_elem? homes (slot_of l))
  slots_after locks.Types is = p.slots locks.Types is
  slots_after (locks.Row k) is = dite (ℕ_discrete k o)
      (λ (e : k ≡ o).
      let busy : 0 < row_locks_of words k = subst (λ (x : ℕ). 0 < row_locks_of words x) (sym e) owned in
      record { at_home = λ z. absurd (omega (arith, busy, z)); out = (p.slots (locks.Row k) is).out })
      (λ (ne : k ≢ o). subst (λ (x : ℕ). SlotRule limits (replay opened g.history) g.lists (shape_of x) (locks.Row k) (words (lock_word (locks.Row k))) (get_elem? homes (slot_of (locks.Row k)))) (sym (else_same k ne)) (p.slots (locks.Row k) is))

  heads_after : (k : ℕ) → HeadRule (replay opened g.history) k (row_locks_of words k) (heads_of after k) (keys_of words) (values_of words k)
  heads_after k = dite (ℕ_discrete k o)
      (λ (e : k ≡ o). subst (λ (x : ℕ). HeadRule (replay opened g.history) x (row_locks_of words x) (heads_of after x) (keys_of words) (values_of words x)) (sym e)
      (subst (λ (x : ℕ). HeadRule (replay opened g.history) o (row_locks_of words o) x (keys_of words) (values_of words o)) (sym here) (record { is = may.is; says = may.says; owned = λ _. owned })))
      (λ (ne : k ≢ o). subst (λ (x : ℕ). HeadRule (replay opened g.history) k (row_locks_of words k) x (keys_of words) (values_of words k)) (sym (else_same k ne)) (p.headed.heads_are k))

  open_after : (k : ℕ) → OpenRule (replay opened g.history) k (heads_of after k) (map (open_read k) (set views id w))
  open_after k = dite (ℕ_discrete k o)
      (λ (e : k ≡ o). subst (λ (x : ℕ). OpenRule (replay opened g.history) x (heads_of after x) (map (open_read x) (set views id w))) (sym e)
      (subst (λ (x : ℕ). OpenRule (replay opened g.history) o x (map (open_read o) (set views id w))) (sym here) opened_here))
      (λ (ne : k ≢ o). subst (λ (x : ℕ). OpenRule (replay opened g.history) k x (map (open_read k) (set views id w))) (sym (else_same k ne))
      (open_left opened limits words homes views g p id v at live o held new_words (mark kind (head o) None (Some n)) k (heads_of words k) (p.headed.open_are k)))
    where
      opened_here : OpenRule (replay opened g.history) o n (map (open_read o) (set views id w))
      opened_here odd = subst (Each _) (sym (map_set (open_read o) views id w))
          (each_other _ (map (open_read o) views) id (open_read o w)
          (λ j u ne e row types found. let x = map_back (open_read o) views j u e in absurd (ne (row_mine opened limits words homes views g p id v at live o held j x.0 x.1 (ap (λ (r : OpenRead). r.row) x.2 ∙ row))))
          (λ row types found. may.class odd types found))

  -- the row of a dictionary has one
  rows_after : RowsAre (heads_of after)
  rows_after k has = dite (ℕ_discrete k o)
      (λ (e : k ≡ o).
      let is : heads_of after k ≡ n = ap (heads_of after) e ∙ here in
      subst (λ (x : ℕ). HasDictionary (shape_of (heads_of after (shape_of x).row))) (sym is) (of_new (may.named (subst (λ (x : ℕ). HasDictionary (shape_of x)) is has))
      (subst (λ (x : ℕ). HasDictionary (shape_of x)) is has)))
      (λ (ne : k ≢ o).
      let same = else_same k ne in
      subst (λ (x : ℕ). HasDictionary (shape_of (heads_of after (shape_of x).row))) (sym same)
      (still (shape_of (heads_of words k)).row (p.headed.rows_are k (subst (λ (x : ℕ). HasDictionary (shape_of x)) same has))))
    where
      -- a head that had the layout has it
      still : (r : ℕ) → HasDictionary (shape_of (heads_of words r)) → HasDictionary (shape_of (heads_of after r))
      still r had = dite (ℕ_discrete r o)
          (λ (e : r ≡ o). subst (λ (x : ℕ). HasDictionary (shape_of x)) (sym (ap (heads_of after) e ∙ here)) (may.stays (subst (λ (x : ℕ). HasDictionary (shape_of x)) (ap (heads_of words) e ∙ sym (copied o held)) had)))
          (λ (ne : r ≢ o). subst (λ (x : ℕ). HasDictionary (shape_of x)) (sym (else_same r ne)) had)

      of_new : ((shape_of n).row ≡ o) ⊎ NamesRow v (shape_of n).row → HasDictionary (shape_of n) → HasDictionary (shape_of (heads_of after (shape_of n).row))
      of_new (inl own) new = subst (λ (x : ℕ). HasDictionary (shape_of x)) (sym (ap (heads_of after) own ∙ here)) new
      of_new (inr other) new =
          let had : HasDictionary (shape_of (heads_of words other.0)) = subst (λ (x : ℕ). HasDictionary (shape_of x)) (copied other.0 other.1) other.2 in
          let row : (shape_of (heads_of words other.0)).row ≡ (shape_of n).row = ap (λ (x : ℕ). (shape_of x).row) (sym (copied other.0 other.1)) ∙ other.3 in
          still (shape_of n).row (subst (λ (x : ℕ). HasDictionary (shape_of (heads_of words x))) row (p.headed.rows_are other.0 had))

  -- a look at the head says nothing of the new one
  backed_after : (look : HeadLook) → IsBacked opened (heads_of words look.object) (keys_of words) g.history look → IsBacked opened (heads_of after look.object) (keys_of words) g.history look
  backed_after look b = dite (ℕ_discrete look.object o)
      (λ (e : look.object ≡ o).
      let is : heads_of after look.object ≡ n = ap (heads_of after) e ∙ here in
      let was : sequence_of look.word ≤ sequence_of (heads_of words o) = subst (λ (x : ℕ). sequence_of look.word ≤ sequence_of (heads_of words x)) e b.risen in
      let up = may.risen in
      let gone : heads_of after look.object ≡ look.word → IsWhole look.word → ⊥ = λ same whole.
      let one : n ≡ look.word = sym is ∙ same in
      let lt = may.above (subst IsWhole (sym one) whole) in
      let eq : sequence_of n ≡ sequence_of look.word = ap sequence_of one in
      omega (arith, was, lt, eq) in
      record {
        begins = b.begins;
        risen = subst (λ (x : ℕ). sequence_of look.word ≤ sequence_of x) (sym is) (omega (arith, was, up));
        used = b.used;
        object = λ same whole. absurd (gone same whole);
        born = λ same inlined. absurd (gone same inlined.0);
        cells = λ same inlined. absurd (gone same inlined.0);
        unused = λ same inlined. absurd (gone same inlined.0);
      })
      (λ (ne : look.object ≢ o). subst (λ (x : ℕ). IsBacked opened x (keys_of words) g.history look) (sym (else_same look.object ne)) b)

  looks_after : LookRule opened (heads_of after) (keys_of words) g.history (map looks_read (set views id w))
  looks_after = left_alone looks_read (LookRule opened (heads_of after) (keys_of words) g.history) views id v w at refl
      (λ i looks e. All-weaker (λ look. IsBacked opened (heads_of words look.object) (keys_of words) g.history look) (λ look. IsBacked opened (heads_of after look.object) (keys_of words) g.history look) backed_after looks (p.headed.looks i looks e))

  openings_after : (k : ℕ) → OpeningRule (heads_of after k) (map (openings_of k) (set views id w))
  openings_after k = dite (ℕ_discrete k o)
      (λ (e : k ≡ o). subst (λ (x : ℕ). OpeningRule (heads_of after x) (map (openings_of x) (set views id w))) (sym e) (subst (λ (x : ℕ). OpeningRule x (map (openings_of o) (set views id w))) (sym here) often))
      (λ (ne : k ≢ o). subst (λ (x : ℕ). OpeningRule x (map (openings_of k) (set views id w))) (sym (else_same k ne))
      (openings_left k (heads_of words k) views id v w at (no_fewer k v w (mark kind (head o) None (Some n)) refl refl) (p.headed.openings k)))

  pub head_keeps : Parts opened limits after homes (set views id w) g
  head_keeps = row_keeps opened limits words homes views g p id v at live o held new_words (mark kind (head o) None (Some n)) after
      (record {
        count = refl;
        locks = lock_same;
        types = refl;
        global = refl;
        own = refl;
        rows = λ k ne. ap (λ (x : ℕ). record { head = x; values = (row_words words k).values }) (sym (else_same k ne));
      })
      (let was : copy_at o v.rows ≡ row_words words o = p.rows o id (row_read o v) (at_map (row_read o) views id v at) held in
      ap (λ (r : RowWords). record r { head = n }) was ∙ ap (λ (x : ℕ). record { head = x; values = (row_words words o).values }) (sym here))
      slots_after
      (record {
        heads_are = heads_after;
        open_are = open_after;
        rows_are = rows_after;
        openings = openings_after;
        keys = p.headed.keys;
        cells = p.headed.cells;
        known = known_left views id v w at (keys_of words) refl p.headed.known;
        looks = looks_after;
      })

-- The rule over the table, after the store
pub head_moves : (opened : World) (limits : Limits) (s : Board) (g : Ghost) (h : Holds opened limits s g) (id : ℕ) (v : View) (at : get_elem? s.views id ≡ some v) (live : v.who.live ≡ true) (hand : List (ℕ × Slot))
    (kind : step_kind.StepKind) (o n : ℕ) → o < objects → holds (locks.Row o) v ≡ true → MayBe opened (words_of s.words) g v o n → OpeningRule n (map (openings_of o) (set s.views id (head_stored kind v o n)))
    → Holds opened limits (stepped s (number_of (head o)) n id hand (head_stored kind v o n) keeps) g
head_moves opened limits s g h id v at live hand kind o n small held may often =
    let there : IsTrue (is_there (head o)) = grind (arith, nat_tests, small) in
    record {
      words_are = length-set s.words (number_of (head o)) n ∙ h.words_are;
      slots_are = h.slots_are;
      small = h.small;
      formed = h.formed;
      parts = subst (λ (ws : Words). Parts opened limits ws s.homes (set s.views id (head_stored kind v o n)) g) (sym (stored s.words h.words_are (head o) n there))
          (head_keeps opened limits (words_of s.words) s.homes s.views g h.parts id v at live kind o n held may often);
    }
