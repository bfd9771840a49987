-- An inline value is stored by who has the head of its object open.
use Rattle.std.proofs.Common.{◌≡◌, ◌≢◌, ℕ, ◌<◌, ◌==◌, ◌&&◌, Bool, true, false, IsTrue, List, set, ne_eqb, refl, sym, ap, ◌∙◌, subst, arith, length-set}
use Rattle.std.specs.Prelude.{Some, None}
use Rattle.std.proofs.lemmas.Bool.Decides.{nat_tests}
use mathlib.Core.Option.{some}
use mathlib.Core.Logic.{dite}
use native.Mathlib.Decide.{ℕ_discrete}
use lib.ListN.{get_elem?}
use Rattle.atomic_table.specs.Table.{keeps, stepped}
use Rattle.atomic_table.proofs.Lists.{at_map}
use Rattle.at_value.specs.Widths.{objects}
use Rattle.at_value.specs.declared.limits.Limits.{Limits}
use Rattle.at_model.specs.World.{World}
use Rattle.at_model.specs.History.{replay}
use Rattle.at_view.specs.declared.mark.StepKind.TheVariants as kinds
use Rattle.at_view.specs.declared.view.RowWords.{RowWords}
use Rattle.at_view.specs.declared.view.View.{View}
use Rattle.at_view.specs.Counts.{inline_values}
use Rattle.at_view.specs.Words.{Words, is_there, number_of, updated, inline_value}
use Rattle.at_core.specs.declared.lock.Lock as lock
use Rattle.at_core.specs.declared.lock.Lock.TheVariants as locks
use Rattle.at_core.specs.Heads.{IsOpened}
use Rattle.at_core.specs.HeadSteps.{MayStore, inline_stored}
use Rattle.at_core.specs.Inline.{IsCell}
use Rattle.at_core.specs.Locks.{lock_word, slot_of, copy_at}
use Rattle.at_core.specs.Reads.{row_read, looks_read}
use Rattle.at_core.specs.Rule.{Slot, Board, Homes, HeadRule, LookRule, Ghost, IsLock, SlotRule, Parts, Holds, shape_under, listed, words_of, heads_of, row_locks_of, keys_of, values_of, row_words}
use Rattle.at_core.specs.Steps.{mark}
use Rattle.at_core.proofs.OpeningCounts.{no_fewer, openings_left}
use Rattle.at_core.proofs.WordLemmas.{updated_here, updated_else, stored}
use Rattle.at_core.proofs.HeadFrames.{odd_even, listed_set}
use Rattle.at_core.proofs.Parts.{left_alone, known_left}
use Rattle.at_core.proofs.RowSteps.{head_of_row, open_left, row_keeps}

pub and_false : (b : Bool) → (b && false) ≡ false
and_false true = refl
and_false false = refl

module _ (opened : World) (limits : Limits) (words : Words) (homes : Homes) (views : List View) (g : Ghost) (p : Parts opened limits words homes views g) (id : ℕ) (v : View) (at : get_elem? views id ≡ some v) (live : v.who.live ≡ true)
    (o i n : ℕ) (may : MayStore v o i n) where
  abbrev w : View
  w = inline_stored v o i n

  abbrev after : Words
  after = updated words (inline_value o i) n

  abbrev new_words : RowWords
  new_words = record (copy_at o v.rows) { values = set (copy_at o v.rows).values i n }

  lock_same : (l : lock.Lock) → words (lock_word l) ≡ after (lock_word l)
  lock_same locks.Types = refl
  lock_same (locks.Row k) = refl

  here : values_of after o i ≡ n
  here = updated_here words (inline_value o i) n

  -- another value of the object, and those of another object
  beside : (j : ℕ) → j ≢ i → values_of after o j ≡ values_of words o j
  beside j ne = updated_else words (inline_value o i) (inline_value o j) n (ap (λ (b : Bool). b && (o == o)) (ne_eqb j i ne))

  else_same : (k : ℕ) → k ≢ o → values_of after k ≡ values_of words k
  else_same k ne = λ t j. updated_else words (inline_value o i) (inline_value k j) n (ap (λ (b : Bool). (j == i) && b) (ne_eqb k o ne) ∙ and_false (j == i)) t

  odd : IsOpened (heads_of words o)
  odd = subst IsOpened (head_of_row opened limits words homes views g p id v at live o may.held o may.held) may.is_open

  heads_after : (k : ℕ) → HeadRule (replay opened g.history) k (row_locks_of words k) (heads_of words k) (keys_of words) (values_of after k)
  heads_after k = dite (ℕ_discrete k o)
      (λ (e : k ≡ o). subst (λ (x : ℕ). HeadRule (replay opened g.history) x (row_locks_of words x) (heads_of words x) (keys_of words) (values_of after x)) (sym e)
      (record { is = (p.headed.heads_are o).is; says = λ whole. absurd (odd_even (heads_of words o) odd whole); owned = (p.headed.heads_are o).owned }))
      (λ (ne : k ≢ o). subst (λ (f : ℕ → ℕ). HeadRule (replay opened g.history) k (row_locks_of words k) (heads_of words k) (keys_of words) f) (sym (else_same k ne)) (p.headed.heads_are k))

  cells_after : (k j : ℕ) → IsCell (values_of after k j)
  cells_after k j = dite (ℕ_discrete k o)
      (λ (e : k ≡ o). subst (λ (x : ℕ). IsCell (values_of after x j)) (sym e)
      (dite (ℕ_discrete j i)
      (λ (e' : j ≡ i). subst (λ (x : ℕ). IsCell (values_of after o x)) (sym e') (subst IsCell (sym here) may.cell))
      (λ (ne : j ≢ i). subst IsCell (sym (beside j ne)) (p.headed.cells o j))))
      (λ (ne : k ≢ o). subst (λ (f : ℕ → ℕ). IsCell (f j)) (sym (else_same k ne)) (p.headed.cells k j))

  pub inline_keeps : Parts opened limits after homes (set views id w) g
  inline_keeps = row_keeps opened limits words homes views g p id v at live o may.held new_words (mark kinds.InlineStore (inline_value o i) None (Some n)) after
      (record {
        count = refl;
        locks = lock_same;
        types = refl;
        global = refl;
        own = refl;
        rows = λ k ne. ap (λ (f : ℕ → ℕ). record { head = heads_of words k; values = listed inline_values f }) (sym (else_same k ne));
      })
      (let was : copy_at o v.rows ≡ row_words words o = p.rows o id (row_read o v) (at_map (row_read o) views id v at) may.held in
      ap (λ (r : RowWords). record r { values = set r.values i n }) was
      ∙ ap (λ (xs : List ℕ). record { head = heads_of words o; values = xs }) (listed_set inline_values (values_of words o) (values_of after o) i n may.index here beside))
      slots_after
      (record {
        heads_are = heads_after;
        open_are = λ k. open_left opened limits words homes views g p id v at live o may.held new_words (mark kinds.InlineStore (inline_value o i) None (Some n)) k (heads_of words k) (p.headed.open_are k);
        rows_are = p.headed.rows_are;
        openings = λ k. openings_left k (heads_of words k) views id v w at (no_fewer k v w _ refl refl) (p.headed.openings k);
        keys = p.headed.keys;
        cells = cells_after;
        known = known_left views id v w at (keys_of words) refl p.headed.known;
        looks = left_alone looks_read (LookRule opened (heads_of words) (keys_of words) g.history) views id v w at refl p.headed.looks;
      })
    where
      slots_after : (l : lock.Lock) → IsLock l → SlotRule limits (replay opened g.history) g.lists (shape_under (heads_of after) l) l (after (lock_word l)) (get_elem? homes (slot_of l))
      slots_after locks.Types is = p.slots locks.Types is
      slots_after (locks.Row k) is = p.slots (locks.Row k) is

-- The rule over the table, after the store
pub inline_moves : (opened : World) (limits : Limits) (s : Board) (g : Ghost) (h : Holds opened limits s g) (id : ℕ) (v : View) (at : get_elem? s.views id ≡ some v) (live : v.who.live ≡ true) (hand : List (ℕ × Slot))
    (o i n : ℕ) → o < objects → MayStore v o i n → Holds opened limits (stepped s (number_of (inline_value o i)) n id hand (inline_stored v o i n) keeps) g
inline_moves opened limits s g h id v at live hand o i n small may =
    let less = may.index in
    let there : IsTrue (is_there (inline_value o i)) = grind (arith, nat_tests, small, less) in
    record {
      words_are = length-set s.words (number_of (inline_value o i)) n ∙ h.words_are;
      slots_are = h.slots_are;
      small = h.small;
      formed = h.formed;
      parts = subst (λ (ws : Words). Parts opened limits ws s.homes (set s.views id (inline_stored v o i n)) g) (sym (stored s.words h.words_are (inline_value o i) n there))
          (inline_keeps opened limits (words_of s.words) s.homes s.views g h.parts id v at live o i n may);
    }
