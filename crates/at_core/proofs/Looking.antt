-- Heads, inline values and keys are loaded: what is kept of a load says what it should.
use Rattle.std.proofs.Common.{◌≡◌, ◌≢◌, ◌⊎◌, inl, inr, ℕ, suc, ◌<◌, ◌≤◌, true, IsTrue, List, [], map, set, refl, sym, ap, ◌∙◌, subst, arith}
use Rattle.std.specs.Prelude.{All, slice_index, slice_get}
use Rattle.std.proofs.lemmas.Bool.{cases_lt}
use Rattle.std.proofs.lemmas.Bool.Decides.{nat_tests}
use Rattle.std.proofs.lemmas.List.Elements.{All-cons, All-nil, All-map, All-weaker}
use mathlib.Core.Option.{some}
use lib.ListN.{get_elem?}
use Rattle.atomic_table.specs.Table.{keeps, stepped}
use Rattle.atomic_table.proofs.Lists.{at_map}
use Rattle.at_value.specs.Widths.{classes, objects}
use Rattle.at_value.specs.declared.limits.Limits.{Limits}
use Rattle.at_value.specs.declared.operation.Op as op
use Rattle.at_model.specs.World.{World}
use Rattle.at_model.specs.History.{replay}
use Rattle.at_view.specs.declared.view.HeadLook.{HeadLook}
use Rattle.at_view.specs.declared.view.InlineCell.{InlineCell}
use Rattle.at_view.specs.declared.view.KeyCell.{KeyCell}
use Rattle.at_view.specs.declared.view.View.{View}
use Rattle.at_view.specs.Counts.{keys, inline_values}
use Rattle.at_view.specs.Words.{is_there, number_of, head, key, inline_value}
use Rattle.at_core.specs.Heads.{class_of, IsWhole, IsInline}
use Rattle.at_core.specs.HeadSteps.{head_loaded, with_cell, inline_loaded, with_key, key_loaded}
use Rattle.at_core.specs.Inline.{AreValuesOf, HaveGrown, IsHeadOf, IsWordUnder}
use Rattle.at_core.specs.Looks.{keys_at, born_with, CellSays, KeyStays, UnusedSays, IsBacked}
use Rattle.at_core.specs.Reads.{known_read, looks_read}
use Rattle.at_core.specs.Rule.{Slot, Board, Ghost, Holds, HeadParts, KnownRule, LookRule, copied_keys, words_of, heads_of, keys_of}
use Rattle.at_core.proofs.Lists.{each_set}
use Rattle.at_core.proofs.Prefixes.{prefix_self, prefix_whole, prefix_length}
use Rattle.at_core.proofs.HeadFrames.{listed_grown, known_more}
use Rattle.at_core.proofs.Parts.{changed}
use Rattle.at_core.proofs.QuietSteps.{head_quiet, inline_quiet, key_quiet, load_moves, known_same, sequence_same}

-- The parts say of one look what it has

module _ {opened : World} {heads rows : ℕ → ℕ} {keys_are values_are : ℕ → ℕ → ℕ} {history : List op.Op} {views : List View} (h : HeadParts opened heads rows keys_are values_are history views) where
  -- a new look is backed
  pub backed_new : (o : ℕ) → IsBacked opened (heads o) keys_are history (record { object = o; word = heads o; at = history; cells = []; keys = [] })
  backed_new o = record {
    begins = prefix_self history;
    risen = omega arith;
    used = All-nil (KeyStays keys_are);
    object = λ e whole point from to. ap (λ (xs : List op.Op). slice_get (replay opened xs).objects o) (sym (prefix_whole history point from (prefix_length point history to)));
    born = λ e inlined point from to. ap (λ (xs : List op.Op). born_with opened xs o) (sym (prefix_whole history point from (prefix_length point history to)));
    cells = λ e inlined. All-nil (CellSays o (born_with opened history o));
    unused = λ e inlined. All-nil (UnusedSays keys_are (class_of (heads o)) (born_with opened history o));
  }

  -- while the head is that of the look, the inline values are those of the dictionary then
  pub values_then : (look : HeadLook) → IsBacked opened (heads look.object) keys_are history look → heads look.object ≡ look.word → IsInline look.word
      → AreValuesOf (born_with opened look.at look.object) (keys_are (class_of look.word)) (values_are look.object)
  values_then look b e inlined =
      let says : IsHeadOf (replay opened history) look.object look.word keys_are (values_are look.object) =
      subst (λ (n : ℕ). IsHeadOf (replay opened history) look.object n keys_are (values_are look.object)) e ((h.heads_are look.object).says (subst IsWhole (sym e) inlined.0)) in
      subst (λ pairs. AreValuesOf pairs (keys_are (class_of look.word)) (values_are look.object)) (b.born e inlined history b.begins (prefix_self history)) (says.values inlined.1)

  -- an inline value joins a look
  pub backed_cell : (o i word : ℕ) → word ≡ values_are o i → (look : HeadLook) → IsBacked opened (heads look.object) keys_are history look
      → IsBacked opened (heads look.object) keys_are history (with_cell o i keys_are word look)
  backed_cell o i word is look b = record {
    begins = b.begins;
    risen = b.risen;
    used = b.used;
    object = b.object;
    born = b.born;
    cells = λ e inlined.
        let pairs = born_with opened look.at look.object in
        let cell : InlineCell = record { object = o; index = i; key = keys_are (class_of look.word) i; word = word } in
        All-cons (CellSays look.object pairs) cell look.cells
        (λ mine n k. subst (IsWordUnder n pairs) (sym (is ∙ ap (λ (x : ℕ). values_are x i) mine)) ((values_then look b e inlined).under i n k))
        (b.cells e inlined);
    unused = b.unused;
  }

  -- so does a key
  pub backed_key : (c i word : ℕ) → word ≡ keys_are c i → (look : HeadLook) → IsBacked opened (heads look.object) keys_are history look
      → IsBacked opened (heads look.object) keys_are history (with_key c i word look)
  backed_key c i word is look b = record {
    begins = b.begins;
    risen = b.risen;
    used = All-cons (KeyStays keys_are) cell look.keys (λ _. sym is) b.used;
    object = b.object;
    born = b.born;
    cells = b.cells;
    unused = λ e inlined.
        let pairs = born_with opened look.at look.object in
        All-cons (UnusedSays keys_are (class_of look.word) pairs) cell look.keys
        (λ mine zero n none. (values_then look b e inlined).named n (λ j used. by_side mine zero n none j used (cases_lt j i)))
        (b.unused e inlined);
  }
    where
      cell : KeyCell
      cell = record { class = c; index = i; word = word }

      by_side : c ≡ class_of look.word → word ≡ 0 → (n : ℕ) → ((j : ℕ) → j < i → keys_are (class_of look.word) j ≢ suc n) → (j : ℕ) → keys_are (class_of look.word) j ≡ suc n → (j < i) ⊎ (i ≤ j) → ⊥
      by_side mine z n none j used (inl lt) = none j lt used
      by_side mine z n none j used (inr le) =
          let unused : keys_are c j ≡ 0 = (h.keys c).first i j le (sym is ∙ z) in
          let there : keys_are c j ≡ suc n = ap (λ (x : ℕ). keys_are x j) mine ∙ used in
          absurd (omega arith)

-- The rule over the table, after a load

module _ (opened : World) (limits : Limits) (s : Board) (g : Ghost) (h : Holds opened limits s g) (id : ℕ) (v : View) (at : get_elem? s.views id ≡ some v) (live : v.who.live ≡ true) (hand : List (ℕ × Slot)) where
  abbrev Backs : HeadLook → Type 0
  Backs look = IsBacked opened (heads_of (words_of s.words) look.object) (keys_of (words_of s.words)) g.history look

  -- all looks of the pass, each with something more
  looks_with : (w : View) → All Backs w.looks → LookRule opened (heads_of (words_of s.words)) (keys_of (words_of s.words)) g.history (map looks_read (set s.views id w))
  looks_with w new = changed looks_read (LookRule opened (heads_of (words_of s.words)) (keys_of (words_of s.words)) g.history) s.views id w
      (each_set (λ i looks. All Backs looks) (map looks_read s.views) id w.looks h.parts.headed.looks new)

  backed : All Backs v.looks
  backed = h.parts.headed.looks id v.looks (at_map looks_read s.views id v at)

  pub head_load_moves : (o : ℕ) → o < objects → Holds opened limits (stepped s (number_of (head o)) (words_of s.words (head o)) id hand (head_loaded v o g.history (words_of s.words (head o))) keeps) g
  head_load_moves o small =
      let there : IsTrue (is_there (head o)) = grind (arith, nat_tests, small) in
      let w = head_loaded v o g.history (words_of s.words (head o)) in
      load_moves opened limits s g h id v at live hand (head o) there w (head_quiet v o g.history (words_of s.words (head o)))
      (known_same opened limits s g h id v at live hand w refl)
      (looks_with w (All-cons Backs (record { object = o; word = words_of s.words (head o); at = g.history; cells = []; keys = [] }) v.looks (backed_new h.parts.headed o) backed))
      (sequence_same opened limits s g h id v at live hand w refl)

  pub inline_load_moves : (o i : ℕ) → o < objects → i < inline_values
      → Holds opened limits (stepped s (number_of (inline_value o i)) (words_of s.words (inline_value o i)) id hand (inline_loaded v o i (keys_of (words_of s.words)) (words_of s.words (inline_value o i))) keeps) g
  inline_load_moves o i small less =
      let there : IsTrue (is_there (inline_value o i)) = grind (arith, nat_tests, small, less) in
      let n : ℕ = words_of s.words (inline_value o i) in
      let w = inline_loaded v o i (keys_of (words_of s.words)) n in
      load_moves opened limits s g h id v at live hand (inline_value o i) there w (inline_quiet v o i (keys_of (words_of s.words)) n)
      (known_same opened limits s g h id v at live hand w refl)
      (looks_with w (All-map Backs (with_cell o i (keys_of (words_of s.words)) n) v.looks
      (All-weaker Backs (λ look. Backs (with_cell o i (keys_of (words_of s.words)) n look)) (λ look b. backed_cell h.parts.headed o i n refl look b) v.looks backed)))
      (sequence_same opened limits s g h id v at live hand w refl)

  pub key_load_moves : (c i : ℕ) → c < classes → i < keys
      → Holds opened limits (stepped s (number_of (key c i)) (words_of s.words (key c i)) id hand (key_loaded v c i (copied_keys (keys_of (words_of s.words)) c) (words_of s.words (key c i))) keeps) g
  key_load_moves c i small less =
      let there : IsTrue (is_there (key c i)) = grind (arith, nat_tests, small, less) in
      let n : ℕ = words_of s.words (key c i) in
      let w = key_loaded v c i (copied_keys (keys_of (words_of s.words)) c) n in
      load_moves opened limits s g h id v at live hand (key c i) there w (key_quiet v c i (copied_keys (keys_of (words_of s.words)) c) n)
      (changed known_read (KnownRule (keys_of (words_of s.words))) s.views id w
      (each_set (λ j known. (d : ℕ) → HaveGrown (slice_index (keys_at d known)) (keys_of (words_of s.words) d)) (map known_read s.views) id w.known h.parts.headed.known
      (known_more (keys_of (words_of s.words)) (record { class = c; keys = copied_keys (keys_of (words_of s.words)) c }) v.known (listed_grown keys (keys_of (words_of s.words) c))
      (h.parts.headed.known id v.known (at_map known_read s.views id v at)))))
      (looks_with w (All-map Backs (with_key c i n) v.looks
      (All-weaker Backs (λ look. Backs (with_key c i n look)) (λ look b. backed_key h.parts.headed c i n refl look b) v.looks backed)))
      (sequence_same opened limits s g h id v at live hand w refl)
