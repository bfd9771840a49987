-- Final namespaces and whole transcripts are read as they were written.
use Rattle.std.proofs.Common.{◌≡◌, ◌∙◌, ap, refl, sym, subst, ℕ, ◌+◌, ◌≤◌, ◌^◌, ◌==◌, arith, List, [], ◌∷◌, ◌++◌, length, map, flat_map, true, false, cond, Option, Some, codes, decimal, append-nil, append_assoc, All, length-append, take_at, drop_at}
use Rattle.std.specs.List.{AllByRecursion}
use Rattle.std.specs.Ordering.{nat_cmp, is_lt}
use Rattle.std.specs.Cmp.Lexicographic.{slice_cmp}
use Rattle.std.proofs.lemmas.Bool.{le-leb}
use Rattle.std.proofs.lemmas.List.Elements.{recursion_from_All}
use Rattle.at_value.specs.Types.{Value}
use Rattle.at_model.specs.declared.last.ClassEnd.{ClassEnd}
use Rattle.at_model.specs.declared.last.ObjEnd.{ObjEnd}
use Rattle.at_model.specs.declared.last.Final.{Final}
use Rattle.at_line.specs.Types.{Line}
use Rattle.at_line.specs.Lines.{finally_thread}
use Rattle.at_script.specs.Bytes as bytes
use Rattle.at_script.specs.Parts.{ScriptParts}
use Rattle.at_script.specs.Literals.{◌>>=◌}
use Rattle.at_script.specs.Script.{script_of}
use Rattle.at_text.specs.Words as words
use Rattle.at_text.specs.Values.{text_at, object_text}
use Rattle.at_text.specs.Lines.{line_text}
use Rattle.at_text.specs.Last.{inserted, by_bytes, pair_text, own_text, class_end_text, object_end_text, object_ends_text}
use Rattle.at_text.specs.Transcript.{script_text, lines_text, final_text, text}
use Rattle.at_text.specs.Printable.{IsLong, IsShort, HasName, HasValue, HasOwn, HasClassEnd, HasObjEnd, HasWhat, IsPrintable}
use Rattle.at_text.specs.Readers.{both, before, begins_with, counted, numbered}
use Rattle.at_text.specs.Bare.{bare_line}
use Rattle.at_text.specs.ReadLines.{line_at}
use Rattle.at_text.specs.ReadLast.{pair_at, by_number, own_at, class_end, class_end_at, object_end, object_end_at, final_of, final_at, lines_at, bytes_at, script_at, whole, run_in, run_of}
use Rattle.at_text.proofs.ReaderLaws.{Reads, Anything, begun, same_text, where_follows, after_reads, before_reads, made_reads, both_reads, name_reads, number_reads, counted_reads, texts_from, Listed, numbered_reads, flat_texts}
use Rattle.at_text.proofs.ValueReads.{IsTold, class_item_reads, classes_read, value_item_reads}
use Rattle.at_text.proofs.LineReads.{line_reads}
use Rattle.at_text.proofs.OwnNames.{numbers_back}

-- Own names

-- no name of an object or a class follows
abbrev NoDot : List ℕ → Type 0
NoDot x = begins_with bytes.dot x ≡ false

module _ (s : ScriptParts) (told : IsTold s) where
  abbrev HasPair : ℕ × Value → Type 0
  HasPair pair = HasName s pair.0 × HasValue s pair.1

  PairListed : ℕ × Value → Type 0
  PairListed = Listed (begins_with bytes.dot) (λ _. pair_at s) (λ _. pair_text s) Anything

  pair_listed : (pair : ℕ × Value) → HasPair pair → PairListed pair
  unfolding PairListed
  pair_listed pair h = record {
    some = λ number. omega arith;
    goes = λ number x. refl;
    next = λ number x. tt;
    reads = λ number. before_reads (codes "\n") (λ y. refl) (both_reads (λ y g. refl) (after_reads (codes ".") (name_reads s.names pair.0 (told.names pair.0 h.0))) (value_item_reads s told pair.1 h.1));
  }

  all_inserted : (P : ℕ × Value → Type 0) (pair : ℕ × Value) (pairs : List (ℕ × Value)) → P pair → AllByRecursion P pairs → AllByRecursion P (inserted s pair pairs)
  all_inserted P pair [] h all = (h, tt)
  all_inserted P pair (next ∷ rest) h all =
      elim (is_lt (slice_cmp nat_cmp (text_at s.names next.0) (text_at s.names pair.0))) as (λ b. AllByRecursion P (cond b (next ∷ inserted s pair rest) (pair ∷ next ∷ rest))) [
        | true ↦ (all.0, all_inserted P pair rest h all.1)
        | false ↦ (h, all)
      ]

  sorted_listed : (pairs : List (ℕ × Value)) → AllByRecursion HasPair pairs → AllByRecursion PairListed (by_bytes s pairs)
  sorted_listed [] all = tt
  sorted_listed (pair ∷ pairs) all = all_inserted PairListed pair (by_bytes s pairs) (pair_listed pair all.0) (sorted_listed pairs all.1)

  own_reads : (own : List (ℕ × Value)) → HasOwn s own → Reads (own_at s) (own_text s own) own NoDot
  unfolding own_at PairListed
  own_reads own h =
      let all = sorted_listed own (recursion_from_All HasPair own h.1) in
      let listed : Reads (numbered (begins_with bytes.dot) (λ _. pair_at s)) (own_text s own) (by_bytes s own) NoDot =
      same_text (flat_texts (pair_text s) 0 (by_bytes s own)) (where_follows (λ x f. (f, tt)) (numbered_reads (begins_with bytes.dot) (λ _. pair_at s) (λ _. pair_text s) Anything (by_bytes s own) all)) in
      subst (λ pairs. Reads (own_at s) (own_text s own) pairs NoDot) (numbers_back s own h.0) (made_reads by_number listed)

  -- Classes and objects

  class_end_reads : (end : ClassEnd) → HasClassEnd s end → Reads (class_end_at s) (class_end_text s end) end NoDot
  unfolding class_end_at
  class_end_reads end h =
      let first = before_reads (codes " =") (λ y. refl) (after_reads words.class_word (name_reads s.classes end.class (told.classes end.class h.0))) in
      let second = before_reads (codes "\n") (λ y. refl) (both_reads (λ y g. tt) first (classes_read s told end.order h.1)) in
      made_reads class_end (both_reads (λ y g. tt) second (own_reads end.own h.2))

  object_end_reads : (o : ℕ) (end : ObjEnd) → HasObjEnd s end → Reads (object_end_at s o) (object_end_text s o end) end NoDot
  unfolding object_end_at
  object_end_reads o end h =
      let item = after_reads (object_text o) (class_item_reads s told end.class h.0) in
      let first = before_reads (codes "\n") (λ y. refl) (after_reads words.object_word item) in
      made_reads object_end (both_reads (λ y g. tt) first (own_reads end.own h.1))

  ClassListed : ClassEnd → Type 0
  ClassListed = Listed (begins_with 99) (λ _. class_end_at s) (λ _. class_end_text s) NoDot

  classes_listed : (ends : List ClassEnd) → AllByRecursion (HasClassEnd s) ends → AllByRecursion ClassListed ends
  unfolding ClassListed
  classes_listed [] all = tt
  classes_listed (end ∷ ends) all = (
    record {
      some = λ number. omega arith;
      goes = λ number x. refl;
      next = λ number x. refl;
      reads = λ number. class_end_reads end all.0;
    },
    classes_listed ends all.1,
  )

  ObjectListed : ObjEnd → Type 0
  ObjectListed = Listed (begins_with 111) (object_end_at s) (object_end_text s) NoDot

  objects_listed : (ends : List ObjEnd) → AllByRecursion (HasObjEnd s) ends → AllByRecursion ObjectListed ends
  unfolding ObjectListed
  objects_listed [] all = tt
  objects_listed (end ∷ ends) all = (
    record {
      some = λ number. omega arith;
      goes = λ number x. refl;
      next = λ number x. refl;
      reads = λ number. object_end_reads number end all.0;
    },
    objects_listed ends all.1,
  )

  object_texts : (o : ℕ) (ends : List ObjEnd) → texts_from (object_end_text s) o ends ≡ object_ends_text s o ends
  object_texts o [] = refl
  object_texts o (end ∷ ends) = ap (λ t. object_end_text s o end ++ t) (object_texts (o + 1) ends)

  -- the last line follows
  abbrev AtEnd : List ℕ → Type 0
  AtEnd x = begins_with 101 x ≡ true

  end_begins : (byte : ℕ) (x : List ℕ) → (101 == byte) ≡ false → AtEnd x → begins_with byte x ≡ false
  end_begins byte x other h = let b = begun 101 x h in subst (λ t. begins_with byte t ≡ false) (sym b.1) other

  objects_end : (ends : List ObjEnd) (x : List ℕ) → AtEnd x → (begins_with 99 (object_ends_text s 0 ends ++ x) ≡ false) × NoDot (object_ends_text s 0 ends ++ x)
  objects_end [] x h = (end_begins 99 x refl h, end_begins bytes.dot x refl h)
  objects_end (end ∷ ends) x h = (refl, refl)

  final_reads : (last : Final) → All (HasClassEnd s) last.classes → All (HasObjEnd s) last.objects → Reads (final_at s) (final_text s last) last Anything
  unfolding final_at ClassListed ObjectListed
  final_reads last c o =
      let classes = same_text (flat_texts (class_end_text s) 0 last.classes)
      (numbered_reads (begins_with 99) (λ _. class_end_at s) (λ _. class_end_text s) NoDot last.classes (classes_listed last.classes (recursion_from_All (HasClassEnd s) last.classes c))) in
      let objects = same_text (object_texts 0 last.objects)
      (numbered_reads (begins_with 111) (object_end_at s) (object_end_text s) NoDot last.objects (objects_listed last.objects (recursion_from_All (HasObjEnd s) last.objects o))) in
      let bounded : Reads (numbered (begins_with 111) (object_end_at s)) (object_ends_text s 0 last.objects) last.objects AtEnd =
      where_follows (λ x f. (end_begins 111 x refl f, end_begins bytes.dot x refl f)) objects in
      made_reads final_of (before_reads words.end_word (λ y. refl) (both_reads (objects_end last.objects) (after_reads words.final_word classes) bounded))

  -- Lines

  abbrev LineReads : Line → Type 0
  LineReads line = Reads (line_at s) (line_text s line) (bare_line line) Anything

  each_line : (lines : List Line) → AllByRecursion (λ (line : Line). line.thread ≤ finally_thread) lines → AllByRecursion (λ (line : Line). IsShort line.number) lines → AllByRecursion (λ (line : Line). HasWhat s line.what) lines
      → AllByRecursion LineReads lines
  each_line [] thread number what = tt
  each_line (line ∷ lines) thread number what =
      (line_reads s told line thread.0 number.0 what.0, each_line lines thread.1 number.1 what.1)

  lines_reads : (lines : List Line) → IsLong (length lines) → AllByRecursion LineReads lines → Reads (lines_at s) (lines_text s lines) (map bare_line lines) Anything
  lines_reads lines few all =
      let head = before_reads (codes "\n") (λ y. refl) (after_reads words.lines_word (number_reads (2 ^ 64) (length lines) few few)) in
      let rest : ℕ × List ℕ → Option (List Line × List ℕ) = λ count. counted count.0 (line_at s) count.1 in
      record {
        here = λ x f.
            ap (lines_at s) (append_assoc (words.lines_word ++ decimal (length lines) ++ codes "\n") (flat_map (line_text s) lines) x)
            ∙ ap (λ o. o >>= rest) (head.here (flat_map (line_text s) lines ++ x) tt) ∙ (counted_reads (line_at s) (line_text s) bare_line lines all).here x tt;
      }

-- The whole

bytes_reads : (bytes : List ℕ) → Reads (bytes_at (length bytes)) bytes bytes Anything
bytes_reads bytes = record {
  here = λ x f.
      let longer = length-append bytes x in
      rw (le-leb (length bytes) (length (bytes ++ x)) (omega arith), take_at, drop_at) refl;
}

script_reads : (script : List ℕ) → IsLong (length script) → Reads script_at (script_text script) script Anything
script_reads script few =
    let head = before_reads (codes "\n") (λ y. refl) (after_reads words.header_word (number_reads (2 ^ 64) (length script) few few)) in
    let rest : ℕ × List ℕ → Option (List ℕ × List ℕ) = λ count. before (bytes_at count.0) (codes "\n") count.1 in
    let start : List ℕ = words.header_word ++ decimal (length script) ++ codes "\n" in
    record {
      here = λ x f.
          ap script_at (ap (λ t. t ++ x) (append_assoc start script (codes "\n")) ∙ append_assoc start (script ++ codes "\n") x)
          ∙ ap (λ o. o >>= rest) (head.here ((script ++ codes "\n") ++ x) tt) ∙ (before_reads (codes "\n") (λ y. tt) (bytes_reads script)).here x tt;
    }

-- the text of a run is the run's, but for the numbers that its misses carry
pub run_back : (script : List ℕ) (s : ScriptParts) (lines : List Line) (last : Final) → IsLong (length script) → IsTold s → IsPrintable script s lines last
    → run_of (text script s lines last) ≡ Some (script, (map bare_line lines, last))
run_back script s lines last few told h =
    let rest : List ℕ × List ℕ → Option (List ℕ × (List Line × Final)) = λ found. script_of found.0 >>= run_in found in
    let each = each_line s told lines (recursion_from_All _ lines h.most) (recursion_from_All _ lines h.short) (recursion_from_All _ lines h.known) in
    let parts = both_reads (λ y g. tt) (lines_reads s told lines h.few each) (final_reads s told last h.classes h.objects) in
    let left : List ℕ = lines_text s lines ++ final_text s last in
    let read : both (lines_at s) (final_at s) left ≡ Some ((map bare_line lines, last), []) = ap (both (lines_at s) (final_at s)) (sym (append-nil left)) ∙ parts.here [] tt in
    ap run_of (append_assoc (script_text script) (lines_text s lines) (final_text s last)) ∙ ap (λ o. o >>= rest) ((script_reads script few).here left tt)
    ∙ ap (λ o. o >>= run_in (script, left)) h.read ∙ ap (λ o. o >>= whole script) read
