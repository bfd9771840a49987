-- Steps that leave all locks and writes keep the rule: loads, and stores of words that are a pass's own.
use Rattle.std.proofs.Common.{◌≡◌, ◌≢◌, ℕ, ◌<◌, ◌≤◌, true, false, true≢false, IsTrue, List, [], ◌∷◌, ◌++◌, map, set, ne_eqb, refl, sym, ap, ◌∙◌, subst, arith, length-set}
use Rattle.std.specs.Prelude.{All}
use Rattle.std.proofs.lemmas.List.Elements.{All-nil}
use Rattle.std.proofs.lemmas.Bool.Decides.{nat_tests}
use mathlib.Core.Option.{some}
use lib.ListN.{get_elem?}
use Rattle.atomic_table.specs.Table.{keeps, stepped}
use Rattle.atomic_table.proofs.Lists.{at_map}
use Rattle.at_value.specs.declared.limits.Limits.{Limits}
use Rattle.at_model.specs.World.{World}
use Rattle.at_value.specs.declared.operation.Op as op
use Rattle.at_view.specs.declared.mark.Mark.{Mark}
use Rattle.at_view.specs.declared.view.View.{View}
use Rattle.at_view.specs.Counts.{passes, intent_words}
use Rattle.at_view.specs.Words.{Word, Words, is_there, number_of, place, intent, global_sequence, own_sequence, updated}
use Rattle.at_core.specs.declared.lock.Lock as lock
use Rattle.at_core.specs.declared.lock.Lock.TheVariants as locks
use Rattle.at_core.specs.Locks.{lock_word, hold_at, holds, copy_at}
use Rattle.at_core.specs.Looks.{IsBacked}
use Rattle.at_core.specs.Reads.{holder_read, kept_read, births_of, known_read, looks_read, SequenceRead, sequence_read}
use Rattle.at_core.specs.Rule.{Slot, Board, Ghost, Parts, Holds, KnownRule, LookRule, SequenceRule, heads_of, keys_of, own_sequences_of, words_of}
use Rattle.at_core.specs.Steps.{global_loaded, gone_online, gone_offline}
use Rattle.at_core.specs.PlaceSteps.{intent_stored, unwritten}
use Rattle.at_core.specs.HeadSteps.{head_loaded, inline_loaded, key_loaded}
use Rattle.at_core.proofs.OpeningCounts.{no_fewer}
use Rattle.at_core.proofs.Lists.{each_set, map_back}
use Rattle.at_core.proofs.LivePasses.{one_number, number_small}
use Rattle.at_core.proofs.SequenceSteps.{sequence_loaded, sequence_stored}
use Rattle.at_core.proofs.Parts.{changed, Alike, Leaves, leaves_all, known_left, looks_left, sequence_left, alike_keeps}
use Rattle.at_core.proofs.WordLemmas.{updated_here, updated_else, stored, said, reloaded}

-- what a step leaves that changes no lock, write or join
pub record IsQuiet (v w : View) : Type 0 where
  pub who : w.who ≡ v.who
  pub history : w.history ≡ v.history
  pub joined : w.joined ≡ v.joined
  pub fresh : w.intent.fresh ≡ v.intent.fresh
  pub types : w.types ≡ v.types
  pub holds : w.holds ≡ v.holds
  pub rows : w.rows ≡ v.rows
  pub kept : w.kept ≡ v.kept
  pub trace : (m : Mark) × (w.trace ≡ v.trace ++ m ∷ [])

quiet_holder : (v w : View) → IsQuiet v w → (l : lock.Lock) → holder_read l w ≡ holder_read l v
quiet_holder v w q locks.Types = λ i. record { number = (q.who i).number; held = (q.types i).hold.held }
quiet_holder v w q (locks.Row o) = λ i. record { number = (q.who i).number; held = (hold_at o (q.holds i)).held }

quiet_kept : (v w : View) → IsQuiet v w → (l : lock.Lock) → kept_read l w ≡ kept_read l v
quiet_kept v w q locks.Types = λ i. record { hold = (q.types i).hold; seen = (q.history i).seen; own = (q.history i).own }
quiet_kept v w q (locks.Row o) = λ i. record { hold = hold_at o (q.holds i); seen = (q.history i).seen; own = (q.history i).own }

pub holds_quiet : (v w : View) → IsQuiet v w → (l : lock.Lock) → holds l w ≡ holds l v
holds_quiet v w q l = ap (λ r. r.held) (quiet_holder v w q l)

quiet_alike : (v w : View) → IsQuiet v w → Alike v w
quiet_alike v w q = record {
  past = λ i. record { seen = (q.history i).seen; own = (q.history i).own };
  fresh = q.fresh;
  kin = λ i. record { live = (q.who i).live; birth = (q.history i).birth; children = (q.who i).children; kept = births_of (q.kept i) };
  number = λ i. record { live = (q.who i).live; number = (q.who i).number };
  holder = quiet_holder v w q;
  kept = quiet_kept v w q;
  types = λ i. record { held = (q.types i).hold.held; lists = (q.types i).lists; words = (q.types i).words };
  row = λ o i. record { held = (hold_at o (q.holds i)).held; words = copy_at o (q.rows i) };
  joins = q.joined;
  limited = λ i. record { live = (q.who i).live; limits = (q.who i).limits };
  openings = λ o. no_fewer o v w q.trace.0 q.trace.1 q.kept;
}

pub load_quiet : (v : View) (n : ℕ) → IsQuiet v (global_loaded v n)
load_quiet v n = record { who = refl; history = refl; joined = refl; fresh = refl; types = refl; holds = refl; rows = refl; kept = refl; trace = (_, refl) }

pub online_quiet : (v : View) → IsQuiet v (gone_online v)
online_quiet v = record { who = refl; history = refl; joined = refl; fresh = refl; types = refl; holds = refl; rows = refl; kept = refl; trace = (_, refl) }

pub offline_quiet : (v : View) → IsQuiet v (gone_offline v)
offline_quiet v = record { who = refl; history = refl; joined = refl; fresh = refl; types = refl; holds = refl; rows = refl; kept = refl; trace = (_, refl) }

pub unwritten_quiet : (v : View) (n : ℕ) → IsQuiet v (unwritten v n)
unwritten_quiet v n = record { who = refl; history = refl; joined = refl; fresh = refl; types = refl; holds = refl; rows = refl; kept = refl; trace = (_, refl) }

pub intent_quiet : (v : View) (j n : ℕ) → IsQuiet v (intent_stored v j n)
intent_quiet v j n = record { who = refl; history = refl; joined = refl; fresh = refl; types = refl; holds = refl; rows = refl; kept = refl; trace = (_, refl) }

pub head_quiet : (v : View) (o : ℕ) (at : List op.Op) (n : ℕ) → IsQuiet v (head_loaded v o at n)
head_quiet v o at n = record { who = refl; history = refl; joined = refl; fresh = refl; types = refl; holds = refl; rows = refl; kept = refl; trace = (_, refl) }

pub inline_quiet : (v : View) (o i : ℕ) (keys_are : ℕ → ℕ → ℕ) (n : ℕ) → IsQuiet v (inline_loaded v o i keys_are n)
inline_quiet v o i keys_are n = record { who = refl; history = refl; joined = refl; fresh = refl; types = refl; holds = refl; rows = refl; kept = refl; trace = (_, refl) }

pub key_quiet : (v : View) (c i : ℕ) (known : List ℕ) (n : ℕ) → IsQuiet v (key_loaded v c i known n)
key_quiet v c i known n = record { who = refl; history = refl; joined = refl; fresh = refl; types = refl; holds = refl; rows = refl; kept = refl; trace = (_, refl) }

-- a word of an intended operation is stored
intent_leaves : (words : Words) (q j n : ℕ) → Leaves words (updated words (intent q j) n)
intent_leaves words q j n = record { count = refl; locks = λ l. locks_same l; heads = refl; row_locks = refl; keys = refl; values = refl; types = refl; rows = λ o. refl }
  where
    locks_same : (l : lock.Lock) → words (lock_word l) ≡ updated words (intent q j) n (lock_word l)
    locks_same locks.Types = refl
    locks_same (locks.Row o) = refl

-- the own sequence of a pass is stored
own_leaves : (words : Words) (q n : ℕ) → Leaves words (updated words (own_sequence q) n)
own_leaves words q n = record { count = refl; locks = λ l. locks_same l; heads = refl; row_locks = refl; keys = refl; values = refl; types = refl; rows = λ o. refl }
  where
    locks_same : (l : lock.Lock) → words (lock_word l) ≡ updated words (own_sequence q) n (lock_word l)
    locks_same locks.Types = refl
    locks_same (locks.Row o) = refl

-- a view that looked at no head is backed
none_looked : (opened : World) (heads : ℕ → ℕ) (keys : ℕ → ℕ → ℕ) (history : List op.Op) (views : List View) (id : ℕ) (w : View) → w.looks ≡ [] → LookRule opened heads keys history (map looks_read views)
    → LookRule opened heads keys history (map looks_read (set views id w))
none_looked opened heads keys history views id w none p = changed looks_read (LookRule opened heads keys history) views id w
    (each_set (λ i looks. All (λ look. IsBacked opened (heads look.object) keys history look) looks) (map looks_read views) id w.looks p
    (subst (All (λ look. IsBacked opened (heads look.object) keys history look)) (sym none) (All-nil (λ look. IsBacked opened (heads look.object) keys history look))))

-- The rule over the table, after such a step
module _ (opened : World) (limits : Limits) (s : Board) (g : Ghost) (h : Holds opened limits s g) (id : ℕ) (v : View) (at : get_elem? s.views id ≡ some v) (live : v.who.live ≡ true) (hand : List (ℕ × Slot)) where
  -- another live view has another number
  apart : (j : ℕ) (u : SequenceRead) → j ≢ id → get_elem? (map sequence_read s.views) j ≡ some u → u.live ≡ true → u.number ≢ v.who.number
  apart j u ne e lives same =
      let x = map_back sequence_read s.views j u e in
      ne (one_number h.parts j id x.0 v x.1 at (ap (λ (r : SequenceRead). r.live) x.2 ∙ lives) live (ap (λ (r : SequenceRead). r.number) x.2 ∙ same))

  -- a word is loaded, and what the view learns by it is right
  pub load_moves : (a : Word) → IsTrue (is_there a) → (w : View) → IsQuiet v w
      → KnownRule (keys_of (words_of s.words)) (map known_read (set s.views id w))
      → LookRule opened (heads_of (words_of s.words)) (keys_of (words_of s.words)) g.history (map looks_read (set s.views id w))
      → SequenceRule (words_of s.words global_sequence) (own_sequences_of (words_of s.words)) (map sequence_read (set s.views id w))
      → Holds opened limits (stepped s (number_of a) (words_of s.words a) id hand w keeps) g
  load_moves a there w q known looks sequence =
      let n : ℕ = words_of s.words a in
      record {
        words_are = length-set s.words (number_of a) n ∙ h.words_are;
        slots_are = h.slots_are;
        small = h.small;
        formed = h.formed;
        parts = subst (λ (ws : Words). Parts opened limits ws s.homes (set s.views id w) g)
            (sym (ap (λ (k : ℕ). words_of (set s.words (number_of a) k)) (said s.words a there) ∙ reloaded s.words (number_of a)))
            (alike_keeps opened limits (words_of s.words) (words_of s.words) s.homes s.views g id v w h.parts at (quiet_alike v w q) (ap (λ y. y.live) q.who ∙ live) (leaves_all (words_of s.words)) known looks sequence);
      }

  -- what is known, looked at and known of sequences is as it was
  pub known_same : (w : View) → w.known ≡ v.known → KnownRule (keys_of (words_of s.words)) (map known_read (set s.views id w))
  known_same w same = known_left s.views id v w at (keys_of (words_of s.words)) same h.parts.headed.known

  pub looks_same : (w : View) → w.looks ≡ v.looks → LookRule opened (heads_of (words_of s.words)) (keys_of (words_of s.words)) g.history (map looks_read (set s.views id w))
  looks_same w same = looks_left s.views id v w at opened (heads_of (words_of s.words)) (keys_of (words_of s.words)) g.history same h.parts.headed.looks

  pub sequence_same : (w : View) → sequence_read w ≡ sequence_read v → SequenceRule (words_of s.words global_sequence) (own_sequences_of (words_of s.words)) (map sequence_read (set s.views id w))
  sequence_same w same = sequence_left s.views id v w at (words_of s.words global_sequence) (own_sequences_of (words_of s.words)) same h.parts.sequence

  pub global_moves : Holds opened limits (stepped s (number_of global_sequence) (words_of s.words global_sequence) id hand (global_loaded v (words_of s.words global_sequence)) keeps) g
  global_moves =
      let n : ℕ = words_of s.words global_sequence in
      let w = global_loaded v n in
      load_moves global_sequence refl w (load_quiet v n) (known_same w refl) (looks_same w refl)
      (changed sequence_read (SequenceRule n (own_sequences_of (words_of s.words))) s.views id w
      (sequence_loaded n (own_sequences_of (words_of s.words)) (map sequence_read s.views) h.parts.sequence id (sequence_read v) (sequence_read w) (at_map sequence_read s.views id v at) (record { live = refl; number = refl }) refl (omega arith)))

  -- an exchange of the place fails
  pub unwritten_moves : Holds opened limits (stepped s (number_of place) (words_of s.words place) id hand (unwritten v (words_of s.words place)) keeps) g
  unwritten_moves =
      let w = unwritten v (words_of s.words place) in
      load_moves place refl w (unwritten_quiet v (words_of s.words place)) (known_same w refl) (looks_same w refl) (sequence_same w refl)

  -- a word of the intended operation is stored
  pub intent_moves : (j n : ℕ) → j < intent_words → v.who.number < passes → Holds opened limits (stepped s (number_of (intent v.who.number j)) n id hand (intent_stored v j n) keeps) g
  intent_moves j n less small =
      let there : IsTrue (is_there (intent v.who.number j)) = grind (arith, nat_tests, small, less) in
      let w = intent_stored v j n in
      record {
        words_are = length-set s.words (number_of (intent v.who.number j)) n ∙ h.words_are;
        slots_are = h.slots_are;
        small = h.small;
        formed = h.formed;
        parts = subst (λ (ws : Words). Parts opened limits ws s.homes (set s.views id w) g) (sym (stored s.words h.words_are (intent v.who.number j) n there))
            (alike_keeps opened limits (words_of s.words) (updated (words_of s.words) (intent v.who.number j) n) s.homes s.views g id v w h.parts at (quiet_alike v w (intent_quiet v j n)) live
            (intent_leaves (words_of s.words) v.who.number j n) (known_same w refl) (looks_same w refl) (sequence_same w refl));
      }

  -- the pass stores its own sequence, and forgets what it looked at
  own_moves : (w : View) (n : ℕ) → IsQuiet v w → w.known ≡ v.known → w.looks ≡ [] → w.tags.global ≡ v.tags.global → v.who.number < passes
      → (w.tags.online ≡ false → n ≡ 0) → (w.tags.online ≡ true → (0 < n) × (n ≤ words_of s.words global_sequence))
      → Holds opened limits (stepped s (number_of (own_sequence v.who.number)) n id hand w keeps) g
  own_moves w n q known none loaded small off on =
      let there : IsTrue (is_there (own_sequence v.who.number)) = grind (arith, nat_tests, small) in
      let words : Words = words_of s.words in
      let after : Words = updated words (own_sequence v.who.number) n in
      let here : own_sequences_of after v.who.number ≡ n = updated_here words (own_sequence v.who.number) n in
      record {
        words_are = length-set s.words (number_of (own_sequence v.who.number)) n ∙ h.words_are;
        slots_are = h.slots_are;
        small = h.small;
        formed = h.formed;
        parts = subst (λ (ws : Words). Parts opened limits ws s.homes (set s.views id w) g) (sym (stored s.words h.words_are (own_sequence v.who.number) n there))
            (alike_keeps opened limits words after s.homes s.views g id v w h.parts at (quiet_alike v w q) (ap (λ y. y.live) q.who ∙ live) (own_leaves words v.who.number n)
            (known_left s.views id v w at (keys_of words) known h.parts.headed.known)
            (none_looked opened (heads_of words) (keys_of words) g.history s.views id w none h.parts.headed.looks)
            (changed sequence_read (SequenceRule (words global_sequence) (own_sequences_of after)) s.views id w
            (sequence_stored (words global_sequence) (own_sequences_of words) (map sequence_read s.views) h.parts.sequence id (sequence_read v) (sequence_read w) (at_map sequence_read s.views id v at)
            (record { live = ap (λ y. y.live) q.who; number = ap (λ y. y.number) q.who }) live loaded (own_sequences_of after)
            (λ r ne. updated_else words (own_sequence v.who.number) (own_sequence r) n (ne_eqb r v.who.number ne))
            (λ o. here ∙ off o)
            (λ o. subst (λ (k : ℕ). (0 < k) × (k ≤ words global_sequence)) (sym here) (on o))
            apart)));
      }

  small : v.who.number < passes
  small = number_small h.parts id v at live

  -- it has loaded the sequence with which it goes online
  pub online_moves : 0 < v.tags.global → Holds opened limits (stepped s (number_of (own_sequence v.who.number)) v.tags.global id hand (gone_online v) keeps) g
  online_moves begun = own_moves (gone_online v) v.tags.global (online_quiet v) refl refl refl small (λ off. absurd (true≢false off))
      (λ on. (begun, h.parts.sequence.loaded id (sequence_read v) (at_map sequence_read s.views id v at)))

  pub offline_moves : Holds opened limits (stepped s (number_of (own_sequence v.who.number)) 0 id hand (gone_offline v) keeps) g
  offline_moves = own_moves (gone_offline v) 0 (offline_quiet v) refl refl refl small (λ off. refl) (λ on. absurd (true≢false (sym on)))
