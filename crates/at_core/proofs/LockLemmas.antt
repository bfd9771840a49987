-- Locks that are one and locks that differ.
use Rattle.std.proofs.Common.{◌≡◌, ◌≢◌, ◌⊎◌, ℕ, Bool, false, List, ◌∷◌, eq-eqb, ne_eqb, refl, ap, inl, inr, arith}
use Rattle.std.specs.Prelude.{if◌then◌else◌}
use mathlib.Core.Logic.{dite}
use native.Mathlib.Decide.{ℕ_discrete}
use Rattle.at_model.specs.World.{World}
use Rattle.at_value.specs.declared.operation.Op as op
use Rattle.at_view.specs.declared.mark.Mark.{Mark}
use Rattle.at_view.specs.declared.mark.StepKind as step_kind
use Rattle.at_view.specs.declared.view.RowHold.{RowHold}
use Rattle.at_view.specs.declared.view.RowCopy.{RowCopy}
use Rattle.at_view.specs.declared.view.View.{View}
use Rattle.at_view.specs.Views.{blank}
use Rattle.at_view.specs.Words.{Words, updated, is_same, place, global_sequence}
use Rattle.at_core.specs.declared.lock.Lock as lock
use Rattle.at_core.specs.declared.lock.Lock.TheVariants as locks
use Rattle.at_core.specs.Locks.{lock_word, slot_of, hold_at, hold_of, holds, copy_at, IsUnchanged}
use Rattle.at_core.specs.Rule.{heads_of, keys_of, values_of, own_sequences_of, types_words, row_words}
use Rattle.at_core.specs.PlaceSteps.{place_loaded}
use Rattle.at_core.specs.HeadSteps.{head_stored, inline_stored, key_appended}
use Rattle.at_core.specs.Steps.{Moment, marked, hold_from, taken, missed, let_go, given, parted, child, merged}
use Rattle.at_core.proofs.WordLemmas.{updated_else}

pub slot_one : (l k : lock.Lock) → slot_of l ≡ slot_of k → l ≡ k
slot_one locks.Types locks.Types e = refl
slot_one locks.Types (locks.Row o) e = absurd (omega arith)
slot_one (locks.Row o) locks.Types e = absurd (omega arith)
slot_one (locks.Row o) (locks.Row p) e = ap (λ (n : ℕ). locks.Row n) (omega arith)

pub slot_apart : (l k : lock.Lock) → l ≢ k → slot_of l ≢ slot_of k
slot_apart l k ne = λ e. ne (slot_one l k e)

-- the same lock, or another
pub lock_cases : (l k : lock.Lock) → (l ≡ k) ⊎ (l ≢ k)
lock_cases l k = dite (ℕ_discrete (slot_of l) (slot_of k)) (λ (e : slot_of l ≡ slot_of k). inl (slot_one l k e)) (λ (ne : slot_of l ≢ slot_of k). inr (λ e. ne (ap slot_of e)))

row_apart : (o p : ℕ) → locks.Row o ≢ locks.Row p → o ≢ p
row_apart o p ne = λ e. ne (ap (λ (n : ℕ). locks.Row n) e)

word_apart : (l k : lock.Lock) → l ≢ k → is_same (lock_word l) (lock_word k) ≡ false
word_apart locks.Types locks.Types ne = absurd (ne refl)
word_apart locks.Types (locks.Row o) ne = refl
word_apart (locks.Row o) locks.Types ne = refl
word_apart (locks.Row o) (locks.Row p) ne = ne_eqb o p (row_apart o p ne)

-- the word of another lock
pub other_word : (words : Words) (l k : lock.Lock) (n : ℕ) → l ≢ k → updated words (lock_word k) n (lock_word l) ≡ words (lock_word l)
other_word words l k n ne = updated_else words (lock_word k) (lock_word l) n (word_apart l k ne)

-- what else the words say
pub same_place : (words : Words) (l : lock.Lock) (n : ℕ) → updated words (lock_word l) n place ≡ words place
same_place words locks.Types n = refl
same_place words (locks.Row o) n = refl

pub same_heads : (words : Words) (l : lock.Lock) (n : ℕ) → heads_of (updated words (lock_word l) n) ≡ heads_of words
same_heads words locks.Types n = refl
same_heads words (locks.Row o) n = refl

pub same_global : (words : Words) (l : lock.Lock) (n : ℕ) → updated words (lock_word l) n global_sequence ≡ words global_sequence
same_global words locks.Types n = refl
same_global words (locks.Row o) n = refl

pub same_keys : (words : Words) (l : lock.Lock) (n : ℕ) → keys_of (updated words (lock_word l) n) ≡ keys_of words
same_keys words locks.Types n = refl
same_keys words (locks.Row o) n = refl

pub same_values : (words : Words) (l : lock.Lock) (n : ℕ) → values_of (updated words (lock_word l) n) ≡ values_of words
same_values words locks.Types n = refl
same_values words (locks.Row o) n = refl

pub same_sequences : (words : Words) (l : lock.Lock) (n : ℕ) → own_sequences_of (updated words (lock_word l) n) ≡ own_sequences_of words
same_sequences words locks.Types n = refl
same_sequences words (locks.Row o) n = refl

pub same_types : (words : Words) (l : lock.Lock) (n : ℕ) → types_words (updated words (lock_word l) n) ≡ types_words words
same_types words locks.Types n = refl
same_types words (locks.Row o) n = refl

pub same_row : (words : Words) (l : lock.Lock) (n o : ℕ) → row_words (updated words (lock_word l) n) o ≡ row_words words o
same_row words locks.Types n o = refl
same_row words (locks.Row p) n o = refl

-- What is known of rows

pub hold_here : (o : ℕ) (row : RowHold) (rows : List RowHold) → o ≡ row.object → hold_at o (row ∷ rows) ≡ row.hold
hold_here o row rows e = ap (λ (b : Bool). if b then row.hold else hold_at o rows) (eq-eqb o row.object e)

pub hold_else : (o : ℕ) (row : RowHold) (rows : List RowHold) → o ≢ row.object → hold_at o (row ∷ rows) ≡ hold_at o rows
hold_else o row rows ne = ap (λ (b : Bool). if b then row.hold else hold_at o rows) (ne_eqb o row.object ne)

pub copy_here : (o : ℕ) (row : RowCopy) (rows : List RowCopy) → o ≡ row.object → copy_at o (row ∷ rows) ≡ row.words
copy_here o row rows e = ap (λ (b : Bool). if b then row.words else copy_at o rows) (eq-eqb o row.object e)

pub copy_else : (o : ℕ) (row : RowCopy) (rows : List RowCopy) → o ≢ row.object → copy_at o (row ∷ rows) ≡ copy_at o rows
copy_else o row rows ne = ap (λ (b : Bool). if b then row.words else copy_at o rows) (ne_eqb o row.object ne)

-- a mark changes no lock
pub hold_marked : (l : lock.Lock) (v : View) (m : Mark) → hold_of l (marked v m) ≡ hold_of l v
hold_marked locks.Types v m = refl
hold_marked (locks.Row o) v m = refl

-- A lock that was taken, and the others

pub hold_taken : (l : lock.Lock) (v : View) (at : Moment) → hold_of l (taken l v at) ≡ hold_from at
hold_taken locks.Types v at = refl
hold_taken (locks.Row o) v at = hold_here o (record { object = o; hold = hold_from at }) v.holds refl

pub hold_beside : (l k : lock.Lock) (v : View) (at : Moment) → l ≢ k → hold_of l (taken k v at) ≡ hold_of l v
hold_beside locks.Types locks.Types v at ne = absurd (ne refl)
hold_beside locks.Types (locks.Row o) v at ne = refl
hold_beside (locks.Row o) locks.Types v at ne = refl
hold_beside (locks.Row o) (locks.Row p) v at ne = hold_else o (record { object = p; hold = hold_from at }) v.holds (row_apart o p ne)

pub copy_taken : (o : ℕ) (v : View) (at : Moment) → copy_at o (taken (locks.Row o) v at).rows ≡ row_words at.words o
copy_taken o v at = copy_here o (record { object = o; words = row_words at.words o }) v.rows refl

pub copy_beside : (o : ℕ) (k : lock.Lock) (v : View) (at : Moment) → locks.Row o ≢ k → copy_at o (taken k v at).rows ≡ copy_at o v.rows
copy_beside o locks.Types v at ne = refl
copy_beside o (locks.Row p) v at ne = copy_else o (record { object = p; words = row_words at.words p }) v.rows (row_apart o p ne)

-- A lock that was given back, and the others

pub hold_given : (l : lock.Lock) (v : View) → hold_of l (given l v) ≡ let_go (hold_of l v)
hold_given locks.Types v = refl
hold_given (locks.Row o) v = hold_here o (record { object = o; hold = let_go (hold_at o v.holds) }) v.holds refl

pub hold_kept : (l k : lock.Lock) (v : View) → l ≢ k → hold_of l (given k v) ≡ hold_of l v
hold_kept locks.Types locks.Types v ne = absurd (ne refl)
hold_kept locks.Types (locks.Row o) v ne = refl
hold_kept (locks.Row o) locks.Types v ne = refl
hold_kept (locks.Row o) (locks.Row p) v ne = hold_else o (record { object = p; hold = let_go (hold_at p v.holds) }) v.holds (row_apart o p ne)

-- What other steps leave of who holds what

pub holds_parted : (k : lock.Lock) (v : View) → holds k (parted v) ≡ holds k v
holds_parted locks.Types v = refl
holds_parted (locks.Row o) v = refl

pub holds_child : (k : lock.Lock) (v : View) → holds k (child v) ≡ false
holds_child locks.Types v = refl
holds_child (locks.Row o) v = refl

pub holds_merged : (k : lock.Lock) (v w : View) → holds k (merged v w) ≡ holds k v
holds_merged locks.Types v w = refl
holds_merged (locks.Row o) v w = refl

pub holds_blank : (k : lock.Lock) → holds k blank ≡ false
holds_blank locks.Types = refl
holds_blank (locks.Row o) = refl

pub holds_missed : (k l : lock.Lock) (v : View) (n : ℕ) → holds k (missed l v n) ≡ holds k v
holds_missed locks.Types l v n = refl
holds_missed (locks.Row o) l v n = refl

pub held_seen : (k : lock.Lock) (v : View) (at : List op.Op) → holds k (place_loaded v at) ≡ holds k v
held_seen locks.Types v at = refl
held_seen (locks.Row o) v at = refl

pub held_stored : (k : lock.Lock) (kind : step_kind.StepKind) (v : View) (o n : ℕ) → holds k (head_stored kind v o n) ≡ holds k v
held_stored locks.Types kind v o n = refl
held_stored (locks.Row p) kind v o n = refl

pub held_inline : (k : lock.Lock) (v : View) (o i n : ℕ) → holds k (inline_stored v o i n) ≡ holds k v
held_inline locks.Types v o i n = refl
held_inline (locks.Row p) v o i n = refl

pub held_appended : (k : lock.Lock) (v : View) (c i n : ℕ) → holds k (key_appended v c i n) ≡ holds k v
held_appended locks.Types v c i n = refl
held_appended (locks.Row p) v c i n = refl

-- what a lock protects is as it is
pub unchanged_self : (l : lock.Lock) (w : World) → IsUnchanged l w w
unchanged_self locks.Types w = (refl, refl)
unchanged_self (locks.Row o) w = (refl, refl)
