-- What the helpers of the tests leave: a pass that makes a class and an object of it, and gives that a value.
use Rattle.std.specs.Prelude.{ℕ, ◌≡◌, true, List, [], ◌∷◌, Some}
use Rattle.at_value.specs.declared.operation.Op as op
use Rattle.at_value.specs.Packing.{words_of}
use Rattle.at_dict.specs.Dictionary.{Dictionary}
use Rattle.at_view.specs.declared.view.View.{View}
use Rattle.at_view.specs.Words.{Words}
use Rattle.at_core.specs.declared.lock.Lock.TheVariants as locks
use Rattle.at_core.specs.declared.stored.Stored.TheVariants as stored
use Rattle.at_core.specs.declared.world.Pass.{Pass}
use Rattle.at_core.specs.Heads.{inline}
use Rattle.at_core.specs.Locks.{holds, copy_at}
use Rattle.at_core.specs.Looks.{keys_at}
use Rattle.at_core.specs.Passes.{slot_at}
use Rattle.at_core.specs.Plays.{IsAlone}
use Rattle.at_core.specs.Rule.{types_words}
use Rattle.at_core.specs.SomeRun.{head_of, new_class, new_object}

-- eight words: this one, and then 0
abbrev pub eight : ℕ → List ℕ
eight n = n ∷ 0 ∷ 0 ∷ 0 ∷ 0 ∷ 0 ∷ 0 ∷ 0 ∷ []

-- The pass is alone, has seen these writes, and has these words of an operation. It has the lock of the types, and the
-- row of the object 0 with this head and these inline values.
pub record IsAt (history : List op.Op) (words : List ℕ) (head : ℕ) (values : List ℕ) (v : View) : Type 0 where
  pub alone : IsAlone v
  pub seen : v.history.seen ≡ history
  pub intends : v.intent.words ≡ words
  pub types : holds locks.Types v ≡ true
  pub row : holds (locks.Row 0) v ≡ true
  pub copy : copy_at 0 v.rows ≡ record { head = head; values = values }

-- it has the locks and has written nothing; it has made the class; it has made the object too
abbrev pub HasLocks : View → Type 0
HasLocks v = IsAt [] (0 ∷ 0 ∷ 0 ∷ 0 ∷ []) 0 (eight 0) v

abbrev pub HasClass : View → Type 0
HasClass v = IsAt (new_class ∷ []) (words_of new_class) 0 (eight 0) v

abbrev pub HasObject : View → Type 0
HasObject v = IsAt (new_class ∷ new_object ∷ []) (words_of new_object) (head_of inline 0) (eight 0) v

-- the copies of the words of the types are those of some words
abbrev pub HasWordCopies : View → Type 0
HasWordCopies v = (words : Words) × (v.types.words ≡ types_words words)

-- the key of the name 20 is known to be the only one of the class 1
abbrev pub HasKey : View → Type 0
HasKey v = keys_at 1 v.known ≡ eight 21

-- the dictionary of the row of the object 0 is in hand, and empty
abbrev pub HasEmptyBody : Pass → Type 0
HasEmptyBody p = (body : Dictionary) × (slot_at p (locks.Row 0) ≡ Some (Some (stored.Body body))) × (body.map ≡ [])
