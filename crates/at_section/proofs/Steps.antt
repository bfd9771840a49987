-- What each step leaves of a pass and its sections.
use Rattle.std.proofs.Common.{◌≡◌, ◌⊎◌, ⊎_elim, inl, inr, ℕ, suc, Bool, true, false, true≢false, ◌||◌, ◌&&◌, List, [], ◌∷◌, ◌++◌, map, length, refl, sym, ap, ◌∙◌, subst, append_assoc, append-nil}
use Rattle.std.specs.Prelude.{All, Some, None}
use Rattle.std.proofs.lemmas.List.Elements.{All-head}
use mathlib.Core.List.{IsPrefix}
use Rattle.at_value.specs.declared.operation.Op as op
use Rattle.at_view.specs.declared.mark.StepKind.TheVariants as kinds
use Rattle.at_view.specs.declared.view.View.{View}
use Rattle.at_view.specs.Words.{place}
use Rattle.at_core.specs.declared.lock.Lock as lock
use Rattle.at_core.specs.declared.note.Note.{Note}
use Rattle.at_core.specs.declared.world.Pass.{Pass}
use Rattle.at_core.specs.Locks.{lock_word, holds, HoldsNone}
use Rattle.at_core.specs.Passes.{notes, view, IsSame, IsNoted}
use Rattle.at_core.specs.PlaceSteps.{place_loaded}
use Rattle.at_core.specs.Plays.{Found, IsAlone}
use Rattle.at_core.specs.Steps.{Moment, mark, taken, missed, given}
use Rattle.at_core.proofs.Prefixes.{prefix_self, prefix_trans}
use Rattle.at_core.proofs.LockLemmas.{holds_missed}
use Rattle.at_lock.specs.Waits.{waited, IsTakenAtOnce, IsTaken}
use Rattle.at_lock.proofs.Waiting.{holds_waited}
use Rattle.at_section.specs.Calls.{IsSamePass, IsLeft, Adds, Moves}
use Rattle.at_section.specs.Deeds.{word_of, names, wanting, held, held_after, is_blocked, AreFor}
use Rattle.at_section.specs.Scores.{Start}
use Rattle.at_section.specs.Sections.{locks_of, named_locks, lost, after_give, after_load, Stands, Stay, Pairs}
use Rattle.at_section.specs.Surfaces.{named}
use Rattle.at_section.proofs.Scores.{held_more, for_more, every_more}
use Rattle.at_section.proofs.Standing.{held_taken, held_missed, held_given, held_loaded, stands_taken, stands_missed, stands_given, stands_loaded, lost_locks, pairs_map, pairs_same, stay_same, stay_then}

-- The same pass

pub pass_of : (p q : Pass) → IsSame p q → IsSamePass p q
pass_of p q s = record { table = s.table; seat = s.seat; number = s.number }

pub pass_noted : (p q : Pass) → IsNoted p q → IsSamePass p q
pass_noted p q s = record { table = ap (λ x. x.table_id) s.seat; seat = ap (λ x. x.id) s.seat; number = s.number }

pub pass_then : (p q r : Pass) → IsSamePass p q → IsSamePass q r → IsSamePass p r
pass_then p q r a b = record { table = b.table ∙ a.table; seat = b.seat ∙ a.seat; number = b.number ∙ a.number }

-- What is left of views

pub left_same : (v : View) → IsLeft v v
left_same v = record { who = refl; birth = refl; own = refl; seen = prefix_self v.history.seen; joined = refl; intent = refl; looks = refl; tags = refl; read = refl; write = refl; kept = refl }

pub left_then : (u v w : View) → IsLeft u v → IsLeft v w → IsLeft u w
left_then u v w a b = record {
  who = b.who ∙ a.who;
  birth = b.birth ∙ a.birth;
  own = b.own ∙ a.own;
  seen = prefix_trans u.history.seen v.history.seen w.history.seen a.seen b.seen;
  joined = b.joined ∙ a.joined;
  intent = b.intent ∙ a.intent;
  looks = b.looks ∙ a.looks;
  tags = b.tags ∙ a.tags;
  read = b.read ∙ a.read;
  write = b.write ∙ a.write;
  kept = b.kept ∙ a.kept;
}

left_taken : (v : View) (l : lock.Lock) (at : Moment) → IsPrefix v.history.seen at.history → IsLeft v (taken l v at)
left_taken v l at later = record { who = refl; birth = refl; own = refl; seen = later; joined = refl; intent = refl; looks = refl; tags = refl; read = refl; write = refl; kept = refl }

left_missed : (v : View) (l : lock.Lock) (n : ℕ) → IsLeft v (missed l v n)
left_missed v l n = record { who = refl; birth = refl; own = refl; seen = prefix_self v.history.seen; joined = refl; intent = refl; looks = refl; tags = refl; read = refl; write = refl; kept = refl }

left_given : (v : View) (l : lock.Lock) → IsLeft v (given l v)
left_given v l = record { who = refl; birth = refl; own = refl; seen = prefix_self v.history.seen; joined = refl; intent = refl; looks = refl; tags = refl; read = refl; write = refl; kept = refl }

left_loaded : (v : View) (at : List op.Op) → IsPrefix v.history.seen at → IsLeft v (place_loaded v at)
left_loaded v at later = record { who = refl; birth = refl; own = refl; seen = later; joined = refl; intent = refl; looks = refl; tags = refl; read = refl; write = refl; kept = refl }

pub still_alone : (v w : View) → IsLeft v w → IsAlone v → IsAlone w
still_alone v w left a = record { first = left.birth ∙ a.first; childless = ap (λ x. x.children) left.who ∙ a.childless }

-- What is added to traces

pub adds_none : (ls : List lock.Lock) (v : View) → Adds ls v v
adds_none ls v = record { marks = []; trace = sym (append-nil v.trace); holds = refl; steps = tt; alone = λ _. tt }

pub adds_then : (ls : List lock.Lock) (u v w : View) → IsLeft u v → Adds ls u v → Adds ls v w → Adds ls u w
adds_then ls u v w left a b = record {
  marks = a.marks ++ b.marks;
  trace = b.trace ∙ (ap (λ t. t ++ b.marks) a.trace ∙ append_assoc u.trace a.marks b.marks);
  holds = b.holds ∙ (ap (λ h. held_after h b.marks) a.holds ∙ sym (held_more (held u) a.marks b.marks));
  steps = for_more ls (held u) a.marks b.marks a.steps (subst (λ h. AreFor ls h b.marks) a.holds b.steps);
  alone = λ is. every_more _ a.marks b.marks (a.alone is) (b.alone (still_alone u v left is));
}

adds_taken : (ls : List lock.Lock) (v : View) (l : lock.Lock) (at : Moment) → wanting ls (held v) ≡ Some l → Adds ls v (taken l v at)
adds_taken ls v l at first = record {
  marks = mark kinds.LockTake (lock_word l) (Some 0) (Some (suc v.who.number)) ∷ [];
  trace = refl;
  holds = held_taken l v at;
  steps = (inl (l, refl, first), tt);
  alone = λ _. (refl, tt);
}

adds_freely : (ls : List lock.Lock) (v : View) (l : lock.Lock) (at : Moment) → names ls (word_of l) ≡ true → HoldsNone v → Adds ls v (taken l v at)
adds_freely ls v l at it none = record {
  marks = mark kinds.LockTake (lock_word l) (Some 0) (Some (suc v.who.number)) ∷ [];
  trace = refl;
  holds = held_taken l v at;
  steps = (inr (it, none), tt);
  alone = λ _. (refl, tt);
}

adds_missed : (ls : List lock.Lock) (v : View) (l : lock.Lock) (n : ℕ) → wanting ls (held v) ≡ Some l → ¬ IsAlone v → Adds ls v (missed l v (suc n))
adds_missed ls v l n first company = record {
  marks = mark kinds.LockTake (lock_word l) (Some (suc n)) (Some (suc n)) ∷ [];
  trace = refl;
  holds = held_missed l v (suc n);
  steps = (inl (l, refl, first), tt);
  alone = λ is. absurd (company is);
}

missed_freely : (ls : List lock.Lock) (v : View) (l : lock.Lock) (n : ℕ) → names ls (word_of l) ≡ true → HoldsNone v → ¬ IsAlone v → Adds ls v (missed l v (suc n))
missed_freely ls v l n it none company = record {
  marks = mark kinds.LockTake (lock_word l) (Some (suc n)) (Some (suc n)) ∷ [];
  trace = refl;
  holds = held_missed l v (suc n);
  steps = (inr (it, none), tt);
  alone = λ is. absurd (company is);
}

adds_given : (ls : List lock.Lock) (v : View) (l : lock.Lock) → Adds ls v (given l v)
adds_given ls v l = record { marks = mark kinds.LockGive (lock_word l) None (Some 0) ∷ []; trace = refl; holds = held_given l v; steps = (tt, tt); alone = λ _. (refl, tt) }

adds_loaded : (ls : List lock.Lock) (v : View) (at : List op.Op) → Adds ls v (place_loaded v at)
adds_loaded ls v at = record { marks = mark kinds.PlaceLoad place (Some (length at)) (Some (length at)) ∷ []; trace = refl; holds = held_loaded v at; steps = (tt, tt); alone = λ _. (refl, tt) }

-- What is left of sections

pub moves_same : (ls : List lock.Lock) (p : Pass) → Moves ls p p
moves_same ls p = record { same = record { table = refl; seat = refl; number = refl }; left = left_same (view p); adds = adds_none ls (view p); named = refl; stay = stay_same p }

pub moves_then : (ls : List lock.Lock) (p q r : Pass) → Moves ls p q → Moves ls q r → Moves ls p r
moves_then ls p q r a b = record {
  same = pass_then p q r a.same b.same;
  left = left_then (view p) (view q) (view r) a.left b.left;
  adds = adds_then ls (view p) (view q) (view r) a.left a.adds b.adds;
  named = b.named ∙ a.named;
  stay = stay_then p q r a.stay b.stay;
}

-- a step that leaves the notes
stay_by : (p q : Pass) → notes q ≡ notes p → ((n : Note) (s : Start) → Stands (view p) n s → Stands (view q) n s) → Stay p q
stay_by p q same f starts a = subst (λ ns. Pairs (λ n s. Stands (view q) n s) ns starts) (sym same) (pairs_same (λ n s. Stands (view p) n s) (λ n s. Stands (view q) n s) (notes p) starts f a)

-- a step that changes each note
stay_map : (p q : Pass) (f : Note → Note) → notes q ≡ map f (notes p) → ((n : Note) (s : Start) → Stands (view p) n s → Stands (view q) (f n) s) → Stay p q
stay_map p q f same g starts a = subst (λ ns. Pairs (λ n s. Stands (view q) n s) ns starts) (sym same) (pairs_map (λ n s. Stands (view p) n s) (λ n s. Stands (view q) n s) f (notes p) starts g a)

named_map : (f : Note → Note) (ns : List Note) → ((n : Note) → locks_of (f n) ≡ locks_of n) → named_locks (map f ns) ≡ named_locks ns
named_map f [] same = refl
named_map f (n ∷ ns) same = λ i. same n i ∷ named_map f ns same i

to_stands : (v w : View) (n : Note) (s : Start) → w ≡ v → Stands v n s → Stands w n s
to_stands v w n s e = subst (λ x. Stands x n s) (sym e)

pub moves_taken : (ls : List lock.Lock) (p q : Pass) (l : lock.Lock) → wanting ls (held (view p)) ≡ Some l → holds l (view p) ≡ false → IsSame p q → IsTakenAtOnce l (view p) (view q) → Moves ls p q
moves_taken ls p q l first out same t =
    let w = taken l (view p) t.at in
    record {
      same = pass_of p q same;
      left = subst (IsLeft (view p)) (sym t.after) (left_taken (view p) l t.at t.took.later);
      adds = subst (Adds ls (view p)) (sym t.after) (adds_taken ls (view p) l t.at first);
      named = ap (λ x. named_locks x.items) same.notes;
      stay = stay_by p q (ap (λ x. x.items) same.notes) (λ n s a. to_stands w (view q) n s t.after (stands_taken (view p) n s l t.at out a));
    }

pub moves_missed : (ls : List lock.Lock) (p q : Pass) (l : lock.Lock) (n : ℕ) → wanting ls (held (view p)) ≡ Some l → IsSame p q → view q ≡ missed l (view p) (suc n) → Found (view p) (suc n) → Moves ls p q
moves_missed ls p q l n first same e found = record {
  same = pass_of p q same;
  left = subst (IsLeft (view p)) (sym e) (left_missed (view p) l (suc n));
  adds = subst (Adds ls (view p)) (sym e) (adds_missed ls (view p) l n first found.company);
  named = ap (λ x. named_locks x.items) same.notes;
  stay = stay_by p q (ap (λ x. x.items) same.notes) (λ m s a. to_stands (missed l (view p) (suc n)) (view q) m s e (stands_missed (view p) m s l n a));
}

pub moves_given : (ls : List lock.Lock) (p q : Pass) (l : lock.Lock) → is_blocked (view p) ≡ true → IsSamePass p q → view q ≡ given l (view p) → notes q ≡ map (after_give l) (notes p) → Moves ls p q
moves_given ls p q l blocked same e noted = record {
  same = same;
  left = subst (IsLeft (view p)) (sym e) (left_given (view p) l);
  adds = subst (Adds ls (view p)) (sym e) (adds_given ls (view p) l);
  named = ap named_locks noted ∙ named_map (after_give l) (notes p) (λ n. lost_locks (n.active && names (locks_of n) (word_of l)) n);
  stay = stay_map p q (after_give l) noted (λ n s a. to_stands (given l (view p)) (view q) (after_give l n) s e (stands_given (view p) n s l (λ _. blocked) a));
}

-- the notes that don't name it stay
pub free_same : (l : lock.Lock) (ns : List Note) → named l ns ≡ false → map (after_give l) ns ≡ ns
free_same l [] free = refl
free_same l (n ∷ ns) free = by_test (free_same l ns) (n.active && names (locks_of n) (word_of l)) refl free
  where
    by_test : (named l ns ≡ false → map (after_give l) ns ≡ ns) → (b : Bool) → (n.active && names (locks_of n) (word_of l)) ≡ b → (b || named l ns) ≡ false → map (after_give l) (n ∷ ns) ≡ n ∷ ns
    by_test others true is out = absurd (true≢false out)
    by_test others false is out = λ i. ap (λ b. lost b n) is i ∷ others out i

free_stands : (l : lock.Lock) (v : View) (ns : List Note) (starts : List Start) → named l ns ≡ false → Pairs (λ n s. Stands v n s) ns starts → Pairs (λ n s. Stands (given l v) n s) (map (after_give l) ns) starts
free_stands l v [] [] free a = tt
free_stands l v [] (s ∷ starts) free a = absurd a
free_stands l v (n ∷ ns) [] free a = absurd a
free_stands l v (n ∷ ns) (s ∷ starts) free a = by_test (λ out. free_stands l v ns starts out a.1) (n.active && names (locks_of n) (word_of l)) refl free
  where
    by_test : (named l ns ≡ false → Pairs (λ m t. Stands (given l v) m t) (map (after_give l) ns) starts) → (b : Bool) → (n.active && names (locks_of n) (word_of l)) ≡ b → (b || named l ns) ≡ false → Pairs (λ n s. Stands (given l v) n s) (map (after_give l) (n ∷ ns)) (s ∷ starts)
    by_test others true is out = absurd (true≢false out)
    by_test others false is out = (stands_given v n s l (λ yes. absurd (true≢false (sym yes ∙ is))) a.0, others out)

pub moves_released : (ls : List lock.Lock) (p q : Pass) (l : lock.Lock) → named l (notes p) ≡ false → IsSamePass p q → view q ≡ given l (view p) → notes q ≡ map (after_give l) (notes p) → Moves ls p q
moves_released ls p q l free same e noted = record {
  same = same;
  left = subst (IsLeft (view p)) (sym e) (left_given (view p) l);
  adds = subst (Adds ls (view p)) (sym e) (adds_given ls (view p) l);
  named = ap named_locks noted ∙ named_map (after_give l) (notes p) (λ n. lost_locks (n.active && names (locks_of n) (word_of l)) n);
  stay = λ starts a. subst (λ ns. Pairs (λ n s. Stands (view q) n s) ns starts) (sym noted) (subst (λ v. Pairs (λ n s. Stands v n s) (map (after_give l) (notes p)) starts) (sym e) (free_stands l (view p) (notes p) starts free a));
}

pub moves_loaded : (ls : List lock.Lock) (p q : Pass) (at : List op.Op) → IsSamePass p q → view q ≡ place_loaded (view p) at → IsPrefix (view p).history.seen at → notes q ≡ map (after_load (held (view p))) (notes p) → Moves ls p q
moves_loaded ls p q at same e later noted = record {
  same = same;
  left = subst (IsLeft (view p)) (sym e) (left_loaded (view p) at later);
  adds = subst (Adds ls (view p)) (sym e) (adds_loaded ls (view p) at);
  named = ap named_locks noted ∙ named_map (after_load (held (view p))) (notes p) (λ n. refl);
  stay = stay_map p q (after_load (held (view p))) noted (λ n s a. to_stands (place_loaded (view p) at) (view q) (after_load (held (view p)) n) s e (stands_loaded (view p) n s at a));
}

-- Waiting for a lock

record Goes (ls : List lock.Lock) (v w : View) : Type 0 where
  left : IsLeft v w
  adds : Adds ls v w
  stands : (n : Note) (s : Start) → Stands v n s → Stands w n s

goes_then : (ls : List lock.Lock) (u v w : View) → Goes ls u v → Goes ls v w → Goes ls u w
goes_then ls u v w a b = record {
  left = left_then u v w a.left b.left;
  adds = adds_then ls u v w a.left a.adds b.adds;
  stands = λ n s x. b.stands n s (a.stands n s x);
}

none_missed : (v : View) (l : lock.Lock) (n : ℕ) → HoldsNone v → HoldsNone (missed l v n)
none_missed v l n none k = holds_missed k l v n ∙ none k

goes_waited : (ls : List lock.Lock) (v : View) (l : lock.Lock) (holders : List ℕ) → names ls (word_of l) ≡ true → HoldsNone v → (¬ IsAlone v ⊎ (holders ≡ [])) → Goes ls v (waited l v holders)
goes_waited ls v l [] it none company = record { left = left_same v; adds = adds_none ls v; stands = λ n s a. a }
goes_waited ls v l (h ∷ holders) it none company =
    let out : ¬ IsAlone v = ⊎_elim (λ (x : ¬ IsAlone v). x) (λ (e : (h ∷ holders) ≡ []). absurd (cc (e))) company in
    let next = missed l v (suc h) in
    goes_then ls v next (waited l next holders)
    (record { left = left_missed v l (suc h); adds = missed_freely ls v l h it none out; stands = λ n s a. stands_missed v n s l h a })
    (goes_waited ls next l holders it (none_missed v l (suc h) none) (inl (λ is. out (record { first = is.first; childless = is.childless }))))

pub moves_waited : (ls : List lock.Lock) (p q : Pass) (l : lock.Lock) → names ls (word_of l) ≡ true → HoldsNone (view p) → IsSame p q → IsTaken l (view p) (view q) → Moves ls p q
moves_waited ls p q l it none same t =
    let u = waited l (view p) t.holders in
    let a = goes_waited ls (view p) l t.holders it none (company_of t.holders t.found) in
    let free : HoldsNone u = λ k. holds_waited k l (view p) t.holders ∙ none k in
    let b : Goes ls u (taken l u t.last.at) = record {
      left = left_taken u l t.last.at t.last.took.later;
      adds = adds_freely ls u l t.last.at it free;
      stands = λ n s x. stands_taken u n s l t.last.at (free l) x;
    } in
    let all = goes_then ls (view p) u (taken l u t.last.at) a b in
    record {
      same = pass_of p q same;
      left = subst (IsLeft (view p)) (sym t.last.after) all.left;
      adds = subst (Adds ls (view p)) (sym t.last.after) all.adds;
      named = ap (λ x. named_locks x.items) same.notes;
      stay = stay_by p q (ap (λ x. x.items) same.notes) (λ n s x. to_stands (taken l u t.last.at) (view q) n s t.last.after (all.stands n s x));
    }
  where
    company_of : (holders : List ℕ) → All (λ holder. Found (view p) (suc holder)) holders → (¬ IsAlone (view p)) ⊎ (holders ≡ [])
    company_of [] found = inr refl
    company_of (h ∷ holders) found = inl (All-head (λ holder. Found (view p) (suc holder)) h holders found).company
