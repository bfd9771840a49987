-- Where sections begin and end.
use Rattle.std.proofs.Common.{◌≡◌, ℕ, ◌≤◌, Bool, true, false, true≢false, ◌==◌, ◌||◌, List, [], ◌∷◌, ◌++◌, length, Option, refl, sym, ap, ◌∙◌, subst, arith, append-nil}
use Rattle.std.specs.Prelude.{Some, None}
use Rattle.std.specs.List.{list_all}
use Rattle.std.proofs.lemmas.Bool.{and_parts}
use Rattle.std.proofs.lemmas.List.{length-map}
use mathlib.Core.List.{IsPrefix}
use Rattle.at_model.specs.World.{World}
use Rattle.at_value.specs.declared.limits.Limits.{Limits}
use Rattle.at_value.specs.declared.operation.Op as op
use Rattle.at_view.specs.declared.mark.Mark.{Mark}
use Rattle.at_view.specs.declared.mark.StepKind.TheVariants as kinds
use Rattle.at_view.specs.declared.view.View.{View}
use Rattle.at_view.specs.Words as words
use Rattle.at_core.specs.declared.lock.Lock as lock
use Rattle.at_core.specs.declared.lock.Lock.TheVariants as locks
use Rattle.at_core.specs.declared.note.Note.{Note}
use Rattle.at_core.specs.Locks.{hold_of, holds, AreKeptAt, AvoidsRow}
use Rattle.at_core.specs.Opened.{opening_of}
use Rattle.at_core.specs.PlacePlays.{Saw}
use Rattle.at_core.specs.PlaceSteps.{place_loaded}
use Rattle.at_core.specs.Steps.{mark}
use Rattle.at_core.proofs.Prefixes.{prefix_length}
use Rattle.at_section.specs.declared.ended.Ended.{Ended}
use Rattle.at_section.specs.declared.ended.How as how
use Rattle.at_section.specs.declared.ended.How.TheVariants as hows
use Rattle.at_section.specs.Calls.{IsLeft, AvoidsRows, Ends, given_of, IsSuspended}
use Rattle.at_section.specs.Deeds.{word_of, names, held, is_blocked, Every}
use Rattle.at_section.specs.Scores.{Start, start_of, opening, capped}
use Rattle.at_section.specs.Sections.{types_lock, row_lock, locks_of, named_locks, IsHeldSince, Stands}
use Rattle.at_section.specs.Surfaces.{NamesNoTypes}
use Rattle.at_section.proofs.Scores.{kept_gives_none}
use Rattle.at_section.proofs.Standing.{word_apart, named_one, not_capped, blocked_marked}

-- The note of a section that begins

pub begun_stands : (v : View) (n : Note) (place : ℕ) → n.active ≡ true → n.given ≡ 0 → is_blocked v ≡ false → Every (IsHeldSince place v) (locks_of n) → Stands v n (start_of v place)
begun_stands v n place active never free since = record {
  marks = [];
  trace = sym (append-nil v.trace);
  given = 0;
  scored = λ i. record { held = held v; had = sym active i; given = 0; blocked = sym free i; caused = true };
  counted = never;
  since = λ _. since;
}

-- each lock that is held was taken no later than the place
pub each_entered : (opened : World) (v : View) (at : List op.Op) (place : ℕ) (ls : List lock.Lock) → length at ≡ place → AreKeptAt opened v at → list_all (held v) ls ≡ true → Every (IsHeldSince place v) ls
each_entered opened v at place [] long kept has = tt
each_entered opened v at place (l ∷ ls) long kept has =
    let t = and_parts (holds l v) (list_all (held v) ls) has in
    let k = kept l t.0 in
    let came = k.came in
    let le = prefix_length (hold_of l v).since at k.begun in
    ((t.0, omega arith), each_entered opened v at place ls long kept t.1)

pub unblocked : (v w : View) (at : List op.Op) → w ≡ place_loaded v at → is_blocked w ≡ false
unblocked v w at e = ap is_blocked e ∙ blocked_marked v (place_loaded v at) (mark kinds.PlaceLoad words.place (Some (length at)) (Some (length at))) refl

-- What the end tells

avoids_later : (opened : World) (entered place : ℕ) (own : List ℕ) (at : List op.Op) (o : ℕ) → entered ≤ place → AvoidsRow opened entered own at o → AvoidsRow opened place own at o
avoids_later opened entered place own at o le f point operation begins after = f point operation begins (omega arith)

avoids_rows : (v w : View) (at : List op.Op) (place : ℕ) (ls : List lock.Lock) → IsLeft v w → Saw (opening_of v.who.limits) v at → Every (IsHeldSince place v) ls → AvoidsRows ls place w at
avoids_rows v w at place ls left saw since o named =
    let h = named_one (IsHeldSince place v) ls (locks.Row o) named since in
    let kept = avoids_later (opening_of v.who.limits) (hold_of (locks.Row o) v).entered place v.history.own at o h.1 (saw.kept (locks.Row o) h.0).excludes in
    let P : Limits → List ℕ → Type 0 = λ limits own. AvoidsRow (opening_of limits) place own at o in
    subst (λ limits. P limits w.history.own) (sym (ap (λ x. x.limits) left.who)) (subst (P v.who.limits) (sym left.own) kept)

pub ends_of : (p q t : View) (n : Note) (s : Start) (at : List op.Op) (more : List Mark) (r : Ended) → Stands p n s → q ≡ place_loaded p at → t.trace ≡ q.trace ++ more → Saw (opening_of p.who.limits) p at
    → IsLeft p t → IsLeft q t → length at ≡ r.place.0 → given_of r.how ≡ n.given → IsSuspended r.how → list_all (held p) (locks_of n) ≡ true → Ends s (locks_of n) t r
ends_of p q t n s at more r a e adds saw left later long counted some has = record {
  marks = a.marks;
  more = more;
  trace = adds ∙ ap (λ x. x ++ more) (ap (λ v. v.trace) e ∙ (λ i. a.trace i ++ mark kinds.PlaceLoad words.place (Some (long i)) (Some (long i)) ∷ []));
  counted = counted ∙ (a.counted ∙ ap capped (sym (ap (λ z. z.given) a.scored)));
  some = some;
  caused = ap (λ z. z.caused) a.scored;
  held = ap (λ z. list_all z.held (locks_of n)) a.scored ∙ has;
  kept = λ is. (kept_gives_none (locks_of n) (opening s) a.marks refl (ap (λ z. z.given) a.scored ∙ none is)).0;
  history = at;
  begins = subst (λ (h : List op.Op). IsPrefix h t.history.seen) (ap (λ v. v.history.seen) e) later.seen;
  long = long;
  avoids = λ is. avoids_rows p t at s.place (locks_of n) left saw (a.since (sym counted ∙ ap given_of is));
}
  where
    none : r.how ≡ hows.Kept → a.given ≡ 0
    none is = not_capped a.given (sym a.counted ∙ (sym counted ∙ ap given_of is))

pub never_kept : (h : how.How) → given_of h ≡ 0 → IsSuspended h → h ≡ hows.Kept
never_kept hows.Kept e some = refl
never_kept (hows.Suspended k) e some = absurd (omega arith)

-- Whether sections name the lock of the types

pub other_word : (o : ℕ) → (word_of (locks.Row o) == word_of locks.Types) ≡ false
other_word o = word_apart (locks.Row o) locks.Types (λ e. true≢false (sym (ap is_types e)))
  where
    is_types : lock.Lock → Bool
    is_types locks.Types = true
    is_types (locks.Row p) = false

pub rows_differ : (a b : Option ℕ) → names (row_lock a ++ row_lock b) (word_of locks.Types) ≡ false
rows_differ None None = refl
rows_differ None (Some p) = ap (λ x. x || false) (other_word p)
rows_differ (Some o) None = ap (λ x. x || false) (other_word o)
rows_differ (Some o) (Some p) = λ i. other_word o i || (other_word p i || false)

pub names_types : (n : Note) → names (locks_of n) (word_of locks.Types) ≡ n.types
names_types n = by_types n.types
  where
    by_types : (b : Bool) → names (types_lock b ++ (row_lock n.a ++ row_lock n.b)) (word_of locks.Types) ≡ b
    by_types true = refl
    by_types false = rows_differ n.a n.b

pub same_types : (ns ms : List Note) → named_locks ns ≡ named_locks ms → NamesNoTypes ms → NamesNoTypes ns
same_types [] ms e a = tt
same_types (n ∷ ns) [] e a = absurd (cc (e))
same_types (n ∷ ns) (m ∷ ms) e a =
    let one : locks_of n ≡ locks_of m = cc (e) in
    let others : named_locks ns ≡ named_locks ms = cc (e) in
    (sym (names_types n) ∙ (ap (λ ls. names ls (word_of locks.Types)) one ∙ (names_types m ∙ a.0)), same_types ns ms others a.1)

pub as_many : (ns ms : List Note) → named_locks ns ≡ named_locks ms → length ns ≡ length ms
as_many ns ms e = sym (length-map ns locks_of) ∙ (ap length e ∙ length-map ms locks_of)
