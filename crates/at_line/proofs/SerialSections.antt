-- Sections of lines that were done one after another, thread by thread: no other thread's line stands within one.
use Rattle.std.proofs.Common.{◌≡◌, ◌≢◌, ◌∙◌, ℕ, suc, ◌<◌, ◌≤◌, ◌==◌, eq-eqb, ne_eqb, inl, inr, Bool, true, false, List, [], ◌∷◌, ◌++◌, length, map, take, drop, if◌then◌else◌, get_or, refl, sym, ap, subst, append_assoc, arith}
use Rattle.std.specs.Prelude.{All, AllPairs}
use Rattle.std.proofs.lemmas.Bool.{cases_lt, cases_eq}
use Rattle.std.proofs.lemmas.List.{get_or_default}
use Rattle.std.proofs.lemmas.List.Kept.{AllPairs-cons}
use Rattle.std.proofs.lemmas.List.Elements.{All-nil, All-cons, All-head, All-tail, All-append, All-weaker}
use mathlib.Core.Logic.{dite}
use native.Mathlib.Decide.{ℕ_discrete}
use Rattle.at_value.specs.declared.operation.Op as op
use Rattle.at_value.specs.declared.reply.Place.{Place}
use Rattle.at_value.specs.declared.reply.Path as path
use Rattle.at_line.specs.declared.line.Line.{Line}
use Rattle.at_line.specs.declared.line.LineOp as line_op
use Rattle.at_line.specs.declared.line.LineOp.TheVariants as line_ops
use Rattle.at_line.specs.declared.line.LineReply as line_reply
use Rattle.at_line.specs.declared.line.LineReply.TheVariants as line_replies
use Rattle.at_line.specs.declared.line.What as what
use Rattle.at_line.specs.declared.line.What.TheVariants as whats
use Rattle.at_model.specs.World.{World}
use Rattle.at_line.specs.Lines.{what_of, is_write_reply, is_write_line, write_in}
use Rattle.at_line.specs.Legal.{IsPlacedAfter, IsPlacedFrom}
use Rattle.at_line.specs.Kept.{Section, around, whats_of_thread, writes_beside, open_after, open_sections, LeavesAlone, IsKeptEnd, IsKept}
use Rattle.at_line.specs.Serial.{IsSerial, AreByThread}
use Rattle.at_line.proofs.Serials.{placed_from, are_serial}
use Rattle.at_line.proofs.Placed.{split_at}

-- Pairs of a list at an element of it

module _ {X : Type 0} (P : X → Type 0) where
  all_left : (xs ys : List X) → All P (xs ++ ys) → All P xs
  all_left [] ys all = All-nil P
  all_left (x ∷ xs) ys all = All-cons P x xs (All-head P x (xs ++ ys) all) (all_left xs ys (All-tail P x (xs ++ ys) all))

  all_at : (xs : List X) (y : X) (ys : List X) → All P (xs ++ y ∷ ys) → P y
  all_at [] y ys all = All-head P y ys all
  all_at (x ∷ xs) y ys all = all_at xs y ys (All-tail P x (xs ++ y ∷ ys) all)

module _ {X : Type 0} (R : X → X → Type 0) where
  pairs_first : (x : X) (xs : List X) → AllPairs R (x ∷ xs) → All (R x) xs
  pairs_first x xs pairs k d within = pairs 0 (suc k) d (omega arith) (omega arith)

  pairs_rest : (x : X) (xs : List X) → AllPairs R (x ∷ xs) → AllPairs R xs
  pairs_rest x xs pairs i j d before within = pairs (suc i) (suc j) d (omega arith) (omega arith)

  -- what all pairs say of an element, and of those before and after it
  record At (xs : List X) (y : X) (zs : List X) : Type 0 where
    pub among : AllPairs R xs
    pub before : All (λ x. R x y) xs
    pub after : All (R y) zs

  pairs_at : (xs : List X) (y : X) (zs : List X) → AllPairs R (xs ++ y ∷ zs) → At xs y zs
  pairs_at [] y zs pairs = record { among = λ i j d before within. absurd (omega arith); before = All-nil (λ x. R x y); after = pairs_first y zs pairs }
  pairs_at (x ∷ xs) y zs pairs =
      let rest = pairs_at xs y zs (pairs_rest x (xs ++ y ∷ zs) pairs) in
      let first = pairs_first x (xs ++ y ∷ zs) pairs in
      record {
        among = AllPairs-cons R x xs (all_left (R x) xs (y ∷ zs) first) rest.among;
        before = All-cons (λ w. R w y) x xs (all_at (R x) xs y zs first) rest.before;
        after = rest.after;
      }

-- Lines of other threads

abbrev Follows : Line → Line → Type 0
Follows first second = (first.thread ≤ second.thread) × IsPlacedAfter first.what second.what

-- what did something stands at no place above n
abbrev IsUpTo : ℕ → what.What → Type 0
IsUpTo n (whats.Did place path operation reply) = place.0 ≤ n
IsUpTo n (whats.Local local) = Unit {0}

-- each line of another thread stands at no place above n
abbrev OthersUpTo : ℕ → List Line → ℕ → Type 0
OthersUpTo thread lines n = All (λ (line : Line). line.thread ≢ thread → IsUpTo n line.what) lines

-- what is said of the place of a line that did something
abbrev AtPlace : (ℕ → Type 0) → what.What → Type 0
AtPlace P (whats.Did place path operation reply) = P place.0
AtPlace P (whats.Local local) = Unit {0}

module _ (thread : ℕ) (lines : List Line) (pairs : AllPairs Follows lines) (below : All (λ (line : Line). line.thread ≤ thread) lines) where
  -- a line of the thread has all lines of other threads before it
  others_before : (k : ℕ) (d : Line) → k < length lines → (get_or lines k d).thread ≡ thread → (i : ℕ) (e : Line) → i < length lines → (get_or lines i e).thread ≢ thread → IsPlacedFrom (get_or lines i e).what (get_or lines k d).what
  others_before k d within own i e there other =
      let same : get_or lines i e ≡ get_or lines i d = get_or_default lines i e d there in
      let P : Line → Type 0 = λ line. IsPlacedFrom line.what (get_or lines k d).what in
      elim (cases_lt i k) [
        | inl before ↦ subst P (sym same) (placed_from (get_or lines i d).what (get_or lines k d).what (pairs i k d before within).1)
        | inr from ↦
            elim (cases_eq i k) [
              | inl at ↦ absurd (other (ap (λ (line : Line). line.thread) same ∙ (ap (λ (n : ℕ). (get_or lines n d).thread) at ∙ own)))
              | inr apart ↦
                  let rises = (pairs k i d (omega arith) there).0 in
                  let most = below i d there in
                  absurd (other (ap (λ (line : Line). line.thread) same ∙ (let e : (get_or lines i d).thread ≡ thread = omega arith in e)))
            ]
      ]

  up_to : (first second : what.What) → IsPlacedFrom first second → AtPlace (λ n. IsUpTo n first) second
  up_to (whats.Did place path operation reply) (whats.Did second second_path second_operation second_reply) from = from
  up_to (whats.Local local) (whats.Did second second_path second_operation second_reply) from = tt
  up_to first (whats.Local local) from = tt

  at_each : (w : what.What) → All (λ (line : Line). line.thread ≢ thread → IsPlacedFrom line.what w) lines → AtPlace (OthersUpTo thread lines) w
  at_each (whats.Did place path operation reply) all = λ i e there other. up_to (get_or lines i e).what (whats.Did place path operation reply) (all i e there other)
  at_each (whats.Local local) all = tt

  -- so each place of the thread is from those of the other threads on
  own_places : All (λ (line : Line). line.thread ≡ thread → AtPlace (OthersUpTo thread lines) line.what) lines
  own_places k d within own = at_each (get_or lines k d).what (λ i e there other. others_before k d within own i e there other)

-- Sections

-- what is so of lines of a thread is so of what they say
of_thread : (P : what.What → Type 0) (thread : ℕ) (lines : List Line) → All (λ (line : Line). line.thread ≡ thread → P line.what) lines → All P (whats_of_thread thread lines)
of_thread P thread [] all = All-nil P
of_thread P thread (line ∷ lines) all =
    let Q : Line → Type 0 = λ l. l.thread ≡ thread → P l.what in
    let rest = of_thread P thread lines (All-tail Q line lines all) in
    dite (ℕ_discrete line.thread thread)
    (λ (own : line.thread ≡ thread).
    subst (All P) (sym (ap (λ (b : Bool). if b then line.what ∷ whats_of_thread thread lines else whats_of_thread thread lines) (eq-eqb line.thread thread own)))
    (All-cons P line.what (whats_of_thread thread lines) (All-head Q line lines all own) rest))
    (λ (other : line.thread ≢ thread).
    subst (All P) (sym (ap (λ (b : Bool). if b then line.what ∷ whats_of_thread thread lines else whats_of_thread thread lines) (ne_eqb line.thread thread other))) rest)

module _ (P : ℕ → Type 0) where
  abbrev IsBegunSo : Section → Type 0
  IsBegunSo section = P section.begun

  around_so : (sections : List Section) → All IsBegunSo sections → All IsBegunSo (around sections)
  around_so [] all = all
  around_so (section ∷ sections) all = All-tail IsBegunSo section sections all

  open_after_so : (sections : List Section) (w : what.What) → All IsBegunSo sections → AtPlace P w → All IsBegunSo (open_after sections w)
  open_after_so sections (whats.Did place path (line_ops.Of o) reply) all at = all
  open_after_so sections (whats.Did place path (line_ops.Begin a b) reply) all at = All-cons IsBegunSo _ sections at all
  open_after_so sections (whats.Did place path line_ops.Finish reply) all at = around_so sections all
  open_after_so sections (whats.Local local) all at = all

  -- what is so of each place of the lines is so of the begin of each section that they leave open
  open_so : (sections : List Section) (ws : List what.What) → All IsBegunSo sections → All (AtPlace P) ws → All IsBegunSo (open_sections sections ws)
  open_so sections [] all each = all
  open_so sections (w ∷ ws) all each = open_so (open_after sections w) ws (open_after_so sections w all (All-head (AtPlace P) w ws each)) (All-tail (AtPlace P) w ws each)

-- Writes of other threads

beside-append : (thread : ℕ) (xs ys : List Line) → writes_beside thread (xs ++ ys) ≡ writes_beside thread xs ++ writes_beside thread ys
beside-append thread [] ys = refl
beside-append thread (x ∷ xs) ys =
    let rest = beside-append thread xs ys in
    elim (x.thread == thread) as (λ (b : Bool). (if b then writes_beside thread (xs ++ ys) else write_in x.what ++ writes_beside thread (xs ++ ys)) ≡ (if b then writes_beside thread xs else write_in x.what ++ writes_beside thread xs) ++ writes_beside thread ys) [
      | true ↦ rest
      | false ↦ ap (λ ws. write_in x.what ++ ws) rest ∙ sym (append_assoc (write_in x.what) (writes_beside thread xs) (writes_beside thread ys))
    ]

module _ (P : ℕ → Type 0) where
  abbrev WriteSo : ℕ × op.Op → Type 0
  WriteSo write = P write.0

  abbrev WritesSo : what.What → Type 0
  WritesSo w = All WriteSo (write_in w)

  beside_so : (thread : ℕ) (lines : List Line) → All (λ (line : Line). line.thread ≢ thread → WritesSo line.what) lines → All WriteSo (writes_beside thread lines)
  beside_so thread [] all = All-nil WriteSo
  beside_so thread (line ∷ lines) all =
      let Q : Line → Type 0 = λ l. l.thread ≢ thread → WritesSo l.what in
      let rest = beside_so thread lines (All-tail Q line lines all) in
      dite (ℕ_discrete line.thread thread)
      (λ (own : line.thread ≡ thread).
      subst (All WriteSo) (sym (ap (λ (b : Bool). if b then writes_beside thread lines else write_in line.what ++ writes_beside thread lines) (eq-eqb line.thread thread own))) rest)
      (λ (other : line.thread ≢ thread).
      subst (All WriteSo) (sym (ap (λ (b : Bool). if b then writes_beside thread lines else write_in line.what ++ writes_beside thread lines) (ne_eqb line.thread thread other)))
      (All-append WriteSo (write_in line.what) (writes_beside thread lines) (All-head Q line lines all other) rest))

  -- what is so of the place of a write is so of the line's write
  writes_so : (w : what.What) → (is_write_line w ≡ true → AtPlace P w) → WritesSo w
  writes_so (whats.Did place path (line_ops.Of o) reply) at = by_reply (is_write_reply reply) at
    where
      by_reply : (written : Bool) → (written ≡ true → P place.0) → All WriteSo (if written then (place.0, o) ∷ [] else [])
      by_reply true here = All-cons WriteSo (place.0, o) [] (here refl) (All-nil WriteSo)
      by_reply false here = All-nil WriteSo
  writes_so (whats.Did place path (line_ops.Begin a b) reply) at = All-nil WriteSo
  writes_so (whats.Did place path line_ops.Finish reply) at = All-nil WriteSo
  writes_so (whats.Local local) at = All-nil WriteSo

-- The end of a section

up_to_place : (n : ℕ) (w : what.What) → IsUpTo n w → AtPlace (λ m. m ≤ n) w
up_to_place n (whats.Did place path operation reply) up = up
up_to_place n (whats.Local local) up = tt

past_place : (ended : Place) (path : path.Path) (o : line_op.LineOp) (r : line_reply.LineReply) (w : what.What) → IsPlacedAfter (whats.Did ended path o r) w → is_write_line w ≡ true → AtPlace (λ m. ended.0 < m) w
past_place ended path o r (whats.Did place second_path second_operation second_reply) after wrote = after.1 wrote
past_place ended path o r (whats.Local local) after wrote = tt

-- a write up to the begin or past the end of a section leaves it alone
outside : (opened : World) (history : List op.Op) (begun ended : ℕ) (objects : List ℕ) (before after : List (ℕ × op.Op)) → All (λ (write : ℕ × op.Op). write.0 ≤ begun) before → All (λ (write : ℕ × op.Op). ended < write.0) after
    → All (LeavesAlone opened history begun ended objects) (before ++ after)
outside opened history begun ended objects before after up past =
    All-append (LeavesAlone opened history begun ended objects) before after
    (All-weaker (λ (write : ℕ × op.Op). write.0 ≤ begun) (LeavesAlone opened history begun ended objects) (λ write is later. absurd (omega arith)) before up)
    (All-weaker (λ (write : ℕ × op.Op). ended < write.0) (LeavesAlone opened history begun ended objects) (λ write is later within. absurd (omega arith)) after past)

module _ (opened : World) (history : List op.Op) (thread number : ℕ) (w : what.What) (before after : List Line) where
  abbrev line : Line
  line = record { what = w; number = number; thread = thread }

  kept_at : All (AtPlace (OthersUpTo thread before)) (whats_of_thread thread before) → All (Follows line) after → IsKeptEnd opened history (writes_beside thread before ++ writes_beside thread after) (open_sections [] (whats_of_thread thread before)) w
  kept_at own follows = by_line w (open_sections [] (whats_of_thread thread before)) (open_so (OthersUpTo thread before) [] (whats_of_thread thread before) (All-nil (IsBegunSo (OthersUpTo thread before))) own) follows_what
    where
      follows_what : All (λ (second : Line). IsPlacedAfter w second.what) after
      follows_what = All-weaker (Follows line) (λ (second : Line). IsPlacedAfter w second.what) (λ second is. is.1) after follows

      by_line : (v : what.What) → (sections : List Section) → All (IsBegunSo (OthersUpTo thread before)) sections → All (λ (second : Line). IsPlacedAfter v second.what) after → IsKeptEnd opened history (writes_beside thread before ++ writes_beside thread after) sections v
      by_line (whats.Did place path (line_ops.Of o) reply) sections begun later = tt
      by_line (whats.Did place path (line_ops.Begin a b) reply) sections begun later = tt
      by_line (whats.Did place path line_ops.Finish (line_replies.Of reply)) sections begun later = tt
      by_line (whats.Did place path line_ops.Finish line_replies.Kept) [] begun later = tt
      by_line (whats.Did place path line_ops.Finish line_replies.Kept) (section ∷ sections) begun later =
          let up : OthersUpTo thread before section.begun = All-head (IsBegunSo (OthersUpTo thread before)) section sections begun in
          outside opened history section.begun place.0 section.objects (writes_beside thread before) (writes_beside thread after)
          (beside_so (λ m. m ≤ section.begun) thread before (λ k d within other. writes_so (λ m. m ≤ section.begun) (get_or before k d).what (λ wrote. up_to_place section.begun (get_or before k d).what (up k d within other))))
          (beside_so (λ m. place.0 < m) thread after (λ k d within other. writes_so (λ m. place.0 < m) (get_or after k d).what (λ wrote. past_place place path line_ops.Finish line_replies.Kept (get_or after k d).what (later k d within) wrote)))
      by_line (whats.Did place path line_ops.Finish (line_replies.Suspended times)) sections begun later = tt
      by_line (whats.Local local) sections begun later = tt

pub serial_kept : (opened : World) (lines : List Line) (history : List op.Op) → AreByThread lines → IsSerial opened [] (map what_of lines) history → IsKept opened history lines
serial_kept opened lines history by_thread serial i line at =
    let placed = (are_serial opened lines history serial).rising in
    let before : List Line = take i lines in
    let after : List Line = drop (suc i) lines in
    let parts : lines ≡ before ++ line ∷ after = split_at lines i line at in
    let pairs : AllPairs Follows lines = λ k j d less within. (by_thread k j d less within, placed k j d less within) in
    let here = pairs_at Follows before line after (subst (AllPairs Follows) parts pairs) in
    let below : All (λ (first : Line). first.thread ≤ line.thread) before = All-weaker (λ (first : Line). Follows first line) (λ (first : Line). first.thread ≤ line.thread) (λ first is. is.0) before here.before in
    let own = of_thread (AtPlace (OthersUpTo line.thread before)) line.thread before (own_places line.thread before here.among below) in
    let beside : writes_beside line.thread lines ≡ writes_beside line.thread before ++ writes_beside line.thread after =
    ap (writes_beside line.thread) parts
    ∙ (beside-append line.thread before (line ∷ after)
    ∙ ap (λ (b : Bool). writes_beside line.thread before ++ (if b then writes_beside line.thread after else write_in line.what ++ writes_beside line.thread after)) (eq-eqb line.thread line.thread refl)) in
    subst (λ ws. IsKeptEnd opened history ws (open_sections [] (whats_of_thread line.thread before)) line.what) (sym beside)
    (kept_at opened history line.thread line.number line.what before after own here.after)
