-- Quiet steps leave sections what they were.
use Rattle.std.proofs.Common.{◌≡◌, ℕ, ◌≤◌, Bool, true, false, true≢false, ◌||◌, List, [], ◌∷◌, ◌++◌, refl, sym, ap, ◌∙◌, subst, append_assoc}
use Rattle.std.specs.List.{list_all}
use Rattle.at_view.specs.declared.mark.Mark.{Mark}
use Rattle.at_view.specs.declared.view.View.{View}
use Rattle.at_core.specs.declared.lock.Lock as lock
use Rattle.at_core.specs.declared.note.Note.{Note}
use Rattle.at_core.specs.Passes.{notes, view}
use Rattle.at_section.specs.Deeds.{Deed, tries, gives, loads, other, deed_of, Held, held, blocked_by, blocked_after, is_blocked}
use Rattle.at_section.specs.Quiet.{is_quiet, AreQuiet, GoesOn, QuietStepsStay}
use Rattle.at_section.specs.Scores.{Score, scored, score, Start, opening}
use Rattle.at_section.specs.Sections.{locks_of, IsHeldSince, Stands, Pairs}
use Rattle.at_section.specs.Surfaces.{AreSettled}
use Rattle.at_section.proofs.Scores.{score_more, blocked_more}
use Rattle.at_section.proofs.Standing.{every_map, same_held}

-- the score of a section that has its locks exactly if all of them are held
abbrev IsEven : List lock.Lock → Score → Type 0
IsEven ls z = z.had ≡ list_all z.held ls

or_self : (x y : Bool) → x ≡ y → (x || y) ≡ x
or_self true y e = refl
or_self false y e = sym e

quiet_mark : (ls : List lock.Lock) (z : Score) (d : Deed) (m : Mark) → is_quiet d ≡ true → IsEven ls z → scored ls z d m ≡ record z { blocked = blocked_by d m z.blocked }
quiet_mark ls z tries m q even = absurd (true≢false (sym q))
quiet_mark ls z gives m q even = absurd (true≢false (sym q))
quiet_mark ls z loads m q even = ap (λ (b : Bool). record z { had = b; blocked = false }) (or_self z.had (list_all z.held ls) even)
quiet_mark ls z other m q even = refl

quiet_score : (ls : List lock.Lock) (z : Score) (ms : List Mark) → AreQuiet ms → IsEven ls z → score ls z ms ≡ record z { blocked = blocked_after z.blocked ms }
quiet_score ls z [] q even = refl
quiet_score ls z (m ∷ ms) q even =
    let y : Score = record z { blocked = blocked_by (deed_of m.kind) m z.blocked } in
    ap (λ (x : Score). score ls x ms) (quiet_mark ls z (deed_of m.kind) m q.0 even) ∙ quiet_score ls y ms q.1 even

quiet_stands : (v w : View) (n : Note) (s : Start) → GoesOn v w → n.active ≡ list_all (held v) (locks_of n) → Stands v n s → Stands w n s
quiet_stands v w n s on settled a =
    let z : Score = record { held = held v; had = n.active; given = a.given; blocked = is_blocked v; caused = true } in
    let same : held w ≡ held v = same_held (held v) (held w) (λ l. (on.locks l).held) in
    let blocked : is_blocked w ≡ blocked_after (is_blocked v) on.marks = ap (blocked_after false) on.trace ∙ blocked_more false v.trace on.marks in
    record {
      marks = a.marks ++ on.marks;
      trace = on.trace ∙ (ap (λ t. t ++ on.marks) a.trace ∙ append_assoc s.trace a.marks on.marks);
      given = a.given;
      scored = score_more (locks_of n) (opening s) a.marks on.marks
          ∙ (ap (λ x. score (locks_of n) x on.marks) a.scored
          ∙ (quiet_score (locks_of n) z on.marks on.quiet settled
          ∙ (ap (λ (b : Bool). record z { blocked = b }) (sym blocked) ∙ ap (λ (h : Held). record z { held = h; blocked = is_blocked w }) (sym same))));
      counted = a.counted;
      since = λ none. every_map (IsHeldSince s.place v) (IsHeldSince s.place w) (locks_of n) (λ l has. ((on.locks l).held ∙ has.0, subst (λ (k : ℕ). k ≤ s.place) (sym ((on.locks l).entered has.0)) has.1)) (a.since none);
    }

pairs_each : (v w : View) (ns : List Note) (starts : List Start) → GoesOn v w → AreSettled v ns → Pairs (λ n s. Stands v n s) ns starts → Pairs (λ n s. Stands w n s) ns starts
pairs_each v w [] [] on settled a = tt
pairs_each v w [] (s ∷ starts) on settled a = absurd a
pairs_each v w (n ∷ ns) [] on settled a = absurd a
pairs_each v w (n ∷ ns) (s ∷ starts) on settled a = (quiet_stands v w n s on settled.0 a.0, pairs_each v w ns starts on settled.1 a.1)

pub quiet_steps_stay : QuietStepsStay
quiet_steps_stay p q settled on noted starts a = subst (λ ns. Pairs (λ n s. Stands (view q) n s) ns starts) (sym noted) (pairs_each (view p) (view q) (notes p) starts on settled a)
