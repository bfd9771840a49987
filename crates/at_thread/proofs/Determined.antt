-- Executions that are told the same are the same.
use Rattle.std.proofs.Common.{◌≡◌, ◌∙◌, refl, sym, ap, subst, ℕ, zero, suc, true, List, [], ◌∷◌, ◌++◌}
use Rattle.at_value.specs.declared.operation.Op as op
use Rattle.at_line.specs.declared.line.LineReply as line_reply
use Rattle.at_line.specs.declared.line.LineOp as line_op
use Rattle.at_line.specs.declared.line.LineOp.TheVariants as line_ops
use Rattle.at_line.specs.declared.line.Local as local
use Rattle.at_line.specs.declared.line.Local.TheVariants as locals
use Rattle.at_line.specs.declared.line.What as what
use Rattle.at_line.specs.declared.line.What.TheVariants as whats
use Rattle.at_script.specs.Parts.{ScriptParts}
use Rattle.at_thread.specs.Execution.{ThreadState, Transition, ended, silent, checkpoints, says, asks, dropped, taken, next_of}
use Rattle.at_thread.specs.Executions.{stands_for_op, stands_for, Fits, Leads, IsExecution}
use Rattle.at_thread.specs.Laws.{Told, replied, declined, told_by, all_told}

-- a line that stands in the place of an operation is told
told_declined_op : (o : op.Op) (l : local.Local) → stands_for_op o l ≡ true → told_by (whats.Local l) ≡ declined l ∷ []
told_declined_op o (locals.Full place) e = refl
told_declined_op o (locals.Worn sequence) e = refl
told_declined_op o locals.Depth e = cc
told_declined_op o locals.Budget e = cc
told_declined_op o locals.Kind e = cc
told_declined_op o (locals.Unbound a) e = cc
told_declined_op o locals.NotCallable e = cc

told_declined : (o : line_op.LineOp) (l : local.Local) → stands_for o l ≡ true → told_by (whats.Local l) ≡ declined l ∷ []
told_declined (line_ops.Of o) l e = told_declined_op o l e
told_declined (line_ops.Begin a b) l e = cc
told_declined line_ops.Finish l e = cc

same_rest : (w : what.What) (xs ys : List Told) → told_by w ++ xs ≡ told_by w ++ ys → xs ≡ ys
same_rest (whats.Did place path o r) xs ys e = cc
same_rest (whats.Local (locals.Full place)) xs ys e = cc
same_rest (whats.Local (locals.Worn sequence)) xs ys e = cc
same_rest (whats.Local locals.Depth) xs ys e = e
same_rest (whats.Local locals.Budget) xs ys e = e
same_rest (whats.Local locals.Kind) xs ys e = e
same_rest (whats.Local (locals.Unbound a)) xs ys e = e
same_rest (whats.Local locals.NotCallable) xs ys e = e

-- what two executions that are told the same agree on
abbrev pub Alike : List what.What → List what.What → ThreadState → ThreadState → Type 0
Alike first second t u = (first ≡ second) × (t ≡ u)

module _ (t u : ThreadState) (on off : ThreadState → List what.What → Type 0) (same : (s : ThreadState) (first second : List what.What) → on s first → off s second → all_told first ≡ all_told second → Alike first second t u) where
  with_head : (w : what.What) (s : ThreadState) (first second : List what.What) → on s first → off s second → all_told (w ∷ first) ≡ all_told (w ∷ second) → Alike (w ∷ first) (w ∷ second) t u
  with_head w s first second f g e =
      let k = same s first second f g (same_rest w (all_told first) (all_told second) e) in
      (ap (λ rest. w ∷ rest) k.0, k.1)

  both : (next : Transition) (first second : List what.What) → Fits on next first → Fits off next second → all_told first ≡ all_told second → Alike first second t u
  both ended first second f g e = absurd f
  both (silent s) first second f g e = same s first second f g e
  both (checkpoints s) first second f g e = same s first second f g e
  both (says l s) [] second f g e = absurd f
  both (says l s) (w ∷ first) [] f g e = absurd g
  both (says l s) (w ∷ first) (v ∷ second) f g e =
      let heads : w ≡ v = f.0 ∙ sym g.0 in
      subst (λ (x : what.What). all_told (w ∷ first) ≡ all_told (x ∷ second) → Alike (w ∷ first) (x ∷ second) t u) heads (with_head w s first second f.1 g.1) e
  both (asks o k s) [] second f g e = absurd f
  both (asks o k s) (w ∷ first) [] f g e = absurd g
  both (asks o k s) (whats.Did p a o1 r ∷ first) (whats.Did q b o2 r2 ∷ second) f g e =
      let places : p ≡ q = cc in
      let ways : a ≡ b = cc in
      let replied : r ≡ r2 = cc in
      let heads : whats.Did p a o1 r ≡ whats.Did q b o2 r2 = cc in
      let moved : off (taken k r s) second = subst (λ (z : line_reply.LineReply). off (taken k z s) second) (sym replied) g.2 in
      subst (λ (z : what.What). all_told (whats.Did p a o1 r ∷ first) ≡ all_told (z ∷ second) → Alike (whats.Did p a o1 r ∷ first) (z ∷ second) t u) heads (with_head (whats.Did p a o1 r) (taken k r s) first second f.2 moved) e
  both (asks o k s) (whats.Did p a o1 r ∷ first) (whats.Local l ∷ second) f g e =
      absurd (subst (λ (x : List Told). replied p a r ∷ all_told first ≡ x ++ all_told second → ⊥) (sym (told_declined o l g.0)) (λ bad. cc) e)
  both (asks o k s) (whats.Local l ∷ first) (whats.Did q b o2 r2 ∷ second) f g e =
      absurd (subst (λ (x : List Told). x ++ all_told first ≡ replied q b r2 ∷ all_told second → ⊥) (sym (told_declined o l f.0)) (λ bad. cc) e)
  both (asks o k s) (whats.Local l ∷ first) (whats.Local m ∷ second) f g e =
      let there : declined l ∷ all_told first ≡ declined m ∷ all_told second = sym (ap (λ (x : List Told). x ++ all_told first) (told_declined o l f.0)) ∙ (e ∙ ap (λ (x : List Told). x ++ all_told second) (told_declined o m g.0)) in
      let lm : l ≡ m = cc in
      subst (λ (z : local.Local). all_told (whats.Local l ∷ first) ≡ all_told (whats.Local z ∷ second) → Alike (whats.Local l ∷ first) (whats.Local z ∷ second) t u) lm (with_head (whats.Local l) (dropped s) first second f.1 g.1) e

-- nothing leads on from a state that has ended
stays : (p : ScriptParts) (n : ℕ) (s : ThreadState) (lines : List what.What) (u : ThreadState) → next_of p s ≡ ended → Leads p n s lines u → (lines ≡ []) × (s ≡ u)
stays p zero s lines u e l = l
stays p (suc n) s lines u e l = absurd (subst (λ (next : Transition). Fits (λ x rest. Leads p n x rest u) next lines) e l)

same_leads : (p : ScriptParts) (n m : ℕ) (s : ThreadState) (first second : List what.What) (t u : ThreadState) → next_of p t ≡ ended → next_of p u ≡ ended → Leads p n s first t → Leads p m s second u → all_told first ≡ all_told second → Alike first second t u
same_leads p zero m s first second t u et eu l k e =
    let z = stays p m s second u (ap (next_of p) l.1 ∙ et) k in
    (l.0 ∙ sym z.0, sym l.1 ∙ z.1)
same_leads p (suc n) zero s first second t u et eu l k e =
    let z = stays p (suc n) s first t (ap (next_of p) k.1 ∙ eu) l in
    (z.0 ∙ sym k.0, sym z.1 ∙ k.1)
same_leads p (suc n) (suc m) s first second t u et eu l k e =
    both t u (λ x rest. Leads p n x rest t) (λ x rest. Leads p m x rest u) (λ x a b f g h. same_leads p n m x a b t u et eu f g h) (next_of p s) first second l k e

pub determined : (p : ScriptParts) (s t u : ThreadState) (first second : List what.What) → IsExecution p s first t → IsExecution p s second u → all_told first ≡ all_told second → (first ≡ second) × (t ≡ u)
determined p s t u first second f g e = same_leads p f.1 g.1 s first second t u f.0 g.0 f.2 g.2 e
