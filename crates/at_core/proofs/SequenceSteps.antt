-- What steps do to the part on the sequences of passes.
use Rattle.std.proofs.Common.{◌≡◌, ◌≢◌, ℕ, ◌<◌, ◌≤◌, true, false, true≢false, List, [], ◌∷◌, ◌++◌, set, sym, ap, ◌∙◌, subst, arith}
use mathlib.Core.Option.{some}
use mathlib.Core.Logic.{dite}
use native.Mathlib.Decide.{ℕ_discrete}
use lib.ListN.{get_elem?}
use Rattle.atomic_table.proofs.Lists.{at_longer, set_here}
use Rattle.at_core.specs.Reads.{SequenceRead}
use Rattle.at_core.specs.Rule.{SequenceRule}
use Rattle.at_core.proofs.Lists.{each_set, each_other, each_snoc, each_back, there}

-- nobody live has the number
abbrev IsSpare : ℕ → ℕ → SequenceRead → Type 0
IsSpare q i v = v.live ≡ true → v.number ≢ q

-- what a step makes of a view: it is the same pass
pub record IsSameRead (v w : SequenceRead) : Type 0 where
  pub live : w.live ≡ v.live
  pub number : w.number ≡ v.number

module _ (global : ℕ) (own : ℕ → ℕ) (views : List SequenceRead) (rule : SequenceRule global own views) where
  spare_before : (id : ℕ) (v w : SequenceRead) → get_elem? views id ≡ some v → IsSameRead v w → (q : ℕ) → ((i : ℕ) (u : SequenceRead) → get_elem? (set views id w) i ≡ some u → IsSpare q i u) → own q ≡ 0
  spare_before id v w at same q none = rule.spare q (each_back (IsSpare q) views id v w at (λ h live is. h (same.live ∙ live) (same.number ∙ is)) none)

  -- the global sequence is loaded
  pub sequence_loaded : (id : ℕ) (v w : SequenceRead) → get_elem? views id ≡ some v → IsSameRead v w → w.online ≡ v.online → w.global ≤ global → SequenceRule global own (set views id w)
  sequence_loaded id v w at same online le = record {
    begun = rule.begun;
    loaded = each_set (λ i u. u.global ≤ global) views id w rule.loaded le;
    offline = each_set (λ i u. u.live ≡ true → u.online ≡ false → own u.number ≡ 0) views id w rule.offline
        (λ live off. ap own same.number ∙ rule.offline id v at (sym same.live ∙ live) (sym online ∙ off));
    online = each_set (λ i u. u.live ≡ true → u.online ≡ true → (0 < own u.number) × (own u.number ≤ global)) views id w rule.online
        (λ live on. subst (λ (n : ℕ). (0 < own n) × (own n ≤ global)) (sym same.number) (rule.online id v at (sym same.live ∙ live) (sym online ∙ on)));
    spare = spare_before id v w at same;
  }

  -- a live pass stores its own sequence: it is online with one that isn't 0, or offline with 0
  module _ (id : ℕ) (v w : SequenceRead) (at : get_elem? views id ≡ some v) (same : IsSameRead v w) (live : v.live ≡ true) (loaded : w.global ≡ v.global)
      (after : ℕ → ℕ) (others : (r : ℕ) → r ≢ v.number → after r ≡ own r)
      (off : w.online ≡ false → after v.number ≡ 0) (on : w.online ≡ true → (0 < after v.number) × (after v.number ≤ global))
      (apart : (j : ℕ) (u : SequenceRead) → j ≢ id → get_elem? views j ≡ some u → u.live ≡ true → u.number ≢ v.number) where
    pub sequence_stored : SequenceRule global after (set views id w)
    sequence_stored = record {
      begun = rule.begun;
      loaded = each_set (λ i u. u.global ≤ global) views id w rule.loaded (let le = rule.loaded id v at in omega (arith, le, loaded));
      offline = each_other (λ i u. u.live ≡ true → u.online ≡ false → after u.number ≡ 0) views id w
          (λ j u ne e l o. others u.number (apart j u ne e l) ∙ rule.offline j u e l o)
          (λ l o. ap after same.number ∙ off o);
      online = each_other (λ i u. u.live ≡ true → u.online ≡ true → (0 < after u.number) × (after u.number ≤ global)) views id w
          (λ j u ne e l o. subst (λ (n : ℕ). (0 < n) × (n ≤ global)) (sym (others u.number (apart j u ne e l))) (rule.online j u e l o))
          (λ l o. subst (λ (n : ℕ). (0 < after n) × (after n ≤ global)) (sym same.number) (on o));
      spare = λ q none. dite (ℕ_discrete q v.number)
          (λ (is : q ≡ v.number). absurd (none id w (set_here views id w (there views id v at)) (same.live ∙ live) (same.number ∙ sym is)))
          (λ (ne : q ≢ v.number). others q ne ∙ spare_before id v w at same q none);
    }

  -- a new pass with a number of no live one, offline
  pub sequence_grown : (c : SequenceRead) → c.online ≡ false → c.global ≡ 0 → own c.number ≡ 0 → SequenceRule global own (views ++ c ∷ [])
  sequence_grown c off none zero_own = record {
    begun = rule.begun;
    loaded = each_snoc (λ i u. u.global ≤ global) views c rule.loaded (λ j. omega (arith, none));
    offline = each_snoc (λ i u. u.live ≡ true → u.online ≡ false → own u.number ≡ 0) views c rule.offline (λ j l o. zero_own);
    online = each_snoc (λ i u. u.live ≡ true → u.online ≡ true → (0 < own u.number) × (own u.number ≤ global)) views c rule.online (λ j l o. absurd (true≢false (sym o ∙ off)));
    spare = λ q all. rule.spare q (λ j u e. all j u (at_longer views (c ∷ []) j u e));
  }

  -- a pass that was offline is no more
  pub sequence_spent : (other : ℕ) (u b : SequenceRead) → get_elem? views other ≡ some u → u.live ≡ true → u.online ≡ false → b.live ≡ false → b.global ≡ 0 → SequenceRule global own (set views other b)
  sequence_spent other u b at live off dead none = record {
    begun = rule.begun;
    loaded = each_set (λ i x. x.global ≤ global) views other b rule.loaded (omega (arith, none));
    offline = each_set (λ i x. x.live ≡ true → x.online ≡ false → own x.number ≡ 0) views other b rule.offline (λ l o. absurd (true≢false (sym l ∙ dead)));
    online = each_set (λ i x. x.live ≡ true → x.online ≡ true → (0 < own x.number) × (own x.number ≤ global)) views other b rule.online (λ l o. absurd (true≢false (sym l ∙ dead)));
    spare = λ q all. dite (ℕ_discrete q u.number)
        (λ (is : q ≡ u.number). ap own is ∙ rule.offline other u at live off)
        (λ (ne : q ≢ u.number). rule.spare q (each_back (IsSpare q) views other u b at (λ _ l is. ne (sym is)) all));
  }
