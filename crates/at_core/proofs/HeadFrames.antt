-- What steps on locks, splits and joins leave of the part on heads, keys and inline values.
use Rattle.std.proofs.Common.{◌≡◌, ◌≢◌, ℕ, zero, suc, ◌<◌, ◌≤◌, Bool, true, false, List, [], ◌∷◌, map, set, get_or, eq-eqb, ne_eqb, ◌⊎◌, inl, inr, refl, sym, ap, ◌∙◌, subst, arith}
use Rattle.std.specs.Prelude.{Option, None, All, slice_index, if◌then◌else◌}
use Rattle.std.proofs.lemmas.Bool.{cases_lt}
use Rattle.std.proofs.lemmas.List.Elements.{All-nil}
use mathlib.Core.Logic.{dite}
use native.Mathlib.Decide.{ℕ_discrete}
use Rattle.at_value.specs.declared.operation.Op as op
use Rattle.at_value.specs.declared.value.Value as value
use Rattle.at_value.specs.Pairs.{value_at}
use Rattle.at_model.specs.World.{World, Map}
use Rattle.at_model.specs.History.{replay}
use Rattle.at_view.specs.declared.view.ClassKeys.{ClassKeys}
use Rattle.at_view.specs.declared.view.HeadLook.{HeadLook}
use Rattle.at_view.specs.declared.view.View.{View}
use Rattle.at_core.specs.Heads.{IsWhole, IsOpened}
use Rattle.at_core.specs.Inline.{AreKeys, HaveGrown, IsWordOf, AreValuesOf}
use Rattle.at_core.specs.Looks.{keys_at, IsBacked}
use Rattle.at_core.specs.Reads.{open_read}
use Rattle.at_core.specs.Rule.{OpenRule, HeadRule, HeadParts, listed}
use Rattle.at_core.proofs.Lists.{each_set}
use Rattle.at_core.proofs.Parts.{changed}

pub odd_even : (word : ℕ) → IsOpened word → IsWhole word → ⊥
odd_even word odd even = absurd (omega arith)

-- Lists that have the first values of a function

pub listed_at : {A : Type 0} (n : ℕ) (f : ℕ → A) (i : ℕ) (d : A) → i < n → get_or (listed n f) i d ≡ f i
listed_at zero f i d lt = absurd (omega arith)
listed_at (suc n) f zero d lt = refl
listed_at (suc n) f (suc i) d lt = listed_at n (λ j. f (suc j)) i d (omega arith)

pub listed_past : {A : Type 0} (n : ℕ) (f : ℕ → A) (i : ℕ) (d : A) → n ≤ i → get_or (listed n f) i d ≡ d
listed_past zero f zero d le = refl
listed_past zero f (suc i) d le = refl
listed_past (suc n) f zero d le = absurd (omega arith)
listed_past (suc n) f (suc i) d le = listed_past n (λ j. f (suc j)) i d (omega arith)

-- where the function is 0 past them, they are the function
pub listed_all : (n : ℕ) (f : ℕ → ℕ) → ((i : ℕ) → n ≤ i → f i ≡ 0) → slice_index (listed n f) ≡ f
listed_all n f past = λ t i. on_side i (cases_lt i n) t
  where
    on_side : (i : ℕ) → (i < n) ⊎ (n ≤ i) → get_or (listed n f) i 0 ≡ f i
    on_side i (inl lt) = listed_at n f i 0 lt
    on_side i (inr le) = listed_past n f i 0 le ∙ sym (past i le)

-- the first of them are among those that there are
pub listed_grown : (n : ℕ) (f : ℕ → ℕ) → HaveGrown (slice_index (listed n f)) f
listed_grown n f i used = by_side (cases_lt i n)
  where
    by_side : (i < n) ⊎ (n ≤ i) → f i ≡ get_or (listed n f) i 0
    by_side (inl lt) = sym (listed_at n f i 0 lt)
    by_side (inr le) = absurd (used (listed_past n f i 0 le))

-- one of them is another
pub listed_set : {A : Type 0} (n : ℕ) (f f' : ℕ → A) (i : ℕ) (x : A) → i < n → f' i ≡ x → ((j : ℕ) → j ≢ i → f' j ≡ f j) → set (listed n f) i x ≡ listed n f'
listed_set zero f f' i x lt here others = absurd (omega arith)
listed_set {A} (suc n) f f' zero x lt here others =
    let rest : (λ j. f (suc j)) ≡ (λ j. f' (suc j)) = λ t j. sym (others (suc j) (λ e. omega arith)) t in
    λ t. sym here t ∷ listed n (rest t)
listed_set {A} (suc n) f f' (suc i) x lt here others =
    let first : f 0 ≡ f' 0 = sym (others 0 (λ e. omega arith)) in
    let more = listed_set n (λ j. f (suc j)) (λ j. f' (suc j)) i x (omega arith) here (λ j ne. others (suc j) (λ e. ne (omega arith))) in
    λ t. first t ∷ more t

-- Keys that grow

pub grown_trans : (a b c : ℕ → ℕ) → HaveGrown a b → HaveGrown b c → HaveGrown a c
grown_trans a b c p q i used = q i (λ z. used (sym (p i used) ∙ z)) ∙ p i used

not_zero : (k n : ℕ) → k ≡ suc n → k ≢ 0
not_zero k n e z = absurd (omega arith)

pub grown_key : (a b : ℕ → ℕ) (i n : ℕ) → HaveGrown a b → a i ≡ suc n → b i ≡ suc n
grown_key a b i n p e = p i (not_zero (a i) n e) ∙ e

-- more keys change nothing of what inline values are
pub values_grow : (pairs : Map) (keys more values : ℕ → ℕ) → AreKeys more → HaveGrown keys more → AreValuesOf pairs keys values → AreValuesOf pairs more values
values_grow pairs keys more values are grown a = record {
  under = λ i n e. dite (ℕ_discrete (keys i) 0)
      (λ (z : keys i ≡ 0).
      let none : value_at n pairs ≡ None = a.named n (λ j used.
      let same : j ≡ i = are.distinct j i n (grown_key keys more j n grown used) e in
      not_zero (keys j) n used (ap keys same ∙ z)) in
      subst (λ (found : Option value.Value). IsWordOf found (values i)) (sym none) (a.past i z))
      (λ (ne : keys i ≢ 0). a.under i n (sym (grown i ne) ∙ e));
  named = λ n none. a.named n (λ i e. none i (grown_key keys more i n grown e));
  past = λ i z. dite (ℕ_discrete (keys i) 0) (λ (was : keys i ≡ 0). a.past i was) (λ (ne : keys i ≢ 0). absurd (ne (sym (grown i ne) ∙ z)));
}

-- Keys that a view knows

pub keys_here : (c : ℕ) (entry : ClassKeys) (known : List ClassKeys) → c ≡ entry.class → keys_at c (entry ∷ known) ≡ entry.keys
keys_here c entry known e = ap (λ (b : Bool). if b then entry.keys else keys_at c known) (eq-eqb c entry.class e)

pub keys_else : (c : ℕ) (entry : ClassKeys) (known : List ClassKeys) → c ≢ entry.class → keys_at c (entry ∷ known) ≡ keys_at c known
keys_else c entry known ne = ap (λ (b : Bool). if b then entry.keys else keys_at c known) (ne_eqb c entry.class ne)

-- one class more
pub known_more : (keys : ℕ → ℕ → ℕ) (entry : ClassKeys) (known : List ClassKeys) → HaveGrown (slice_index entry.keys) (keys entry.class) → ((c : ℕ) → HaveGrown (slice_index (keys_at c known)) (keys c))
    → (c : ℕ) → HaveGrown (slice_index (keys_at c (entry ∷ known))) (keys c)
known_more keys entry known new old c = dite (ℕ_discrete c entry.class)
    (λ (is : c ≡ entry.class). subst (λ (k : ℕ). HaveGrown (slice_index (keys_at k (entry ∷ known))) (keys k)) (sym is)
    (subst (λ (ks : List ℕ). HaveGrown (slice_index ks) (keys entry.class)) (sym (keys_here entry.class entry known refl)) new))
    (λ (ne : c ≢ entry.class). subst (λ (ks : List ℕ). HaveGrown (slice_index ks) (keys c)) (sym (keys_else c entry known ne)) (old c))

-- nothing is known of a view that knows nothing
pub none_known : (keys : ℕ → ℕ → ℕ) (known : List ClassKeys) → known ≡ [] → (c : ℕ) → HaveGrown (slice_index (keys_at c known)) (keys c)
none_known keys known none c = subst (λ (ks : List ClassKeys). HaveGrown (slice_index (keys_at c ks)) (keys c)) (sym none) (λ i used. absurd (used (nothing i)))
  where
    nothing : (i : ℕ) → ◌≡◌ {A = ℕ} (get_or [] i 0) 0
    nothing zero = refl
    nothing (suc i) = refl

pub none_backed : (opened : World) (heads : ℕ → ℕ) (keys : ℕ → ℕ → ℕ) (history : List op.Op) (looks : List HeadLook) → looks ≡ [] → All (λ look. IsBacked opened (heads look.object) keys history look) looks
none_backed opened heads keys history looks none =
    subst (All (λ look. IsBacked opened (heads look.object) keys history look)) (sym none) (All-nil (λ look. IsBacked opened (heads look.object) keys history look))

-- A row whose head is open is still held, where the locks of rows that are free have heads that are whole
pub heads_locked : (opened : World) (heads rows after : ℕ → ℕ) (keys values : ℕ → ℕ → ℕ) (history : List op.Op) (views : List View) → HeadParts opened heads rows keys values history views
    → ((o : ℕ) → IsOpened (heads o) → 0 < after o) → (o : ℕ) → HeadRule (replay opened history) o (after o) (heads o) keys (values o)
heads_locked opened heads rows after keys values history views h owned o = record { is = (h.heads_are o).is; says = (h.heads_are o).says; owned = owned o }

-- a view that changes says of an open head what it should
pub open_changed : (opened : World) (heads : ℕ → ℕ) (history : List op.Op) (views : List View) (id : ℕ) (w : View) (o : ℕ) → OpenRule (replay opened history) o (heads o) (map (open_read o) views)
    → (IsOpened (heads o) → (open_read o w).row ≡ true → (open_read o w).types ≡ false → OpenRule (replay opened history) o (heads o) (open_read o w ∷ []))
    → OpenRule (replay opened history) o (heads o) (map (open_read o) (set views id w))
open_changed opened heads history views id w o rule new = changed (open_read o) (OpenRule (replay opened history) o (heads o)) views id w
    (λ odd. each_set _ (map (open_read o) views) id (open_read o w) (rule odd) (λ row types found. new odd row types odd 0 (open_read o w) refl row types found))
