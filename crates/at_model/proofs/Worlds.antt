-- Changes of a world that leave it well-formed, and the opening world.
use Rattle.std.proofs.Common.{◌-◌, ◌≡◌, ◌≢◌, ◌∙◌, ap, sym, refl, subst, ℕ, zero, suc, ◌<◌, ◌≤◌, ◌==◌, inl, inr, cond, length, get_or, set, replicate, List, [], ◌∷◌, Option, Some, None, true, false, is_some, All, Contains, nat_eq, ltb, arith}
use Rattle.std.specs.List.{IsDistinct}
use Rattle.std.proofs.lemmas.Bool.{cases_eq, cases_lt, false≢true}
use Rattle.std.proofs.lemmas.List.{get_or-set_same, get_or-set_other, get_or_past, get_or-replicate, length-set, length-replicate}
use Rattle.std.proofs.lemmas.List.Elements.{All-nil, All-cons, All-head, All-tail, All-weaker}
use Rattle.at_value.specs.Numbers.{object}
use Rattle.at_value.specs.Pairs.{with_value, without}
use Rattle.at_value.proofs.Maps.{put_rising, cut_rising}
use Rattle.at_value.specs.declared.value.Value as value
use Rattle.at_value.specs.declared.value.Value.TheVariants as values
use Rattle.at_value.specs.Widths as widths
use Rattle.at_model.specs.declared.rows.ClassRow.{ClassRow}
use Rattle.at_model.specs.declared.rows.Object.{Object}
use Rattle.at_model.specs.World.{World, Map, row_of, own_of, bases_of, order_of, opening, IsMade, NamesMade, IsNamespace, IsWellFormed}
use Rattle.at_model.specs.StoredOrders.{AreOrders}
use Rattle.at_model.proofs.OrderLaws.{acyclic-from_ordered, no_base}

-- Names with values

-- what holds of each value, holds with one more
pub with_value-all : {V : Type 0} (P : V → Type 0) (n : ℕ) (v : V) (pairs : List (ℕ × V)) → P v → All (λ (pair : ℕ × V). P pair.1) pairs
    → All (λ (pair : ℕ × V). P pair.1) (with_value n v pairs)
with_value-all {V} P n v [] here all = All-cons (λ (pair : ℕ × V). P pair.1) (n, v) [] here all
with_value-all {V} P n v (pair ∷ pairs) here all =
    let Q : ℕ × V → Type 0 = λ p. P p.1 in
    let first = All-head Q pair pairs all in
    let rest = All-tail Q pair pairs all in
    elim (ltb pair.0 n) as (λ b. All Q (cond b (pair ∷ with_value n v pairs) (cond (pair.0 == n) ((n, v) ∷ pairs) ((n, v) ∷ pair ∷ pairs)))) [
      | true ↦ All-cons Q pair (with_value n v pairs) first (with_value-all P n v pairs here rest)
      | false ↦
          elim (pair.0 == n) as (λ b. All Q (cond b ((n, v) ∷ pairs) ((n, v) ∷ pair ∷ pairs))) [
            | true ↦ All-cons Q (n, v) pairs here rest
            | false ↦ All-cons Q (n, v) (pair ∷ pairs) here all
          ]
    ]

-- and with one fewer
pub without-all : {V : Type 0} (P : V → Type 0) (n : ℕ) (pairs : List (ℕ × V)) → All (λ (pair : ℕ × V). P pair.1) pairs
    → All (λ (pair : ℕ × V). P pair.1) (without n pairs)
without-all P n [] all = all
without-all {V} P n (pair ∷ pairs) all =
    let Q : ℕ × V → Type 0 = λ p. P p.1 in
    let rest = All-tail Q pair pairs all in
    elim (pair.0 == n) as (λ b. All Q (cond b pairs (pair ∷ without n pairs))) [
      | true ↦ rest
      | false ↦ All-cons Q pair (without n pairs) (All-head Q pair pairs all) (without-all P n pairs rest)
    ]

-- Namespaces

pub no_names_namespace : (w : World) → IsNamespace w []
no_names_namespace w = record { rising = tt; named = All-nil (λ (pair : ℕ × value.Value). NamesMade w pair.1) }

pub with_value-namespace : (w : World) (n : ℕ) (v : value.Value) (names : Map) → NamesMade w v → IsNamespace w names → IsNamespace w (with_value n v names)
with_value-namespace w n v names there is = record { rising = put_rising n v names is.rising; named = with_value-all (NamesMade w) n v names there is.named }

pub without-namespace : (w : World) (n : ℕ) (names : Map) → IsNamespace w names → IsNamespace w (without n names)
without-namespace w n names is = record { rising = cut_rising n names is.rising; named = without-all (NamesMade w) n names is.named }

-- Growth

-- each class and object of the one world is there in the other
abbrev pub Grows : World → World → Type 0
Grows w v = ((c : ℕ) → IsMade w c → IsMade v c) × (length w.objects ≤ length v.objects)

names_made-grows : (w v : World) → Grows w v → (x : value.Value) → NamesMade w x → NamesMade v x
names_made-grows w v grows (values.Class c) there = grows.0 c there
names_made-grows w v grows (values.Obj o) there = let more : length w.objects ≤ length v.objects = grows.1 in omega arith
names_made-grows w v grows values.Nothing there = tt
names_made-grows w v grows (values.Int z) there = tt
names_made-grows w v grows (values.Text n) there = tt
names_made-grows w v grows (values.Func f) there = tt
names_made-grows w v grows (values.Prop p) there = tt
names_made-grows w v grows (values.Static f) there = tt
names_made-grows w v grows (values.ClassM f) there = tt

pub namespace-grows : (w v : World) → Grows w v → (names : Map) → IsNamespace w names → IsNamespace v names
namespace-grows w v grows names is = record {
  rising = is.rising;
  named = All-weaker (λ (pair : ℕ × value.Value). NamesMade w pair.1) (λ (pair : ℕ × value.Value). NamesMade v pair.1) (λ pair. names_made-grows w v grows pair.1) names is.named;
}

-- Classes

-- what holds of the new row and of each row, holds of each row after the change
set_each : (P : Option ClassRow → Type 0) (classes : List (Option ClassRow)) (c : ℕ) (row : Option ClassRow) → c < length classes → P row
    → ((d : ℕ) → P (row_of classes d)) → (d : ℕ) → P (row_of (set classes c row) d)
set_each P classes c row below here each d =
    elim (cases_eq d c) [
      | inl same ↦ subst P (sym (ap (λ x. row_of (set classes c row) x) same ∙ get_or-set_same classes c row None below)) here
      | inr other ↦ subst P (sym (get_or-set_other classes c d row None other)) (each d)
    ]

abbrev pub with_row : World → ℕ → ClassRow → World
with_row w c row = record w { classes = set w.classes c (Some row) }

grows-with_row : (w : World) (c : ℕ) (row : ClassRow) → c < length w.classes → Grows w (with_row w c row)
grows-with_row w c row below = (
  λ d made.
      elim (cases_eq d c) [
        | inl same ↦ ap (λ x. is_some (row_of (set w.classes c (Some row)) x)) same ∙ ap is_some (get_or-set_same w.classes c (Some row) None below)
        | inr other ↦ ap is_some (get_or-set_other w.classes c d (Some row) None other) ∙ made
      ],
  omega arith,
)

-- A class has this row now: its bases are made and differ, its names are there, and each class has an order still.
pub formed-with_row : (w : World) (c : ℕ) (row : ClassRow) → IsWellFormed w → c < length w.classes → c ≢ object
    → ((b : ℕ) → Contains row.bases b → IsMade w b) → IsDistinct nat_eq row.bases → IsNamespace w row.own
    → ((d : ℕ) → IsMade (with_row w c row) d → (order : List ℕ) × (order_of (with_row w c row) d ≡ Some order)) → IsWellFormed (with_row w c row)
formed-with_row w c row formed below other made apart named ordered =
    let changed = with_row w c row in
    let grows = grows-with_row w c row below in
    record {
      numbered = length-set w.classes c (Some row) ∙ formed.numbered;
      rooted = get_or-set_other w.classes c object (Some row) None (λ e. other (sym e)) ∙ formed.rooted;
      based = set_each (λ r. (b : ℕ) → Contains (bases_of r) b → IsMade changed b) w.classes c (Some row) below (λ b at. grows.0 b (made b at)) (λ d b at. grows.0 b (formed.based d b at));
      distinct = set_each (λ r. IsDistinct nat_eq (bases_of r)) w.classes c (Some row) below apart formed.distinct;
      acyclic = acyclic-from_ordered changed ordered;
      ordered = ordered;
      owned = set_each (λ r. IsNamespace changed (own_of r)) w.classes c (Some row) below (namespace-grows w changed grows row.own named) (λ d. namespace-grows w changed grows (own_of (row_of w.classes d)) (formed.owned d));
      few = formed.few;
      placed = All-weaker (λ (o : Object). IsMade w o.class × (o.dict < length w.objects)) (λ (o : Object). IsMade changed o.class × (o.dict < length w.objects)) (λ o there. (grows.0 o.class there.0, there.1)) w.objects formed.placed;
      paired = formed.paired;
      filled = All-weaker (IsNamespace w) (IsNamespace changed) (namespace-grows w changed grows) w.dicts formed.filled;
    }

-- Objects

abbrev pub with_objects : World → List Object → List Map → World
with_objects w objects dicts = record w { objects = objects; dicts = dicts }

-- These are the objects and dictionaries now: no fewer objects, as many dictionaries, and all that is named is there.
pub formed-with_objects : (w : World) (objects : List Object) (dicts : List Map) → IsWellFormed w → length w.objects ≤ length objects → length objects ≤ widths.objects
    → All (λ (o : Object). IsMade w o.class × (o.dict < length objects)) objects → length dicts ≡ length objects
    → All (IsNamespace (with_objects w objects dicts)) dicts
    → IsWellFormed (with_objects w objects dicts)
formed-with_objects w objects dicts formed more few placed paired filled =
    let changed = with_objects w objects dicts in
    record {
      numbered = formed.numbered;
      rooted = formed.rooted;
      based = formed.based;
      distinct = formed.distinct;
      acyclic = acyclic-from_ordered changed formed.ordered;
      ordered = formed.ordered;
      owned = λ c. namespace-grows w changed (λ d made. made, more) (own_of (row_of w.classes c)) (formed.owned c);
      few = few;
      placed = placed;
      paired = paired;
      filled = filled;
    }

-- The opening world

none_else : (c : ℕ) → row_of opening.classes (suc c) ≡ None
none_else c =
    let rows : List (Option ClassRow) = replicate (widths.classes - 1) None in
    elim (cases_lt c (widths.classes - 1)) [
      | inl below ↦ get_or-replicate (widths.classes - 1) c None None below
      | inr past ↦ get_or_past rows c None (omega (arith, length-replicate {A = Option ClassRow} (widths.classes - 1) None))
    ]

-- no class of it has a base or a name
no_bases : (c : ℕ) → bases_of (row_of opening.classes c) ≡ []
no_bases zero = refl
no_bases (suc c) = ap bases_of (none_else c)

no_names : (c : ℕ) → own_of (row_of opening.classes c) ≡ []
no_names zero = refl
no_names (suc c) = ap own_of (none_else c)

first_order : (c : ℕ) → IsMade opening c → (order : List ℕ) × (order_of opening c ≡ Some order)
first_order zero made = (0 ∷ [], refl)
first_order (suc c) made = absurd (false≢true (sym (ap is_some (none_else c)) ∙ made))

-- the order of `object` alone is stored
pub AreOrders-opening : (orders : List (List ℕ)) → get_or orders 0 [] ≡ 0 ∷ [] → AreOrders opening.classes orders
AreOrders-opening orders is zero made = sym (ap (λ o. Some o) is)
AreOrders-opening orders is (suc c) made = absurd (false≢true (sym (ap is_some (none_else c)) ∙ made))

none_twice : IsDistinct nat_eq []
unfolding IsDistinct
none_twice = tt

pub opening_is_formed : IsWellFormed opening
opening_is_formed = record {
  numbered = length-replicate {A = Option ClassRow} widths.classes None;
  rooted = refl;
  based = λ c b base. absurd (no_base b (subst (λ bases. Contains bases b) (no_bases c) base));
  distinct = λ c. subst (IsDistinct nat_eq) (sym (no_bases c)) none_twice;
  acyclic = acyclic-from_ordered opening first_order;
  ordered = first_order;
  owned = λ c. subst (IsNamespace opening) (sym (no_names c)) (no_names_namespace opening);
  few = omega arith;
  placed = All-nil (λ (o : Object). IsMade opening o.class × (o.dict < 0));
  paired = refl;
  filled = All-nil (IsNamespace opening);
}
