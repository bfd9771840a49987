-- What is kept beside the rows of the classes, as these change.
use Rattle.std.proofs.Common.{◌≡◌, ◌≢◌, ◌∙◌, ◌↔◌, ap, sym, refl, subst, ℕ, zero, suc, ◌<◌, ◌-◌, ◌==◌, inl, inr, length, set, take, drop, replicate, List, [], ◌∷◌, ◌++◌, Option, Some, None, true, false, is_some, IsTrue, Contains, arith}
use Rattle.std.specs.List.{list_all}
use Rattle.std.specs.Option.{option_map}
use Rattle.std.proofs.lemmas.Bool.{cases_eq, cases_lt, and_parts, or_cases, eqb-true, false≢true, false_from_ne_true}
use Rattle.std.proofs.lemmas.List.{take_all, drop_all, append-nil, length-set, get_or-set_same, get_or-set_other, length-replicate, get_or-replicate, get_or_past}
use Rattle.at_c3.proofs.NumberLemmas.{has, Contains-from_has, has-from_Contains}
use Rattle.at_tree.specs.Tree.{children}
use Rattle.at_value.specs.Widths as widths
use Rattle.at_model.specs.declared.rows.ClassRow.{ClassRow}
use Rattle.at_model.specs.World.{Map, row_of, bases_of, order_in, opening}
use Rattle.at_model.specs.Step.{has_repeat, with_names}
use Rattle.at_model.proofs.Orders.{HaveSameBases, made_below}
use Rattle.at_model.proofs.OrderLaws.{no_base}
use Rattle.at_model.proofs.StoredOrders.{AreOrders-same_bases, AreOrders-defined, same_bases-own}
use Rattle.at_model.proofs.Worlds.{AreOrders-opening}
use Rattle.at_types.specs.Subclasses.{AreSubclasses}
use Rattle.at_types.specs.Kept.{AreKept, opening_orders}
use Rattle.at_types.specs.Links.{linked}
use Rattle.at_types.proofs.LinkLemmas.{length-with_each, linked-here, linked-elsewhere, linked-others}
use Rattle.at_types.proofs.SubclassLemmas.{absent_free}

-- a vector whose slice was written has what the slice has
pub refilled : {X : Type 0} (n : ℕ) (was now : List X) → n ≡ length was → length now ≡ length was → take n (now ++ drop (length now) was) ≡ now
refilled n was now whole same =
    ap (λ rest. take n (now ++ rest)) (drop_all (length now) was (omega (arith, same))) ∙ ap (take n) (append-nil now) ∙ take_all n now (omega (arith, whole, same))

-- Names

bases-same : (r s : Option ClassRow) → option_map (λ row. row.bases) r ≡ option_map (λ row. row.bases) s → bases_of r ≡ bases_of s
bases-same None None same = refl
bases-same None (Some s) same = cc
bases-same (Some r) None same = cc
bases-same (Some r) (Some s) same = cc

-- where no class changes its bases the tree stays right
subclasses-same_bases : (cs ds : List (Option ClassRow)) (tree : List (List ℕ)) → HaveSameBases cs ds → AreSubclasses cs tree → AreSubclasses ds tree
subclasses-same_bases cs ds tree same are = record {
  numbered = are.numbered;
  below = λ b d. subst (λ bases. Contains (children tree b) d ↔ Contains bases b) (bases-same (row_of cs d) (row_of ds d) (same d)) (are.below b d);
}

-- names of a class change no order and no subclass
pub kept-names : (classes changed : List (Option ClassRow)) (orders tree : List (List ℕ)) (c : ℕ) (names : Map) → AreKept classes orders tree
    → changed ≡ with_names classes c (row_of classes c) names → AreKept changed orders tree
kept-names classes changed orders tree c names kept is =
    rw is (elim (row_of classes c) as (λ row. row_of classes c ≡ row → AreKept (with_names classes c row names) orders tree) [
      | None ↦ λ _. kept
      | Some row ↦ λ at.
          let now : List (Option ClassRow) = set classes c (Some (record row { own = names })) in
          let long : length now ≡ length classes = length-set classes c (Some (record row { own = names })) in
          let same : HaveSameBases classes now = same_bases-own classes c row names at in
          record {
            numbered = long ∙ kept.numbered;
            ordered = kept.ordered;
            orders_are = AreOrders-same_bases classes now orders same (sym long) kept.orders_are;
            distinct = λ d. ap has_repeat (sym (bases-same (row_of classes d) (row_of now d) (same d))) ∙ kept.distinct d;
            subclasses = subclasses-same_bases classes now tree same kept.subclasses;
          }
    ] refl)

-- The class `object` alone

none_made : (n c : ℕ) → row_of (replicate n None) c ≡ None
none_made n c =
    elim (cases_lt c n) [
      | inl below ↦ get_or-replicate n c None None below
      | inr past ↦ get_or_past (replicate n None) c None (omega (arith, length-replicate {A = Option ClassRow} n None))
    ]

no_bases : (c : ℕ) → bases_of (row_of opening.classes c) ≡ []
no_bases zero = refl
no_bases (suc c) = ap bases_of (none_made (widths.classes - 1) c)

no_children : (n b : ℕ) → children (replicate n []) b ≡ []
no_children n b =
    elim (cases_lt b n) [
      | inl below ↦ get_or-replicate n b [] [] below
      | inr past ↦ get_or_past (replicate n []) b [] (omega (arith, length-replicate {A = List ℕ} n []))
    ]

pub kept-opening : (classes : List (Option ClassRow)) (orders tree : List (List ℕ)) → classes ≡ opening.classes → orders ≡ opening_orders
    → tree ≡ replicate widths.classes [] → AreKept classes orders tree
kept-opening classes orders tree are_classes are_orders is_tree =
    rw (are_classes, are_orders, is_tree) (record {
      numbered = length-replicate {A = Option ClassRow} widths.classes None;
      ordered = length-replicate {A = List ℕ} widths.classes [];
      orders_are = AreOrders-opening opening_orders refl;
      distinct = λ d. ap has_repeat (no_bases d);
      subclasses = record {
        numbered = length-replicate {A = List ℕ} widths.classes [];
        below = λ b d. (
          λ at. absurd (no_base d (subst (λ list. Contains list d) (no_children widths.classes b) at)),
          λ at. absurd (no_base b (subst (λ list. Contains list b) (no_bases d) at)),
        );
      };
    })

-- A class with other bases

-- The tree has a class directly below its new bases, and each other class as before.
pub subclasses-changed : (classes : List (Option ClassRow)) (tree now : List (List ℕ)) (c : ℕ) (row : ClassRow) → AreSubclasses classes tree → c < length classes
    → length now ≡ length tree → ((b : ℕ) → has c (children now b) ≡ has b row.bases) → ((b d : ℕ) → c ≢ d → has d (children now b) ≡ has d (children tree b))
    → AreSubclasses (set classes c (Some row)) now
subclasses-changed classes tree now c row are below long here others = record {
  numbered = long ∙ are.numbered;
  below = λ b d. elim (cases_eq d c) [
    | inl same ↦
        let at : row_of (set classes c (Some row)) d ≡ Some row = ap (row_of (set classes c (Some row))) same ∙ get_or-set_same classes c (Some row) None below in
        let bases : bases_of (row_of (set classes c (Some row)) d) ≡ row.bases = ap bases_of at in
        let told : has d (children now b) ≡ has b row.bases = ap (λ x. has x (children now b)) same ∙ here b in (
          λ there. subst (λ list. Contains list b) (sym bases) (Contains-from_has b row.bases (sym told ∙ has-from_Contains d (children now b) there)),
          λ base. Contains-from_has d (children now b) (told ∙ has-from_Contains b row.bases (subst (λ list. Contains list b) bases base)),
        )
    | inr other ↦
        let rows : row_of (set classes c (Some row)) d ≡ row_of classes d = get_or-set_other classes c d (Some row) None other in
        let told = others b d (λ e. other (sym e)) in (
          λ there.
              subst (λ r. Contains (bases_of r) b) (sym rows) ((are.below b d).0 (Contains-from_has d (children tree b) (sym told ∙ has-from_Contains d (children now b) there))),
          λ base. Contains-from_has d (children now b) (told ∙ has-from_Contains d (children tree b) ((are.below b d).1 (subst (λ r. Contains (bases_of r) b) rows base))),
        )
  ];
}

pub distinct-changed : (classes : List (Option ClassRow)) (c : ℕ) (row : ClassRow) → c < length classes → has_repeat row.bases ≡ false
    → ((d : ℕ) → has_repeat (bases_of (row_of classes d)) ≡ false) → (d : ℕ) → has_repeat (bases_of (row_of (set classes c (Some row)) d)) ≡ false
distinct-changed classes c row below once each d =
    elim (cases_eq d c) [
      | inl same ↦ ap (λ x. has_repeat (bases_of (row_of (set classes c (Some row)) x))) same ∙ ap (λ r. has_repeat (bases_of r)) (get_or-set_same classes c (Some row) None below) ∙ once
      | inr other ↦ ap (λ r. has_repeat (bases_of r)) (get_or-set_other classes c d (Some row) None other) ∙ each d
    ]

-- a base that is made has a number
pub made_within : (classes : List (Option ClassRow)) (bases : List ℕ) → list_all (λ b. is_some (row_of classes b)) bases ≡ true
    → (b : ℕ) → has b bases ≡ true → is_some (row_of classes b) ≡ true
made_within classes [] made b at = absurd (false≢true at)
made_within classes (x ∷ xs) made b at =
    let both = and_parts (is_some (row_of classes x)) (list_all (λ y. is_some (row_of classes y)) xs) made in
    elim (or_cases (x == b) (has b xs) at) [
      | inl here ↦ subst (λ y. is_some (row_of classes y) ≡ true) (eqb-true x b here) both.0
      | inr later ↦ made_within classes xs both.1 b later
    ]

-- with a class that is made now
pub kept-defined : (classes : List (Option ClassRow)) (orders tree now : List (List ℕ)) (c i : ℕ) (bases given order : List ℕ) (own : Map) → AreKept classes orders tree
    → row_of classes c ≡ None → c < widths.classes → IsTrue (list_all (λ b. is_some (row_of classes b)) bases) → has_repeat bases ≡ false
    → order_in (set classes c (Some (record { bases = bases; own = [] }))) c ≡ Some order → i ≡ c → own ≡ [] → given ≡ bases → now ≡ linked tree c given
    → AreKept (set classes i (Some (record { bases = bases; own = own }))) (set orders i order) now
kept-defined classes orders tree now c i bases given order own kept free below made once is at empty same links =
    let row : ClassRow = record { bases = bases; own = [] } in
    let tree_is : now ≡ linked tree c bases = links ∙ ap (linked tree c) same in
    let room : c < length classes = omega (arith, kept.numbered) in
    let within : (b : ℕ) → has b bases ≡ true → b < length tree = λ b there. let made_below = made_below classes b (made_within classes bases made b there) in omega (arith, kept.numbered, kept.subclasses.numbered) in
    rw (at, empty, tree_is) (record {
      numbered = length-set classes c (Some row) ∙ kept.numbered;
      ordered = length-set orders c order ∙ kept.ordered;
      orders_are = AreOrders-defined classes orders c row order kept.orders_are free room (omega (arith, kept.ordered)) is;
      distinct = distinct-changed classes c row room once kept.distinct;
      subclasses = subclasses-changed classes tree (linked tree c bases) c row kept.subclasses room (length-with_each (λ list. list ++ c ∷ []) tree bases)
          (λ b. elim (has b bases) as (λ t. has b bases ≡ t → has c (children (linked tree c bases) b) ≡ t) [
            | true ↦ λ there. linked-here tree c bases once within b there
            | false ↦ λ none.
                linked-elsewhere tree c bases once within b none
                ∙ false_from_ne_true (has c (children tree b)) (λ there. absent_free classes tree kept.subclasses b c free (Contains-from_has c (children tree b) there))
          ] refl)
          (λ b d other. linked-others tree c bases once within b d other);
    })
