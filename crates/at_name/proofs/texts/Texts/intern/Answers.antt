use Rattle.std.proofs.Common.{rules, ◌≡◌, ◌∙◌, ap, sym, ◌<◌, [], length, ◌∷◌, ◌++◌, arith, map, bytes_eq, cond, Some, None}
use Rattle.std.specs.List.{list_any}
use Rattle.std.specs.String.{string_bytes}
use Rattle.std.proofs.lemmas.List.{length-map, map_push}
use Rattle.at_name.specs.Texts.{AreDistinct, place_of, interned}
use Rattle.at_name.proofs.Tables.{place_is, interned_found, interned_full, interned_new, full_exactly, AreDistinct-push}
use Rattle.at_name.proofs.texts.Texts.intern.Given as given
use Rattle.at_name.proofs.texts.Texts.intern.Goals as goal

-- the text is there
held : (g : given.Over) (c : goal.In-Some g) → interned g.row.MOST c.args.text.now c.args.self.now ≡ Some (c.in-Some.place, c.args.self.now)
held g c =
    let found = place_is c.args.text.now c.self.inside.set.keys c.args.self.now c.get_index_of.result c.self.view_is c.get_index_of.ensures.index in
    interned_found g.row.MOST c.args.text.now c.args.self.now c.in-Some.place (found ∙ c.in-Some.is)

-- there is no room
no_room : (g : given.Over) (c : goal.Then-place g) → interned g.row.MOST c.args.text.now c.args.self.now ≡ None
no_room g c =
    let found = place_is c.args.text.now c.self.inside.set.keys c.args.self.now c.get_index_of.result c.self.view_is c.get_index_of.ensures.index in
    interned_full g.row.MOST c.args.text.now c.args.self.now (found ∙ c.in_default.is)
    (ap length (sym c.self.view_is) ∙ length-map c.self.inside.set.keys string_bytes ∙ sym c.len-place.ensures.len ∙ c.if-place.true)

-- the text isn't there
absent : (g : given.Over) (c : goal.In_ok-insert g) → place_of c.args.text.now c.args.self.now ≡ None
absent g c =
    place_is c.args.text.now c.self.inside.set.keys c.args.self.now c.get_index_of.result c.self.view_is c.get_index_of.ensures.index ∙ c.in_default.is

count : (g : given.Over) (c : goal.In_ok-insert g) → length c.args.self.now ≡ c.len-place.result
count g c = ap length (sym c.self.view_is) ∙ length-map c.self.inside.set.keys string_bytes ∙ sym c.len-place.ensures.len

room : (g : given.Over) (c : goal.In_ok-insert g) → length c.args.self.now < g.row.MOST
room g c = omega (arith, count g c, c.if-place.false, c.self.invariant.bounded, ap length c.self.view_is)

-- the texts afterwards
after : (g : given.Over) (c : goal.In_ok-insert g) → map string_bytes c.insert.new.self.keys ≡ c.args.self.now ++ c.args.text.now ∷ []
after g c =
    let text = c.args.text.now in
    let keys = c.self.inside.set.keys in
    let string = c.in_ok-from_str.field-0 in
    let new = ap (λ t. list_any (λ k. bytes_eq t (string_bytes k)) keys) c.in_ok-from_str.ensures.ok ∙ sym c.in_default.ensures.found in
    let added = c.in_ok-insert.ensures.keys ∙ ap (λ b. cond b keys (keys ++ string ∷ [])) new in
    ap (map string_bytes) added ∙ map_push string_bytes keys string ∙ ap (λ t. map string_bytes keys ++ t ∷ []) c.in_ok-from_str.ensures.ok ∙ ap (λ l. l ++ text ∷ []) c.self.view_is

grown : (g : given.Over) (c : goal.In_ok-insert g) → interned g.row.MOST c.args.text.now c.args.self.now ≡ Some (c.len-place.result, map string_bytes c.insert.new.self.keys)
grown g c =
    interned_new g.row.MOST c.args.text.now c.args.self.now (absent g c) (room g c)
    ∙ ap (λ n. Some (n, c.args.self.now ++ c.args.text.now ∷ [])) (count g c)
    ∙ ap (λ l. Some (c.len-place.result, l)) (sym (after g c))

pub invariant_of-self-2 : goal.invariant_of-self-2
invariant_of-self-2 g c =
    let known : AreDistinct g.row.MOST c.args.self.now = rw (← c.self.view_is) c.self.invariant in
    rw (after g c) (AreDistinct-push g.row.MOST c.args.text.now c.args.self.now known (absent g c) (room g c))

pub returns-in-Some-clause-same : goal.returns-in-Some-clause-same
returns-in-Some-clause-same g c = held g c

pub returns-then-place-clause-same : goal.returns-then-place-clause-same
returns-then-place-clause-same g c = no_room g c

pub returns-clause-same : goal.returns-clause-same
returns-clause-same g c = grown g c

pub returns-in-Some-clause-full : goal.returns-in-Some-clause-full
returns-in-Some-clause-full g c =
    full_exactly g.row.MOST c.args.text.now c.args.self.now c.args.self.now (Some c.in-Some.place) (omega (arith, c.self.invariant.bounded, ap length c.self.view_is)) (held g c)

pub returns-then-place-clause-full : goal.returns-then-place-clause-full
returns-then-place-clause-full g c =
    full_exactly g.row.MOST c.args.text.now c.args.self.now c.args.self.now None (omega (arith, c.self.invariant.bounded, ap length c.self.view_is)) (no_room g c)

pub returns-clause-full : goal.returns-clause-full
returns-clause-full g c =
    full_exactly g.row.MOST c.args.text.now c.args.self.now (map string_bytes c.insert.new.self.keys) (Some c.len-place.result) (omega (arith, c.self.invariant.bounded, ap length c.self.view_is)) (grown g c)

pub returns-in_err-from_str-clause-absent : goal.returns-in_err-from_str-clause-absent
returns-in_err-from_str-clause-absent g c =
    let found = place_is c.args.text.now c.self.inside.set.keys c.args.self.now c.get_index_of.result c.self.view_is c.get_index_of.ensures.index ∙ c.in_default.is in
    search (rules, found)

pub returns-in_err-insert-clause-absent : goal.returns-in_err-insert-clause-absent
returns-in_err-insert-clause-absent g c =
    let found = place_is c.args.text.now c.self.inside.set.keys c.args.self.now c.get_index_of.result c.self.view_is c.get_index_of.ensures.index ∙ c.in_default.is in
    search (rules, found)
