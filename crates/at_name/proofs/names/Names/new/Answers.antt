use Rattle.std.proofs.Common.{refl, [], ◌∷◌, codes}
use Rattle.at_value.specs.Widths as widths
use Rattle.at_name.specs.Texts.{special_texts}
use Rattle.at_name.proofs.Tables.{AreNames-special, left_by}
use Rattle.at_name.proofs.names.Names.new.Goals as goal

pub returns : goal.returns
returns c =
    let get = codes "__get__" in
    let set = codes "__set__" in
    let delete = codes "__delete__" in
    let getattr = codes "__getattr__" in
    let one = left_by widths.names get c.new-texts.result c.intern.new.self [] (get ∷ []) 0 c.in_ok-intern.field-0 c.new-texts.ensures refl c.in_ok-intern.ensures.same in
    let two = left_by widths.names set c.intern.new.self c.intern-2.new.self (get ∷ []) (get ∷ set ∷ []) 1 c.in_ok-intern-2.field-0 one refl c.in_ok-intern-2.ensures.same in
    let three = left_by widths.names delete c.intern-2.new.self c.intern-3.new.self (get ∷ set ∷ []) (get ∷ set ∷ delete ∷ []) 2 c.in_ok-intern-3.field-0 two refl c.in_ok-intern-3.ensures.same in
    let four = left_by widths.names getattr c.intern-3.new.self c.intern-4.new.self (get ∷ set ∷ delete ∷ []) (get ∷ set ∷ delete ∷ getattr ∷ []) 3 c.in_ok-intern-4.field-0 three refl c.in_ok-intern-4.ensures.same in
    left_by widths.names (codes "__init__") c.intern-4.new.self c.intern-5.new.self (get ∷ set ∷ delete ∷ getattr ∷ []) special_texts 4 c.in_ok-intern-5.field-0 four refl c.in_ok-intern-5.ensures.same

pub invariant_of-result : goal.invariant_of-result
invariant_of-result c = rw (returns c) AreNames-special
