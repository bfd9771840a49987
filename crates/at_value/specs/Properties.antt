-- How three numbers hold a property.
use Rattle.std.specs.Prelude.{ℕ, zero, suc, ◌≤◌, ◌≡◌, refl}
use Rattle.std.proofs.Common.{◌∙◌, ap}
use Rattle.at_value.specs.declared.value.Prop.TheInside.{Inside}
use Rattle.at_value.specs.Widths.{functions}
use Rattle.at_value.specs.Parts.{PropertyParts, part, held}

abbrev pub parts_of : Inside → PropertyParts
parts_of p = record { get = part p.get; set = part p.set; del = part p.del }

-- each part is none or a function
pub record AreParts (p : Inside) : Type 0 where
  pub get : p.get ≤ functions
  pub set : p.set ≤ functions
  pub del : p.del ≤ functions

abbrev pub inside_of : PropertyParts → Inside
inside_of p = record { get = held p.get; set = held p.set; del = held p.del }

pub held-part : (n : ℕ) → held (part n) ≡ n
held-part zero = refl
held-part (suc f) = refl

pub inside_of-parts_of : (p : Inside) → inside_of (parts_of p) ≡ p
inside_of-parts_of p =
    let f : ℕ → ℕ → ℕ → Inside = λ g s d. record { get = g; set = s; del = d } in
    ap (λ g. f g (held (part p.set)) (held (part p.del))) (held-part p.get)
    ∙ ap (λ s. f p.get s (held (part p.del))) (held-part p.set)
    ∙ ap (λ d. f p.get p.set d) (held-part p.del)
