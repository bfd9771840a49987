-- How the cells of `Bases` hold a list of numbers.
use Rattle.std.specs.Prelude.{ℕ, ◌≡◌, ◌≤◌, ◌-◌, List, ◌++◌, length, take, drop, replicate}
use Rattle.std.proofs.Common.{arith, ◌∙◌, ap, take-append-drop, length-take-le}
use Rattle.at_value.specs.declared.list.Bases.TheInside.{Inside}
use Rattle.at_value.specs.Widths.{most_bases}

-- the cells of a list of no more numbers than a class may have bases: its numbers, and then zeros
abbrev pub cells_of : List ℕ → List ℕ
cells_of list = list ++ replicate (most_bases - length list) 0

-- cells, of which the first len are used and the others are zero
pub record AreCells (len : ℕ) (cells : List ℕ) : Type 0 where
  pub fits : len ≤ most_bases
  pub full : length cells ≡ most_bases
  pub zeros : drop len cells ≡ replicate (most_bases - len) 0

pub cells_of-take : (len : ℕ) (cells : List ℕ) → AreCells len cells → cells_of (take len cells) ≡ cells
cells_of-take len cells h =
    let fits : len ≤ length cells = omega (arith, h.fits, h.full) in
    rw (length-take-le len cells fits, ← h.zeros) (take-append-drop len cells)

-- the cells and the length are those that the list gives back
pub cells_again : (b : Inside) → AreCells b.len b.items → (let again : Inside = record { items = cells_of (take b.len b.items); len = length (take b.len b.items) } in again ≡ b)
cells_again b h =
    let fits : b.len ≤ length b.items = omega (arith, h.fits, h.full) in
    let f : List ℕ → ℕ → Inside = λ items len. record { items = items; len = len } in
    ap (λ items. f items (length (take b.len b.items))) (cells_of-take b.len b.items h) ∙ ap (f b.items) (length-take-le b.len b.items fits)
