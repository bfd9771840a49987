-- private: no public clause cites it. Texts that are put on a page before a sink.
use Rattle.std.specs.Prelude.{ℕ, ◌≡◌, ◌≤◌, ◌⊎◌, List, [], true, Option, Some, None}
use Rattle.at_source.specs.Faults.{Rose}
use Rattle.at_source.specs.Page.{Held, Writes}

-- A sink and the page before it: which sink it is, what was written, where its content is known, how often it failed, and
-- what the page holds.
pub record PenState : Type 0 where
  pub sink : ℕ
  pub written : Option (List ℕ)
  pub faults : ℕ
  pub page : Held

-- The text was put on the page. The sink is the same. Its count of faults rose where a write failed, and else is
-- unchanged.
pub record Prints (before after : PenState) (text : List ℕ) : Type 0 where
  pub sink : after.sink ≡ before.sink
  pub writes : Writes before.written before.page after.written after.page text
  pub no_fault : after.page.failed ≡ before.page.failed → after.faults ≡ before.faults
  pub cause : after.page.failed ≡ true → (before.page.failed ≡ true) ⊎ Rose before.faults after.faults
  pub later : before.faults ≤ after.faults

-- the text of an item, and nothing where there is no item
abbrev pub item_text : {A : Type 0} → (A → List ℕ) → Option A → List ℕ
item_text text None = []
item_text text (Some item) = text item
