-- A page of text before a sink.
use Rattle.std.specs.Prelude.{ℕ, ◌≡◌, ◌≤◌, List, [], ◌++◌, take, drop, length, Bool, true, false, Option}
use Rattle.std.specs.Io.KnownBytes.{append_known}

-- What a page holds back, and whether a write of it failed.
pub record Held : Type 0 where
  pub bytes : List ℕ
  pub failed : Bool

-- how many bytes a page has room for
abbrev pub page_len : ℕ
page_len = 65536

-- the page that holds nothing yet
abbrev pub empty_page : Held
empty_page = record { bytes = []; failed = false }

-- the page that holds the bytes after its own
abbrev pub with_more : Held → List ℕ → Held
with_more page bytes = record page { bytes = page.bytes ++ bytes }

-- The bytes were put after those that the page held. Of both together the sink was sent a prefix, and the page holds the
-- rest, where no write failed. Once a write failed, the sink is sent nothing more.
pub record Writes (written : Option (List ℕ)) (page : Held) (written' : Option (List ℕ)) (page' : Held) (bytes : List ℕ) : Type 0 where
  pub sent : ℕ
  pub within : sent ≤ length (page.bytes ++ bytes)
  pub grew : written' ≡ append_known written (take sent (page.bytes ++ bytes))
  pub held : page'.failed ≡ false → page'.bytes ≡ drop sent (page.bytes ++ bytes)
  pub stopped : page.failed ≡ true → (sent ≡ 0) × (page'.failed ≡ true)

-- The text was put on a page that was empty when `start` was written. The sink was sent its first n bytes, for some n,
-- and the page holds the rest, where no write failed.
abbrev pub Printed : Option (List ℕ) → Option (List ℕ) → Held → List ℕ → Type 0
Printed start written page text = Writes start empty_page written page text
