-- What the trace says of a section. A section has its locks from a load of the place on at which the pass holds all of them,
-- whoever they were taken for, until one of them is given. Then it is given back.
use Rattle.std.specs.Prelude.{ℕ, suc, ◌||◌, ◌&&◌, nat_lt, Bool, true, false, List, [], ◌∷◌, if◌then◌else◌}
use Rattle.std.specs.List.{list_all}
use Rattle.at_view.specs.declared.mark.Mark.{Mark}
use Rattle.at_view.specs.declared.view.View.{View}
use Rattle.at_core.specs.declared.lock.Lock as lock
use Rattle.at_section.specs.Deeds.{Deed, tries, gives, loads, other, deed_of, was_free, names, Held, held, turned}

-- What marks make of a section: which locks the pass holds, whether the section has its locks, and how often it was given back;
-- then whether the pass is blocked, and whether it was so at each of these gives.
pub record Score : Type 0 where
  pub held : Held
  pub had : Bool
  pub given : ℕ
  pub blocked : Bool
  pub caused : Bool

abbrev pub tried : Bool → ℕ → Score → Score
tried true word z = record z { held = turned word true z.held; blocked = false }
tried false word z = record z { blocked = true }

abbrev pub given_back : Bool → Score → Score
given_back true z = record z { had = false; given = suc z.given; caused = z.caused && z.blocked }
given_back false z = z

abbrev pub scored : List lock.Lock → Score → Deed → Mark → Score
scored ls z tries m = tried (was_free m.found) m.word z
scored ls z gives m = given_back (z.had && names ls m.word) (record z { held = turned m.word false z.held })
scored ls z loads m = record z { had = z.had || list_all z.held ls; blocked = false }
scored ls z other m = z

abbrev pub score : List lock.Lock → Score → List Mark → Score
score ls z [] = z
score ls z (m ∷ ms) = score ls (scored ls z (deed_of m.kind) m) ms

-- Where a section begins: the trace up to the load of the place that began it, the locks held then, and that place.
pub record Start : Type 0 where
  pub trace : List Mark
  pub held : Held
  pub place : ℕ

abbrev pub start_of : View → ℕ → Start
start_of v place = record { trace = v.trace; held = held v; place = place }

-- what a section is at its start
abbrev pub opening : Start → Score
opening s = record { held = s.held; had = true; given = 0; blocked = false; caused = true }

-- a count that stays at its last value
abbrev pub most : ℕ
most = 4294967295

abbrev pub capped : ℕ → ℕ
capped n = if nat_lt n most then n else most
