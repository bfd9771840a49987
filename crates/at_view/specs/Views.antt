-- The view of a pass that has done nothing, from which each other view is made.
use Rattle.std.specs.Prelude.{nat_lt, true, false, List, [], length, replicate, if◌then◌else◌}
use Rattle.at_value.specs.declared.limits.Limits.{Limits}
use Rattle.at_value.specs.declared.operation.Op as op
use Rattle.at_view.specs.declared.view.Hold.{Hold}
use Rattle.at_view.specs.declared.view.TypesWords.{TypesWords}
use Rattle.at_view.specs.declared.view.RowWords.{RowWords}
use Rattle.at_view.specs.declared.view.TypeLists.{TypeLists}
use Rattle.at_view.specs.declared.view.View.{View}
use Rattle.at_view.specs.Counts.{intent_words}

abbrev pub no_limits : Limits
no_limits = record { place_max = 0; head_max = 0; tags = 0 }

abbrev pub no_hold : Hold
no_hold = record { held = false; since = []; entered = 0 }

abbrev pub no_lists : TypeLists
no_lists = record { numbers = []; next_birth = 0; pool = []; limbo = [] }

abbrev pub no_types_words : TypesWords
no_types_words = record { tags = []; keys = []; global = 0 }

abbrev pub no_row_words : RowWords
no_row_words = record { head = 0; values = [] }

-- the view that is spent: it isn't live, and knows nothing
abbrev pub blank : View
blank = record {
  who = record { live = false; number = 0; limits = no_limits; children = [] };
  history = record { birth = 0; seen = []; own = [] };
  joined = record { first = []; second = [] };
  intent = record { words = replicate intent_words 0; fresh = false };
  types = record { hold = no_hold; lists = no_lists; words = no_types_words };
  holds = [];
  rows = [];
  known = [];
  looks = [];
  tags = record { online = false; global = 0; held = [] };
  read = record { reading = false; entry = 0; at = 0; fields = [] };
  write = record { writing = false; entry = 0; base = 0; fields = [] };
  scan = record { scans = []; clears = [] };
  trace = [];
  kept = [];
}

-- the longer of two prefixes of the history, which is what two passes have seen together
abbrev pub longer : List op.Op → List op.Op → List op.Op
longer first second = if nat_lt (length first) (length second) then second else first

-- the view of the first pass of a table with these limits, which is online
abbrev pub first_view : Limits → View
first_view limits = record blank {
  who = record { live = true; number = 0; limits = limits; children = [] };
  tags = record { online = true; global = 0; held = [] };
}
