-- The words with which the parts of a line begin, each with the blank after it where something follows.
use Rattle.std.specs.Prelude.{ℕ, List, codes}

-- Operations

abbrev pub class_word : List ℕ
class_word = codes "class "

abbrev pub put_word : List ℕ
put_word = codes "put "

abbrev pub cut_word : List ℕ
cut_word = codes "cut "

abbrev pub bases_word : List ℕ
bases_word = codes "bases "

abbrev pub new_word : List ℕ
new_word = codes "new "

abbrev pub set_word : List ℕ
set_word = codes "set "

abbrev pub del_word : List ℕ
del_word = codes "del "

abbrev pub turn_word : List ℕ
turn_word = codes "turn "

abbrev pub share_word : List ℕ
share_word = codes "share "

abbrev pub get_word : List ℕ
get_word = codes "get "

abbrev pub cget_word : List ℕ
cget_word = codes "cget "

abbrev pub super_word : List ℕ
super_word = codes "super "

abbrev pub special_word : List ℕ
special_word = codes "special "

abbrev pub classof_word : List ℕ
classof_word = codes "classof "

abbrev pub mro_word : List ℕ
mro_word = codes "mro "

abbrev pub begin_word : List ℕ
begin_word = codes "begin "

-- Replies

abbrev pub made_word : List ℕ
made_word = codes "made "

abbrev pub init_word : List ℕ
init_word = codes " init "

abbrev pub value_word : List ℕ
value_word = codes "value "

abbrev pub method_word : List ℕ
method_word = codes "method "

abbrev pub hook_word : List ℕ
hook_word = codes "hook "

abbrev pub order_word : List ℕ
order_word = codes "order"

abbrev pub noorder_word : List ℕ
noorder_word = codes "noorder "

abbrev pub suspended_word : List ℕ
suspended_word = codes "suspended "

-- What isn't an operation

abbrev pub unbound_word : List ℕ
unbound_word = codes "unbound "

abbrev pub worn_word : List ℕ
worn_word = codes "worn "

abbrev pub full_word : List ℕ
full_word = codes "full "

-- Values

abbrev pub none_word : List ℕ
none_word = codes "none"

abbrev pub prop_word : List ℕ
prop_word = codes "prop:"

abbrev pub static_word : List ℕ
static_word = codes "static:"

abbrev pub classm_word : List ℕ
classm_word = codes "classm:"

-- Parts of the whole

abbrev pub header_word : List ℕ
header_word = codes "attrs transcript 1\nscript "

abbrev pub lines_word : List ℕ
lines_word = codes "lines "

abbrev pub final_word : List ℕ
final_word = codes "final\n"

abbrev pub object_word : List ℕ
object_word = codes "object "

abbrev pub end_word : List ℕ
end_word = codes "end\n"

-- the numbered threads, before their number
abbrev pub thread_word : List ℕ
thread_word = codes "t"
