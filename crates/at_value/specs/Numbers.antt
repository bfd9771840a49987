-- The names and the class that every script has.
use Rattle.std.specs.Prelude.{ℕ}

-- The special names, which are looked up on classes, in the order in which they are numbered: `__get__`, `__set__` and
-- `__delete__` of a descriptor, `__getattr__`, which answers where nothing else did, and `__init__`, for a new object.
abbrev pub descriptor_get : ℕ
descriptor_get = 0

abbrev pub descriptor_set : ℕ
descriptor_set = 1

abbrev pub descriptor_delete : ℕ
descriptor_delete = 2

abbrev pub getattr : ℕ
getattr = 3

abbrev pub init : ℕ
init = 4

-- how many special names there are
abbrev pub special_names : ℕ
special_names = 5

-- the class `object`
abbrev pub object : ℕ
object = 0
