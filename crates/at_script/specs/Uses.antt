-- What each word of a line stands for. A new statement adds rows here, and changes no cause of a refusal.
use Rattle.std.specs.Prelude.{ℕ, ℤ, List, [], ◌∷◌, ◌++◌, map, Option, Some, None, if◌then◌else◌}
use Rattle.std.specs.Option.{option_to_list}
use Rattle.std.specs.List.{flat_map}
use Rattle.at_script.specs.Words.{is_register}
use Rattle.at_script.specs.Literals as literals
use Rattle.at_script.specs.Literals.{Written}
use Rattle.at_script.specs.Shapes as shapes
use Rattle.at_script.specs.Shapes.{Said}
use Rattle.at_script.specs.Texts as texts
use Rattle.at_script.specs.Texts.{Texts, Meaning, meaning_of}

pub data Use : Type 0 where
  -- the class that a line `class` makes
  subject : List ℕ → Use
  -- a class, also as a base
  class : List ℕ → Use
  -- the function that a line `func` begins
  body : List ℕ → Use
  -- a function after `static:`, `classm:` or `prop:`
  function : List ℕ → Use
  -- a variable that is bound
  variable : List ℕ → Use
  -- what a statement works on: a variable, a class, `self`, `arg`, `other` or `it`
  owner : List ℕ → Use
  -- a value by its name: a function too
  value : List ℕ → Use
  -- the name of an attribute
  attribute : List ℕ → Use
  -- a text
  text : List ℕ → Use
  -- a number that is a value
  integer : ℤ → Use
  -- a number of statements
  budget : ℤ → Use

abbrev pub value_uses : Written → List Use
value_uses literals.nothing = []
value_uses (literals.integer z) = integer z ∷ []
value_uses (literals.quoted t) = text t ∷ []
value_uses (literals.named w) = value w ∷ []
value_uses (literals.static f) = function f ∷ []
value_uses (literals.classm f) = function f ∷ []
value_uses (literals.prop reader writer deleter) =
    map function (option_to_list reader ++ option_to_list writer ++ option_to_list deleter)

abbrev pub given_uses : Option Written → List Use
given_uses None = []
given_uses (Some v) = value_uses v

-- in the order in which the words stand
abbrev pub uses_of : Said → List Use
uses_of (shapes.budget z) = budget z ∷ []
uses_of (shapes.func f) = body f ∷ []
uses_of shapes.main = []
uses_of shapes.thread = []
uses_of shapes.finally = []
uses_of shapes.end = []
uses_of (shapes.class c above) = subject c ∷ map class above
uses_of (shapes.bases c above) = class c ∷ map class above
uses_of (shapes.put c x v) = class c ∷ attribute x ∷ value_uses v
uses_of (shapes.cut c x) = class c ∷ attribute x ∷ []
uses_of (shapes.new a c v) = variable a ∷ class c ∷ given_uses v
uses_of (shapes.set r x v) = owner r ∷ attribute x ∷ value_uses v
uses_of (shapes.del r x) = owner r ∷ attribute x ∷ []
uses_of (shapes.get r x) = owner r ∷ attribute x ∷ []
uses_of (shapes.turn r c) = owner r ∷ class c ∷ []
uses_of (shapes.share r q) = owner r ∷ owner q ∷ []
uses_of (shapes.super_read c r x) = class c ∷ owner r ∷ attribute x ∷ []
uses_of (shapes.special r x) = owner r ∷ attribute x ∷ []
uses_of (shapes.classof r) = owner r ∷ []
uses_of (shapes.mro c) = class c ∷ []
uses_of (shapes.call r x v) = owner r ∷ attribute x ∷ given_uses v
uses_of (shapes.super_call c r x v) = class c ∷ owner r ∷ attribute x ∷ given_uses v
uses_of (shapes.bind a v) = variable a ∷ value_uses v
uses_of (shapes.result v) = value_uses v
uses_of (shapes.begin r q) = owner r ∷ map owner (option_to_list q)
uses_of shapes.finish = []
uses_of shapes.checkpoint = []

-- What a line numbers

-- an identifier that nothing declares
abbrev pub if_variable : Meaning → List ℕ → List (List ℕ)
if_variable (texts.function number) word = []
if_variable (texts.class number) word = []
if_variable texts.variable word = word ∷ []

-- a name that isn't `self`, `arg`, `other` or `it`, as a variable
abbrev pub variables_named : Texts → List ℕ → List (List ℕ)
variables_named t word = if is_register word then [] else if_variable (meaning_of t word) word

-- the variables of a use
abbrev pub variables_in : Texts → Use → List (List ℕ)
variables_in t (subject w) = []
variables_in t (class w) = []
variables_in t (body w) = []
variables_in t (function w) = []
variables_in t (variable w) = w ∷ []
variables_in t (owner w) = variables_named t w
variables_in t (value w) = variables_named t w
variables_in t (attribute w) = []
variables_in t (text w) = []
variables_in t (integer z) = []
variables_in t (budget z) = []

-- the names of attributes and the texts of a use
abbrev pub names_in : Use → List (List ℕ)
names_in (subject w) = []
names_in (class w) = []
names_in (body w) = []
names_in (function w) = []
names_in (variable w) = []
names_in (owner w) = []
names_in (value w) = []
names_in (attribute w) = w ∷ []
names_in (text w) = w ∷ []
names_in (integer z) = []
names_in (budget z) = []

-- the texts with those that a line uses
abbrev pub with_uses : Texts → List Use → Texts
with_uses t uses = record t {
  names = texts.with_texts t.names (flat_map names_in uses);
  vars = texts.with_texts t.vars (flat_map (variables_in t) uses);
}
