-- What a line says has identifiers where its form asks for them.
use Rattle.std.proofs.Common.{◌≡◌, refl, ℕ, ◌==◌, List, [], ◌∷◌, ◌++◌, length, map, Bool, true, false, cond, ◌&&◌, leb, Option, Some, None, IfSome, bytes_eq, codes, option_to_list}
use Rattle.std.specs.Option.{option_map, option_and_then}
use Rattle.std.specs.List.{list_all, AllByRecursion}
use Rattle.at_value.specs.Widths as widths
use Rattle.at_script.specs.declared.keyword.Keyword as keyword
use Rattle.at_script.specs.declared.keyword.Keyword.TheVariants as keywords
use Rattle.at_script.specs.Bytes as bytes
use Rattle.at_script.specs.Keywords.{keyword_of}
use Rattle.at_script.specs.Pieces.{halves, one_part, two_parts}
use Rattle.at_script.specs.Words.{is_identifier, identifier_of, number_of}
use Rattle.at_script.specs.Literals.{Written, nothing, integer, quoted, named, static, classm, or, quoted_of, function_of, property_of, wrapped, wrapped_of, value_of}
use Rattle.at_script.specs.Shapes as shapes
use Rattle.at_script.specs.Shapes.{Said, attribute_of, are_bases, identifier, identifiers, identifier_or_two, class_and_bases, attribute, attribute_and_value, identifier_and_attribute, identifier_and_value, value, given, identifiers_and_given, attribute_and_given, identifier_attribute_and_given, alone, words_say}
use Rattle.at_script.specs.Uses as uses
use Rattle.at_script.specs.Uses.{Use, value_uses, given_uses, uses_of}
use Rattle.at_script.specs.Causes.{said_in, says_after, uses_said}
use Rattle.at_script.proofs.Ascii.{and-true}

abbrev pub IsName : List ℕ → Type 0
IsName word = is_identifier word ≡ true

-- the word of a use is an identifier
abbrev pub HasForm : Use → Type 0
HasForm (uses.subject w) = IsName w
HasForm (uses.class w) = IsName w
HasForm (uses.body w) = IsName w
HasForm (uses.function w) = IsName w
HasForm (uses.variable w) = IsName w
HasForm (uses.owner w) = IsName w
HasForm (uses.value w) = IsName w
HasForm (uses.attribute w) = IsName w
HasForm (uses.text w) = IsName w
HasForm (uses.integer z) = Unit {0}
HasForm (uses.budget z) = Unit {0}

abbrev HaveForm : List Use → Type 0
HaveForm = AllByRecursion HasForm

-- What is so of each outcome that there is

module _ {A B : Type 0} (P : A → Type 0) (Q : B → Type 0) where
  then_some : (f : A → Option B) (o : Option A) → IfSome o P → ((x : A) → P x → IfSome (f x) Q) → IfSome (option_and_then f o) Q
  then_some f None h k = tt
  then_some f (Some x) h k = k x h

  map_some : (f : A → B) (o : Option A) → IfSome o P → ((x : A) → P x → Q (f x)) → IfSome (option_map f o) Q
  map_some f None h k = tt
  map_some f (Some x) h k = k x h

module _ {A : Type 0} where
  anything : (o : Option A) → IfSome o (λ x. Unit {0})
  anything None = tt
  anything (Some x) = tt

  or_some : (P : A → Type 0) (o rest : Option A) → IfSome o P → IfSome rest P → IfSome (or o rest) P
  or_some P None rest h k = k
  or_some P (Some x) rest h k = h

  if_some : (P : A → Type 0) (b : Bool) (o rest : Option A) → IfSome o P → IfSome rest P → IfSome (cond b o rest) P
  if_some P true o rest h k = h
  if_some P false o rest h k = k

-- Words

name_form : (word : List ℕ) → IfSome (identifier_of word) IsName
name_form word = by_test (is_identifier word) refl
  where
    by_test : (b : Bool) → is_identifier word ≡ b → IfSome (cond b (Some word) None) IsName
    by_test true is = is
    by_test false is = tt

abbrev AreTwo : List ℕ × List ℕ → Type 0
AreTwo p = IsName p.0 × IsName p.1

attribute_form : (word : List ℕ) → IfSome (attribute_of word) AreTwo
attribute_form word =
    then_some (λ sides. Unit {0}) AreTwo _ (halves bytes.dot word) (anything (halves bytes.dot word)) (λ sides _.
    then_some IsName AreTwo _ (identifier_of sides.0) (name_form sides.0) (λ owner o. then_some IsName AreTwo _ (identifier_of sides.1) (name_form sides.1) (λ name n. (o, n))))

-- Values

abbrev HasWritten : Written → Type 0
HasWritten v = HaveForm (value_uses v)

quoted_form : (word : List ℕ) → IfSome (quoted_of word) IsName
quoted_form word =
    then_some (λ first. Unit {0}) IsName _ (halves bytes.double_quote word) (anything (halves bytes.double_quote word)) (λ first _.
    then_some (λ second. Unit {0}) IsName _ (halves bytes.double_quote first.1) (anything (halves bytes.double_quote first.1)) (λ second _.
    if_some IsName (length first.0 == 0 && length second.1 == 0) (identifier_of second.0) None (name_form second.0) tt))

abbrev IsFunction : Option (List ℕ) → Type 0
IsFunction f = AllByRecursion IsName (option_to_list f)

function_form : (word : List ℕ) → IfSome (function_of word) IsFunction
function_form word =
    if_some IsFunction (bytes_eq word (codes "-")) (Some None) (option_map Some (identifier_of word)) tt (map_some IsName IsFunction Some (identifier_of word) (name_form word) (λ f h. (h, tt)))

pub both_forms : (us vs : List (List ℕ)) → AllByRecursion IsName us → AllByRecursion IsName vs → AllByRecursion IsName (us ++ vs)
both_forms [] vs h k = k
both_forms (u ∷ us) vs h k = (h.0, both_forms us vs h.1 k)

functions_form : (fs : List (List ℕ)) → AllByRecursion IsName fs → HaveForm (map uses.function fs)
functions_form [] h = tt
functions_form (f ∷ fs) h = (h.0, functions_form fs h.1)

classes_form : (cs : List (List ℕ)) → list_all is_identifier cs ≡ true → HaveForm (map uses.class cs)
classes_form [] h = tt
classes_form (c ∷ cs) h = let k = and-true (is_identifier c) (list_all is_identifier cs) h in (k.0, classes_form cs k.1)

property_form : (word : List ℕ) → IfSome (property_of word) HasWritten
property_form word =
    then_some (λ first. Unit {0}) HasWritten _ (halves bytes.comma word) (anything (halves bytes.comma word)) (λ first _.
    then_some (λ second. Unit {0}) HasWritten _ (halves bytes.comma first.1) (anything (halves bytes.comma first.1)) (λ second _.
    then_some IsFunction HasWritten _ (function_of first.0) (function_form first.0) (λ get g.
    then_some IsFunction HasWritten _ (function_of second.0) (function_form second.0) (λ set s.
    then_some IsFunction HasWritten _ (function_of second.1) (function_form second.1) (λ del d.
    functions_form (option_to_list get ++ option_to_list set ++ option_to_list del) (both_forms (option_to_list get ++ option_to_list set) (option_to_list del) (both_forms (option_to_list get) (option_to_list set) g s) d))))))

wrapped_form : (word : List ℕ) → IfSome (wrapped_of word) HasWritten
wrapped_form word =
    then_some (λ sides. Unit {0}) HasWritten wrapped (halves bytes.colon word) (anything (halves bytes.colon word)) (λ sides _.
    if_some HasWritten (bytes_eq sides.0 (codes "static")) _ _ (map_some IsName HasWritten static (identifier_of sides.1) (name_form sides.1) (λ f h. (h, tt)))
    (if_some HasWritten (bytes_eq sides.0 (codes "classm")) _ _ (map_some IsName HasWritten classm (identifier_of sides.1) (name_form sides.1) (λ f h. (h, tt)))
    (if_some HasWritten (bytes_eq sides.0 (codes "prop")) (property_of sides.1) None (property_form sides.1) tt)))

value_form : (word : List ℕ) → IfSome (value_of word) HasWritten
value_form word =
    if_some HasWritten (bytes_eq word (codes "none")) (Some nothing) _ tt
    (or_some HasWritten _ _ (map_some IsName HasWritten named (identifier_of word) (name_form word) (λ w h. (h, tt)))
    (or_some HasWritten _ _ (map_some (λ z. Unit {0}) HasWritten integer (number_of word) (anything (number_of word)) (λ z _. (tt, tt)))
    (or_some HasWritten _ _ (map_some IsName HasWritten quoted (quoted_of word) (quoted_form word) (λ t h. (h, tt))) (wrapped_form word))))

-- Lines

abbrev HasSaid : Said → Type 0
HasSaid said = HaveForm (uses_of said)

one_name : (words : List (List ℕ)) → IfSome (identifier words) IsName
one_name words = then_some (λ word. Unit {0}) IsName identifier_of (one_part words) (anything (one_part words)) (λ word _. name_form word)

two_names : (words : List (List ℕ)) → IfSome (identifiers words) AreTwo
two_names words =
    then_some (λ parts. Unit {0}) AreTwo _ (two_parts words) (anything (two_parts words)) (λ parts _.
    then_some IsName AreTwo _ (identifier_of parts.0) (name_form parts.0) (λ first f. then_some IsName AreTwo _ (identifier_of parts.1) (name_form parts.1) (λ second s. (f, s))))

abbrev IsOneOrTwo : List ℕ × Option (List ℕ) → Type 0
IsOneOrTwo p = IsName p.0 × HaveForm (map uses.owner (option_to_list p.1))

one_or_two : (words : List (List ℕ)) → IfSome (identifier_or_two words) IsOneOrTwo
one_or_two [] = tt
one_or_two (r ∷ []) = map_some IsName IsOneOrTwo _ (identifier_of r) (name_form r) (λ first f. (f, tt))
one_or_two (r ∷ q ∷ []) =
    then_some IsName IsOneOrTwo _ (identifier_of r) (name_form r) (λ first f. then_some IsName IsOneOrTwo _ (identifier_of q) (name_form q) (λ second s. (f, (s, tt))))
one_or_two (r ∷ q ∷ word ∷ rest) = tt

abbrev IsClassed : List ℕ × List (List ℕ) → Type 0
IsClassed p = IsName p.0 × HaveForm (map uses.class p.1)

classed : (words : List (List ℕ)) → IfSome (class_and_bases words) IsClassed
classed [] = tt
classed (c ∷ words) =
    then_some IsName IsClassed _ (identifier_of c) (name_form c) (λ name n. by_test name n (are_bases words) refl)
  where
    by_test : (name : List ℕ) → IsName name → (b : Bool) → are_bases words ≡ b → IfSome (cond b (Some (name, words)) None) IsClassed
    by_test name n true is = (n, classes_form words (and-true (leb (length words) widths.most_bases) (list_all is_identifier words) is).1)
    by_test name n false is = tt

one_attribute : (words : List (List ℕ)) → IfSome (attribute words) AreTwo
one_attribute words = then_some (λ word. Unit {0}) AreTwo attribute_of (one_part words) (anything (one_part words)) (λ word _. attribute_form word)

abbrev IsPlaced : (List ℕ × List ℕ) × Written → Type 0
IsPlaced p = AreTwo p.0 × HasWritten p.1

attribute_value : (words : List (List ℕ)) → IfSome (attribute_and_value words) IsPlaced
attribute_value words =
    then_some (λ parts. Unit {0}) IsPlaced _ (two_parts words) (anything (two_parts words)) (λ parts _.
    then_some AreTwo IsPlaced _ (attribute_of parts.0) (attribute_form parts.0) (λ place p. then_some HasWritten IsPlaced _ (value_of parts.1) (value_form parts.1) (λ v h. (p, h))))

abbrev IsAbove : List ℕ × (List ℕ × List ℕ) → Type 0
IsAbove p = IsName p.0 × AreTwo p.1

name_attribute : (words : List (List ℕ)) → IfSome (identifier_and_attribute words) IsAbove
name_attribute words =
    then_some (λ parts. Unit {0}) IsAbove _ (two_parts words) (anything (two_parts words)) (λ parts _.
    then_some IsName IsAbove _ (identifier_of parts.0) (name_form parts.0) (λ name n. then_some AreTwo IsAbove _ (attribute_of parts.1) (attribute_form parts.1) (λ place p. (n, p))))

abbrev IsBound : List ℕ × Written → Type 0
IsBound p = IsName p.0 × HasWritten p.1

name_value : (words : List (List ℕ)) → IfSome (identifier_and_value words) IsBound
name_value words =
    then_some (λ parts. Unit {0}) IsBound _ (two_parts words) (anything (two_parts words)) (λ parts _.
    then_some IsName IsBound _ (identifier_of parts.0) (name_form parts.0) (λ name n. then_some HasWritten IsBound _ (value_of parts.1) (value_form parts.1) (λ v h. (n, h))))

one_value : (words : List (List ℕ)) → IfSome (value words) HasWritten
one_value words = then_some (λ word. Unit {0}) HasWritten value_of (one_part words) (anything (one_part words)) (λ word _. value_form word)

abbrev IsGiven : Option Written → Type 0
IsGiven o = HaveForm (given_uses o)

given_form : (words : List (List ℕ)) → IfSome (given words) IsGiven
given_form [] = tt
given_form (word ∷ []) = map_some HasWritten IsGiven Some (value_of word) (value_form word) (λ v h. h)
given_form (word ∷ next ∷ rest) = tt

abbrev IsNew : (List ℕ × List ℕ) × Option Written → Type 0
IsNew p = AreTwo p.0 × IsGiven p.1

names_given : (words : List (List ℕ)) → IfSome (identifiers_and_given words) IsNew
names_given [] = tt
names_given (a ∷ []) = tt
names_given (a ∷ c ∷ rest) =
    then_some IsName IsNew _ (identifier_of a) (name_form a) (λ first f.
    then_some IsName IsNew _ (identifier_of c) (name_form c) (λ second s. then_some IsGiven IsNew _ (given rest) (given_form rest) (λ v h. ((f, s), h))))

attribute_given : (words : List (List ℕ)) → IfSome (attribute_and_given words) IsNew
attribute_given [] = tt
attribute_given (word ∷ rest) =
    then_some AreTwo IsNew _ (attribute_of word) (attribute_form word) (λ place p. then_some IsGiven IsNew _ (given rest) (given_form rest) (λ v h. (p, h)))

abbrev IsCalled : List ℕ × (List ℕ × List ℕ) × Option Written → Type 0
IsCalled p = IsName p.0 × AreTwo p.1 × IsGiven p.2

name_attribute_given : (words : List (List ℕ)) → IfSome (identifier_attribute_and_given words) IsCalled
name_attribute_given [] = tt
name_attribute_given (c ∷ []) = tt
name_attribute_given (c ∷ word ∷ rest) =
    then_some IsName IsCalled _ (identifier_of c) (name_form c) (λ name n.
    then_some AreTwo IsCalled _ (attribute_of word) (attribute_form word) (λ place p. then_some IsGiven IsCalled _ (given rest) (given_form rest) (λ v h. (n, p, h))))

alone_form : (said : Said) (words : List (List ℕ)) → HasSaid said → IfSome (alone said words) HasSaid
alone_form said [] h = h
alone_form said (word ∷ words) h = tt

words_form : (k : keyword.Keyword) (words : List (List ℕ)) → IfSome (words_say k words) HasSaid
words_form keywords.Attrs words = tt
words_form keywords.Budget words =
    map_some (λ z. Unit {0}) HasSaid shapes.budget _ (anything _) (λ z _. (tt, tt))
words_form keywords.Func words = map_some IsName HasSaid shapes.func (identifier words) (one_name words) (λ w h. (h, tt))
words_form keywords.Main words = alone_form shapes.main words tt
words_form keywords.Thread words = alone_form shapes.thread words tt
words_form keywords.Finally words = alone_form shapes.finally words tt
words_form keywords.End words = alone_form shapes.end words tt
words_form keywords.Class words = map_some IsClassed HasSaid _ (class_and_bases words) (classed words) (λ p h. h)
words_form keywords.Bases words = map_some IsClassed HasSaid _ (class_and_bases words) (classed words) (λ p h. h)
words_form keywords.Put words = map_some IsPlaced HasSaid _ (attribute_and_value words) (attribute_value words) (λ p h. (h.0.0, (h.0.1, h.1)))
words_form keywords.Cut words = map_some AreTwo HasSaid _ (attribute words) (one_attribute words) (λ p h. (h.0, (h.1, tt)))
words_form keywords.New words = map_some IsNew HasSaid _ (identifiers_and_given words) (names_given words) (λ p h. (h.0.0, (h.0.1, h.1)))
words_form keywords.Set words = map_some IsPlaced HasSaid _ (attribute_and_value words) (attribute_value words) (λ p h. (h.0.0, (h.0.1, h.1)))
words_form keywords.Del words = map_some AreTwo HasSaid _ (attribute words) (one_attribute words) (λ p h. (h.0, (h.1, tt)))
words_form keywords.Get words = map_some AreTwo HasSaid _ (attribute words) (one_attribute words) (λ p h. (h.0, (h.1, tt)))
words_form keywords.Turn words = map_some AreTwo HasSaid _ (identifiers words) (two_names words) (λ p h. (h.0, (h.1, tt)))
words_form keywords.Share words = map_some AreTwo HasSaid _ (identifiers words) (two_names words) (λ p h. (h.0, (h.1, tt)))
words_form keywords.Super words = map_some IsAbove HasSaid _ (identifier_and_attribute words) (name_attribute words) (λ p h. (h.0, (h.1.0, (h.1.1, tt))))
words_form keywords.Special words = map_some AreTwo HasSaid _ (attribute words) (one_attribute words) (λ p h. (h.0, (h.1, tt)))
words_form keywords.ClassOf words = map_some IsName HasSaid shapes.classof (identifier words) (one_name words) (λ w h. (h, tt))
words_form keywords.Mro words = map_some IsName HasSaid shapes.mro (identifier words) (one_name words) (λ w h. (h, tt))
words_form keywords.Call words = map_some IsNew HasSaid _ (attribute_and_given words) (attribute_given words) (λ p h. (h.0.0, (h.0.1, h.1)))
words_form keywords.CallSuper words =
    map_some IsCalled HasSaid _ (identifier_attribute_and_given words) (name_attribute_given words) (λ p h. (h.0, (h.1.0, (h.1.1, h.2))))
words_form keywords.Let words = map_some IsBound HasSaid _ (identifier_and_value words) (name_value words) (λ p h. h)
words_form keywords.Return words = map_some HasWritten HasSaid shapes.result (value words) (one_value words) (λ v h. h)
words_form keywords.Begin words = map_some IsOneOrTwo HasSaid _ (identifier_or_two words) (one_or_two words) (λ p h. h)
words_form keywords.Finish words = alone_form shapes.finish words tt
words_form keywords.Checkpoint words = alone_form shapes.checkpoint words tt

uses_form : (o : Option Said) → IfSome o HasSaid → HaveForm (uses_said o)
uses_form None h = tt
uses_form (Some said) h = h

said_form : (k : Option keyword.Keyword) (words : List (List ℕ)) → HaveForm (uses_said (says_after k words))
said_form None words = tt
said_form (Some k) words = uses_form (words_say k words) (words_form k words)

-- what stands for a name in the words of a line is an identifier
pub uses_are_names : (words : List (List ℕ)) → HaveForm (uses_said (said_in words))
uses_are_names [] = tt
uses_are_names (word ∷ words) = said_form (keyword_of word) words
