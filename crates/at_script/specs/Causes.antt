-- What may be wrong with a line: each cause is a test of the line, in what the text before it says and what the whole text
-- declares.
use Rattle.std.specs.Prelude.{ℕ, ◌+◌, nat_lt, nat_le, Bool, true, false, not, ◌&&◌, ◌||◌, List, [], ◌∷◌, length, Option, Some, None, is_some, is_none, if◌then◌else◌, codes, bytes_eq}
use Rattle.std.specs.List.{list_all, list_any, find}
use Rattle.at_value.specs.Widths as widths
use Rattle.at_name.specs.Texts.{place_of}
use Rattle.at_script.specs.declared.keyword.Keyword as keyword
use Rattle.at_script.specs.declared.keyword.Keyword.TheVariants as keywords
use Rattle.at_script.specs.declared.stage.Stage as stage
use Rattle.at_script.specs.declared.stage.Stage.TheVariants as stages
use Rattle.at_script.specs.declared.fault.Cause as cause
use Rattle.at_script.specs.declared.fault.Cause.TheVariants as causes
use Rattle.at_script.specs.Limits as limits
use Rattle.at_script.specs.Lines.{is_allowed, words_in, is_skipped}
use Rattle.at_script.specs.Keywords.{keyword_of}
use Rattle.at_script.specs.Pieces.{two_parts}
use Rattle.at_script.specs.Words.{is_free, is_short, is_register, is_object, is_attribute_name, is_in_range, is_budget}
use Rattle.at_script.specs.Shapes.{Said, words_say}
use Rattle.at_script.specs.Stages.{may_stand}
use Rattle.at_script.specs.Texts as texts
use Rattle.at_script.specs.Texts.{Texts, Meaning, meaning_of, number_in}
use Rattle.at_script.specs.Uses.{Use, subject, class, body, function, variable, owner, value, attribute, text, integer, budget, uses_of, with_uses}
use Rattle.at_script.specs.State.{State}

-- What a line is

abbrev pub is_first : stage.Stage → Bool
is_first stages.Header = true
is_first stages.Opening = false
is_first stages.Functions = false
is_first (stages.Within kind section) = false
is_first stages.Ending = false
is_first stages.Closed = false

-- the words that are read: none of a line that is skipped, and none of the first, which is the header
abbrev pub read_words : State → List ℕ → List (List ℕ)
read_words s line = if is_first s.stage || is_skipped (words_in line) then [] else words_in line

-- the keyword with which the words begin
abbrev pub keyword_in : List (List ℕ) → Option keyword.Keyword
keyword_in [] = None
keyword_in (word ∷ words) = keyword_of word

abbrev pub says_after : Option keyword.Keyword → List (List ℕ) → Option Said
says_after None words = None
says_after (Some k) words = words_say k words

-- what the words say
abbrev pub said_in : List (List ℕ) → Option Said
said_in [] = None
said_in (word ∷ words) = says_after (keyword_of word) words

abbrev pub uses_said : Option Said → List Use
uses_said None = []
uses_said (Some said) = uses_of said

-- what the words of a line stand for
abbrev pub uses_in : State → List ℕ → List Use
uses_in s line = uses_said (said_in (read_words s line))

-- The causes

-- `byte`: a byte that isn't allowed
abbrev pub has_byte : List ℕ → Bool
has_byte line = not (list_all is_allowed line)

-- whether these are the two words
abbrev pub are_words : List ℕ → List ℕ → Option (List ℕ × List ℕ) → Bool
are_words first second None = false
are_words first second (Some words) = bytes_eq words.0 first && bytes_eq words.1 second

-- `header`: the first line, and its words aren't `attrs` and `1`
abbrev pub has_header : State → List ℕ → Bool
has_header s line = is_first s.stage && not (are_words (codes "attrs") (codes "1") (two_parts (words_in line)))

-- `word`: the first word is no keyword
abbrev pub has_word : List (List ℕ) → Bool
has_word [] = false
has_word (word ∷ words) = is_none (keyword_of word)

abbrev pub may_not_stand : stage.Stage → Option keyword.Keyword → Bool
may_not_stand stage None = false
may_not_stand stage (Some k) = not (may_stand stage k)

-- `place`: the keyword may not stand there
abbrev pub has_place : State → List (List ℕ) → Bool
has_place s words = may_not_stand s.stage (keyword_in words)

-- `form`: a wrong number of words, or a word that isn't of its form
abbrev pub has_form : List (List ℕ) → Bool
has_form words = is_some (keyword_in words) && is_none (said_in words)

-- `number`: a number out of its range
abbrev pub is_out_of_range : Use → Bool
is_out_of_range (integer z) = not (is_in_range z)
is_out_of_range (budget z) = not (is_budget z)
is_out_of_range (subject w) = false
is_out_of_range (class w) = false
is_out_of_range (body w) = false
is_out_of_range (function w) = false
is_out_of_range (variable w) = false
is_out_of_range (owner w) = false
is_out_of_range (value w) = false
is_out_of_range (attribute w) = false
is_out_of_range (text w) = false

abbrev pub means_function : Meaning → Bool
means_function (texts.function number) = true
means_function (texts.class number) = false
means_function texts.variable = false

abbrev pub means_class : Meaning → Bool
means_class (texts.function number) = false
means_class (texts.class number) = true
means_class texts.variable = false

abbrev pub means_variable : Meaning → Bool
means_variable (texts.function number) = false
means_variable (texts.class number) = false
means_variable texts.variable = true

-- a variable of an earlier line
abbrev pub was_variable : Texts → List ℕ → Bool
was_variable t word = means_variable (meaning_of t word) && is_some (place_of word t.vars)

-- a function that an earlier line began, where these many were begun
abbrev pub was_begun : ℕ → Texts → List ℕ → Bool
was_begun begun t word = nat_lt (number_in t.funcs word) begun

-- `name`: an identifier of more than 32 bytes, a reserved one where the grammar doesn't list it, a name that no attribute
-- may have, a second function of one name, or an identifier used against its declaration or an earlier line
abbrev pub is_misnamed : ℕ → Texts → Use → Bool
is_misnamed begun t (subject w) = not (is_free w) || means_function (meaning_of t w)
is_misnamed begun t (class w) =
    not (is_free w || is_object w) || means_function (meaning_of t w) || was_variable t w
is_misnamed begun t (body w) = not (is_free w) || was_begun begun t w
is_misnamed begun t (function w) = not (is_free w) || means_class (meaning_of t w) || was_variable t w
is_misnamed begun t (variable w) = not (is_free w) || not (means_variable (meaning_of t w))
is_misnamed begun t (owner w) =
    not (is_free w || is_register w || is_object w) || means_function (meaning_of t w)
is_misnamed begun t (value w) = not (is_short w)
is_misnamed begun t (attribute w) = not (is_attribute_name w)
is_misnamed begun t (text w) = not (is_free w)
is_misnamed begun t (integer z) = false
is_misnamed begun t (budget z) = false

-- `class`: an identifier that stands for a class, and that no line `class` declares
abbrev pub is_no_class : Texts → Use → Bool
is_no_class t (class w) = is_none (place_of w t.classes)
is_no_class t (subject w) = false
is_no_class t (body w) = false
is_no_class t (function w) = false
is_no_class t (variable w) = false
is_no_class t (owner w) = false
is_no_class t (value w) = false
is_no_class t (attribute w) = false
is_no_class t (text w) = false
is_no_class t (integer z) = false
is_no_class t (budget z) = false

-- `func`: an identifier after `static:`, `classm:` or `prop:` that no line `func` declares
abbrev pub is_no_function : Texts → Use → Bool
is_no_function t (function w) = is_none (place_of w t.funcs)
is_no_function t (subject w) = false
is_no_function t (class w) = false
is_no_function t (body w) = false
is_no_function t (variable w) = false
is_no_function t (owner w) = false
is_no_function t (value w) = false
is_no_function t (attribute w) = false
is_no_function t (text w) = false
is_no_function t (integer z) = false
is_no_function t (budget z) = false

-- a class or a function past the last that there may be, where a line first declares it
abbrev pub is_one_too_many : Texts → Use → Bool
is_one_too_many t (subject w) = nat_le widths.classes (number_in t.classes w)
is_one_too_many t (body w) = nat_le widths.functions (number_in t.funcs w)
is_one_too_many t (class w) = false
is_one_too_many t (function w) = false
is_one_too_many t (variable w) = false
is_one_too_many t (owner w) = false
is_one_too_many t (value w) = false
is_one_too_many t (attribute w) = false
is_one_too_many t (text w) = false
is_one_too_many t (integer z) = false
is_one_too_many t (budget z) = false

-- more names or variables than there may be
abbrev pub are_too_many : Texts → Bool
are_too_many t = nat_lt widths.names (length t.names) || nat_lt limits.most_variables (length t.vars)

abbrev pub begins_thread : Option keyword.Keyword → Bool
begins_thread None = false
begins_thread (Some keywords.Attrs) = false
begins_thread (Some keywords.Budget) = false
begins_thread (Some keywords.Func) = false
begins_thread (Some keywords.Main) = false
begins_thread (Some keywords.Thread) = true
begins_thread (Some keywords.Finally) = false
begins_thread (Some keywords.End) = false
begins_thread (Some keywords.Class) = false
begins_thread (Some keywords.Bases) = false
begins_thread (Some keywords.Put) = false
begins_thread (Some keywords.Cut) = false
begins_thread (Some keywords.New) = false
begins_thread (Some keywords.Set) = false
begins_thread (Some keywords.Del) = false
begins_thread (Some keywords.Get) = false
begins_thread (Some keywords.Turn) = false
begins_thread (Some keywords.Share) = false
begins_thread (Some keywords.Super) = false
begins_thread (Some keywords.Special) = false
begins_thread (Some keywords.ClassOf) = false
begins_thread (Some keywords.Mro) = false
begins_thread (Some keywords.Call) = false
begins_thread (Some keywords.CallSuper) = false
begins_thread (Some keywords.Let) = false
begins_thread (Some keywords.Return) = false
begins_thread (Some keywords.Begin) = false
begins_thread (Some keywords.Finish) = false
begins_thread (Some keywords.Checkpoint) = false

-- `limit`: the line brings the bytes of the text, its newline with them, or the number of classes, functions, names,
-- variables or threads above what a script may have
abbrev pub has_limit : State → List ℕ → Bool
has_limit s line =
    nat_lt limits.most_bytes (s.bytes + length line) || list_any (is_one_too_many s.texts) (uses_in s line) || are_too_many (with_uses s.texts (uses_in s line))
    || (begins_thread (keyword_in (read_words s line)) && nat_le limits.most_threads (length s.threads))

-- whether the line has this offence; that the text ends too early is none of a line
abbrev pub has_cause : State → List ℕ → cause.Cause → Bool
has_cause s line causes.Byte = has_byte line
has_cause s line causes.Header = has_header s line
has_cause s line causes.Word = has_word (read_words s line)
has_cause s line causes.Place = has_place s (read_words s line)
has_cause s line causes.Form = has_form (read_words s line)
has_cause s line causes.Number = list_any is_out_of_range (uses_in s line)
has_cause s line causes.Name = list_any (is_misnamed (length s.bodies) s.texts) (uses_in s line)
has_cause s line causes.Class = list_any (is_no_class s.texts) (uses_in s line)
has_cause s line causes.Func = list_any (is_no_function s.texts) (uses_in s line)
has_cause s line causes.Limit = has_limit s line
has_cause s line causes.End = false

-- in the order in which they are tried
abbrev pub all_causes : List cause.Cause
all_causes =
    causes.Byte ∷ causes.Header ∷ causes.Word ∷ causes.Place ∷ causes.Form ∷ causes.Number ∷ causes.Name ∷ causes.Class ∷ causes.Func
    ∷ causes.Limit ∷ causes.End ∷ []

-- what is wrong with a line: the first that is
abbrev pub cause_of : State → List ℕ → Option cause.Cause
cause_of s line = find (has_cause s line) all_causes
