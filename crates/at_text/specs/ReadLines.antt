-- private: no public clause cites it. Lines, as they are read.
use Rattle.std.specs.Prelude.{ℕ, ◌==◌, ◌^◌, Bool, false, ◌&&◌, List, [], ◌∷◌, map, Option, Some, None, if◌then◌else◌, codes}
use Rattle.at_value.specs.Types.{Op, Value, Reply, HookKind, Path}
use Rattle.at_value.specs.declared.operation.Op.TheVariants as ops
use Rattle.at_value.specs.declared.reply.Reply.TheVariants as replies
use Rattle.at_line.specs.Lines.{main_thread, finally_thread}
use Rattle.at_line.specs.Types.{Line, LineOp, LineReply, Local, What}
use Rattle.at_line.specs.declared.line.LineOp.TheVariants as line_ops
use Rattle.at_line.specs.declared.line.LineReply.TheVariants as line_replies
use Rattle.at_line.specs.declared.line.Local.TheVariants as locals
use Rattle.at_line.specs.declared.line.What.TheVariants as whats
use Rattle.at_script.specs.Bytes as bytes
use Rattle.at_script.specs.Parts.{ScriptParts}
use Rattle.at_text.specs.Words as words
use Rattle.at_text.specs.declared.words.OpWord.{OpWord}
use Rattle.at_text.specs.declared.words.OpWord.TheVariants as op_words
use Rattle.at_text.specs.declared.words.ReplyWord.{ReplyWord}
use Rattle.at_text.specs.declared.words.ReplyWord.TheVariants as reply_words
use Rattle.at_text.specs.declared.words.LocalWord.{LocalWord}
use Rattle.at_text.specs.declared.words.LocalWord.TheVariants as local_words
use Rattle.at_text.specs.Tables.{op_word, all_op_words, reply_word, all_reply_words, local_word, all_local_words, all_hooks, all_paths}
use Rattle.at_text.specs.Lines.{hook_word, path_item, thread_text}
use Rattle.at_text.specs.Readers.{Reader, Row, nothing, made, both, after, before, choice, begins_run, begins_with, number_at, positive_at, name_at}
use Rattle.at_text.specs.ReadValues.{object_at, object_attribute_at, class_attribute_at, class_item_at, classes_at, bases_at, value_at, value_item_at}

-- a thing that is one word
abbrev pub word_row : {A : Type 0} → (A → List ℕ) → A → Row A
word_row text a = (text a, nothing a)

-- Operations

abbrev pub operation_of : {A : Type 0} → (A → Op) → Reader A → Reader LineOp
operation_of f r = made (λ a. line_ops.Of (f a)) r

-- a blank and an object follow
abbrev pub begins_object : List ℕ → Bool
begins_object [] = false
begins_object (byte ∷ text) = byte == bytes.space && begins_with bytes.hash text

-- the second object of a section, where there is one
abbrev pub second_at : Reader (Option ℕ)
second_at = λ text. if begins_object text then after (codes " ") (made Some object_at) text else Some (None, text)

-- what follows the word of an operation
abbrev pub op_rest : ScriptParts → OpWord → Reader LineOp
op_rest s op_words.Get = operation_of (λ p. ops.Get p.0 p.1) (object_attribute_at s)
op_rest s op_words.Set = operation_of (λ p. ops.Set p.0.0 p.0.1 p.1) (both (object_attribute_at s) (value_item_at s))
op_rest s op_words.New = operation_of ops.New (name_at s.classes)
op_rest s op_words.Put = operation_of (λ p. ops.TypeSet p.0.0 p.0.1 p.1) (both (class_attribute_at s) (value_item_at s))
op_rest s op_words.Class = operation_of (λ p. ops.NewClass p.0 p.1) (both (name_at s.classes) (bases_at s))
op_rest s op_words.Cget = operation_of (λ p. ops.TypeGet p.0 p.1) (class_attribute_at s)
op_rest s op_words.Del = operation_of (λ p. ops.Del p.0 p.1) (object_attribute_at s)
op_rest s op_words.Special = operation_of (λ p. ops.Special p.0 p.1) (object_attribute_at s)
op_rest s op_words.Super =
    operation_of (λ p. ops.Super p.0 p.1.0 p.1.1) (both (before (name_at s.classes) (codes " ")) (object_attribute_at s))
op_rest s op_words.ClassOf = operation_of ops.ClassOf object_at
op_rest s op_words.Mro = operation_of ops.Mro (name_at s.classes)
op_rest s op_words.Cut = operation_of (λ p. ops.TypeDel p.0 p.1) (class_attribute_at s)
op_rest s op_words.Bases = operation_of (λ p. ops.SetBases p.0 p.1) (both (name_at s.classes) (bases_at s))
op_rest s op_words.Turn = operation_of (λ p. ops.SetClass p.0 p.1) (both object_at (class_item_at s))
op_rest s op_words.Share = operation_of (λ p. ops.Share p.0 p.1) (both (before object_at (codes " ")) object_at)
op_rest s op_words.Begin = made (λ p. line_ops.Begin p.0 p.1) (both object_at second_at)
op_rest s op_words.Finish = nothing line_ops.Finish

unfoldable pub line_op_at : ScriptParts → Reader LineOp
line_op_at s = choice (map (λ w. (op_word w, op_rest s w)) all_op_words)

-- Replies

unfoldable pub hook_at : Reader HookKind
hook_at = choice (map (word_row hook_word) all_hooks)

-- what `__init__` is, where it is there
abbrev pub init_at : ScriptParts → Reader (Option Value)
init_at s = λ text.
    if begins_with bytes.space text then after words.init_word (made Some (value_at s)) text else Some (None, text)

-- a hook: callee, receiver, other argument and value
abbrev pub hook_parts : (((HookKind × Value) × Value) × Value) × Value → Reply
hook_parts p = replies.Hook p.0.0.0.0 p.0.0.0.1 p.0.0.1 p.0.1 p.1

abbrev pub reply_of : {A : Type 0} → (A → Reply) → Reader A → Reader LineReply
reply_of f r = made (λ a. line_replies.Of (f a)) r

-- what follows the word of a reply
abbrev pub reply_rest : ScriptParts → ReplyWord → Reader LineReply
reply_rest s reply_words.Value = reply_of replies.Value (value_at s)
reply_rest s reply_words.Done = nothing (line_replies.Of replies.Done)
reply_rest s reply_words.Method = reply_of (λ p. replies.Method p.0 p.1) (both (name_at s.funcs) (value_item_at s))
reply_rest s reply_words.Made = reply_of (λ p. replies.Made p.0 p.1) (both object_at (init_at s))
reply_rest s reply_words.Hook =
    reply_of hook_parts (both (both (both (both hook_at (value_item_at s)) (value_item_at s)) (value_item_at s)) (value_item_at s))
reply_rest s reply_words.Order = reply_of replies.Order (classes_at s)
reply_rest s reply_words.Kept = nothing line_replies.Kept
reply_rest s reply_words.Suspended = made line_replies.Suspended (number_at (2 ^ 32))
reply_rest s reply_words.NoOrder = reply_of replies.NoOrder (name_at s.classes)
reply_rest s reply_words.NoAttr = nothing (line_replies.Of replies.NoAttr)
reply_rest s reply_words.NoGetter = nothing (line_replies.Of replies.NoGetter)
reply_rest s reply_words.NoSetter = nothing (line_replies.Of replies.NoSetter)
reply_rest s reply_words.NoDeleter = nothing (line_replies.Of replies.NoDeleter)
reply_rest s reply_words.NoClass = nothing (line_replies.Of replies.NoClass)
reply_rest s reply_words.NameTaken = nothing (line_replies.Of replies.NameTaken)
reply_rest s reply_words.EmptyBases = nothing (line_replies.Of replies.EmptyBases)
reply_rest s reply_words.Duplicate = nothing (line_replies.Of replies.Duplicate)
reply_rest s reply_words.Cycle = nothing (line_replies.Of replies.Cycle)
reply_rest s reply_words.Immutable = nothing (line_replies.Of replies.Immutable)
reply_rest s reply_words.NotSubclass = nothing (line_replies.Of replies.NotSubclass)
reply_rest s reply_words.Full = nothing (line_replies.Of replies.Full)

unfoldable pub line_reply_at : ScriptParts → Reader LineReply
line_reply_at s = choice (map (λ w. (reply_word w, reply_rest s w)) all_reply_words)

-- Lines

-- the way that a call went, between blanks
unfoldable pub path_item_at : Reader Path
path_item_at = choice (map (word_row path_item) all_paths)

-- what follows the word of a line that is no operation
abbrev pub local_rest : ScriptParts → LocalWord → Reader Local
local_rest s local_words.Depth = nothing locals.Depth
local_rest s local_words.Budget = nothing locals.Budget
local_rest s local_words.Kind = nothing locals.Kind
local_rest s local_words.Unbound = made locals.Unbound (name_at s.vars)
local_rest s local_words.NotCallable = nothing locals.NotCallable
local_rest s local_words.Worn = made locals.Worn (number_at (2 ^ 64))
local_rest s local_words.Full = made locals.Full (number_at (2 ^ 64))

unfoldable pub local_at : ScriptParts → Reader Local
local_at s = choice (map (λ w. (local_word w, local_rest s w)) all_local_words)

unfoldable pub thread_at : Reader ℕ
thread_at =
    choice (word_row thread_text main_thread ∷ word_row thread_text finally_thread ∷ (words.thread_word, positive_at finally_thread) ∷ [])

abbrev pub did : ((ℕ × Path) × LineOp) × LineReply → What
did p = whats.Did (record { 0 = p.0.0.0 }) p.0.0.1 p.0.1 p.1

-- place, path and operation
unfoldable pub done_at : ScriptParts → Reader ((ℕ × Path) × LineOp)
done_at s = before (both (both (number_at (2 ^ 64)) path_item_at) (line_op_at s)) (codes " = ")

-- place, path, operation and reply
unfoldable pub did_at : ScriptParts → Reader What
did_at s = made did (both (done_at s) (line_reply_at s))

-- what a line says that is no operation
unfoldable pub local_what_at : ScriptParts → Reader What
local_what_at s = after (codes "- local ") (made whats.Local (local_at s))

unfoldable pub what_at : ScriptParts → Reader What
what_at s = λ text. if begins_run text then did_at s text else local_what_at s text

-- the thread and the number of a line
unfoldable pub front_at : Reader (ℕ × ℕ)
front_at = before (both (before thread_at (codes " ")) (number_at (2 ^ 32))) (codes " ")

abbrev pub line_of : (ℕ × ℕ) × What → Line
line_of p = record { what = p.1; number = p.0.1; thread = p.0.0 }

unfoldable pub line_at : ScriptParts → Reader Line
line_at s = made line_of (before (both front_at (what_at s)) (codes "\n"))
