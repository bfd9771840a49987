-- How the lines of a run are written.
use Rattle.std.specs.Prelude.{ℕ, ◌==◌, List, ◌++◌, Option, Some, None, if◌then◌else◌, codes, decimal}
use Rattle.at_value.specs.Types.{Op, Value, Reply, HookKind, Path, Miss}
use Rattle.at_value.specs.declared.operation.Op.TheVariants as ops
use Rattle.at_value.specs.declared.reply.Reply.TheVariants as replies
use Rattle.at_value.specs.declared.reply.HookKind.TheVariants as hooks
use Rattle.at_value.specs.declared.reply.Path.TheVariants as paths
use Rattle.at_value.specs.declared.reply.Miss.TheVariants as misses
use Rattle.at_line.specs.Lines.{main_thread, finally_thread}
use Rattle.at_line.specs.Types.{Line, LineOp, LineReply, Local, What}
use Rattle.at_line.specs.declared.line.LineOp.TheVariants as line_ops
use Rattle.at_line.specs.declared.line.LineReply.TheVariants as line_replies
use Rattle.at_line.specs.declared.line.Local.TheVariants as locals
use Rattle.at_line.specs.declared.line.What.TheVariants as whats
use Rattle.at_script.specs.Parts.{ScriptParts}
use Rattle.at_text.specs.Words as words
use Rattle.at_text.specs.Values.{text_at, object_text, object_attribute, class_attribute, class_item, classes_text, value_text, value_item}

-- an operation of the data model, in the word of its statement; `cget` reads an attribute of a class
abbrev pub op_text : ScriptParts → Op → List ℕ
op_text s (ops.NewClass c bases) = words.class_word ++ text_at s.classes c ++ classes_text s bases
op_text s (ops.TypeSet c x v) = words.put_word ++ class_attribute s c x ++ value_item s v
op_text s (ops.TypeDel c x) = words.cut_word ++ class_attribute s c x
op_text s (ops.SetBases c bases) = words.bases_word ++ text_at s.classes c ++ classes_text s bases
op_text s (ops.New c) = words.new_word ++ text_at s.classes c
op_text s (ops.Set o x v) = words.set_word ++ object_attribute s o x ++ value_item s v
op_text s (ops.Del o x) = words.del_word ++ object_attribute s o x
op_text s (ops.SetClass o c) = words.turn_word ++ object_text o ++ class_item s c
op_text s (ops.Share o p) = words.share_word ++ object_text o ++ codes " " ++ object_text p
op_text s (ops.Get o x) = words.get_word ++ object_attribute s o x
op_text s (ops.TypeGet c x) = words.cget_word ++ class_attribute s c x
op_text s (ops.Super k o x) = words.super_word ++ text_at s.classes k ++ codes " " ++ object_attribute s o x
op_text s (ops.Special o x) = words.special_word ++ object_attribute s o x
op_text s (ops.ClassOf o) = words.classof_word ++ object_text o
op_text s (ops.Mro c) = words.mro_word ++ text_at s.classes c

-- the begin of a section; one over one object twice names it twice
abbrev pub begin_text : ℕ → Option ℕ → List ℕ
begin_text o None = words.begin_word ++ object_text o
begin_text o (Some p) = words.begin_word ++ object_text o ++ codes " " ++ object_text p

-- the operation of a line
abbrev pub line_op_text : ScriptParts → LineOp → List ℕ
line_op_text s (line_ops.Of operation) = op_text s operation
line_op_text s (line_ops.Begin o p) = begin_text o p
line_op_text s line_ops.Finish = codes "finish"

abbrev pub hook_word : HookKind → List ℕ
hook_word hooks.Getter = codes "getter"
hook_word hooks.Setter = codes "setter"
hook_word hooks.Deleter = codes "deleter"
hook_word hooks.DescGet = codes "dget"
hook_word hooks.DescSet = codes "dset"
hook_word hooks.DescDel = codes "ddel"
hook_word hooks.GetAttr = codes "getattr"

-- an object that was made, and what `__init__` is in its class, where it is there
abbrev pub made_text : ScriptParts → ℕ → Option Value → List ℕ
made_text s o None = words.made_word ++ object_text o
made_text s o (Some init) = words.made_word ++ object_text o ++ words.init_word ++ value_text s init

-- a reply of the data model; the values of a hook are callee, receiver, other argument and value
abbrev pub reply_text : ScriptParts → Reply → List ℕ
reply_text s replies.Done = codes "done"
reply_text s (replies.Made o init) = made_text s o init
reply_text s (replies.Value v) = words.value_word ++ value_text s v
reply_text s (replies.Method f v) = words.method_word ++ text_at s.funcs f ++ value_item s v
reply_text s (replies.Hook kind callee receiver other v) =
    words.hook_word ++ hook_word kind ++ value_item s callee ++ value_item s receiver ++ value_item s other ++ value_item s v
reply_text s (replies.Order order) = words.order_word ++ classes_text s order
reply_text s replies.NoAttr = codes "noattr"
reply_text s replies.NoGetter = codes "nogetter"
reply_text s replies.NoSetter = codes "nosetter"
reply_text s replies.NoDeleter = codes "nodeleter"
reply_text s replies.NoClass = codes "noclass"
reply_text s replies.NameTaken = codes "nametaken"
reply_text s replies.EmptyBases = codes "emptybases"
reply_text s replies.Duplicate = codes "duplicate"
reply_text s replies.Cycle = codes "cycle"
reply_text s (replies.NoOrder c) = words.noorder_word ++ text_at s.classes c
reply_text s replies.Immutable = codes "immutable"
reply_text s replies.NotSubclass = codes "notsubclass"
reply_text s replies.Full = codes "full"

-- the reply of a line
abbrev pub line_reply_text : ScriptParts → LineReply → List ℕ
line_reply_text s (line_replies.Of r) = reply_text s r
line_reply_text s line_replies.Kept = codes "kept"
line_reply_text s (line_replies.Suspended n) = words.suspended_word ++ decimal n

-- why a call didn't go the fast way; the words that it loaded aren't written
abbrev pub miss_word : Miss → List ℕ
miss_word (misses.Untagged c) = codes "untagged"
miss_word (misses.Unlike e) = codes "unlike"
miss_word (misses.Writing e n) = codes "writing"
miss_word (misses.Changed e n m) = codes "changed"
miss_word (misses.Odd o n) = codes "odd"
miss_word (misses.Dict o n) = codes "dict"
miss_word (misses.Keyless c x) = codes "keyless"
miss_word (misses.Moved w n m) = codes "moved"

-- the way that a call went
abbrev pub path_word : Path → List ℕ
path_word paths.Fast = codes "fast"
path_word (paths.Slow m) = miss_word m
path_word paths.Locked = codes "locked"

-- the same, between blanks
abbrev pub path_item : Path → List ℕ
path_item way = codes " " ++ path_word way ++ codes " "

-- what isn't an operation
abbrev pub local_text : ScriptParts → Local → List ℕ
local_text s locals.Depth = codes "depth"
local_text s locals.Budget = codes "budget"
local_text s locals.Kind = codes "kind"
local_text s (locals.Unbound a) = words.unbound_word ++ text_at s.vars a
local_text s locals.NotCallable = codes "notcallable"
local_text s (locals.Worn n) = words.worn_word ++ decimal n
local_text s (locals.Full n) = words.full_word ++ decimal n

-- a thread: `m` is `main`, `f` is `finally`
abbrev pub thread_text : ℕ → List ℕ
thread_text t = if t == main_thread then codes "m" else if t == finally_thread then codes "f" else words.thread_word ++ decimal t

-- place, path, operation and reply, or a local word
abbrev pub what_text : ScriptParts → What → List ℕ
what_text s (whats.Did place way operation r) =
    decimal place.0 ++ path_item way ++ line_op_text s operation ++ codes " = " ++ line_reply_text s r
what_text s (whats.Local l) = codes "- local " ++ local_text s l

-- a line: its thread, its number in the thread, and what it says
abbrev pub line_text : ScriptParts → Line → List ℕ
line_text s line = thread_text line.thread ++ codes " " ++ decimal line.number ++ codes " " ++ what_text s line.what ++ codes "\n"
