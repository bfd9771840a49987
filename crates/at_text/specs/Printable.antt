-- The runs that the text tells apart. `print` writes the text of any lines and namespaces; on this domain the text is one
-- to one, but for the words that a call loaded before it went the slow way, which no line tells.
use Rattle.std.specs.Prelude.{ℕ, ◌≡◌, ◌<◌, ◌≤◌, ◌^◌, ℤ, pos, negsuc, List, Option, Some, None, All, length, map}
use Rattle.std.specs.List.{range_with_len}
use Rattle.std.specs.List.Sorted.{IsNonDecreasing}
use Rattle.at_value.specs.Widths as widths
use Rattle.at_value.specs.Pairs.{IsRising}
use Rattle.at_value.specs.Parts.{PropertyParts}
use Rattle.at_value.specs.Types.{Op, Value, Reply}
use Rattle.at_value.specs.declared.operation.Op.TheVariants as ops
use Rattle.at_value.specs.declared.value.Value.TheVariants as values
use Rattle.at_value.specs.declared.reply.Reply.TheVariants as replies
use Rattle.at_model.specs.declared.last.ClassEnd.{ClassEnd}
use Rattle.at_model.specs.declared.last.ObjEnd.{ObjEnd}
use Rattle.at_model.specs.declared.last.Final.{Final}
use Rattle.at_line.specs.Lines.{finally_thread, lines_of_thread}
use Rattle.at_line.specs.Types.{Line, LineOp, LineReply, Local, What}
use Rattle.at_line.specs.declared.line.LineOp.TheVariants as line_ops
use Rattle.at_line.specs.declared.line.LineReply.TheVariants as line_replies
use Rattle.at_line.specs.declared.line.Local.TheVariants as locals
use Rattle.at_line.specs.declared.line.What.TheVariants as whats
use Rattle.at_script.specs.Parts.{ScriptParts}
use Rattle.at_script.specs.Script.{script_of}

-- Numbers are as their types hold them. A law ranges over all numbers, so that it has to say this.

-- of 64 bits and of 32 bits
abbrev pub IsLong : ℕ → Type 0
IsLong n = n < 2 ^ 64

abbrev pub IsShort : ℕ → Type 0
IsShort n = n < 2 ^ 32

abbrev pub IsObject : ℕ → Type 0
IsObject o = o < widths.objects

-- a signed number of 32 bits
abbrev pub IsInteger : ℤ → Type 0
IsInteger (pos n) = n < 2 ^ 31
IsInteger (negsuc n) = n < 2 ^ 31

-- the script has the name, the class or the function

abbrev pub HasName : ScriptParts → ℕ → Type 0
HasName s x = x < length s.names

abbrev pub HasClass : ScriptParts → ℕ → Type 0
HasClass s c = c < length s.classes

abbrev pub HasFunc : ScriptParts → ℕ → Type 0
HasFunc s f = f < length s.funcs

-- a part of a property: the script has its function, where there is one
abbrev pub HasPart : ScriptParts → Option ℕ → Type 0
HasPart s None = Unit {0}
HasPart s (Some f) = HasFunc s f

abbrev pub HasProperty : ScriptParts → PropertyParts → Type 0
HasProperty s p = HasPart s p.get × HasPart s p.set × HasPart s p.del

-- the script has what the value names
abbrev pub HasValue : ScriptParts → Value → Type 0
HasValue s values.Nothing = Unit {0}
HasValue s (values.Int z) = IsInteger z
HasValue s (values.Text x) = HasName s x
HasValue s (values.Func f) = HasFunc s f
HasValue s (values.Prop p) = HasProperty s p
HasValue s (values.Static f) = HasFunc s f
HasValue s (values.ClassM f) = HasFunc s f
HasValue s (values.Class c) = HasClass s c
HasValue s (values.Obj o) = IsObject o

-- no more bases than a class may have
abbrev pub HasBases : ScriptParts → List ℕ → Type 0
HasBases s bases = (length bases ≤ widths.most_bases) × All (HasClass s) bases

-- the script has what the operation names
abbrev pub HasOp : ScriptParts → Op → Type 0
HasOp s (ops.NewClass c bases) = HasClass s c × HasBases s bases
HasOp s (ops.TypeSet c x v) = HasClass s c × HasName s x × HasValue s v
HasOp s (ops.TypeDel c x) = HasClass s c × HasName s x
HasOp s (ops.SetBases c bases) = HasClass s c × HasBases s bases
HasOp s (ops.New c) = HasClass s c
HasOp s (ops.Set o x v) = IsObject o × HasName s x × HasValue s v
HasOp s (ops.Del o x) = IsObject o × HasName s x
HasOp s (ops.SetClass o c) = IsObject o × HasClass s c
HasOp s (ops.Share o p) = IsObject o × IsObject p
HasOp s (ops.Get o x) = IsObject o × HasName s x
HasOp s (ops.TypeGet c x) = HasClass s c × HasName s x
HasOp s (ops.Super k o x) = HasClass s k × IsObject o × HasName s x
HasOp s (ops.Special o x) = IsObject o × HasName s x
HasOp s (ops.ClassOf o) = IsObject o
HasOp s (ops.Mro c) = HasClass s c

-- the second object of a section, where there is one
abbrev pub HasSecond : Option ℕ → Type 0
HasSecond None = Unit {0}
HasSecond (Some p) = IsObject p

abbrev pub HasLineOp : ScriptParts → LineOp → Type 0
HasLineOp s (line_ops.Of operation) = HasOp s operation
HasLineOp s (line_ops.Begin o p) = IsObject o × HasSecond p
HasLineOp s line_ops.Finish = Unit {0}

-- the script has what `__init__` is in a new object's class, where it is there
abbrev pub HasInit : ScriptParts → Option Value → Type 0
HasInit s None = Unit {0}
HasInit s (Some init) = HasValue s init

-- the script has what the reply names
abbrev pub HasReply : ScriptParts → Reply → Type 0
HasReply s replies.Done = Unit {0}
HasReply s (replies.Made o init) = IsObject o × HasInit s init
HasReply s (replies.Value v) = HasValue s v
HasReply s (replies.Method f v) = HasFunc s f × HasValue s v
HasReply s (replies.Hook kind callee receiver other v) = HasValue s callee × HasValue s receiver × HasValue s other × HasValue s v
HasReply s (replies.Order order) = All (HasClass s) order
HasReply s replies.NoAttr = Unit {0}
HasReply s replies.NoGetter = Unit {0}
HasReply s replies.NoSetter = Unit {0}
HasReply s replies.NoDeleter = Unit {0}
HasReply s replies.NoClass = Unit {0}
HasReply s replies.NameTaken = Unit {0}
HasReply s replies.EmptyBases = Unit {0}
HasReply s replies.Duplicate = Unit {0}
HasReply s replies.Cycle = Unit {0}
HasReply s (replies.NoOrder c) = HasClass s c
HasReply s replies.Immutable = Unit {0}
HasReply s replies.NotSubclass = Unit {0}
HasReply s replies.Full = Unit {0}

abbrev pub HasLineReply : ScriptParts → LineReply → Type 0
HasLineReply s (line_replies.Of r) = HasReply s r
HasLineReply s line_replies.Kept = Unit {0}
HasLineReply s (line_replies.Suspended n) = IsShort n

-- the script has the variable that a line names
abbrev pub HasLocal : ScriptParts → Local → Type 0
HasLocal s locals.Depth = Unit {0}
HasLocal s locals.Budget = Unit {0}
HasLocal s locals.Kind = Unit {0}
HasLocal s (locals.Unbound a) = a < length s.vars
HasLocal s locals.NotCallable = Unit {0}
HasLocal s (locals.Worn n) = IsLong n
HasLocal s (locals.Full n) = IsLong n

-- the script has what the line names
abbrev pub HasWhat : ScriptParts → What → Type 0
HasWhat s (whats.Did place way operation r) = IsLong place.0 × HasLineOp s operation × HasLineReply s r
HasWhat s (whats.Local l) = HasLocal s l

-- the script has the own names of a class or an object and what they name, and each name stands there once
abbrev pub HasOwn : ScriptParts → List (ℕ × Value) → Type 0
HasOwn s own = IsRising own × All (λ pair. HasName s pair.0 × HasValue s pair.1) own

abbrev pub HasClassEnd : ScriptParts → ClassEnd → Type 0
HasClassEnd s end = HasClass s end.class × All (HasClass s) end.order × HasOwn s end.own

abbrev pub HasObjEnd : ScriptParts → ObjEnd → Type 0
HasObjEnd s end = HasClass s end.class × HasOwn s end.own

-- The domain of the text: the bytes are those of the script, which has all that the lines and the namespaces name; the
-- threads come in order, and the lines of each are numbered from 1.
pub record IsPrintable (script : List ℕ) (s : ScriptParts) (lines : List Line) (last : Final) : Type 0 where
  pub read : script_of script ≡ Some s
  pub threads : IsNonDecreasing (map (λ (line : Line). line.thread) lines)
  pub most : All (λ (line : Line). line.thread ≤ finally_thread) lines
  pub numbers : (thread : ℕ) → map (λ (line : Line). line.number) (lines_of_thread thread lines) ≡ range_with_len 1 (length (lines_of_thread thread lines))
  pub short : All (λ (line : Line). IsShort line.number) lines
  pub few : IsLong (length lines)
  pub known : All (λ (line : Line). HasWhat s line.what) lines
  pub classes : All (HasClassEnd s) last.classes
  pub objects : All (HasObjEnd s) last.objects
