-- The words of a line by their kinds, as printing and reading share them.
use Rattle.std.specs.Prelude.{ℕ, List, [], ◌∷◌, codes}
use Rattle.at_value.specs.Types.{HookKind, Path}
use Rattle.at_value.specs.declared.reply.HookKind.TheVariants as hooks
use Rattle.at_value.specs.declared.reply.Path.TheVariants as paths
use Rattle.at_value.specs.declared.reply.Miss.TheVariants as misses
use Rattle.at_text.specs.declared.words.OpWord.{OpWord}
use Rattle.at_text.specs.declared.words.OpWord.TheVariants as op_words
use Rattle.at_text.specs.declared.words.ReplyWord.{ReplyWord}
use Rattle.at_text.specs.declared.words.ReplyWord.TheVariants as reply_words
use Rattle.at_text.specs.declared.words.LocalWord.{LocalWord}
use Rattle.at_text.specs.declared.words.LocalWord.TheVariants as local_words
use Rattle.at_text.specs.Words as words

-- the words with which operations begin
abbrev pub op_word : OpWord → List ℕ
op_word op_words.Get = words.get_word
op_word op_words.Set = words.set_word
op_word op_words.New = words.new_word
op_word op_words.Put = words.put_word
op_word op_words.Class = words.class_word
op_word op_words.Cget = words.cget_word
op_word op_words.Del = words.del_word
op_word op_words.Special = words.special_word
op_word op_words.Super = words.super_word
op_word op_words.ClassOf = words.classof_word
op_word op_words.Mro = words.mro_word
op_word op_words.Cut = words.cut_word
op_word op_words.Bases = words.bases_word
op_word op_words.Turn = words.turn_word
op_word op_words.Share = words.share_word
op_word op_words.Begin = words.begin_word
op_word op_words.Finish = codes "finish"

abbrev pub all_op_words : List OpWord
all_op_words =
    op_words.Get ∷ op_words.Set ∷ op_words.New ∷ op_words.Put ∷ op_words.Class ∷ op_words.Cget ∷ op_words.Del ∷ op_words.Special
    ∷ op_words.Super ∷ op_words.ClassOf ∷ op_words.Mro ∷ op_words.Cut ∷ op_words.Bases ∷ op_words.Turn ∷ op_words.Share
    ∷ op_words.Begin ∷ op_words.Finish ∷ []

-- the words with which replies begin
abbrev pub reply_word : ReplyWord → List ℕ
reply_word reply_words.Value = words.value_word
reply_word reply_words.Done = codes "done"
reply_word reply_words.NoAttr = codes "noattr"
reply_word reply_words.Method = words.method_word
reply_word reply_words.Made = words.made_word
reply_word reply_words.Hook = words.hook_word
reply_word reply_words.Order = words.order_word
reply_word reply_words.Kept = codes "kept"
reply_word reply_words.Suspended = words.suspended_word
reply_word reply_words.NoGetter = codes "nogetter"
reply_word reply_words.NoSetter = codes "nosetter"
reply_word reply_words.NoDeleter = codes "nodeleter"
reply_word reply_words.NoClass = codes "noclass"
reply_word reply_words.NameTaken = codes "nametaken"
reply_word reply_words.EmptyBases = codes "emptybases"
reply_word reply_words.Duplicate = codes "duplicate"
reply_word reply_words.Cycle = codes "cycle"
reply_word reply_words.NoOrder = words.noorder_word
reply_word reply_words.Immutable = codes "immutable"
reply_word reply_words.NotSubclass = codes "notsubclass"
reply_word reply_words.Full = codes "full"

abbrev pub all_reply_words : List ReplyWord
all_reply_words =
    reply_words.Value ∷ reply_words.Done ∷ reply_words.NoAttr ∷ reply_words.Method ∷ reply_words.Made ∷ reply_words.Hook
    ∷ reply_words.Order ∷ reply_words.Kept ∷ reply_words.Suspended ∷ reply_words.NoGetter ∷ reply_words.NoSetter
    ∷ reply_words.NoDeleter ∷ reply_words.NoClass ∷ reply_words.NameTaken ∷ reply_words.EmptyBases ∷ reply_words.Duplicate
    ∷ reply_words.Cycle ∷ reply_words.NoOrder ∷ reply_words.Immutable ∷ reply_words.NotSubclass ∷ reply_words.Full ∷ []

-- the words of lines that are no operation
abbrev pub local_word : LocalWord → List ℕ
local_word local_words.Depth = codes "depth"
local_word local_words.Budget = codes "budget"
local_word local_words.Kind = codes "kind"
local_word local_words.Unbound = words.unbound_word
local_word local_words.NotCallable = codes "notcallable"
local_word local_words.Worn = words.worn_word
local_word local_words.Full = words.full_word

abbrev pub all_local_words : List LocalWord
all_local_words =
    local_words.Depth ∷ local_words.Budget ∷ local_words.Kind ∷ local_words.Unbound ∷ local_words.NotCallable
    ∷ local_words.Worn ∷ local_words.Full ∷ []

abbrev pub all_hooks : List HookKind
all_hooks = hooks.Getter ∷ hooks.Setter ∷ hooks.Deleter ∷ hooks.DescGet ∷ hooks.DescSet ∷ hooks.DescDel ∷ hooks.GetAttr ∷ []

-- the ways that a call may go, with 0 for each number that a miss carries
abbrev pub all_paths : List Path
all_paths =
    paths.Locked ∷ paths.Fast ∷ paths.Slow (misses.Untagged 0) ∷ paths.Slow (misses.Unlike 0) ∷ paths.Slow (misses.Writing 0 0)
    ∷ paths.Slow (misses.Changed 0 0 0) ∷ paths.Slow (misses.Odd 0 0) ∷ paths.Slow (misses.Dict 0 0) ∷ paths.Slow (misses.Keyless 0 0)
    ∷ paths.Slow (misses.Moved 0 0 0) ∷ []
