-- A legal list of lines, and lists that differ from it in one line and aren't legal.
use Rattle.std.specs.Prelude.{ℕ, pos, List, [], ◌∷◌, ◌++◌, Some, None, set}
use Rattle.at_value.specs.declared.limits.Limits.{Limits}
use Rattle.at_value.specs.declared.value.Value.TheVariants as values
use Rattle.at_value.specs.Types.{Op, Reply, Path, Miss}
use Rattle.at_value.specs.declared.operation.Op.TheVariants as ops
use Rattle.at_value.specs.declared.reply.Reply.TheVariants as replies
use Rattle.at_value.specs.declared.reply.Miss.TheVariants as misses
use Rattle.at_value.specs.declared.reply.Path.TheVariants as paths
use Rattle.at_line.specs.Types.{Line, LineOp, LineReply, What}
use Rattle.at_line.specs.declared.line.LineOp.TheVariants as line_ops
use Rattle.at_line.specs.declared.line.LineReply.TheVariants as line_replies
use Rattle.at_line.specs.declared.line.Local.TheVariants as locals
use Rattle.at_line.specs.declared.line.What.TheVariants as whats
use Rattle.at_line.specs.Lines.{main_thread, last_thread, finally_thread}

abbrev pub example_limits : Limits
example_limits = record { place_max = 4; head_max = 6; tags = 3 }

-- what stands in the lines

abbrev pub does_by : Path → ℕ → Op → Reply → What
does_by way place operation said = whats.Did (record { 0 = place }) way (line_ops.Of operation) (line_replies.Of said)

abbrev pub does : ℕ → Op → Reply → What
does place operation said = does_by paths.Locked place operation said

-- object 0 reads its attributes 5 and 6, and is written 7 and 8
abbrev pub gets_five : Op
gets_five = ops.Get 0 5

abbrev pub gets_six : Op
gets_six = ops.Get 0 6

abbrev pub sets_five : Op
sets_five = ops.Set 0 5 (values.Int (pos 7))

abbrev pub sets_six : Op
sets_six = ops.Set 0 6 (values.Int (pos 8))

abbrev pub makes_class : Op
makes_class = ops.NewClass 1 (0 ∷ [])

abbrev pub gives_seven : Reply
gives_seven = replies.Value (values.Int (pos 7))

abbrev pub gives_eight : Reply
gives_eight = replies.Value (values.Int (pos 8))

abbrev pub line_in : ℕ → ℕ → What → Line
line_in thread number w = record { what = w; number = number; thread = thread }

abbrev pub begins : ℕ → ℕ → What
begins place o = whats.Did (record { 0 = place }) paths.Locked (line_ops.Begin o None) (line_replies.Of replies.Done)

abbrev pub begins_both : ℕ → ℕ → ℕ → What
begins_both place first second = whats.Did (record { 0 = place }) paths.Locked (line_ops.Begin first (Some second)) (line_replies.Of replies.Done)

abbrev pub ends : ℕ → LineReply → What
ends place said = whats.Did (record { 0 = place }) paths.Locked line_ops.Finish said

-- `main` makes a class and an object, and has a section over it that is kept; two threads write and read the object, and
-- the second names both limits; the last thread that there can be has a section over it that is suspended, and names the
-- highest sequence that sixteen lines may name; `finally` reads the object and has a section over it that is kept.
abbrev pub legal_lines : List Line
legal_lines =
    line_in main_thread 1 (does 1 makes_class replies.Done)
    ∷ line_in main_thread 2 (does 2 (ops.New 1) (replies.Made 0 None))
    ∷ line_in main_thread 3 (begins 2 0)
    ∷ line_in main_thread 4 (ends 2 line_replies.Kept)
    ∷ line_in 1 1 (does 3 sets_five replies.Done)
    ∷ line_in 1 2 (does 4 gets_six gives_eight)
    ∷ line_in 2 1 (does 2 gets_five replies.NoAttr)
    ∷ line_in 2 2 (does 4 sets_six replies.Done)
    ∷ line_in 2 3 (whats.Local (locals.Full 4))
    ∷ line_in 2 4 (whats.Local (locals.Worn 6))
    ∷ line_in last_thread 1 (begins 3 0)
    ∷ line_in last_thread 2 (ends 4 (line_replies.Suspended 1))
    ∷ line_in last_thread 3 (whats.Local (locals.Worn 64))
    ∷ line_in finally_thread 1 (does 4 gets_five gives_seven)
    ∷ line_in finally_thread 2 (begins 4 0)
    ∷ line_in finally_thread 3 (ends 4 line_replies.Kept)
    ∷ []

abbrev pub legal_history : List Op
legal_history = makes_class ∷ ops.New 1 ∷ sets_five ∷ sets_six ∷ []

-- Lists that aren't legal

-- the second thread writes at a place that the first has written
abbrev pub place_twice : List Line
place_twice = set legal_lines 7 (line_in 2 2 (does 3 sets_six replies.Done))

-- no write stands at place 4
abbrev pub place_left_out : List Line
place_left_out = set legal_lines 7 (line_in 2 2 (does 5 sets_six replies.Done))

-- the new object has another number
abbrev pub other_object_made : List Line
other_object_made = set legal_lines 1 (line_in main_thread 2 (does 2 (ops.New 1) (replies.Made 1 None)))

-- a write of an object that isn't made, which says that it was done, and the history with it
abbrev pub sets_no_object : Op
sets_no_object = ops.Set 1 5 (values.Int (pos 7))

abbrev pub refused_write_done : List Line
refused_write_done = set legal_lines 4 (line_in 1 1 (does 3 sets_no_object replies.Done))

abbrev pub refused_write_history : List Op
refused_write_history = set legal_history 2 sets_no_object

-- a read past the last write
abbrev pub read_past_the_end : List Line
read_past_the_end = set legal_lines 5 (line_in 1 2 (does 5 gets_six gives_eight))

-- a section that begins past the last write, and one that ends there
abbrev pub begin_past_the_end : List Line
begin_past_the_end = set legal_lines 14 (line_in finally_thread 2 (begins 5 0))

abbrev pub end_past_the_end : List Line
end_past_the_end = set legal_lines 15 (line_in finally_thread 3 (ends 5 line_replies.Kept))

-- a read with the reply of the place before
abbrev pub reply_of_the_place_before : List Line
reply_of_the_place_before = set legal_lines 5 (line_in 1 2 (does 4 gets_six replies.NoAttr))

-- the section of `main` is suspended, which no thread can have brought about
abbrev pub suspended_in_main : List Line
suspended_in_main = set legal_lines 3 (line_in main_thread 4 (ends 2 (line_replies.Suspended 1)))

-- the section of `finally` is suspended, which no thread can have brought about either
abbrev pub suspended_in_finally : List Line
suspended_in_finally = set legal_lines 15 (line_in finally_thread 3 (ends 4 (line_replies.Suspended 1)))

-- the first thread writes at place 3 and then reads at place 2
abbrev pub place_falls : List Line
place_falls = set legal_lines 5 (line_in 1 2 (does 2 gets_six replies.NoAttr))

-- the second thread reads at the place at which it then writes
abbrev pub write_at_a_place_read : List Line
write_at_a_place_read = set legal_lines 6 (line_in 2 1 (does 4 gets_five gives_seven))

-- a thread reads at a place below the last of `main`
abbrev pub thread_before_main : List Line
thread_before_main = set legal_lines 6 (line_in 2 1 (does 1 gets_five replies.NoAttr))

-- the last of the threads begins a section there
abbrev pub last_thread_before_main : List Line
last_thread_before_main = set legal_lines 10 (line_in last_thread 1 (begins 1 0))

-- `finally` reads at a place below the last of a thread
abbrev pub finally_before_thread : List Line
finally_before_thread = set legal_lines 13 (line_in finally_thread 1 (does 3 gets_five gives_seven))

-- with no thread between them, `finally` reads at a place below the last of `main`: the object isn't made yet there
abbrev pub finally_before_main : List Line
finally_before_main =
    line_in main_thread 1 (does 1 makes_class replies.Done) ∷ line_in main_thread 2 (does 2 (ops.New 1) (replies.Made 0 None))
    ∷ line_in finally_thread 1 (does 1 gets_five replies.NoAttr) ∷ []

-- `full` below the limit, and above the count of writes
abbrev pub full_too_early : List Line
full_too_early = set legal_lines 8 (line_in 2 3 (whats.Local (locals.Full 3)))

abbrev pub full_past_the_end : List Line
full_past_the_end = set legal_lines 8 (line_in 2 3 (whats.Local (locals.Full 5)))

-- `worn` below the limit, and above what the lines can have brought about
abbrev pub worn_too_early : List Line
worn_too_early = set legal_lines 9 (line_in 2 4 (whats.Local (locals.Worn 4)))

abbrev pub worn_too_far : List Line
worn_too_far = set legal_lines 9 (line_in 2 4 (whats.Local (locals.Worn 65)))

-- a read that went the fast way
abbrev pub read_without_locks : List Line
read_without_locks = set legal_lines 13 (line_in finally_thread 1 (does_by paths.Fast 4 gets_five gives_seven))

-- Ways: each operation with each path, once

-- the operations that have a fast way
abbrev pub fast_operations : List LineOp
fast_operations =
    line_ops.Of gets_five ∷ line_ops.Of sets_five ∷ line_ops.Of (ops.Del 0 5) ∷ line_ops.Of (ops.Special 0 5) ∷ line_ops.Of (ops.TypeGet 1 5) ∷ line_ops.Of (ops.ClassOf 0) ∷ []

-- those that have none, and the begin and the end of a section
abbrev pub locked_operations : List LineOp
locked_operations =
    line_ops.Of makes_class ∷ line_ops.Of (ops.TypeSet 1 5 values.Nothing) ∷ line_ops.Of (ops.TypeDel 1 5) ∷ line_ops.Of (ops.SetBases 1 (0 ∷ [])) ∷ line_ops.Of (ops.New 1)
    ∷ line_ops.Of (ops.SetClass 0 1) ∷ line_ops.Of (ops.Share 0 1) ∷ line_ops.Of (ops.Super 1 0 5) ∷ line_ops.Of (ops.Mro 1) ∷ line_ops.Begin 0 None ∷ line_ops.Begin 0 (Some 1)
    ∷ line_ops.Finish ∷ []

abbrev pub going : Path → List LineOp → List (LineOp × Path)
going way [] = []
going way (operation ∷ more) = (operation, way) ∷ going way more

abbrev pub missing : LineOp → List Miss → List (LineOp × Path)
missing operation [] = []
missing operation (m ∷ more) = (operation, paths.Slow m) ∷ missing operation more

abbrev pub each_missing : List LineOp → List Miss → List (LineOp × Path)
each_missing [] ms = []
each_missing (operation ∷ more) ms = missing operation ms ++ each_missing more ms

-- the misses of a tag and of a cache entry
abbrev pub cache_misses : List Miss
cache_misses = misses.Untagged 1 ∷ misses.Unlike 4 ∷ misses.Writing 4 5 ∷ misses.Changed 4 6 8 ∷ []

-- the object was being written, or a word was changed meanwhile
abbrev pub word_misses : List Miss
word_misses = misses.Odd 0 3 ∷ misses.Moved 0 3 4 ∷ []

abbrev pub dictionary_misses : List Miss
dictionary_misses = misses.Dict 0 4 ∷ []

abbrev pub key_misses : List Miss
key_misses = misses.Keyless 1 5 ∷ []

abbrev pub all_misses : List Miss
all_misses = cache_misses ++ word_misses ++ dictionary_misses ++ key_misses

-- the ways that operations may go where reads and writes go without locks
abbrev pub ways_there : List (LineOp × Path)
ways_there =
    going paths.Fast fast_operations ++ going paths.Locked locked_operations
    ++ missing (line_ops.Of sets_five) all_misses
    ++ missing (line_ops.Of gets_five) (cache_misses ++ word_misses ++ dictionary_misses)
    ++ missing (line_ops.Of (ops.Del 0 5)) (cache_misses ++ word_misses ++ dictionary_misses)
    ++ missing (line_ops.Of (ops.Special 0 5)) (cache_misses ++ word_misses)
    ++ missing (line_ops.Of (ops.TypeGet 1 5)) (cache_misses ++ word_misses)
    ++ missing (line_ops.Of (ops.ClassOf 0)) word_misses

-- and those that they don't go there
abbrev pub ways_not_there : List (LineOp × Path)
ways_not_there =
    going paths.Locked fast_operations ++ going paths.Fast locked_operations ++ each_missing locked_operations all_misses
    ++ missing (line_ops.Of gets_five) key_misses
    ++ missing (line_ops.Of (ops.Del 0 5)) key_misses
    ++ missing (line_ops.Of (ops.Special 0 5)) (dictionary_misses ++ key_misses)
    ++ missing (line_ops.Of (ops.TypeGet 1 5)) (dictionary_misses ++ key_misses)
    ++ missing (line_ops.Of (ops.ClassOf 0)) (cache_misses ++ dictionary_misses ++ key_misses)
