-- What is read as an operation, a reply or a line is the text of it.
use Rattle.std.proofs.Common.{◌≡◌, ◌∙◌, ap, refl, sym, subst, ℕ, ◌<◌, ◌≤◌, ◌^◌, ◌==◌, nat_lt, arith, List, [], ◌∷◌, ◌++◌, append_assoc, append-nil, map, Bool, true, false, cond, codes, decimal, Option, Some, None, inl, inr}
use Rattle.std.proofs.lemmas.Bool.{cases_Bool, ltb-true}
use Rattle.std.proofs.lemmas.Bool.Decides.{nat_tests}
use Rattle.std.proofs.lemmas.Option.{same_Some}
use Rattle.std.proofs.lemmas.List.Elements.{All-from_recursion}
use Rattle.at_value.specs.Types.{Value, HookKind, Path}
use Rattle.at_value.specs.declared.operation.Op.TheVariants as ops
use Rattle.at_value.specs.declared.reply.Reply.TheVariants as replies
use Rattle.at_value.specs.declared.reply.Path.TheVariants as paths
use Rattle.at_value.specs.declared.reply.Miss.TheVariants as misses
use Rattle.at_line.specs.Lines.{main_thread, finally_thread}
use Rattle.at_line.specs.Types.{Line, LineReply, What}
use Rattle.at_line.specs.declared.line.LineOp.TheVariants as line_ops
use Rattle.at_line.specs.declared.line.LineReply.TheVariants as line_replies
use Rattle.at_line.specs.declared.line.Local.TheVariants as locals
use Rattle.at_line.specs.declared.line.What.TheVariants as whats
use Rattle.at_script.specs.Bytes as bytes
use Rattle.at_script.specs.Parts.{ScriptParts}
use Rattle.at_text.specs.declared.words.OpWord.{OpWord}
use Rattle.at_text.specs.declared.words.OpWord.TheVariants as op_words
use Rattle.at_text.specs.declared.words.ReplyWord.{ReplyWord}
use Rattle.at_text.specs.declared.words.ReplyWord.TheVariants as reply_words
use Rattle.at_text.specs.declared.words.LocalWord.{LocalWord}
use Rattle.at_text.specs.declared.words.LocalWord.TheVariants as local_words
use Rattle.at_text.specs.Words as words
use Rattle.at_text.specs.Tables.{op_word, all_op_words, reply_word, all_reply_words, local_word, all_local_words, all_hooks, all_paths}
use Rattle.at_text.specs.Values.{object_text, value_text}
use Rattle.at_text.specs.Lines.{begin_text, line_op_text, hook_word, made_text, line_reply_text, path_item, local_text, thread_text, what_text, line_text}
use Rattle.at_text.specs.Printable.{IsLong, IsShort, HasClass, HasSecond, HasLineOp, HasInit, HasLineReply, HasLocal, HasWhat}
use Rattle.at_text.specs.Bare.{bare_path, bare_what}
use Rattle.at_text.specs.Readers.{Reader, nothing, after, begins_run, begins_with, positive_at}
use Rattle.at_text.specs.ReadLines.{word_row, begins_object, second_at, op_rest, line_op_at, hook_at, init_at, hook_parts, reply_rest, line_reply_at, path_item_at, local_rest, local_at, thread_at, did, done_at, did_at, local_what_at, what_at, front_at, line_of, line_at}
use Rattle.at_back.proofs.Gives.{Gives, after_gives, before_gives, passing_gives, made_gives, row_gives, both_gives, word_gives, choice_gives, retext_gives, table_gives, number_gives, name_gives}
use Rattle.at_back.proofs.Pieces.{object_gives, object_attribute_gives, class_attribute_gives, class_item_gives, classes_give, bases_give, value_gives, value_item_gives}

-- the second object of a section, after the first
abbrev second_text : Option ℕ → List ℕ
second_text None = []
second_text (Some p) = codes " " ++ object_text p

begin_same : (o : ℕ) (p : Option ℕ) → words.begin_word ++ (object_text o ++ second_text p) ≡ begin_text o p
begin_same o None = ap (λ t. words.begin_word ++ t) (append-nil (object_text o))
begin_same o (Some p) = ap (λ t. words.begin_word ++ t) (sym (append_assoc (object_text o) (codes " ") (object_text p)))

-- a reader that goes by a test
either : {A : Type 0} {r q : Reader A} {text : A → List ℕ} {Has : A → Type 0} (test : List ℕ → Bool) → Gives r text Has → Gives q text Has → Gives (λ t. cond (test t) (r t) (q t)) text Has
either {A} {r} {q} {text} {Has} test g k = record {
  there = λ t p h.
      elim (cases_Bool (test t)) [
        | inl e ↦ g.there t p (sym (ap (λ c. cond c (r t) (q t)) e) ∙ h)
        | inr e ↦ k.there t p (sym (ap (λ c. cond c (r t) (q t)) e) ∙ h)
      ];
}

nothing_gives : {A : Type 0} (a : A) (text : A → List ℕ) (Has : A → Type 0) → text a ≡ [] → Has a → Gives (nothing a) text Has
unfolding nothing
nothing_gives {A} a text Has none has = record {
  there = λ t p h. subst (λ (z : A × List ℕ). (t ≡ text z.0 ++ z.1) × Has z.0) (same_Some (a, t) p h) (sym (ap (λ l. l ++ t) none), has);
}

second_gives : Gives second_at second_text HasSecond
unfolding nothing
second_gives =
    either begins_object
    (row_gives (codes " ") Some second_text HasSecond (λ p h. (refl, h)) object_gives)
    (nothing_gives None second_text HasSecond refl tt)

module _ (s : ScriptParts) where
  -- Operations

  op_gives : (w : OpWord) → Gives (after (op_word w) (op_rest s w)) (line_op_text s) (HasLineOp s)
  op_gives op_words.Get = row_gives words.get_word (λ (p : ℕ × ℕ). line_ops.Of (ops.Get p.0 p.1)) (line_op_text s) (HasLineOp s) (λ p h. (refl, h)) (object_attribute_gives s)
  op_gives op_words.Set =
      row_gives words.set_word (λ (p : (ℕ × ℕ) × Value). line_ops.Of (ops.Set p.0.0 p.0.1 p.1)) (line_op_text s) (HasLineOp s) (λ p h. (refl, (h.0.0, h.0.1, h.1)))
      (both_gives (object_attribute_gives s) (value_item_gives s))
  op_gives op_words.New = row_gives words.new_word (λ (c : ℕ). line_ops.Of (ops.New c)) (line_op_text s) (HasLineOp s) (λ c h. (refl, h)) (name_gives s.classes)
  op_gives op_words.Put =
      row_gives words.put_word (λ (p : (ℕ × ℕ) × Value). line_ops.Of (ops.TypeSet p.0.0 p.0.1 p.1)) (line_op_text s) (HasLineOp s) (λ p h. (refl, (h.0.0, h.0.1, h.1)))
      (both_gives (class_attribute_gives s) (value_item_gives s))
  op_gives op_words.Class =
      row_gives words.class_word (λ (p : ℕ × List ℕ). line_ops.Of (ops.NewClass p.0 p.1)) (line_op_text s) (HasLineOp s) (λ p h. (refl, h))
      (both_gives (name_gives s.classes) (bases_give s))
  op_gives op_words.Cget = row_gives words.cget_word (λ (p : ℕ × ℕ). line_ops.Of (ops.TypeGet p.0 p.1)) (line_op_text s) (HasLineOp s) (λ p h. (refl, h)) (class_attribute_gives s)
  op_gives op_words.Del = row_gives words.del_word (λ (p : ℕ × ℕ). line_ops.Of (ops.Del p.0 p.1)) (line_op_text s) (HasLineOp s) (λ p h. (refl, h)) (object_attribute_gives s)
  op_gives op_words.Special = row_gives words.special_word (λ (p : ℕ × ℕ). line_ops.Of (ops.Special p.0 p.1)) (line_op_text s) (HasLineOp s) (λ p h. (refl, h)) (object_attribute_gives s)
  op_gives op_words.Super =
      row_gives words.super_word (λ (p : ℕ × (ℕ × ℕ)). line_ops.Of (ops.Super p.0 p.1.0 p.1.1)) (line_op_text s) (HasLineOp s) (λ p h. (refl, (h.0, h.1.0, h.1.1)))
      (both_gives (before_gives (codes " ") (name_gives s.classes)) (object_attribute_gives s))
  op_gives op_words.ClassOf = row_gives words.classof_word (λ (o : ℕ). line_ops.Of (ops.ClassOf o)) (line_op_text s) (HasLineOp s) (λ o h. (refl, h)) object_gives
  op_gives op_words.Mro = row_gives words.mro_word (λ (c : ℕ). line_ops.Of (ops.Mro c)) (line_op_text s) (HasLineOp s) (λ c h. (refl, h)) (name_gives s.classes)
  op_gives op_words.Cut = row_gives words.cut_word (λ (p : ℕ × ℕ). line_ops.Of (ops.TypeDel p.0 p.1)) (line_op_text s) (HasLineOp s) (λ p h. (refl, h)) (class_attribute_gives s)
  op_gives op_words.Bases =
      row_gives words.bases_word (λ (p : ℕ × List ℕ). line_ops.Of (ops.SetBases p.0 p.1)) (line_op_text s) (HasLineOp s) (λ p h. (refl, h))
      (both_gives (name_gives s.classes) (bases_give s))
  op_gives op_words.Turn =
      row_gives words.turn_word (λ (p : ℕ × ℕ). line_ops.Of (ops.SetClass p.0 p.1)) (line_op_text s) (HasLineOp s) (λ p h. (refl, h)) (both_gives object_gives (class_item_gives s))
  op_gives op_words.Share =
      row_gives words.share_word (λ (p : ℕ × ℕ). line_ops.Of (ops.Share p.0 p.1)) (line_op_text s) (HasLineOp s) (λ p h. (refl, h))
      (both_gives (before_gives (codes " ") object_gives) object_gives)
  op_gives op_words.Begin =
      row_gives words.begin_word (λ (p : ℕ × Option ℕ). line_ops.Begin p.0 p.1) (line_op_text s) (HasLineOp s) (λ p h. (begin_same p.0 p.1, h)) (both_gives object_gives second_gives)
  op_gives op_words.Finish = word_gives (codes "finish") line_ops.Finish (line_op_text s) (HasLineOp s) refl tt

  pub line_op_gives : Gives (line_op_at s) (line_op_text s) (HasLineOp s)
  unfolding line_op_at
  line_op_gives = table_gives (line_op_text s) (HasLineOp s) op_word (op_rest s) op_gives all_op_words

-- Replies

hook_gives : Gives hook_at hook_word (λ kind. Unit {0})
unfolding hook_at
hook_gives = table_gives hook_word (λ kind. Unit {0}) hook_word nothing (λ kind. word_gives (hook_word kind) kind hook_word (λ k. Unit {0}) refl tt) all_hooks

-- what `__init__` is, after the object
abbrev init_text : ScriptParts → Option Value → List ℕ
init_text s None = []
init_text s (Some v) = words.init_word ++ value_text s v

module _ (s : ScriptParts) where
  init_gives : Gives (init_at s) (init_text s) (HasInit s)
  unfolding nothing
  init_gives =
      either (begins_with bytes.space)
      (row_gives words.init_word Some (init_text s) (HasInit s) (λ v h. (refl, h)) (value_gives s))
      (nothing_gives None (init_text s) (HasInit s) refl tt)

  made_same : (o : ℕ) (init : Option Value) → words.made_word ++ (object_text o ++ init_text s init) ≡ made_text s o init
  made_same o None = ap (λ t. words.made_word ++ t) (append-nil (object_text o))
  made_same o (Some v) = ap (λ t. words.made_word ++ t) (sym (append_assoc (object_text o) words.init_word (value_text s v)))

  -- a reply that is one word
  plain : (word : List ℕ) (r : LineReply) → word ≡ line_reply_text s r → HasLineReply s r → Gives (after word (nothing r)) (line_reply_text s) (HasLineReply s)
  plain word r same has = word_gives word r (line_reply_text s) (HasLineReply s) same has

  reply_gives : (w : ReplyWord) → Gives (after (reply_word w) (reply_rest s w)) (line_reply_text s) (HasLineReply s)
  reply_gives reply_words.Value = row_gives words.value_word (λ (v : Value). line_replies.Of (replies.Value v)) (line_reply_text s) (HasLineReply s) (λ v h. (refl, h)) (value_gives s)
  reply_gives reply_words.Method =
      row_gives words.method_word (λ (p : ℕ × Value). line_replies.Of (replies.Method p.0 p.1)) (line_reply_text s) (HasLineReply s) (λ p h. (refl, h))
      (both_gives (name_gives s.funcs) (value_item_gives s))
  reply_gives reply_words.Made =
      row_gives words.made_word (λ (p : ℕ × Option Value). line_replies.Of (replies.Made p.0 p.1)) (line_reply_text s) (HasLineReply s) (λ p h. (made_same p.0 p.1, h))
      (both_gives object_gives init_gives)
  reply_gives reply_words.Hook =
      row_gives words.hook_word (λ (p : (((HookKind × Value) × Value) × Value) × Value). line_replies.Of (hook_parts p)) (line_reply_text s) (HasLineReply s)
      (λ p h. (refl, (h.0.0.0.1, h.0.0.1, h.0.1, h.1)))
      (both_gives (both_gives (both_gives (both_gives hook_gives (value_item_gives s)) (value_item_gives s)) (value_item_gives s)) (value_item_gives s))
  reply_gives reply_words.Order =
      row_gives words.order_word (λ (order : List ℕ). line_replies.Of (replies.Order order)) (line_reply_text s) (HasLineReply s) (λ order h. (refl, All-from_recursion (HasClass s) order h)) (classes_give s)
  reply_gives reply_words.NoOrder =
      row_gives words.noorder_word (λ (c : ℕ). line_replies.Of (replies.NoOrder c)) (line_reply_text s) (HasLineReply s) (λ c h. (refl, h)) (name_gives s.classes)
  reply_gives reply_words.Suspended = row_gives words.suspended_word line_replies.Suspended (line_reply_text s) (HasLineReply s) (λ n h. (refl, h)) (number_gives (2 ^ 32))
  reply_gives reply_words.Kept = plain (codes "kept") line_replies.Kept refl tt
  reply_gives reply_words.Done = plain (codes "done") (line_replies.Of replies.Done) refl tt
  reply_gives reply_words.NoAttr = plain (codes "noattr") (line_replies.Of replies.NoAttr) refl tt
  reply_gives reply_words.NoGetter = plain (codes "nogetter") (line_replies.Of replies.NoGetter) refl tt
  reply_gives reply_words.NoSetter = plain (codes "nosetter") (line_replies.Of replies.NoSetter) refl tt
  reply_gives reply_words.NoDeleter = plain (codes "nodeleter") (line_replies.Of replies.NoDeleter) refl tt
  reply_gives reply_words.NoClass = plain (codes "noclass") (line_replies.Of replies.NoClass) refl tt
  reply_gives reply_words.NameTaken = plain (codes "nametaken") (line_replies.Of replies.NameTaken) refl tt
  reply_gives reply_words.EmptyBases = plain (codes "emptybases") (line_replies.Of replies.EmptyBases) refl tt
  reply_gives reply_words.Duplicate = plain (codes "duplicate") (line_replies.Of replies.Duplicate) refl tt
  reply_gives reply_words.Cycle = plain (codes "cycle") (line_replies.Of replies.Cycle) refl tt
  reply_gives reply_words.Immutable = plain (codes "immutable") (line_replies.Of replies.Immutable) refl tt
  reply_gives reply_words.NotSubclass = plain (codes "notsubclass") (line_replies.Of replies.NotSubclass) refl tt
  reply_gives reply_words.Full = plain (codes "full") (line_replies.Of replies.Full) refl tt

  pub line_reply_gives : Gives (line_reply_at s) (line_reply_text s) (HasLineReply s)
  unfolding line_reply_at
  line_reply_gives = table_gives (line_reply_text s) (HasLineReply s) reply_word (reply_rest s) reply_gives all_reply_words

  -- Lines

  local_row : (w : LocalWord) → Gives (after (local_word w) (local_rest s w)) (local_text s) (HasLocal s)
  local_row local_words.Depth = word_gives (codes "depth") locals.Depth (local_text s) (HasLocal s) refl tt
  local_row local_words.Budget = word_gives (codes "budget") locals.Budget (local_text s) (HasLocal s) refl tt
  local_row local_words.Kind = word_gives (codes "kind") locals.Kind (local_text s) (HasLocal s) refl tt
  local_row local_words.Unbound = row_gives words.unbound_word locals.Unbound (local_text s) (HasLocal s) (λ a h. (refl, h)) (name_gives s.vars)
  local_row local_words.NotCallable = word_gives (codes "notcallable") locals.NotCallable (local_text s) (HasLocal s) refl tt
  local_row local_words.Worn = row_gives words.worn_word locals.Worn (local_text s) (HasLocal s) (λ n h. (refl, h)) (number_gives (2 ^ 64))
  local_row local_words.Full = row_gives words.full_word locals.Full (local_text s) (HasLocal s) (λ n h. (refl, h)) (number_gives (2 ^ 64))

  local_gives : Gives (local_at s) (local_text s) (HasLocal s)
  unfolding local_at
  local_gives = table_gives (local_text s) (HasLocal s) local_word (local_rest s) local_row all_local_words

-- a way that carries no numbers but 0
abbrev IsBare : Path → Type 0
IsBare way = bare_path way ≡ way

path_item_gives : Gives path_item_at path_item IsBare
unfolding path_item_at
path_item_gives =
    choice_gives path_item IsBare (map (word_row path_item) all_paths) (
      way paths.Locked refl,
      (
        way paths.Fast refl,
        (
          way (paths.Slow (misses.Untagged 0)) refl,
          (
            way (paths.Slow (misses.Unlike 0)) refl,
            (
              way (paths.Slow (misses.Writing 0 0)) refl,
              (
                way (paths.Slow (misses.Changed 0 0 0)) refl,
                (
                  way (paths.Slow (misses.Odd 0 0)) refl,
                  (
                    way (paths.Slow (misses.Dict 0 0)) refl,
                    (
                      way (paths.Slow (misses.Keyless 0 0)) refl,
                      (
                        way (paths.Slow (misses.Moved 0 0 0)) refl,
                        tt,
                      ),
                    ),
                  ),
                ),
              ),
            ),
          ),
        ),
      ),
    )
  where
    way : (p : Path) → IsBare p → Gives (after (path_item p) (nothing p)) path_item IsBare
    way p h = word_gives (path_item p) p path_item IsBare refl h

abbrev IsThread : ℕ → Type 0
IsThread t = t ≤ finally_thread

thread_row : (t : ℕ) → (t < finally_thread) × (nat_lt 0 t ≡ true) → (words.thread_word ++ decimal t ≡ thread_text t) × IsThread t
thread_row t h =
    let below = h.0 in
    let some = ltb-true 0 t h.1 in
    let first : (t == main_thread) ≡ false = grind (arith, nat_tests, some) in
    let last : (t == finally_thread) ≡ false = grind (arith, nat_tests, below) in
    (sym (ap (λ b. cond b (codes "m") (cond (t == finally_thread) (codes "f") (words.thread_word ++ decimal t))) first ∙ ap (λ b. cond b (codes "f") (words.thread_word ++ decimal t)) last), omega arith)

thread_gives : Gives thread_at thread_text IsThread
unfolding thread_at
thread_gives =
    choice_gives thread_text IsThread (word_row thread_text main_thread ∷ word_row thread_text finally_thread ∷ (words.thread_word, positive_at finally_thread) ∷ []) (
      word_gives (thread_text main_thread) main_thread thread_text IsThread refl (omega arith),
      (
        word_gives (thread_text finally_thread) finally_thread thread_text IsThread refl (omega arith),
        (
          retext_gives thread_text IsThread thread_row (after_gives words.thread_word (passing_gives (nat_lt 0) (number_gives finally_thread))),
          tt,
        ),
      ),
    )

module _ (s : ScriptParts) where
  done_gives : Gives (done_at s) (λ p. decimal p.0.0 ++ path_item p.0.1 ++ line_op_text s p.1 ++ codes " = ") (λ p. (IsLong p.0.0 × IsBare p.0.1) × HasLineOp s p.1)
  unfolding done_at
  done_gives = before_gives (codes " = ") (both_gives (both_gives (number_gives (2 ^ 64)) path_item_gives) (line_op_gives s))

  -- what the line says names what the script has, and carries no numbers but 0 in a miss
  abbrev IsSaid : What → Type 0
  IsSaid what = HasWhat s what × (bare_what what ≡ what)

  did_gives : Gives (did_at s) (what_text s) IsSaid
  unfolding did_at
  did_gives =
      made_gives did (what_text s) IsSaid (λ p. refl)
      (λ p h. ((h.0.0.0, h.0.1, h.1), ap (λ (way : Path). whats.Did (record { 0 = p.0.0.0 }) way p.0.1 p.1) h.0.0.1)) (both_gives done_gives (line_reply_gives s))

  local_what_gives : Gives (local_what_at s) (what_text s) IsSaid
  unfolding local_what_at
  local_what_gives = row_gives (codes "- local ") whats.Local (what_text s) IsSaid (λ l h. (refl, (h, refl))) (local_gives s)

  what_gives : Gives (what_at s) (what_text s) IsSaid
  unfolding what_at
  what_gives = either begins_run did_gives local_what_gives

  front_gives : Gives front_at (λ p. thread_text p.0 ++ codes " " ++ decimal p.1 ++ codes " ") (λ p. IsThread p.0 × IsShort p.1)
  unfolding front_at
  front_gives = before_gives (codes " ") (both_gives (before_gives (codes " ") thread_gives) (number_gives (2 ^ 32)))

  -- The thread and the number are in their ranges, and the line says what it may.
  abbrev pub IsRead : Line → Type 0
  IsRead line = (IsThread line.thread × IsShort line.number) × IsSaid line.what

  pub line_gives : Gives (line_at s) (line_text s) IsRead
  unfolding line_at
  line_gives = made_gives line_of (line_text s) IsRead (λ p. refl) (λ p h. h) (before_gives (codes "\n") (both_gives front_gives (what_gives)))
