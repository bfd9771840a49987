-- Lines are read as they were written, but for the numbers that a miss carries.
use Rattle.std.proofs.Common.{◌≡◌, ◌∙◌, ap, refl, sym, subst, ℕ, ◌≤◌, ◌<◌, ◌^◌, ◌==◌, arith, List, [], ◌∷◌, ◌++◌, true, false, cond, ◌&&◌, Option, Some, None, codes, decimal, inl, inr, append-nil, append_assoc}
use Rattle.std.proofs.lemmas.Bool.{cases_Bool, eqb-true}
use Rattle.std.proofs.lemmas.Bool.Decides.{nat_tests}
use Rattle.std.proofs.lemmas.Fmt.{digits_decimal, decimal_nonempty}
use Rattle.at_value.specs.Types.{Op, Value, HookKind, Path}
use Rattle.at_value.specs.declared.operation.Op.TheVariants as ops
use Rattle.at_value.specs.declared.reply.Reply.TheVariants as replies
use Rattle.at_value.specs.declared.reply.HookKind.TheVariants as hooks
use Rattle.at_value.specs.declared.reply.Path.TheVariants as paths
use Rattle.at_value.specs.declared.reply.Miss.TheVariants as misses
use Rattle.at_line.specs.Lines.{main_thread, finally_thread}
use Rattle.at_line.specs.Types.{Line, LineOp, LineReply, Local, What}
use Rattle.at_line.specs.declared.line.LineOp.TheVariants as line_ops
use Rattle.at_line.specs.declared.line.LineReply.TheVariants as line_replies
use Rattle.at_line.specs.declared.line.Local.TheVariants as locals
use Rattle.at_line.specs.declared.line.What.TheVariants as whats
use Rattle.at_script.specs.Bytes as bytes
use Rattle.at_script.specs.Parts.{ScriptParts}
use Rattle.at_text.specs.Words as words
use Rattle.at_text.specs.Values.{object_text, classes_text, value_text}
use Rattle.at_text.specs.Lines.{op_text, begin_text, line_op_text, hook_word, made_text, line_reply_text, path_item, local_text, thread_text, what_text, line_text}
use Rattle.at_text.specs.Printable.{IsLong, IsShort, HasSecond, HasOp, HasLineOp, HasInit, HasLineReply, HasLocal, HasWhat}
use Rattle.at_text.specs.Readers.{nothing, begins_run, begins_with}
use Rattle.at_text.specs.Bare.{bare_path, bare_what, bare_line}
use Rattle.at_text.specs.ReadLines.{begins_object, second_at, line_op_at, hook_at, init_at, hook_parts, line_reply_at, path_item_at, local_at, thread_at, did, done_at, did_at, local_what_at, what_at, front_at, line_of, line_at}
use Rattle.at_text.proofs.ReaderLaws.{Reads, Anything, Ends, Breaks, Stops, Closes, breaks-end, stops-break, closes-stop, and-true, or-true, begun, same_text, after_reads, before_reads, made_reads, both_reads, digits, digits_continue, name_reads, number_reads, positive_reads}
use Rattle.at_text.proofs.ValueReads.{IsTold, object_reads, object_attribute_reads, class_attribute_reads, class_item_reads, classes_read, bases_read, value_reads, value_item_reads, begins_all}

-- What stands after something that ends where a line or an operation does

stops-end : (x : List ℕ) → Stops x → Ends x
stops-end x f = breaks-end x (stops-break x f)

closes-end : (x : List ℕ) → Closes x → Ends x
closes-end x f = stops-end x (closes-stop x f)

closes-break : (x : List ℕ) → Closes x → Breaks x
closes-break x f = stops-break x (closes-stop x f)

-- no object follows
stops-object : (x : List ℕ) → Stops x → begins_object x ≡ false
stops-object [] h = cc
stops-object (byte ∷ x) h =
    elim (or-true (byte == bytes.newline) (byte == bytes.space && begins_with 61 x) h) [
      | inl e ↦ subst (λ b. (b == bytes.space && begins_with bytes.hash x) ≡ false) (sym (eqb-true byte bytes.newline e)) refl
      | inr e ↦
          let both = and-true _ _ e in
          let next = begun 61 x both.1 in
          subst (λ b. (b == bytes.space && begins_with bytes.hash x) ≡ false) (sym (eqb-true byte bytes.space both.0)) (subst (λ t. begins_with bytes.hash t ≡ false) (sym next.1) refl)
    ]

closes-no_blank : (x : List ℕ) → Closes x → begins_with bytes.space x ≡ false
closes-no_blank x h = let b = begun bytes.newline x h in subst (λ t. begins_with bytes.space t ≡ false) (sym b.1) refl

-- the second object of a section, after the first
abbrev second_text : Option ℕ → List ℕ
second_text None = []
second_text (Some p) = codes " " ++ object_text p

-- what `__init__` is, after the object
abbrev init_text : ScriptParts → Option Value → List ℕ
init_text s None = []
init_text s (Some v) = words.init_word ++ value_text s v

module _ (s : ScriptParts) (told : IsTold s) where
  -- Operations

  second_reads : (p : Option ℕ) → HasSecond p → Reads second_at (second_text p) p Stops
  second_reads None h = record { here = λ x f. rw (stops-object x f) refl }
  second_reads (Some p) h = record { here = λ x f. (after_reads (codes " ") (made_reads Some (object_reads p h))).here x (stops-end x f) }

  second-end : (p : Option ℕ) (x : List ℕ) → Stops x → Ends (second_text p ++ x)
  second-end None x f = stops-end x f
  second-end (Some p) x f = refl

  begin_same : (o : ℕ) (p : Option ℕ) → words.begin_word ++ (object_text o ++ second_text p) ≡ begin_text o p
  begin_same o None = ap (λ t. words.begin_word ++ t) (append-nil (object_text o))
  begin_same o (Some p) = ap (λ t. words.begin_word ++ t) (sym (append_assoc (object_text o) (codes " ") (object_text p)))

  classes-end : (cs : List ℕ) (x : List ℕ) → Stops x → Ends (classes_text s cs ++ x)
  classes-end [] x f = stops-end x f
  classes-end (c ∷ cs) x f = refl

  pub op_reads : (operation : Op) → HasOp s operation → Reads (line_op_at s) (op_text s operation) (line_ops.Of operation) Stops
  unfolding line_op_at
  op_reads (ops.NewClass c bases) h = record {
    here = λ x f. (made_reads (λ (p : ℕ × List ℕ). line_ops.Of (ops.NewClass p.0 p.1)) (both_reads (classes-end bases) (name_reads s.classes c (told.classes c h.0)) (bases_read s told bases h.1.0 h.1.1))).here x f;
  }
  op_reads (ops.TypeSet c n v) h = record {
    here = λ x f. (made_reads (λ (p : (ℕ × ℕ) × Value). line_ops.Of (ops.TypeSet p.0.0 p.0.1 p.1)) (both_reads (λ y g. refl) (class_attribute_reads s told c n h.0 h.1) (value_item_reads s told v h.2))).here x (stops-break x f);
  }
  op_reads (ops.TypeDel c n) h = record {
    here = λ x f. (made_reads (λ (p : ℕ × ℕ). line_ops.Of (ops.TypeDel p.0 p.1)) (class_attribute_reads s told c n h.0 h.1)).here x (stops-end x f);
  }
  op_reads (ops.SetBases c bases) h = record {
    here = λ x f. (made_reads (λ (p : ℕ × List ℕ). line_ops.Of (ops.SetBases p.0 p.1)) (both_reads (classes-end bases) (name_reads s.classes c (told.classes c h.0)) (bases_read s told bases h.1.0 h.1.1))).here x f;
  }
  op_reads (ops.New c) h = record {
    here = λ x f. (made_reads (λ (n : ℕ). line_ops.Of (ops.New n)) (name_reads s.classes c (told.classes c h))).here x (stops-end x f);
  }
  op_reads (ops.Set o n v) h = record {
    here = λ x f. (made_reads (λ (p : (ℕ × ℕ) × Value). line_ops.Of (ops.Set p.0.0 p.0.1 p.1)) (both_reads (λ y g. refl) (object_attribute_reads s told o n h.0 h.1) (value_item_reads s told v h.2))).here x (stops-break x f);
  }
  op_reads (ops.Del o n) h = record {
    here = λ x f. (made_reads (λ (p : ℕ × ℕ). line_ops.Of (ops.Del p.0 p.1)) (object_attribute_reads s told o n h.0 h.1)).here x (stops-end x f);
  }
  op_reads (ops.SetClass o c) h = record {
    here = λ x f. (made_reads (λ (p : ℕ × ℕ). line_ops.Of (ops.SetClass p.0 p.1)) (both_reads (λ y g. refl) (object_reads o h.0) (class_item_reads s told c h.1))).here x (stops-end x f);
  }
  op_reads (ops.Share o q) h = record {
    here = λ x f. (made_reads (λ (p : ℕ × ℕ). line_ops.Of (ops.Share p.0 p.1)) (both_reads (λ y g. tt) (before_reads (codes " ") (λ y. refl) (object_reads o h.0)) (object_reads q h.1))).here x (stops-end x f);
  }
  op_reads (ops.Get o n) h = record {
    here = λ x f. (made_reads (λ (p : ℕ × ℕ). line_ops.Of (ops.Get p.0 p.1)) (object_attribute_reads s told o n h.0 h.1)).here x (stops-end x f);
  }
  op_reads (ops.TypeGet c n) h = record {
    here = λ x f. (made_reads (λ (p : ℕ × ℕ). line_ops.Of (ops.TypeGet p.0 p.1)) (class_attribute_reads s told c n h.0 h.1)).here x (stops-end x f);
  }
  op_reads (ops.Super k o n) h = record {
    here = λ x f. (made_reads (λ (p : ℕ × (ℕ × ℕ)). line_ops.Of (ops.Super p.0 p.1.0 p.1.1)) (both_reads (λ y g. tt) (before_reads (codes " ") (λ y. refl) (name_reads s.classes k (told.classes k h.0))) (object_attribute_reads s told o n h.1 h.2))).here x (stops-end x f);
  }
  op_reads (ops.Special o n) h = record {
    here = λ x f. (made_reads (λ (p : ℕ × ℕ). line_ops.Of (ops.Special p.0 p.1)) (object_attribute_reads s told o n h.0 h.1)).here x (stops-end x f);
  }
  op_reads (ops.ClassOf o) h = record {
    here = λ x f. (made_reads (λ (n : ℕ). line_ops.Of (ops.ClassOf n)) (object_reads o h)).here x (stops-end x f);
  }
  op_reads (ops.Mro c) h = record {
    here = λ x f. (made_reads (λ (n : ℕ). line_ops.Of (ops.Mro n)) (name_reads s.classes c (told.classes c h))).here x (stops-end x f);
  }

  pub line_op_reads : (operation : LineOp) → HasLineOp s operation → Reads (line_op_at s) (line_op_text s operation) operation Stops
  unfolding line_op_at nothing
  line_op_reads (line_ops.Of operation) h = op_reads operation h
  line_op_reads (line_ops.Begin o p) h =
      same_text (begin_same o p)
      (record { here = λ x f. (made_reads (λ (q : ℕ × Option ℕ). line_ops.Begin q.0 q.1) (both_reads (second-end p) (object_reads o h.0) (second_reads p h.1))).here x f })
  line_op_reads line_ops.Finish h = record { here = λ x f. refl }

  -- Replies

  hook_reads : (kind : HookKind) → Reads hook_at (hook_word kind) kind Anything
  unfolding hook_at nothing
  hook_reads hooks.Getter = record { here = λ x f. refl }
  hook_reads hooks.Setter = record { here = λ x f. refl }
  hook_reads hooks.Deleter = record { here = λ x f. refl }
  hook_reads hooks.DescGet = record { here = λ x f. refl }
  hook_reads hooks.DescSet = record { here = λ x f. refl }
  hook_reads hooks.DescDel = record { here = λ x f. refl }
  hook_reads hooks.GetAttr = record { here = λ x f. refl }

  init_reads : (init : Option Value) → HasInit s init → Reads (init_at s) (init_text s init) init Closes
  init_reads None h = record { here = λ x f. rw (closes-no_blank x f) refl }
  init_reads (Some v) h = record { here = λ x f. (after_reads words.init_word (made_reads Some (value_reads s told v h))).here x (closes-break x f) }

  init-end : (init : Option Value) (x : List ℕ) → Closes x → Ends (init_text s init ++ x)
  init-end None x f = closes-end x f
  init-end (Some v) x f = refl

  made_same : (o : ℕ) (init : Option Value) → words.made_word ++ (object_text o ++ init_text s init) ≡ made_text s o init
  made_same o None = ap (λ t. words.made_word ++ t) (append-nil (object_text o))
  made_same o (Some v) = ap (λ t. words.made_word ++ t) (sym (append_assoc (object_text o) words.init_word (value_text s v)))

  pub line_reply_reads : (r : LineReply) → HasLineReply s r → Reads (line_reply_at s) (line_reply_text s r) r Closes
  unfolding line_reply_at nothing
  line_reply_reads (line_replies.Of (replies.Made o init)) h =
      same_text (made_same o init)
      (record { here = λ x f. (made_reads (λ (p : ℕ × Option Value). line_replies.Of (replies.Made p.0 p.1)) (both_reads (init-end init) (object_reads o h.0) (init_reads init h.1))).here x f })
  line_reply_reads (line_replies.Of (replies.Value v)) h = record {
    here = λ x f. (made_reads (λ (w : Value). line_replies.Of (replies.Value w)) (value_reads s told v h)).here x (closes-break x f);
  }
  line_reply_reads (line_replies.Of (replies.Method n v)) h = record {
    here = λ x f. (made_reads (λ (p : ℕ × Value). line_replies.Of (replies.Method p.0 p.1)) (both_reads (λ y g. refl) (name_reads s.funcs n (told.funcs n h.0)) (value_item_reads s told v h.1))).here x (closes-break x f);
  }
  line_reply_reads (line_replies.Of (replies.Hook kind callee receiver other v)) h =
      let first = both_reads (λ y g. tt) (hook_reads kind) (value_item_reads s told callee h.0) in
      let second = both_reads (λ y g. refl) first (value_item_reads s told receiver h.1) in
      let third = both_reads (λ y g. refl) second (value_item_reads s told other h.2) in
      record {
        here = λ x f. (made_reads (λ (p : (((HookKind × Value) × Value) × Value) × Value). line_replies.Of (hook_parts p)) (both_reads (λ y g. refl) third (value_item_reads s told v h.3))).here x (closes-break x f);
      }
  line_reply_reads (line_replies.Of (replies.Order order)) h = record {
    here = λ x f. (made_reads (λ (cs : List ℕ). line_replies.Of (replies.Order cs)) (classes_read s told order h)).here x (closes-stop x f);
  }
  line_reply_reads (line_replies.Of (replies.NoOrder c)) h = record {
    here = λ x f. (made_reads (λ (n : ℕ). line_replies.Of (replies.NoOrder n)) (name_reads s.classes c (told.classes c h))).here x (closes-end x f);
  }
  line_reply_reads (line_replies.Of replies.Done) h = record { here = λ x f. refl }
  line_reply_reads (line_replies.Of replies.NoAttr) h = record { here = λ x f. refl }
  line_reply_reads (line_replies.Of replies.NoGetter) h = record { here = λ x f. refl }
  line_reply_reads (line_replies.Of replies.NoSetter) h = record { here = λ x f. refl }
  line_reply_reads (line_replies.Of replies.NoDeleter) h = record { here = λ x f. refl }
  line_reply_reads (line_replies.Of replies.NoClass) h = record { here = λ x f. refl }
  line_reply_reads (line_replies.Of replies.NameTaken) h = record { here = λ x f. refl }
  line_reply_reads (line_replies.Of replies.EmptyBases) h = record { here = λ x f. refl }
  line_reply_reads (line_replies.Of replies.Duplicate) h = record { here = λ x f. refl }
  line_reply_reads (line_replies.Of replies.Cycle) h = record { here = λ x f. refl }
  line_reply_reads (line_replies.Of replies.Immutable) h = record { here = λ x f. refl }
  line_reply_reads (line_replies.Of replies.NotSubclass) h = record { here = λ x f. refl }
  line_reply_reads (line_replies.Of replies.Full) h = record { here = λ x f. refl }
  line_reply_reads line_replies.Kept h = record { here = λ x f. refl }
  line_reply_reads (line_replies.Suspended n) h = record {
    here = λ x f. (made_reads line_replies.Suspended (number_reads (2 ^ 32) n h (omega arith))).here x (closes-end x f);
  }

  -- Lines

  path_item_reads : (way : Path) → Reads path_item_at (path_item way) (bare_path way) Anything
  unfolding path_item_at nothing
  path_item_reads paths.Fast = record { here = λ x f. refl }
  path_item_reads paths.Locked = record { here = λ x f. refl }
  path_item_reads (paths.Slow (misses.Untagged c)) = record { here = λ x f. refl }
  path_item_reads (paths.Slow (misses.Unlike e)) = record { here = λ x f. refl }
  path_item_reads (paths.Slow (misses.Writing e n)) = record { here = λ x f. refl }
  path_item_reads (paths.Slow (misses.Changed e n m)) = record { here = λ x f. refl }
  path_item_reads (paths.Slow (misses.Odd o n)) = record { here = λ x f. refl }
  path_item_reads (paths.Slow (misses.Dict o n)) = record { here = λ x f. refl }
  path_item_reads (paths.Slow (misses.Keyless c x)) = record { here = λ x f. refl }
  path_item_reads (paths.Slow (misses.Moved w n m)) = record { here = λ x f. refl }

  local_reads : (l : Local) → HasLocal s l → Reads (local_at s) (local_text s l) l Closes
  unfolding local_at nothing
  local_reads locals.Depth h = record { here = λ x f. refl }
  local_reads locals.Budget h = record { here = λ x f. refl }
  local_reads locals.Kind h = record { here = λ x f. refl }
  local_reads (locals.Unbound a) h = record { here = λ x f. (made_reads locals.Unbound (name_reads s.vars a (told.vars a h))).here x (closes-end x f) }
  local_reads locals.NotCallable h = record { here = λ x f. refl }
  local_reads (locals.Worn n) h = record { here = λ x f. (made_reads locals.Worn (number_reads (2 ^ 64) n h h)).here x (closes-end x f) }
  local_reads (locals.Full n) h = record { here = λ x f. (made_reads locals.Full (number_reads (2 ^ 64) n h h)).here x (closes-end x f) }

  thread_reads : (t : ℕ) → t ≤ finally_thread → Reads thread_at (thread_text t) t Ends
  unfolding thread_at nothing
  thread_reads t h =
      elim (cases_Bool (t == main_thread)) [
        | inl e ↦ subst (λ n. Reads thread_at (thread_text n) n Ends) (sym (eqb-true t main_thread e)) (record { here = λ x f. refl })
        | inr e ↦
            elim (cases_Bool (t == finally_thread)) [
              | inl g ↦ subst (λ n. Reads thread_at (thread_text n) n Ends) (sym (eqb-true t finally_thread g)) (record { here = λ x f. refl })
              | inr g ↦
                  let text : words.thread_word ++ decimal t ≡ thread_text t =
                  sym (ap (λ b. cond b (codes "m") (cond (t == finally_thread) (codes "f") (words.thread_word ++ decimal t))) e ∙ ap (λ b. cond b (codes "f") (words.thread_word ++ decimal t)) g) in
                  let some : 0 < t = grind (arith, nat_tests, e) in
                  let most : t < finally_thread = grind (arith, nat_tests, g, h) in
                  same_text text (record { here = λ x f. (positive_reads finally_thread t some most (omega arith)).here x f })
            ]
      ]

  begins_more : (text x : List ℕ) → begins_run text ≡ true → begins_run (text ++ x) ≡ true
  begins_more [] x h = cc
  begins_more (byte ∷ text) x h = h

  begins_number : (n : ℕ) (x : List ℕ) → IsLong n → begins_run (decimal n ++ x) ≡ true
  begins_number n x h = begins_all s told (decimal n) x (decimal_nonempty n h) (digits_continue (decimal n) (digits_decimal digits n h))

  done_reads : (place : ℕ) (way : Path) (operation : LineOp) → IsLong place → HasLineOp s operation → Reads (done_at s) (decimal place ++ path_item way ++ line_op_text s operation ++ codes " = ") ((place, bare_path way), operation) Anything
  unfolding done_at
  done_reads place way operation n o =
      let first = both_reads (λ y g. refl) (number_reads (2 ^ 64) place n n) (path_item_reads way) in
      before_reads (codes " = ") (λ y. refl) (both_reads (λ y g. tt) first (line_op_reads operation o))

  did_reads : (place : ℕ) (way : Path) (operation : LineOp) (r : LineReply) → IsLong place → HasLineOp s operation → HasLineReply s r
      → Reads (did_at s) (decimal place ++ path_item way ++ line_op_text s operation ++ codes " = " ++ line_reply_text s r) (whats.Did (record { 0 = place }) (bare_path way) operation r) Closes
  unfolding did_at
  did_reads place way operation r n o h = made_reads did (both_reads (λ y g. tt) (done_reads place way operation n o) (line_reply_reads r h))

  local_what_reads : (l : Local) → HasLocal s l → Reads (local_what_at s) (codes "- local " ++ local_text s l) (whats.Local l) Closes
  unfolding local_what_at
  local_what_reads l h = after_reads (codes "- local ") (made_reads whats.Local (local_reads l h))

  pub what_reads : (what : What) → HasWhat s what → Reads (what_at s) (what_text s what) (bare_what what) Closes
  unfolding what_at
  what_reads (whats.Did place way operation r) h = record {
    here = λ x f.
        let op : List ℕ = line_op_text s operation in
        let reply : List ℕ = line_reply_text s r in
        let begins : begins_run (what_text s (whats.Did place way operation r) ++ x) ≡ true =
        begins_more (decimal place.0 ++ path_item way ++ op ++ codes " = " ++ reply) x
        (begins_more (decimal place.0 ++ path_item way ++ op ++ codes " = ") reply
        (begins_more (decimal place.0 ++ path_item way ++ op) (codes " = ") (begins_more (decimal place.0 ++ path_item way) op (begins_number place.0 (path_item way) h.0)))) in
        rw begins ((did_reads place.0 way operation r h.0 h.1 h.2).here x f);
  }
  what_reads (whats.Local l) h = record { here = λ x f. (local_what_reads l h).here x f }

  front_reads : (thread number : ℕ) → thread ≤ finally_thread → IsShort number → Reads front_at (thread_text thread ++ codes " " ++ decimal number ++ codes " ") (thread, number) Anything
  unfolding front_at
  front_reads thread number t n =
      let first = before_reads (codes " ") (λ y. refl) (thread_reads thread t) in
      before_reads (codes " ") (λ y. refl) (both_reads (λ y g. tt) first (number_reads (2 ^ 32) number n (omega arith)))

  pub line_reads : (line : Line) → line.thread ≤ finally_thread → IsShort line.number → HasWhat s line.what → Reads (line_at s) (line_text s line) (bare_line line) Anything
  unfolding line_at
  line_reads line t n h =
      made_reads line_of (before_reads (codes "\n") (λ y. refl) (both_reads (λ y g. tt) (front_reads line.thread line.number t n) (what_reads line.what h)))
