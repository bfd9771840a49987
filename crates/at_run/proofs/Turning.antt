-- Turns of a thread on the plain data model, one after another.
use Rattle.std.proofs.Common.{◌≡◌, ◌∙◌, refl, sym, ap, subst, ℕ, suc, ◌+◌, ◌^◌, ◌<◌, ◌≤◌, arith, Bool, true, false, List, [], ◌∷◌, ◌++◌, length, if◌then◌else◌, append-nil, length-append}
use Rattle.std.specs.Prelude.{All}
use Rattle.std.proofs.lemmas.List.Elements.{All-nil, All-cons, All-head, All-tail, All-push}
use Rattle.at_value.specs.Types.{Op}
use Rattle.at_line.specs.Types.{Line, Local, What}
use Rattle.at_line.specs.declared.line.LineOp.TheVariants as line_ops
use Rattle.at_line.specs.declared.line.LineReply.TheVariants as line_replies
use Rattle.at_line.specs.declared.line.Local.TheVariants as locals
use Rattle.at_line.specs.declared.line.What.TheVariants as whats
use Rattle.at_model.specs.World.{World}
use Rattle.at_model.specs.Step.{step, is_write}
use Rattle.at_model.specs.History.{replay}
use Rattle.at_line.specs.Serial.{GoesOn, Adds, NamesNoLimit}
use Rattle.at_world.specs.Plain.{PlainState, stepped, place_after_write}
use Rattle.at_model.proofs.OnlyWrites.{step-left}
use Rattle.at_script.specs.Limits as limits
use Rattle.at_script.specs.Parts.{ScriptParts}
use Rattle.at_thread.specs.Execution as execution
use Rattle.at_thread.specs.Execution.{next_of, start}
use Rattle.at_thread.specs.Executions.{Makes, Leads}
use Rattle.at_thread.specs.Runs.{numbered_lines}
use Rattle.at_thread.proofs.Steps.{spare, Few, AllOnward}
use Rattle.at_thread.proofs.Leading.{leads_more}
use Rattle.at_run.specs.Opening.{opening_of}
use Rattle.at_run.specs.Turns.{IsPlain, Tells, Moves, TellsIn, HasRoom, HasRoomFor}
use Rattle.at_run.specs.Blocks.{IsWorldOf, Becomes, Leading, most_of}
use Rattle.at_run.proofs.Serial.{serial_append}

replay_more : (opened : World) (history : List Op) (o : Op) → replay opened (history ++ o ∷ []) ≡ (step (replay opened history) o).world
replay_more opened [] o = refl
replay_more opened (first ∷ history) o = replay_more (step opened first).world history o

module _ (opened : World) where
  -- a line, added to a history
  record Added (v : PlainState) (history : List Op) (l : What) : Type 0 where
    pub longer : List Op
    pub world : IsWorldOf opened v longer
    pub adds : Adds opened (λ now. now ≡ longer) history l
    pub by_one : length longer ≤ suc (length history)

  module _ (v : PlainState) (history : List Op) (o : Op) (became : v ≡ stepped (record { world = replay opened history; place = length history }) o) (room : length history + 1 < 2 ^ 64) where
    abbrev goes : Bool → List Op → ℕ → Type 0
    goes b longer place = GoesOn (λ now. now ≡ longer) b history place o

    -- the history after the operation
    record Gone (place : ℕ) : Type 0 where
      pub longer : List Op
      pub world : IsWorldOf opened v longer
      pub goes_on : goes (is_write (replay opened history) o) longer place
      pub by_one : length longer ≤ suc (length history)

    gone : (place : ℕ) (b : Bool) → is_write (replay opened history) o ≡ b → place ≡ v.place → Gone place
    gone place true writes at =
        let one : length (history ++ o ∷ []) ≡ length history + 1 = length-append history (o ∷ []) in
        let counts : v.place ≡ place_after_write (length history) = ap (λ (s : PlainState). s.place) became ∙ ap (λ (b : Bool). if b then place_after_write (length history) else length history) writes in
        let next : place_after_write (length history) ≡ suc (length history) = omega arith in
        record {
          longer = history ++ o ∷ [];
          world = (ap (λ (s : PlainState). s.world) became ∙ sym (replay_more opened history o), omega arith);
          goes_on = subst (λ b. goes b (history ++ o ∷ []) place) (sym writes) (omega arith, refl);
          by_one = omega arith;
        }
    gone place false reads at =
        let counts : v.place ≡ length history = ap (λ (s : PlainState). s.place) became ∙ ap (λ (b : Bool). if b then place_after_write (length history) else length history) reads in
        record {
          longer = history;
          world = (ap (λ (s : PlainState). s.world) became ∙ step-left (replay opened history) o reads, counts);
          goes_on = subst (λ b. goes b history place) (sym reads) (at ∙ counts, refl);
          by_one = omega arith;
        }

  -- the begin and the end of a section stand at the end of the history
  unmoved : (w v : PlainState) (history : List Op) (place : ℕ) → (v ≡ w) × (place ≡ w.place) → IsWorldOf opened w history → IsWorldOf opened v history × (place ≡ length history)
  unmoved w v history place told stands = (subst (λ (s : PlainState). IsWorldOf opened s history) (sym told.0) stands, told.1 ∙ stands.1)

  told_adds : (w v : PlainState) (history : List Op) (l : What) → Tells w l v → IsWorldOf opened w history → length history + 1 < 2 ^ 64 → Added v history l
  told_adds w v history (whats.Did place path (line_ops.Of o) r) told stands room =
      let same : w ≡ record { world = replay opened history; place = length history } = ap (λ (x : World). record { world = x; place = w.place }) stands.0 ∙ ap (λ (n : ℕ). record { world = replay opened history; place = n }) stands.1 in
      let g = gone v history o (told.1 ∙ ap (λ (s : PlainState). stepped s o) same) room place.0 (is_write (replay opened history) o) refl told.2 in
      record {
        longer = g.longer;
        world = g.world;
        adds = (told.0 ∙ ap (λ (x : World). line_replies.Of (step x o).reply) stands.0, g.goes_on);
        by_one = g.by_one;
      }
  told_adds w v history (whats.Did place path (line_ops.Begin a b) r) told stands room = let k = unmoved w v history place.0 told stands in record { longer = history; world = k.0; adds = (k.1, refl); by_one = omega arith }
  told_adds w v history (whats.Did place path line_ops.Finish r) told stands room = let k = unmoved w v history place.0 told stands in record { longer = history; world = k.0; adds = (k.1, refl); by_one = omega arith }
  told_adds w v history (whats.Local l) told stands room = record { longer = history; world = subst (λ (s : PlainState). IsWorldOf opened s history) (sym told) stands; adds = refl; by_one = omega arith }

-- a block that has begun
pub leading_start : (p : ScriptParts) (s : execution.ThreadState) (w : PlainState) → Leading p s w [] s w
leading_start p s w = record {
  steps = 0;
  leads = (refl, refl);
  plain = All-nil IsPlain;
  becomes = λ first stands room. record { history = first; serial = refl; short = omega arith; world = stands };
}

-- a turn without a line
leading_silent : (p : ScriptParts) (s : execution.ThreadState) (w : PlainState) (says : List What) (t u : execution.ThreadState) (v x : PlainState) → Leading p s w says t v → Makes (next_of p t) [] u → x ≡ v → Leading p s w says u x
leading_silent p s w says t u v x h makes same = record {
  steps = suc h.steps;
  leads = subst (λ (ws : List What). Leads p (suc h.steps) s ws u) (append-nil says) (leads_more p h.steps s says t [] u h.leads makes);
  plain = h.plain;
  becomes = subst (λ (y : PlainState). Becomes (opening_of p) w says y) (sym same) h.becomes;
}

-- a turn with a line
leading_says : (p : ScriptParts) (s : execution.ThreadState) (w : PlainState) (says : List What) (t u : execution.ThreadState) (v x : PlainState) (l : What) → Leading p s w says t v → Makes (next_of p t) (l ∷ []) u → Tells v l x → IsPlain l
    → Leading p s w (says ++ l ∷ []) u x
leading_says p s w says t u v x l h makes tells plain =
    let longer : length (says ++ l ∷ []) ≡ length says + 1 = length-append says (l ∷ []) in
    record {
      steps = suc h.steps;
      leads = leads_more p h.steps s says t (l ∷ []) u h.leads makes;
      plain = All-push IsPlain says l h.plain plain;
      becomes = λ first stands room.
          let on = h.becomes first stands (omega arith) in
          let short = on.short in
          let a = told_adds (opening_of p) v x on.history l tells on.world (omega arith) in
          let by_one = a.by_one in
          record {
            history = a.longer;
            serial = serial_append (opening_of p) says (l ∷ []) first on.history a.longer on.serial a.adds;
            short = omega arith;
            world = a.world;
          };
    }

-- a turn after which the thread goes on
pub leading_turn : (p : ScriptParts) (s : execution.ThreadState) (w : PlainState) (says : List What) (t u : execution.ThreadState) (v x : PlainState) (more : List What) → Leading p s w says t v → Moves p t true more u → TellsIn v more x
    → Leading p s w (says ++ more) u x
leading_turn p s w says t u v x [] h moves same =
    subst (λ (ws : List What). Leading p s w ws u x) (sym (append-nil says)) (leading_silent p s w says t u v x h moves same)
leading_turn p s w says t u v x (l ∷ []) h moves told = leading_says p s w says t u v x l h moves told.0 told.1
leading_turn p s w says t u v x (l ∷ m ∷ more) h moves told = absurd told

-- and one in which it has ended
pub leading_end : (p : ScriptParts) (s : execution.ThreadState) (w : PlainState) (says : List What) (t u : execution.ThreadState) (v x : PlainState) (more : List What) → Leading p s w says t v → Moves p t false more u → TellsIn v more x → Leading p s w says u x
leading_end p s w says t u v x [] h moves same =
    subst (λ (r : execution.ThreadState). Leading p s w says r x) (sym moves.1) (subst (λ (y : PlainState). Leading p s w says t y) (sym same) h)
leading_end p s w says t u v x (l ∷ more) h moves told = absurd cc

-- what a thread says by itself is plain
pub own_plain : (l : Local) → NamesNoLimit (whats.Local l) → IsPlain (whats.Local l)
own_plain locals.Depth h = (tt, tt)
own_plain locals.Budget h = (tt, tt)
own_plain locals.Kind h = (tt, tt)
own_plain (locals.Unbound variable) h = (tt, tt)
own_plain locals.NotCallable h = (tt, tt)
own_plain (locals.Worn sequence) h = absurd h
own_plain (locals.Full place) h = absurd h

-- there are at most two lines a statement that the script allows, and one more
pub few_lines : (p : ScriptParts) (count : ℕ) (s : execution.ThreadState) → Few p count s → count ≤ most_of p
few_lines p count s h =
    let most = spare_most s.frames in
    let few = h.few in
    let within = h.within in
    omega arith
  where
    spare_most : (fs : List execution.Frame) → spare fs ≤ 1
    spare_most [] = omega arith
    spare_most (f ∷ fs) = omega arith

room_by_one : (p : ScriptParts) (number first count capacity : ℕ) (t : execution.ThreadState) → Few p (suc number) t → p.budget ≤ limits.most_budget → count ≡ first + number → first + most_of p ≤ capacity → HasRoom number count capacity
room_by_one p number first count capacity t few budget written room =
    let most = few_lines p (suc number) t few in
    (omega arith, omega arith)

-- in a block that began with room for all its lines, there is room for the line of the next turn
pub room_for : (p : ScriptParts) (n number first count capacity : ℕ) (next : execution.Transition) → AllOnward p n number next → p.budget ≤ limits.most_budget → count ≡ first + number → first + most_of p ≤ capacity
    → HasRoomFor next number count capacity
room_for p n number first count capacity execution.ended onward budget written room = tt
room_for p n number first count capacity (execution.silent s) onward budget written room = tt
room_for p n number first count capacity (execution.checkpoints s) onward budget written room = tt
room_for p n number first count capacity (execution.says l s) onward budget written room = room_by_one p number first count capacity s onward.few budget written room
room_for p n number first count capacity (execution.asks o u s) onward budget written room = room_by_one p number first count capacity (execution.dropped s) onward.1.few budget written room

-- what is so of what lines say, is so of the lines
pub all_numbered : (P : What → Type 0) (thread from : ℕ) (says : List What) → All P says → All (λ (line : Line). P line.what) (numbered_lines thread from says)
all_numbered P thread from [] all = All-nil (λ (line : Line). P line.what)
all_numbered P thread from (w ∷ says) all =
    All-cons (λ (line : Line). P line.what) (record { what = w; number = from; thread = thread }) (numbered_lines thread (suc from) says) (All-head P w says all) (all_numbered P thread (suc from) says (All-tail P w says all))
