-- A line without offence keeps the counts within their limits.
use Rattle.std.proofs.Common.{◌≡◌, refl, ℕ, ◌+◌, ◌≤◌, arith, List, [], ◌∷◌, ◌++◌, length, Bool, true, false, cond, ◌||◌, ltb, Option, Some, None}
use Rattle.std.specs.List.{find}
use Rattle.std.proofs.lemmas.Bool.{ltb-false}
use Rattle.at_value.specs.Widths as widths
use Rattle.at_script.specs.declared.fault.Cause as cause
use Rattle.at_script.specs.declared.fault.Cause.TheVariants as causes
use Rattle.at_script.specs.declared.stage.BlockKind as block_kind
use Rattle.at_script.specs.declared.stage.BlockKind.TheVariants as block_kinds
use Rattle.at_script.specs.declared.stage.Stage as stage
use Rattle.at_script.specs.declared.stage.Stage.TheVariants as stages
use Rattle.at_script.specs.Limits as limits
use Rattle.at_script.specs.Shapes as shapes
use Rattle.at_script.specs.Shapes.{Said}
use Rattle.at_script.specs.Texts.{Texts}
use Rattle.at_script.specs.Uses.{with_uses}
use Rattle.at_script.specs.State.{State}
use Rattle.at_script.specs.Causes.{cause_of, uses_in, uses_said, said_in, read_words, are_too_many, has_limit, has_cause}
use Rattle.at_script.specs.Script.{after, after_said, led_by, with_said, ended, ending, past_header}

-- a test in a chain that comes to nothing fails
chain : {A : Type 0} (b : Bool) (x : A) (rest : Option A) → cond b (Some x) rest ≡ None → (b ≡ false) × (rest ≡ None)
chain true x rest e = cc
chain false x rest e = (refl, e)

-- where no cause is found, none holds
pub none_holds : (p : cause.Cause → Bool) (before : List cause.Cause) (c : cause.Cause) (after : List cause.Cause) → find p (before ++ c ∷ after) ≡ None → p c ≡ false
none_holds p [] c after e = (chain (p c) c (find p after) e).0
none_holds p (x ∷ before) c after e = none_holds p before c after (chain (p x) x (find p (before ++ c ∷ after)) e).1

-- the causes that are tried before the last
abbrev before_limit : List cause.Cause
before_limit =
    causes.Byte ∷ causes.Header ∷ causes.Word ∷ causes.Place ∷ causes.Form ∷ causes.Number ∷ causes.Name ∷ causes.Class ∷ causes.Func ∷ []

-- a line without offence brings no count above its limit
pub no_limit : (s : State) (line : List ℕ) → cause_of s line ≡ None → has_limit s line ≡ false
no_limit s line none = none_holds (has_cause s line) before_limit causes.Limit (causes.End ∷ []) none

or-false : (a b : Bool) → (a || b) ≡ false → (a ≡ false) × (b ≡ false)
or-false true b h = cc
or-false false b h = (refl, h)

-- the texts of the line are within their limits
pub texts_within : (s : State) (line : List ℕ) → has_limit s line ≡ false → are_too_many (with_uses s.texts (uses_in s line)) ≡ false
texts_within s line h = (or-false _ _ (or-false _ _ h).0).1

-- Where a line begins or ends a block, the texts stay.

ending_texts : (kind : block_kind.BlockKind) (s : State) → (ending kind s).texts ≡ s.texts
ending_texts block_kinds.Func s = refl
ending_texts block_kinds.Main s = refl
ending_texts block_kinds.Thread s = refl
ending_texts block_kinds.Finally s = refl

ended_texts : (stage : stage.Stage) (s : State) → (ended stage s).texts ≡ s.texts
ended_texts (stages.Within kind section) s = ending_texts kind s
ended_texts stages.Header s = refl
ended_texts stages.Opening s = refl
ended_texts stages.Functions s = refl
ended_texts stages.Ending s = refl
ended_texts stages.Closed s = refl

led_texts : (said : Said) (s : State) → (led_by said s).texts ≡ s.texts
led_texts (shapes.budget z) s = refl
led_texts (shapes.func f) s = refl
led_texts shapes.main s = refl
led_texts shapes.thread s = refl
led_texts shapes.finally s = refl
led_texts shapes.end s = ended_texts s.stage s
led_texts (shapes.begin r q) s = refl
led_texts shapes.finish s = refl
led_texts (shapes.class c above) s = refl
led_texts (shapes.bases c above) s = refl
led_texts (shapes.put c x v) s = refl
led_texts (shapes.cut c x) s = refl
led_texts (shapes.new a c v) s = refl
led_texts (shapes.set r x v) s = refl
led_texts (shapes.del r x) s = refl
led_texts (shapes.get r x) s = refl
led_texts (shapes.turn r c) s = refl
led_texts (shapes.share r q) s = refl
led_texts (shapes.super_read c r x) s = refl
led_texts (shapes.special r x) s = refl
led_texts (shapes.classof r) s = refl
led_texts (shapes.mro c) s = refl
led_texts (shapes.call r x v) s = refl
led_texts (shapes.super_call c r x v) s = refl
led_texts (shapes.bind a v) s = refl
led_texts (shapes.result v) s = refl
led_texts shapes.checkpoint s = refl

said_texts : (o : Option Said) (s : State) → (after_said o s).texts ≡ with_uses s.texts (uses_said o)
said_texts None s = refl
said_texts (Some said) s = led_texts said (with_said said s)

-- after a line the texts are those before it with its own
pub after_texts : (s : State) (line : List ℕ) → (after s line).texts ≡ with_uses s.texts (uses_in s line)
after_texts s line = said_texts (said_in (read_words s line)) (record s { stage = past_header s.stage; bytes = s.bytes + length line })

-- texts that aren't too many are within their limits
pub few_texts : (t : Texts) → are_too_many t ≡ false → (length t.names ≤ widths.names) × (length t.vars ≤ limits.most_variables)
few_texts t h =
    let k = or-false (ltb widths.names (length t.names)) (ltb limits.most_variables (length t.vars)) h in
    (ltb-false _ _ k.0, ltb-false _ _ k.1)

-- Where a line begins or ends a block, so does the count of bytes.

ending_bytes : (kind : block_kind.BlockKind) (s : State) → (ending kind s).bytes ≡ s.bytes
ending_bytes block_kinds.Func s = refl
ending_bytes block_kinds.Main s = refl
ending_bytes block_kinds.Thread s = refl
ending_bytes block_kinds.Finally s = refl

ended_bytes : (stage : stage.Stage) (s : State) → (ended stage s).bytes ≡ s.bytes
ended_bytes (stages.Within kind section) s = ending_bytes kind s
ended_bytes stages.Header s = refl
ended_bytes stages.Opening s = refl
ended_bytes stages.Functions s = refl
ended_bytes stages.Ending s = refl
ended_bytes stages.Closed s = refl

led_bytes : (said : Said) (s : State) → (led_by said s).bytes ≡ s.bytes
led_bytes (shapes.budget z) s = refl
led_bytes (shapes.func f) s = refl
led_bytes shapes.main s = refl
led_bytes shapes.thread s = refl
led_bytes shapes.finally s = refl
led_bytes shapes.end s = ended_bytes s.stage s
led_bytes (shapes.begin r q) s = refl
led_bytes shapes.finish s = refl
led_bytes (shapes.class c above) s = refl
led_bytes (shapes.bases c above) s = refl
led_bytes (shapes.put c x v) s = refl
led_bytes (shapes.cut c x) s = refl
led_bytes (shapes.new a c v) s = refl
led_bytes (shapes.set r x v) s = refl
led_bytes (shapes.del r x) s = refl
led_bytes (shapes.get r x) s = refl
led_bytes (shapes.turn r c) s = refl
led_bytes (shapes.share r q) s = refl
led_bytes (shapes.super_read c r x) s = refl
led_bytes (shapes.special r x) s = refl
led_bytes (shapes.classof r) s = refl
led_bytes (shapes.mro c) s = refl
led_bytes (shapes.call r x v) s = refl
led_bytes (shapes.super_call c r x v) s = refl
led_bytes (shapes.bind a v) s = refl
led_bytes (shapes.result v) s = refl
led_bytes shapes.checkpoint s = refl

said_bytes : (o : Option Said) (s : State) → (after_said o s).bytes ≡ s.bytes
said_bytes None s = refl
said_bytes (Some said) s = led_bytes said (with_said said s)

-- after a line its bytes are counted
pub after_bytes : (s : State) (line : List ℕ) → (after s line).bytes ≡ s.bytes + length line
after_bytes s line = said_bytes (said_in (read_words s line)) (record s { stage = past_header s.stage; bytes = s.bytes + length line })

-- where a line has no offence, the bytes up to it are within their limit
pub bytes_within : (s : State) (line : List ℕ) → cause_of s line ≡ None → (after s line).bytes ≤ limits.most_bytes
bytes_within s line clean =
    let few : s.bytes + length line ≤ limits.most_bytes = ltb-false limits.most_bytes (s.bytes + length line) (or-false _ _ (or-false _ _ (or-false _ _ (no_limit s line clean)).0).0).0 in
    omega (arith, after_bytes s line)
