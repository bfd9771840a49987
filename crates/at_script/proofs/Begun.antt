-- No more functions begin than there may be: a line that begins one more than that has an offence.
use Rattle.std.proofs.Common.{◌≡◌, refl, sym, subst, ℕ, ◌+◌, ◌<◌, ◌≤◌, arith, List, [], ◌∷◌, ◌++◌, length, Bool, true, false, not, ◌||◌, Option, Some, None, length-append}
use Rattle.std.specs.List.{list_any}
use Rattle.std.proofs.lemmas.Bool.{ltb-false, leb-false}
use Rattle.at_value.specs.Widths as widths
use Rattle.at_script.specs.declared.fault.Cause.TheVariants as causes
use Rattle.at_script.specs.declared.stage.BlockKind.TheVariants as block_kinds
use Rattle.at_script.specs.declared.stage.Stage as stage
use Rattle.at_script.specs.declared.stage.Stage.TheVariants as stages
use Rattle.at_script.specs.Shapes as shapes
use Rattle.at_script.specs.Shapes.{Said}
use Rattle.at_script.specs.Texts.{Texts, number_in}
use Rattle.at_script.specs.Words.{is_free}
use Rattle.at_script.specs.Uses as uses
use Rattle.at_script.specs.Uses.{uses_of}
use Rattle.at_script.specs.State.{State}
use Rattle.at_script.specs.Causes.{cause_of, has_cause, is_misnamed, is_one_too_many, was_begun, said_in, read_words, uses_said}
use Rattle.at_script.specs.Script.{after, after_said, led_by, with_said, ended, in_section, past_header}
use Rattle.at_script.proofs.Limits.{none_holds, no_limit}

-- where a function has begun, it is not among those that ended
abbrev pub IsBegun : stage.Stage → ℕ → Type 0
IsBegun (stages.Within block_kinds.Func section) n = n < widths.functions
IsBegun (stages.Within block_kinds.Main section) n = n ≤ widths.functions
IsBegun (stages.Within block_kinds.Thread section) n = n ≤ widths.functions
IsBegun (stages.Within block_kinds.Finally section) n = n ≤ widths.functions
IsBegun stages.Header n = n ≤ widths.functions
IsBegun stages.Opening n = n ≤ widths.functions
IsBegun stages.Functions n = n ≤ widths.functions
IsBegun stages.Ending n = n ≤ widths.functions
IsBegun stages.Closed n = n ≤ widths.functions

pub at_most : (at : stage.Stage) (n : ℕ) → IsBegun at n → n ≤ widths.functions
at_most (stages.Within block_kinds.Func section) n h = omega arith
at_most (stages.Within block_kinds.Main section) n h = h
at_most (stages.Within block_kinds.Thread section) n h = h
at_most (stages.Within block_kinds.Finally section) n h = h
at_most stages.Header n h = h
at_most stages.Opening n h = h
at_most stages.Functions n h = h
at_most stages.Ending n h = h
at_most stages.Closed n h = h

past : (at : stage.Stage) (n : ℕ) → IsBegun at n → IsBegun (past_header at) n
past (stages.Within kind section) n h = h
past stages.Header n h = h
past stages.Opening n h = h
past stages.Functions n h = h
past stages.Ending n h = h
past stages.Closed n h = h

toggled : (to : Bool) (at : stage.Stage) (n : ℕ) → IsBegun at n → IsBegun (in_section to at) n
toggled to (stages.Within block_kinds.Func section) n h = h
toggled to (stages.Within block_kinds.Main section) n h = h
toggled to (stages.Within block_kinds.Thread section) n h = h
toggled to (stages.Within block_kinds.Finally section) n h = h
toggled to stages.Header n h = h
toggled to stages.Opening n h = h
toggled to stages.Functions n h = h
toggled to stages.Ending n h = h
toggled to stages.Closed n h = h

-- where the stage is that of the state, a block ends
end_begun : (at : stage.Stage) (s : State) → s.stage ≡ at → IsBegun at (length s.bodies) → IsBegun (ended at s).stage (length (ended at s).bodies)
end_begun (stages.Within block_kinds.Func section) s is h = let long : length (s.bodies ++ s.block ∷ []) ≡ length s.bodies + 1 = length-append s.bodies (s.block ∷ []) in omega arith
end_begun (stages.Within block_kinds.Main section) s is h = h
end_begun (stages.Within block_kinds.Thread section) s is h = h
end_begun (stages.Within block_kinds.Finally section) s is h = h
end_begun stages.Header s is h = subst (λ at. IsBegun at (length s.bodies)) (sym is) h
end_begun stages.Opening s is h = subst (λ at. IsBegun at (length s.bodies)) (sym is) h
end_begun stages.Functions s is h = subst (λ at. IsBegun at (length s.bodies)) (sym is) h
end_begun stages.Ending s is h = subst (λ at. IsBegun at (length s.bodies)) (sym is) h
end_begun stages.Closed s is h = subst (λ at. IsBegun at (length s.bodies)) (sym is) h

first-false : (a b : Bool) → (a || b) ≡ false → a ≡ false
first-false true b h = cc
first-false false b h = refl

or-second : (a b : Bool) → (a || b) ≡ false → b ≡ false
or-second true b h = cc
or-second false b h = h

abbrev Led : Said → State → Texts → Type 0
Led said s t =
    list_any (is_misnamed (length s.bodies) t) (uses_of said) ≡ false → list_any (is_one_too_many t) (uses_of said) ≡ false
    → IsBegun s.stage (length s.bodies) → IsBegun (led_by said s).stage (length (led_by said s).bodies)

led_begun : (said : Said) (s : State) (t : Texts) → Led said s t
led_begun (shapes.func f) s t name limit h =
    let from : length s.bodies ≤ number_in t.funcs f = ltb-false (number_in t.funcs f) (length s.bodies) (or-second (not (is_free f)) (was_begun (length s.bodies) t f) (first-false (is_misnamed (length s.bodies) t (uses.body f)) false name)) in
    let to : number_in t.funcs f < widths.functions = leb-false widths.functions (number_in t.funcs f) (first-false _ _ limit) in
    omega arith
led_begun (shapes.budget z) s t name limit h = at_most s.stage (length s.bodies) h
led_begun shapes.main s t name limit h = at_most s.stage (length s.bodies) h
led_begun shapes.thread s t name limit h = at_most s.stage (length s.bodies) h
led_begun shapes.finally s t name limit h = at_most s.stage (length s.bodies) h
led_begun shapes.end s t name limit h = end_begun s.stage s refl h
led_begun (shapes.begin r q) s t name limit h = toggled true s.stage (length s.bodies) h
led_begun shapes.finish s t name limit h = toggled false s.stage (length s.bodies) h
led_begun (shapes.class c above) s t name limit h = h
led_begun (shapes.bases c above) s t name limit h = h
led_begun (shapes.put c x v) s t name limit h = h
led_begun (shapes.cut c x) s t name limit h = h
led_begun (shapes.new a c v) s t name limit h = h
led_begun (shapes.set r x v) s t name limit h = h
led_begun (shapes.del r x) s t name limit h = h
led_begun (shapes.get r x) s t name limit h = h
led_begun (shapes.turn r c) s t name limit h = h
led_begun (shapes.share r q) s t name limit h = h
led_begun (shapes.super_read c r x) s t name limit h = h
led_begun (shapes.special r x) s t name limit h = h
led_begun (shapes.classof r) s t name limit h = h
led_begun (shapes.mro c) s t name limit h = h
led_begun (shapes.call r x v) s t name limit h = h
led_begun (shapes.super_call c r x v) s t name limit h = h
led_begun (shapes.bind a v) s t name limit h = h
led_begun (shapes.result v) s t name limit h = h
led_begun shapes.checkpoint s t name limit h = h

said_begun : (o : Option Said) (s : State) (t : Texts)
    → list_any (is_misnamed (length s.bodies) t) (uses_said o) ≡ false → list_any (is_one_too_many t) (uses_said o) ≡ false
    → IsBegun s.stage (length s.bodies) → IsBegun (after_said o s).stage (length (after_said o s).bodies)
said_begun None s t name limit h = h
said_begun (Some said) s t name limit h = led_begun said (with_said said s) t name limit h

-- a line without offence begins no function past the last
pub begun_after : (s : State) (line : List ℕ) → cause_of s line ≡ None → IsBegun s.stage (length s.bodies) → IsBegun (after s line).stage (length (after s line).bodies)
begun_after s line clean h =
    let name = none_holds (has_cause s line) (causes.Byte ∷ causes.Header ∷ causes.Word ∷ causes.Place ∷ causes.Form ∷ causes.Number ∷ []) causes.Name (causes.Class ∷ causes.Func ∷ causes.Limit ∷ causes.End ∷ []) clean in
    let many = or-second _ _ (first-false _ _ (first-false _ _ (no_limit s line clean))) in
    said_begun (said_in (read_words s line)) (record s { stage = past_header s.stage; bytes = s.bytes + length line }) s.texts name many (past s.stage (length s.bodies) h)
