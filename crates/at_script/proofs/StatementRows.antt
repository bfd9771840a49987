-- The statements, each with the parts that are read of it.
use Rattle.std.proofs.Common.{◌≡◌, ap, refl, sym, ℕ, List, [], ◌∷◌, ◌++◌, ◌+◌, map, length, Bool, true, false, Option, None, Ok}
use Rattle.std.specs.Option.{option_map, option_to_list}
use Rattle.at_name.specs.Texts.{place_of}
use Rattle.at_script.specs.declared.keyword.Keyword as keyword
use Rattle.at_script.specs.declared.keyword.Keyword.TheVariants as keywords
use Rattle.at_script.specs.declared.stage.Stage as stage
use Rattle.at_script.specs.declared.stage.Stage.TheVariants as stages
use Rattle.at_script.specs.declared.stmt.Operand as operand
use Rattle.at_script.specs.declared.stmt.Target as target
use Rattle.at_script.specs.declared.stmt.Stmt.{Stmt}
use Rattle.at_script.specs.declared.stmt.Stmt.TheVariants as statements
use Rattle.at_script.specs.Literals.{Written}
use Rattle.at_script.specs.Words.{is_register}
use Rattle.at_script.specs.Shapes as shapes
use Rattle.at_script.specs.Shapes.{Said, words_say}
use Rattle.at_script.specs.Texts.{Texts}
use Rattle.at_script.specs.Uses as uses
use Rattle.at_script.specs.Uses.{Use, uses_of, value_uses, given_uses}
use Rattle.at_script.specs.State.{State}
use Rattle.at_script.specs.Statements.{or_object, class_at, name_at, variable_at, target_at, operand_at}
use Rattle.at_script.specs.Script.{in_section, after_said}
use Rattle.at_script.specs.Taking.{Taken, mapped, made_of, both_taken, class_taken, subject_taken, bases_taken, bound_taken, owner_taken, second_owner_taken, attribute_taken, class_attribute_taken, value_taken, given_taken}
use Rattle.at_script.specs.Stating as stating
use Rattle.at_script.specs.LineReading.{stage_after, section_after, statement_read, then_counted}
use Rattle.at_script.proofs.Extended.{Extends}
use Rattle.at_script.proofs.Takes.{Takes, takes_made, takes_both, told_alone}
use Rattle.at_script.proofs.TakenClasses.{takes_class, takes_subject}
use Rattle.at_script.proofs.TakenNames.{takes_bound}
use Rattle.at_script.proofs.TakenOwners.{takes_owner}
use Rattle.at_script.proofs.TakenValues.{takes_value, takes_given, takes_bases, takes_class_attribute, takes_second_owner, takes_attribute}
use Rattle.at_script.proofs.StatementLines.{answered, cause_said, formed_line, statement_line}

-- The stage after a statement

-- a statement that opens and closes no section leaves the stage
stays : (k : keyword.Keyword) → ((section : Bool) → section_after k section ≡ section) → (u : State) → u ≡ record u { stage = stage_after k u.stage }
stays k same u = ap (λ (at : stage.Stage). record u { stage = at }) (at_stage u.stage)
  where
    at_stage : (at : stage.Stage) → at ≡ stage_after k at
    at_stage (stages.Within kind section) = ap (stages.Within kind) (sym (same section))
    at_stage stages.Header = refl
    at_stage stages.Opening = refl
    at_stage stages.Functions = refl
    at_stage stages.Ending = refl
    at_stage stages.Closed = refl

opens : (u : State) → record u { stage = in_section true u.stage } ≡ record u { stage = stage_after keywords.Begin u.stage }
opens u = ap (λ (at : stage.Stage). record u { stage = at }) (at_stage u.stage)
  where
    at_stage : (at : stage.Stage) → in_section true at ≡ stage_after keywords.Begin at
    at_stage (stages.Within kind section) = refl
    at_stage stages.Header = refl
    at_stage stages.Opening = refl
    at_stage stages.Functions = refl
    at_stage stages.Ending = refl
    at_stage stages.Closed = refl

closes : (u : State) → record u { stage = in_section false u.stage } ≡ record u { stage = stage_after keywords.Finish u.stage }
closes u = ap (λ (at : stage.Stage). record u { stage = at }) (at_stage u.stage)
  where
    at_stage : (at : stage.Stage) → in_section false at ≡ stage_after keywords.Finish at
    at_stage (stages.Within kind section) = refl
    at_stage stages.Header = refl
    at_stage stages.Opening = refl
    at_stage stages.Functions = refl
    at_stage stages.Ending = refl
    at_stage stages.Closed = refl

-- A part of a statement: what its words stand for, what it is in the texts of the line, and how it is read.
record Part (first : Texts) (begun : ℕ) (A : Type 0) : Type 0 where
  uses : List Use
  value : Texts → A
  take : Texts → Taken A
  told : Takes first begun uses value take

-- The state before the line, with no more texts than there may be; no function is called as a register is.
module _ (s : State) (within : Extends s.texts s.texts) (free : (w : List ℕ) → is_register w ≡ true → place_of w s.texts.funcs ≡ None) where
  abbrev Parted : Type 0 → Type 0
  Parted A = Part s.texts (length s.bodies) A

  abbrev both : {A B : Type 0} → Parted A → Parted B → Parted (A × B)
  both a b = record {
    uses = a.uses ++ b.uses;
    value = λ to. (a.value to, b.value to);
    take = λ t. both_taken (a.take t) b.take;
    told = takes_both s.texts (length s.bodies) a.uses b.uses a.value b.value a.take b.take a.told b.told;
  }

  abbrev made : {A B : Type 0} → (A → B) → Parted A → Parted B
  made g a = record {
    uses = a.uses;
    value = λ to. g (a.value to);
    take = λ t. made_of g (a.take t);
    told = takes_made s.texts (length s.bodies) a.uses a.value a.take g a.told;
  }

  abbrev class : List ℕ → Parted ℕ
  class w = record { uses = uses.class w ∷ []; value = λ to. class_at to w; take = λ t. (class_taken (length s.texts.vars) t w, t); told = takes_class s.texts (length s.bodies) w }

  abbrev subject : List ℕ → Parted ℕ
  subject w = record { uses = uses.subject w ∷ []; value = λ to. class_at to w; take = λ t. (subject_taken t w, t); told = takes_subject s.texts (length s.bodies) w }

  abbrev bases : List (List ℕ) → Parted (List ℕ)
  bases ws = record { uses = map uses.class ws; value = λ to. map (class_at to) ws; take = λ t. (bases_taken (length s.texts.vars) t (Ok []) ws, t); told = takes_bases s.texts (length s.bodies) ws }

  abbrev bound : List ℕ → Parted ℕ
  bound w = record { uses = uses.variable w ∷ []; value = λ to. variable_at to w; take = λ t. bound_taken t w; told = takes_bound s.texts (length s.bodies) w }

  abbrev owner : List ℕ → Parted target.Target
  owner w = record { uses = uses.owner w ∷ []; value = λ to. target_at to w; take = λ t. owner_taken t w; told = takes_owner s.texts (length s.bodies) free w }

  abbrev second_owner : Option (List ℕ) → Parted (Option target.Target)
  second_owner o = record { uses = map uses.owner (option_to_list o); value = λ to. option_map (target_at to) o; take = λ t. second_owner_taken t o; told = takes_second_owner s.texts (length s.bodies) free o }

  abbrev attribute : List ℕ × List ℕ → Parted (target.Target × ℕ)
  attribute p = record { uses = uses.owner p.0 ∷ uses.attribute p.1 ∷ []; value = λ to. (target_at to p.0, name_at to p.1); take = λ t. attribute_taken t p; told = takes_attribute s.texts (length s.bodies) free p }

  abbrev class_attribute : List ℕ × List ℕ → Parted (ℕ × ℕ)
  class_attribute p = record { uses = uses.class p.0 ∷ uses.attribute p.1 ∷ []; value = λ to. (class_at to p.0, name_at to p.1); take = λ t. class_attribute_taken (length s.texts.vars) t p; told = takes_class_attribute s.texts (length s.bodies) p }

  abbrev value : Written → Parted operand.Operand
  value v = record { uses = value_uses v; value = λ to. operand_at to v; take = λ t. value_taken (length s.texts.vars) t v; told = takes_value s.texts (length s.bodies) v }

  abbrev given : Option Written → Parted (Option operand.Operand)
  given v = record { uses = given_uses v; value = λ to. option_map (operand_at to) v; take = λ t. given_taken (length s.texts.vars) t v; told = takes_given s.texts (length s.bodies) v }

  abbrev Row : keyword.Keyword → List (List ℕ) → ℕ → Type 0
  Row k words count = then_counted count (statement_read s k words) ≡ answered (cause_said s count false (words_say k words)) (after_said (words_say k words) (record s { bytes = s.bytes + count }))

  pub class_row : (words : List (List ℕ)) (count : ℕ) → Row keywords.Class words count
  class_row words count =
      let part : List ℕ × List (List ℕ) → Parted Stmt = λ p. made (λ (q : ℕ × List ℕ). statements.Class q.0 (or_object q.1)) (both (subject p.0) (bases p.1)) in
      formed_line s keywords.Class count (λ p. shapes.class p.0 p.1) (λ p. (part p).value) (stating.class_says (length s.texts.vars) s.texts) (shapes.class_and_bases words) (λ p to. refl) (λ p u. stays keywords.Class (λ b. refl) u) (λ p. (part p).told s.texts within)

  pub bases_row : (words : List (List ℕ)) (count : ℕ) → Row keywords.Bases words count
  bases_row words count =
      let part : List ℕ × List (List ℕ) → Parted Stmt = λ p. made (λ (q : ℕ × List ℕ). statements.Bases q.0 q.1) (both (class p.0) (bases p.1)) in
      formed_line s keywords.Bases count (λ p. shapes.bases p.0 p.1) (λ p. (part p).value) (stating.bases_say (length s.texts.vars) s.texts) (shapes.class_and_bases words) (λ p to. refl) (λ p u. stays keywords.Bases (λ b. refl) u) (λ p. (part p).told s.texts within)

  pub put_row : (words : List (List ℕ)) (count : ℕ) → Row keywords.Put words count
  put_row words count =
      let part : (List ℕ × List ℕ) × Written → Parted Stmt = λ p. made (λ (q : (ℕ × ℕ) × operand.Operand). statements.Put q.0.0 q.0.1 q.1) (both (class_attribute p.0) (value p.1)) in
      formed_line s keywords.Put count (λ p. shapes.put p.0.0 p.0.1 p.1) (λ p. (part p).value) (stating.put_says (length s.texts.vars) s.texts) (shapes.attribute_and_value words) (λ p to. refl) (λ p u. stays keywords.Put (λ b. refl) u) (λ p. (part p).told s.texts within)

  pub cut_row : (words : List (List ℕ)) (count : ℕ) → Row keywords.Cut words count
  cut_row words count =
      let part : List ℕ × List ℕ → Parted Stmt = λ p. made (λ (q : ℕ × ℕ). statements.Cut q.0 q.1) (class_attribute p) in
      formed_line s keywords.Cut count (λ p. shapes.cut p.0 p.1) (λ p. (part p).value) (stating.cut_says (length s.texts.vars) s.texts) (shapes.attribute words) (λ p to. refl) (λ p u. stays keywords.Cut (λ b. refl) u) (λ p. (part p).told s.texts within)

  pub new_row : (words : List (List ℕ)) (count : ℕ) → Row keywords.New words count
  new_row words count =
      let part : (List ℕ × List ℕ) × Option Written → Parted Stmt = λ p. made (λ (q : (ℕ × ℕ) × Option operand.Operand). statements.New q.0.0 q.0.1 q.1) (both (both (bound p.0.0) (class p.0.1)) (given p.1)) in
      formed_line s keywords.New count (λ p. shapes.new p.0.0 p.0.1 p.1) (λ p. (part p).value) (stating.new_says (length s.texts.vars) s.texts) (shapes.identifiers_and_given words) (λ p to. refl) (λ p u. stays keywords.New (λ b. refl) u) (λ p. (part p).told s.texts within)

  pub set_row : (words : List (List ℕ)) (count : ℕ) → Row keywords.Set words count
  set_row words count =
      let part : (List ℕ × List ℕ) × Written → Parted Stmt = λ p. made (λ (q : (target.Target × ℕ) × operand.Operand). statements.Set q.0.0 q.0.1 q.1) (both (attribute p.0) (value p.1)) in
      formed_line s keywords.Set count (λ p. shapes.set p.0.0 p.0.1 p.1) (λ p. (part p).value) (stating.set_says (length s.texts.vars) s.texts) (shapes.attribute_and_value words) (λ p to. refl) (λ p u. stays keywords.Set (λ b. refl) u) (λ p. (part p).told s.texts within)

  pub del_row : (words : List (List ℕ)) (count : ℕ) → Row keywords.Del words count
  del_row words count =
      let part : List ℕ × List ℕ → Parted Stmt = λ p. made (λ (q : target.Target × ℕ). statements.Del q.0 q.1) (attribute p) in
      formed_line s keywords.Del count (λ p. shapes.del p.0 p.1) (λ p. (part p).value) (λ p. made_of (λ q. statements.Del q.0 q.1) (attribute_taken s.texts p)) (shapes.attribute words) (λ p to. refl) (λ p u. stays keywords.Del (λ b. refl) u) (λ p. (part p).told s.texts within)

  pub get_row : (words : List (List ℕ)) (count : ℕ) → Row keywords.Get words count
  get_row words count =
      let part : List ℕ × List ℕ → Parted Stmt = λ p. made (λ (q : target.Target × ℕ). statements.Get q.0 q.1) (attribute p) in
      formed_line s keywords.Get count (λ p. shapes.get p.0 p.1) (λ p. (part p).value) (λ p. made_of (λ q. statements.Get q.0 q.1) (attribute_taken s.texts p)) (shapes.attribute words) (λ p to. refl) (λ p u. stays keywords.Get (λ b. refl) u) (λ p. (part p).told s.texts within)

  pub special_row : (words : List (List ℕ)) (count : ℕ) → Row keywords.Special words count
  special_row words count =
      let part : List ℕ × List ℕ → Parted Stmt = λ p. made (λ (q : target.Target × ℕ). statements.Special q.0 q.1) (attribute p) in
      formed_line s keywords.Special count (λ p. shapes.special p.0 p.1) (λ p. (part p).value) (λ p. made_of (λ q. statements.Special q.0 q.1) (attribute_taken s.texts p)) (shapes.attribute words) (λ p to. refl) (λ p u. stays keywords.Special (λ b. refl) u) (λ p. (part p).told s.texts within)

  pub turn_row : (words : List (List ℕ)) (count : ℕ) → Row keywords.Turn words count
  turn_row words count =
      let part : List ℕ × List ℕ → Parted Stmt = λ p. made (λ (q : target.Target × ℕ). statements.Turn q.0 q.1) (both (owner p.0) (class p.1)) in
      formed_line s keywords.Turn count (λ p. shapes.turn p.0 p.1) (λ p. (part p).value) (stating.turn_says (length s.texts.vars) s.texts) (shapes.identifiers words) (λ p to. refl) (λ p u. stays keywords.Turn (λ b. refl) u) (λ p. (part p).told s.texts within)

  pub share_row : (words : List (List ℕ)) (count : ℕ) → Row keywords.Share words count
  share_row words count =
      let part : List ℕ × List ℕ → Parted Stmt = λ p. made (λ (q : target.Target × target.Target). statements.Share q.0 q.1) (both (owner p.0) (owner p.1)) in
      formed_line s keywords.Share count (λ p. shapes.share p.0 p.1) (λ p. (part p).value) (stating.share_says s.texts) (shapes.identifiers words) (λ p to. refl) (λ p u. stays keywords.Share (λ b. refl) u) (λ p. (part p).told s.texts within)

  pub super_row : (words : List (List ℕ)) (count : ℕ) → Row keywords.Super words count
  super_row words count =
      let part : List ℕ × (List ℕ × List ℕ) → Parted Stmt = λ p. made (λ (q : ℕ × (target.Target × ℕ)). statements.Super q.0 q.1.0 q.1.1) (both (class p.0) (attribute p.1)) in
      formed_line s keywords.Super count (λ p. shapes.super_read p.0 p.1.0 p.1.1) (λ p. (part p).value) (stating.super_says (length s.texts.vars) s.texts) (shapes.identifier_and_attribute words) (λ p to. refl) (λ p u. stays keywords.Super (λ b. refl) u) (λ p. (part p).told s.texts within)

  pub classof_row : (words : List (List ℕ)) (count : ℕ) → Row keywords.ClassOf words count
  classof_row words count =
      let part : List ℕ → Parted Stmt = λ p. made (λ (q : target.Target). statements.ClassOf q) (owner p) in
      formed_line s keywords.ClassOf count (shapes.classof) (λ p. (part p).value) (λ w. made_of statements.ClassOf (owner_taken s.texts w)) (shapes.identifier words) (λ p to. refl) (λ p u. stays keywords.ClassOf (λ b. refl) u) (λ p. (part p).told s.texts within)

  pub mro_row : (words : List (List ℕ)) (count : ℕ) → Row keywords.Mro words count
  mro_row words count =
      let part : List ℕ → Parted Stmt = λ p. made (λ (q : ℕ). statements.Mro q) (class p) in
      formed_line s keywords.Mro count (shapes.mro) (λ p. (part p).value) (λ w. (mapped statements.Mro (class_taken (length s.texts.vars) s.texts w), s.texts)) (shapes.identifier words) (λ p to. refl) (λ p u. stays keywords.Mro (λ b. refl) u) (λ p. (part p).told s.texts within)

  pub call_row : (words : List (List ℕ)) (count : ℕ) → Row keywords.Call words count
  call_row words count =
      let part : (List ℕ × List ℕ) × Option Written → Parted Stmt = λ p. made (λ (q : (target.Target × ℕ) × Option operand.Operand). statements.Call q.0.0 q.0.1 q.1) (both (attribute p.0) (given p.1)) in
      formed_line s keywords.Call count (λ p. shapes.call p.0.0 p.0.1 p.1) (λ p. (part p).value) (stating.call_says (length s.texts.vars) s.texts) (shapes.attribute_and_given words) (λ p to. refl) (λ p u. stays keywords.Call (λ b. refl) u) (λ p. (part p).told s.texts within)

  pub call_super_row : (words : List (List ℕ)) (count : ℕ) → Row keywords.CallSuper words count
  call_super_row words count =
      let part : List ℕ × (List ℕ × List ℕ) × Option Written → Parted Stmt = λ p. made (λ (q : (ℕ × (target.Target × ℕ)) × Option operand.Operand). statements.CallSuper q.0.0 q.0.1.0 q.0.1.1 q.1) (both (both (class p.0) (attribute p.1)) (given p.2)) in
      formed_line s keywords.CallSuper count (λ p. shapes.super_call p.0 p.1.0 p.1.1 p.2) (λ p. (part p).value) (stating.call_super_says (length s.texts.vars) s.texts) (shapes.identifier_attribute_and_given words) (λ p to. refl) (λ p u. stays keywords.CallSuper (λ b. refl) u) (λ p. (part p).told s.texts within)

  pub let_row : (words : List (List ℕ)) (count : ℕ) → Row keywords.Let words count
  let_row words count =
      let part : List ℕ × Written → Parted Stmt = λ p. made (λ (q : ℕ × operand.Operand). statements.Let q.0 q.1) (both (bound p.0) (value p.1)) in
      formed_line s keywords.Let count (λ p. shapes.bind p.0 p.1) (λ p. (part p).value) (stating.let_says (length s.texts.vars) s.texts) (shapes.identifier_and_value words) (λ p to. refl) (λ p u. stays keywords.Let (λ b. refl) u) (λ p. (part p).told s.texts within)

  pub return_row : (words : List (List ℕ)) (count : ℕ) → Row keywords.Return words count
  return_row words count =
      let part : Written → Parted Stmt = λ p. made (λ (q : operand.Operand). statements.Return q) (value p) in
      formed_line s keywords.Return count (shapes.result) (λ p. (part p).value) (λ v. made_of statements.Return (value_taken (length s.texts.vars) s.texts v)) (shapes.value words) (λ p to. refl) (λ p u. stays keywords.Return (λ b. refl) u) (λ p. (part p).told s.texts within)

  pub begin_row : (words : List (List ℕ)) (count : ℕ) → Row keywords.Begin words count
  begin_row words count =
      let part : List ℕ × Option (List ℕ) → Parted Stmt = λ p. made (λ (q : target.Target × Option target.Target). statements.Begin q.0 q.1) (both (owner p.0) (second_owner p.1)) in
      formed_line s keywords.Begin count (λ p. shapes.begin p.0 p.1) (λ p. (part p).value) (stating.begin_says s.texts) (shapes.identifier_or_two words) (λ p to. refl) (λ p u. opens u) (λ p. (part p).told s.texts within)

  pub finish_row : (words : List (List ℕ)) (count : ℕ) → Row keywords.Finish words count
  finish_row [] count =
      statement_line s keywords.Finish count shapes.finish (λ to. statements.Finish) (λ to. refl) (λ u. closes u) (Ok statements.Finish, s.texts) (told_alone s.texts (length s.bodies) [] (λ to. statements.Finish) s.texts (Ok statements.Finish) statements.Finish within refl refl (λ c to on. refl))
  finish_row (word ∷ words) count = refl

  pub checkpoint_row : (words : List (List ℕ)) (count : ℕ) → Row keywords.Checkpoint words count
  checkpoint_row [] count =
      statement_line s keywords.Checkpoint count shapes.checkpoint (λ to. statements.Checkpoint) (λ to. refl) (λ u. stays keywords.Checkpoint (λ b. refl) u) (Ok statements.Checkpoint, s.texts) (told_alone s.texts (length s.bodies) [] (λ to. statements.Checkpoint) s.texts (Ok statements.Checkpoint) statements.Checkpoint within refl refl (λ c to on. refl))
  checkpoint_row (word ∷ words) count = refl
