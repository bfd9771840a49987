use Rattle.std.proofs.Common.{◌≡◌, ◌+◌, suc, slice_index, ap, ◌∙◌, arith}
use Rattle.at_value.specs.Words.{HasWord}
use Rattle.at_dict.specs.Dictionary.{Dictionary}
use Rattle.at_dict.proofs.Inlines.{next_name, filled_same, filled_more}
use Rattle.at_dict.proofs.body.Body.from_inline.Goals as goal
use Rattle.at_dict.proofs.body.Body.from_inline.Goals.{in-Some, in_default}

pub loop-i-preserved : goal.loop-i-preserved
loop-i-preserved c =
    let keys = c.args.keys.now in
    let words = c.args.words.now in
    let i = c.loop-i.i in
    let spare = c.args.self.now.spare in
    let before = c.loop-i.invariant in
    let inline = c.requires.inline in
    let next : c.loop-i.i + 1 ≡ suc c.loop-i.i = omega arith in
    elim c.match-from_word.branch [
      | in-Some w ↦
          let has : HasWord w.in-Some.v (slice_index words i) = w.in-Some.ensures.some in
          let name = next_name (slice_index keys) (slice_index words) inline i w.in-Some.v has in
          let named = rw w.unwrap.ensures at w.new.ensures.some in
          let key : slice_index keys i ≡ suc w.unwrap.result = (let a = named.0 in let b = name.1 in omega (arith, a, b)) in
          let test = c.loop-i-test.true in
          let room = c.requires.room in
          filled_more keys words inline i (c.loop-i.i + 1) spare w.unwrap.result w.in-Some.v c.loop-i.self c.match-from_word.self next before (omega (arith, test, room)) has key
          (ap (λ (b : Dictionary). b.map) w.self-is ∙ w.put.ensures.map) (ap (λ (b : Dictionary). b.spare) w.self-is ∙ w.put.ensures.spare)
      | in_default w ↦ filled_same keys words inline i (c.loop-i.i + 1) spare c.loop-i.self c.match-from_word.self next w.self-is before w.in_default.ensures.none
    ]
