use Rattle.std.proofs.Common.{◌+◌, ◌<◌, suc, refl, sym, ap, ◌∙◌, arith}
use Rattle.at_value.specs.Widths.{classes, names}
use Rattle.at_view.specs.declared.view.View.{View}
use Rattle.at_core.specs.HeadSteps.{key_appended}
use Rattle.at_core.specs.Passes.{view}
use Rattle.at_core.proofs.PassSteps.{same_pass, same_then}
use Rattle.at_keys.proofs.ScanLemmas.{HasLoaded, loaded_next, used_none, copy_is, used_more, may_append}
use Rattle.at_keys.proofs.appending.append.Goals as goal

pub loop-i-init : goal.loop-i-init
loop-i-init c = (same_pass c.args.pass.now, c.requires.of, (λ k. refl), used_none c.args.c (view c.args.pass.now))

pub append_key-requires-clause-may : goal.append_key-requires-clause-may
append_key-requires-clause-may c =
    let t = c.in-None.ensures.none in
    let class : c.args.c < classes = omega arith in
    let name : c.args.n < names = omega arith in
    may_append c.args.c (view c.args.pass.now) (view c.loop-i.pass) c.loop-i.i c.loop-i.invariant.3 c.requires.held t.0 0 (view c.key_at.new.pass) t.1 t.2 c.args.n refl class c.loop-i-test.true name c.requires.absent

pub returns-in-None-clause-first : goal.returns-in-None-clause-first
returns-in-None-clause-first c =
    let t = c.in-None.ensures.none in (
      c.loop-i-test.true,
      sym (copy_is c.args.c (view c.args.pass.now) (view c.loop-i.pass) c.loop-i.i c.loop-i.invariant.3 c.requires.held t.0 0 (view c.key_at.new.pass) t.1 t.2),
      c.loop-i.invariant.3.used,
    )

pub returns-in-None-clause-appended : goal.returns-in-None-clause-appended
returns-in-None-clause-appended c =
    let t = c.in-None.ensures.none in
    let l : HasLoaded c.args.c (view c.args.pass.now) (view c.key_at.new.pass) (c.loop-i.i + 1) = loaded_next c.args.c (view c.args.pass.now) (view c.loop-i.pass) c.loop-i.i c.loop-i.invariant.3.so t.0 0 (view c.key_at.new.pass) t.1 t.2 in (
      l.loads,
      (let long = l.long in omega (arith, long)),
      l.seen,
      c.append_key.ensures.appended ∙ ap (λ (w : View). key_appended w c.args.c c.loop-i.i c.args.n) l.after,
    )

pub loop-i-preserved : goal.loop-i-preserved
loop-i-preserved c =
    let t = c.in-Some.ensures.some in
    let same = c.key_at.ensures.same in (
      same_then c.args.pass.now c.loop-i.pass c.key_at.new.pass c.loop-i.invariant.0 same.0,
      same.1,
      (λ k. same.2 k ∙ c.loop-i.invariant.2 k),
      used_more c.args.c (view c.args.pass.now) (view c.loop-i.pass) c.loop-i.i c.loop-i.invariant.3 c.requires.held t.0 (suc c.in-Some.field-0) (view c.key_at.new.pass) t.1 t.2 (λ e. omega (arith, e)),
    )

pub returns-clause-full : goal.returns-clause-full
returns-clause-full c =
    let u = c.loop-i.invariant.3 in (
      (λ j less. u.used j (let past = c.loop-i-test.false in omega (arith, past, less))),
      u.so.loads,
      u.so.after,
    )
