use Rattle.std.proofs.Common.{◌≡◌, ◌≢◌, ℕ, suc, true≢false, eq-eqb, refl, sym, ap, ◌∙◌, subst, arith}
use Rattle.std.proofs.lemmas.Bool.{eqb-true}
use Rattle.at_view.specs.Counts as counts
use Rattle.at_core.specs.HeadSteps.{known_keys}
use Rattle.at_core.specs.Passes.{view}
use Rattle.at_core.proofs.PassSteps.{same_pass, same_then}
use Rattle.at_keys.proofs.ScanLemmas.{Passed, passed_none, passed_more, scan_found, found_known, scan_unused, unused_known, scan_full, full_known}
use Rattle.at_keys.proofs.scanning.scan.Goals as goal

pub loop-i-init : goal.loop-i-init
loop-i-init c = (same_pass c.args.pass.now, c.requires.of, (λ k. refl), passed_none c.args.c c.args.n (view c.args.pass.now))

pub returns-in-Some-clause-scanned : goal.returns-in-Some-clause-scanned
returns-in-Some-clause-scanned c =
    let t = c.in-Some.ensures.some in
    let same = eqb-true c.in-Some.name c.args.n (sym c.eq.ensures ∙ c.if-eq.true) in
    scan_found c.args.c c.args.n (view c.args.pass.now) (view c.loop-i.pass) c.loop-i.i c.loop-i.invariant.3 t.0 (suc c.in-Some.name) (view c.key_at.new.pass) t.1 t.2 (ap suc same)

pub returns-in-Some-clause-at : goal.returns-in-Some-clause-at
returns-in-Some-clause-at c i is =
    let t = c.in-Some.ensures.some in
    let same = eqb-true c.in-Some.name c.args.n (sym c.eq.ensures ∙ c.if-eq.true) in
    let here = found_known c.args.c c.args.n (view c.args.pass.now) (view c.loop-i.pass) c.loop-i.i c.loop-i.invariant.3 t.0 (suc c.in-Some.name) (view c.key_at.new.pass) t.1 t.2 (ap suc same) in
    let one : c.loop-i.i ≡ i = cc (is) in
    let less = c.loop-i-test.true in (
      omega (arith, one, less),
      subst (λ (k : ℕ). known_keys (view c.key_at.new.pass) c.args.c k ≡ suc c.args.n) one here,
    )

pub returns-in-None-clause-scanned : goal.returns-in-None-clause-scanned
returns-in-None-clause-scanned c =
    let t = c.in-None.ensures.none in
    scan_unused c.args.c c.args.n (view c.args.pass.now) (view c.loop-i.pass) c.loop-i.i c.loop-i.invariant.3 t.0 0 (view c.key_at.new.pass) t.1 t.2 refl

pub returns-in-None-clause-none : goal.returns-in-None-clause-none
returns-in-None-clause-none c is =
    let t = c.in-None.ensures.none in
    unused_known c.args.c c.args.n (view c.args.pass.now) (view c.loop-i.pass) c.loop-i.i c.loop-i.invariant.3 t.0 0 (view c.key_at.new.pass) t.1 t.2 refl

pub loop-i-preserved : goal.loop-i-preserved
loop-i-preserved c =
    let t = c.in-Some.ensures.some in
    let same = c.key_at.ensures.same in
    let other : suc c.in-Some.name ≢ suc c.args.n = λ e. true≢false (sym (eq-eqb c.in-Some.name c.args.n (omega (arith, e))) ∙ (sym c.eq.ensures ∙ c.if-eq.false)) in (
      same_then c.args.pass.now c.loop-i.pass c.key_at.new.pass c.loop-i.invariant.0 same.0,
      same.1,
      (λ k. same.2 k ∙ c.loop-i.invariant.2 k),
      passed_more c.args.c c.args.n (view c.args.pass.now) (view c.loop-i.pass) c.loop-i.i c.loop-i.invariant.3 t.0 (suc c.in-Some.name) (view c.key_at.new.pass) t.1 t.2 ((λ e. omega (arith, e)), other),
    )

pub returns-clause-scanned : goal.returns-clause-scanned
returns-clause-scanned c =
    let all : c.loop-i.i ≡ counts.keys = (let past = c.loop-i-test.false in let end = c.loop-i.auto.i-end in omega (arith, past, end)) in
    scan_full c.args.c c.args.n (view c.args.pass.now) (view c.loop-i.pass) (subst (Passed c.args.c c.args.n (view c.args.pass.now) (view c.loop-i.pass)) all c.loop-i.invariant.3)

pub returns-clause-none : goal.returns-clause-none
returns-clause-none c is =
    let all : c.loop-i.i ≡ counts.keys = (let past = c.loop-i-test.false in let end = c.loop-i.auto.i-end in omega (arith, past, end)) in
    full_known c.args.c c.args.n (view c.args.pass.now) (view c.loop-i.pass) (subst (Passed c.args.c c.args.n (view c.args.pass.now) (view c.loop-i.pass)) all c.loop-i.invariant.3)
