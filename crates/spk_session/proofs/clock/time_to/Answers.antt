use Rattle.std.proofs.Common.{◌≡◌, ◌-◌, ◌+◌, ◌*◌, ◌∙◌, sym, ap, suc, arith, ℕ, length, Some, None}
use Rattle.spk_model.specs.Turning.{Due}
use Rattle.spk_session.specs.Meaning.{core_of}
use Rattle.spk_session.proofs.ClockLemmas.{fired, turns_over, none_set, none_due, next_found, clock_done}
use Rattle.spk_session.proofs.clock.time_to.Goals.{else-turns-test, then-turns-test+in_default-2}
use Rattle.spk_session.proofs.clock.time_to.Goals.{then-turns-test+in_default}
use Rattle.spk_session.proofs.clock.time_to.Goals as goal

pub turns-preserved : goal.turns-preserved
turns-preserved g c =
    let a = core_of (g.R.Routes.built_from c.args.routes.now) (g.R.Routes.routing c.args.routes.now) c.args.links.now in
    let b = core_of (g.R.Routes.built_from c.turns.routes) (g.R.Routes.routing c.turns.routes) c.turns.links in
    let d = core_of (g.R.Routes.built_from c.fire.new.routes) (g.R.Routes.routing c.fire.new.routes) c.fire.new.links in
    let all = c.most_turns-turns.result in
    let i = c.turns.i in
    let left : all - i ≡ suc (all - (i + 1)) = omega (arith, c.turns-test.true) in
    let due : Due =
    record { at = c.in-Some.due.at; peer = c.in-Some.due.peer; timer = c.in-Some.due.timer } in
    let found : c.first_due.result ≡ Some due = sym (rw c.in-Some.is at c.first_due-in-turns.view_is) in
    record {
      ready = (c.in_ok-fire-in-Some.ensures).ready;
      leads = fired c.args.now all (all - i) (all - (i + 1)) a b d due left
          (next_found b c.deref.result.now c.first_due.result c.deref.ensures.value c.first_due.ensures.first
          ∙ found)
          (omega (arith, c.if-first_due-from.true, c.from.ensures)) c.in_ok-fire-in-Some.ensures
          c.turns.invariant.leads;
    }

pub returns : goal.returns
returns g c =
    let a = core_of (g.R.Routes.built_from c.args.routes.now) (g.R.Routes.routing c.args.routes.now) c.args.links.now in
    let b = core_of (g.R.Routes.built_from c.turns.routes) (g.R.Routes.routing c.turns.routes) c.turns.links in
    let now = c.args.now in
    let all = c.most_turns-turns.result in
    let i = c.turns.i in
    let count : c.len.result ≡ length c.args.links.now.sessions.items = omega (arith, c.len.ensures) in
    clock_done now all a
    (core_of (g.R.Routes.built_from c.turns.routes) (g.R.Routes.routing c.turns.routes)
    (record c.turns.links { clock = now }))
    (c.most_turns-turns.ensures ∙ ap (λ (n : ℕ). 2 * n * (now + 1 - c.args.links.now.clock)) count)
    (elim c.turns-test.branch [
      | else-turns-test w ↦
          turns_over now all (all - i) a b (omega (arith, w.turns-test.false)) c.turns.invariant.ready
          c.turns.invariant.leads
      | then-turns-test+in_default-2 w ↦
          let due : Due =
          record { at = w.in-Some.due.at; peer = w.in-Some.due.peer; timer = w.in-Some.due.timer } in
          let found : w.first_due.result ≡ Some due = sym (rw w.in-Some.is at w.first_due-in-turns.view_is) in
          none_due now all (all - i) (all - (i + 1)) a b due (omega (arith, w.turns-test.true))
          c.turns.invariant.ready
          (next_found b w.deref.result.now w.first_due.result w.deref.ensures.value w.first_due.ensures.first
          ∙ found)
          (omega (arith, w.if-first_due-from.false, w.from.ensures)) c.turns.invariant.leads
      | then-turns-test+in_default w ↦
          let found : w.first_due.result ≡ None = sym (rw w.in_default.is at w.first_due-in-turns.view_is) in
          none_set now all (all - i) (all - (i + 1)) a b (omega (arith, w.turns-test.true))
          c.turns.invariant.ready
          (next_found b w.deref.result.now w.first_due.result w.deref.ensures.value w.first_due.ensures.first
          ∙ found) c.turns.invariant.leads
    ])
