use Rattle.std.proofs.Common.{rules, ◌≡◌, refl, sym, ap, subst, ◌∙◌, ◌+◌, ◌-◌, ◌<◌, ◌≤◌, List, ℕ, [], drop, take}
use Rattle.std.proofs.Common.{length, Option, Some, arith}
use Rattle.std.proofs.lemmas.Bool.{eqb-false}
use Rattle.std.proofs.lemmas.List.{nil_from_length, length-take}
use Rattle.xb_values.specs.Buffers.{Buffer}
use Rattle.xb_io.specs.Causes.{Files, told_file}
use Rattle.replay_log.specs.declared.limits.TheConstants.{LOG_LIMIT}
use Rattle.replay_log.specs.Readings.{AreAhead}
use Rattle.replay_log.proofs.ReadingLemmas.{left_at, left_at-start, left_at-end, left_at-last, left_at-limit}
use Rattle.replay_log.proofs.AheadLemmas.{are_ahead-told, are_ahead-skipped, before_end, left_at-too_long}
use Rattle.replay_log.proofs.AheadLemmas.{left_at-last_part, left_at-whole_part, part-fits, part-some}
use Rattle.replay_log.proofs.reader.read_line.Goals as goal

pub parts-init : goal.parts-init
parts-init g c =
    let size : length c.args.line.now.octets ≡ 0 = ap (λ (b : Buffer). length b.octets) c.requires.empty in
    record {
      held = refl;
      faults = refl;
      ahead = c.requires.ahead;
      left = λ log is. ap (λ (b : Buffer). left_at c.args.start b.octets log) c.requires.empty ∙ left_at-start c.args.start log;
      moved = omega (arith, size);
      within = c.requires.start;
      short = omega (arith, size);
      room = ap (λ (b : Buffer). b.capacity) c.requires.empty;
    }

pub returns-then-len-eq0-clause-told : goal.returns-then-len-eq0-clause-told
returns-then-len-eq0-clause-told g c =
    λ log is.
    let told = ap (λ (h : Option Files). told_file h c.args.name.now) c.parts.invariant.held ∙ is in
    let zero : length c.fill.new.self ≡ 0 = search rules in
    let ended : length log ≤ c.parts.at = c.in-Ok.ensures.end log told (nil_from_length c.fill.new.self zero) in
    sym (left_at-end c.parts.at c.len.result c.parts.line.octets log ended c.parts.invariant.within c.len.ensures.value c.if-len-eq0.true)
    ∙ c.parts.invariant.left log is

pub returns-then-is_empty-clause-told : goal.returns-then-is_empty-clause-told
returns-then-is_empty-clause-told g c =
    λ log is.
    let told = ap (λ (h : Option Files). told_file h c.args.name.now) c.parts.invariant.held ∙ is in
    let zero : length c.fill.new.self ≡ 0 = search rules in
    let ended : length log ≤ c.parts.at = c.in-Ok.ensures.end log told (nil_from_length c.fill.new.self zero) in
    sym (left_at-last c.parts.at c.len.result c.parts.line.octets log ended c.parts.invariant.within c.len.ensures.value c.if-len-eq0.false)
    ∙ c.parts.invariant.left log is

pub returns-then-is_empty-clause-forward : goal.returns-then-is_empty-clause-forward
returns-then-is_empty-clause-forward g c = λ line. omega (arith, c.parts.invariant.moved, c.len.ensures.value, c.if-len-eq0.false)

pub returns-then-at-ge-LOG_LIMIT-clause-told : goal.returns-then-at-ge-LOG_LIMIT-clause-told
returns-then-at-ge-LOG_LIMIT-clause-told g c =
    λ log is.
    let told = ap (λ (h : Option Files). told_file h c.args.name.now) (c.in-Ok.ensures.same ∙ c.parts.invariant.held) ∙ is in
    let are = are_ahead-told _ c.args.name.now log c.parts.at c.fill.new.self c.in-Ok.ensures.ahead told in
    let some : 0 < length c.fill.new.self = search rules in
    sym (left_at-limit c.parts.at c.parts.line.octets log (before_end log c.parts.at c.fill.new.self are some) c.if-at-ge-LOG_LIMIT.true)
    ∙ c.parts.invariant.left log is

pub returns-in-TooLongPart-clause-told : goal.returns-in-TooLongPart-clause-told
returns-in-TooLongPart-clause-told g c =
    λ log is.
    let told = ap (λ (h : Option Files). told_file h c.args.name.now) (c.in-Ok.ensures.same ∙ c.parts.invariant.held) ∙ is in
    let are = are_ahead-told _ c.args.name.now log c.parts.at c.fill.new.self c.in-Ok.ensures.ahead told in
    let part = c.within_limit-octets.ensures ∙ ap (take (LOG_LIMIT - c.parts.at)) c.as_slice-in-parts.ensures in
    sym (left_at-too_long log c.parts.at c.fill.new.self are c.parts.invariant.within c.within_limit-octets.result.now c.parts.line.octets c.take_part.new.line.octets part c.in-TooLongPart.ensures.takes)
    ∙ c.parts.invariant.left log is

pub returns-in-LastPart-clause-told : goal.returns-in-LastPart-clause-told
returns-in-LastPart-clause-told g c =
    λ log is.
    let told = ap (λ (h : Option Files). told_file h c.args.name.now) (c.in-Ok.ensures.same ∙ c.parts.invariant.held) ∙ is in
    let are = are_ahead-told _ c.args.name.now log c.parts.at c.fill.new.self c.in-Ok.ensures.ahead told in
    let part = c.within_limit-octets.ensures ∙ ap (take (LOG_LIMIT - c.parts.at)) c.as_slice-in-parts.ensures in
    sym (left_at-last_part log c.parts.at c.fill.new.self are c.parts.invariant.within c.within_limit-octets.result.now c.parts.line.octets c.take_part.new.line.octets part c.in-LastPart.count c.in-LastPart.ensures.takes)
    ∙ c.parts.invariant.left log is

pub returns-in-LastPart-clause-ahead : goal.returns-in-LastPart-clause-ahead
returns-in-LastPart-clause-ahead g c =
    λ line.
    let part = c.within_limit-octets.ensures ∙ ap (take (LOG_LIMIT - c.parts.at)) c.as_slice-in-parts.ensures in
    let fits : c.in-LastPart.count ≤ length c.fill.new.self = part-fits c.parts.at c.fill.new.self c.within_limit-octets.result.now part c.in-LastPart.count c.in-LastPart.ensures.takes.1 in
    subst (λ (o : List ℕ). AreAhead (g.S.Shelf.held c.fill.new.shelf) c.args.name.now (c.parts.at + c.in-LastPart.count) o) (sym c.skip.ensures)
    (are_ahead-skipped _ c.args.name.now c.parts.at c.fill.new.self c.in-LastPart.count fits c.in-Ok.ensures.ahead)

pub parts-preserved : goal.parts-preserved
parts-preserved g c =
    let part = c.within_limit-octets.ensures ∙ ap (take (LOG_LIMIT - c.parts.at)) c.as_slice-in-parts.ensures in
    let takes = c.in-WholePart.ensures.takes in
    let fits : c.in-WholePart.count ≤ length c.fill.new.self = part-fits c.parts.at c.fill.new.self c.within_limit-octets.result.now part c.in-WholePart.count (omega (arith, takes.0)) in
    record {
      held = c.in-Ok.ensures.same ∙ c.parts.invariant.held;
      faults = c.in-Ok.ensures.quiet ∙ c.parts.invariant.faults;
      ahead = subst (λ (o : List ℕ). AreAhead (g.S.Shelf.held c.fill.new.shelf) c.args.name.now (c.parts.at + c.in-WholePart.count) o) (sym c.skip-in-WholePart.ensures)
          (are_ahead-skipped _ c.args.name.now c.parts.at c.fill.new.self c.in-WholePart.count fits c.in-Ok.ensures.ahead);
      left = λ log is.
          let told = ap (λ (h : Option Files). told_file h c.args.name.now) (c.in-Ok.ensures.same ∙ c.parts.invariant.held) ∙ is in
          let are = are_ahead-told _ c.args.name.now log c.parts.at c.fill.new.self c.in-Ok.ensures.ahead told in
          sym (left_at-whole_part log c.parts.at c.fill.new.self are c.parts.invariant.within c.within_limit-octets.result.now c.parts.line.octets c.take_part.new.line.octets part c.in-WholePart.count takes)
          ∙ c.parts.invariant.left log is;
      moved = omega (arith, takes.1, c.parts.invariant.moved);
      within = omega (arith, takes.0, ap length c.within_limit-octets.ensures, length-take (LOG_LIMIT - c.parts.at) c.as_slice-in-parts.result.now, c.if-at-ge-LOG_LIMIT.false);
      short = c.in-WholePart.ensures.short;
      room = c.in-WholePart.ensures.room;
    }

pub parts-smaller : goal.parts-smaller
parts-smaller g c =
    let part = c.within_limit-octets.ensures ∙ ap (take (LOG_LIMIT - c.parts.at)) c.as_slice-in-parts.ensures in
    let takes = c.in-WholePart.ensures.takes in
    let differs = eqb-false (length c.as_slice.result.now) 0 (sym c.is_empty.ensures ∙ c.if-is_empty.false) in
    let some : 0 < length c.fill.new.self = omega (arith, differs, ap length c.as_slice.ensures) in
    let more = part-some c.parts.at c.fill.new.self c.within_limit-octets.result.now part some (omega (arith, c.if-at-ge-LOG_LIMIT.false)) in
    omega (arith, takes.0, takes.1, more, c.in-WholePart.ensures.short)
