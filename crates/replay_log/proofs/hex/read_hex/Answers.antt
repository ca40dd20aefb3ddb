use Rattle.std.proofs.Common.{◌≡◌, ◌∙◌, ap, ℕ, List, [], length, arith}
use Rattle.xb_values.specs.Buffers.{Buffer}
use Rattle.xb_values.specs.Readers.{read_hex}
use Rattle.replay_log.proofs.HexLemmas.{append_some, append_some-nothing, octet-some, append_some-appended}
use Rattle.replay_log.proofs.hex.read_hex.Goals as goal

pub pairs-init : goal.pairs-init
pairs-init c =
    let fours = c.append_fours-digits.ensures in
    let nothing : (c.clear.new.self).octets ≡ [] = ap (λ (b : Buffer). b.octets) c.clear.ensures in
    record {
      left = fours.read ∙ ap (λ (o : List ℕ). append_some o (read_hex c.args.text.now)) nothing ∙ append_some-nothing (read_hex c.args.text.now);
      size = omega (arith, fours.size, ap length nothing);
      capacity = fours.capacity ∙ ap (λ (b : Buffer). b.capacity) c.clear.ensures;
    }

pub pairs-preserved : goal.pairs-preserved
pairs-preserved c =
    let kept = c.pairs.invariant in
    let octet = octet-some _ c.octet_of-octet.result c.octet_of-octet.ensures c.if-octet-ge-NO_DIGIT.false in
    let more = append_some-appended c.pairs.octets c.append.new.self c.pairs.digits.now _ c.in-len2-up.len_at_least octet c.append.ensures in
    record { left = more.0 ∙ kept.left; size = more.1 ∙ kept.size; capacity = more.2 ∙ kept.capacity }
