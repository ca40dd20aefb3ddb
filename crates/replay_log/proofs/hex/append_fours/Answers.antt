use Rattle.std.proofs.Common.{◌∙◌}
use Rattle.replay_log.proofs.HexLemmas.{octet-some, append_some-four_appended}
use Rattle.replay_log.proofs.hex.append_fours.Goals as goal

pub fours-preserved : goal.fours-preserved
fours-preserved c =
    let kept = c.fours.invariant in
    let first = octet-some _ c.octet_of-first.result c.octet_of-first.ensures c.if-first-ge-NO_DIGIT.false in
    let second = octet-some _ c.octet_of-second.result c.octet_of-second.ensures c.if-second-ge-NO_DIGIT.false in
    let third = octet-some _ c.octet_of-third.result c.octet_of-third.ensures c.if-third-ge-NO_DIGIT.false in
    let fourth = octet-some _ c.octet_of-fourth.result c.octet_of-fourth.ensures c.if-fourth-ge-NO_DIGIT.false in
    let more = append_some-four_appended c.fours.octets c.append.new.self c.fours.digits.now _ _ _ _ c.in-len8-up.len_at_least first second third fourth c.append.ensures in
    record { left = more.0 ∙ kept.left; size = more.1 ∙ kept.size; capacity = more.2 ∙ kept.capacity }
