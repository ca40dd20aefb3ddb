use Rattle.std.proofs.Common.{◌≡◌, ◌<◌, ◌≤◌, length, sym, ◌∙◌, arith}
use Rattle.std.proofs.lemmas.Grind.{common_steps}
use Rattle.std.proofs.lemmas.Cmp.{ranked}
use Rattle.xbgp_maps.proofs.KeysLemmas.{lead, lead-less, lead-same, lead-greater, lead-head_of}
use Rattle.xbgp_maps.proofs.key.order.Goals as goal

pub returns-in-Less : goal.returns-in-Less
returns-in-Less c =
    let p = c.head_of.ensures.range in
    let q = c.head_of-2.ensures.range in
    let long : 8 ≤ length c.args.a.now = grind (arith, common_steps) in
    let wide : 8 ≤ length c.args.b.now = grind (arith, common_steps) in
    let less : c.head_of.result < c.head_of-2.result = ranked _ _ _ c.in-Less.ensures in
    let same_a : c.head_of.result ≡ lead 8 c.args.a.now = c.head_of.ensures.value ∙ sym (lead-head_of c.args.a.now long) in
    let same_b : c.head_of-2.result ≡ lead 8 c.args.b.now = c.head_of-2.ensures.value ∙ sym (lead-head_of c.args.b.now wide) in
    sym (lead-less 8 c.args.a.now c.args.b.now p q (omega (arith, less, same_a, same_b)))

pub returns-in-Equal : goal.returns-in-Equal
returns-in-Equal c =
    let p = c.head_of.ensures.range in
    let q = c.head_of-2.ensures.range in
    let long : 8 ≤ length c.args.a.now = grind (arith, common_steps) in
    let wide : 8 ≤ length c.args.b.now = grind (arith, common_steps) in
    let same : c.head_of.result ≡ c.head_of-2.result = ranked _ _ _ c.in-Equal.ensures in
    let same_a : c.head_of.result ≡ lead 8 c.args.a.now = c.head_of.ensures.value ∙ sym (lead-head_of c.args.a.now long) in
    let same_b : c.head_of-2.result ≡ lead 8 c.args.b.now = c.head_of-2.ensures.value ∙ sym (lead-head_of c.args.b.now wide) in
    c.cmp-in-Equal.ensures ∙ rw (c.split_at.ensures.back, c.split_at-in-Equal.ensures.back) (sym (lead-same 8 c.args.a.now c.args.b.now p q long wide (sym same_a ∙ same ∙ same_b)))

pub returns-in-Greater : goal.returns-in-Greater
returns-in-Greater c =
    let p = c.head_of.ensures.range in
    let q = c.head_of-2.ensures.range in
    let long : 8 ≤ length c.args.a.now = grind (arith, common_steps) in
    let wide : 8 ≤ length c.args.b.now = grind (arith, common_steps) in
    let less : c.head_of-2.result < c.head_of.result = ranked _ _ _ c.in-Greater.ensures in
    let same_a : c.head_of.result ≡ lead 8 c.args.a.now = c.head_of.ensures.value ∙ sym (lead-head_of c.args.a.now long) in
    let same_b : c.head_of-2.result ≡ lead 8 c.args.b.now = c.head_of-2.ensures.value ∙ sym (lead-head_of c.args.b.now wide) in
    sym (lead-greater 8 c.args.a.now c.args.b.now p q (omega (arith, less, same_a, same_b)))
