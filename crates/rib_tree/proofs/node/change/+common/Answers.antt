use Rattle.std.proofs.Common.{◌≡◌, ◌<◌, ◌+◌, ◌-◌, ◌^◌, sym, ◌∙◌, length, rules, arith}
use Rattle.std.proofs.lemmas.Grind.{common_steps}
use Rattle.rib_tree.specs.Blocks.{IsIn}
use Rattle.rib_tree.specs.Pages.{place_at}
use Rattle.rib_tree.specs.Trees.{AllIn}
use Rattle.rib_tree.proofs.BlockLemmas.{IsIn-low, IsIn-high}
use Rattle.rib_tree.proofs.PageLemmas.{all_below, all_from}
use Rattle.rib_tree.proofs.TreesLemmas.{AllIn-below, AllIn-from}
use Rattle.rib_tree.proofs.node.change.+common.Goals as goal

pub common-requires : goal.common-requires
common-requires g t c κs within =
    let b = c.args.block in
    let es = c.args.page.now.items in
    let some : 0 < b.bits = first_of (search rules, grind (arith, common_steps)) in
    let middle : c.middle.result ≡ b.first + 2 ^ (b.bits - 1) = c.middle.ensures in
    let below : place_at (b.first + 2 ^ (b.bits - 1)) es ≡ length es =
    sym (rw (c.deref.ensures.value, middle) at c.how_many_below-below.ensures.place) ∙ cc in
    let half : AllIn c.low.result.first c.low.result.bits es =
    rw (c.low.ensures.first, c.low.ensures.bits) (AllIn-below b.first b.bits es c.requires.within
    (all_below (b.first + 2 ^ (b.bits - 1)) es below)) in
    let key : IsIn c.low.result.first c.low.result.bits c.args.key =
    rw (c.low.ensures.first, c.low.ensures.bits) (IsIn-low b.first b.bits c.args.key c.requires.key
    (omega (arith, c.addr.ensures.value, c.middle-2.ensures))) in
    (omega arith, (within, (c.requires.rising, (half, key))))

pub common-requires-then-below-eq0 : goal.common-requires-then-below-eq0
common-requires-then-below-eq0 g t c κs within =
    let b = c.args.block in
    let es = c.args.page.now.items in
    let some : 0 < b.bits = first_of (search rules, grind (arith, common_steps)) in
    let middle : c.middle.result ≡ b.first + 2 ^ (b.bits - 1) = c.middle.ensures in
    let below : place_at (b.first + 2 ^ (b.bits - 1)) es ≡ 0 =
    sym (rw (c.deref.ensures.value, middle) at c.how_many_below-below.ensures.place) ∙ cc in
    let half : AllIn c.high.result.first c.high.result.bits es =
    rw (c.high.ensures.first, c.high.ensures.bits) (AllIn-from b.first b.bits es some c.requires.within
    (all_from (b.first + 2 ^ (b.bits - 1)) es c.requires.rising below)) in
    let key : IsIn c.high.result.first c.high.result.bits c.args.key =
    rw (c.high.ensures.first, c.high.ensures.bits) (IsIn-high b.first b.bits c.args.key some c.requires.key
    (omega (arith, c.addr.ensures.value, c.middle-2.ensures))) in
    (omega arith, (within, (c.requires.rising, (half, key))))
