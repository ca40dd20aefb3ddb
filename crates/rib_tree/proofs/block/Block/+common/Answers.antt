use Rattle.std.proofs.Common.{◌<◌, arith}
use Rattle.rib_tree.specs.Blocks.{IsIn, IsPart}
use Rattle.rib_tree.proofs.BlockLemmas.{part_some, IsPart-in_low, IsPart-in_high, IsIn-low, IsIn-high}
use Rattle.rib_tree.proofs.block.Block.+common.Goals as goal

pub middle-middle-requires : goal.middle-middle-requires
middle-middle-requires t c =
    let b = c.args.self in
    let i = c.args.inner in
    let k = c.args.key in
    let p = c.requires in
    part_some b.first b.bits i.first i.bits k p.part p.key p.apart

pub low-requires : goal.low-requires
low-requires t c =
    let b = c.args.self in
    let i = c.args.inner in
    let k = c.args.key in
    let p = c.requires in
    part_some b.first b.bits i.first i.bits k p.part p.key p.apart

pub returns-else-inner-middle-clause-some : goal.returns-else-inner-middle-clause-some
returns-else-inner-middle-clause-some t c =
    let b = c.args.self in
    let i = c.args.inner in
    let k = c.args.key in
    let p = c.requires in
    part_some b.first b.bits i.first i.bits k p.part p.key p.apart

pub common-requires : goal.common-requires
common-requires t c =
    let b = c.args.self in
    let i = c.args.inner in
    let k = c.args.key in
    let p = c.requires in
    let some : 0 < b.bits = part_some b.first b.bits i.first i.bits k p.part p.key p.apart in
    let part : IsPart c.low.result.first c.low.result.bits i.first i.bits =
    rw (c.low.ensures.first, c.low.ensures.bits)
    (IsPart-in_low b.first b.bits i.first i.bits k p.part p.key p.apart (omega arith)) in
    let key : IsIn c.low.result.first c.low.result.bits c.args.key =
    rw (c.low.ensures.first, c.low.ensures.bits)
    (IsIn-low b.first b.bits k c.requires.key (omega (arith, c.addr.ensures.value))) in
    (omega arith, (part, (key, c.requires.apart)))

pub common-requires-else-inner-middle-2 : goal.common-requires-else-inner-middle-2
common-requires-else-inner-middle-2 t c =
    let b = c.args.self in
    let i = c.args.inner in
    let k = c.args.key in
    let p = c.requires in
    let some : 0 < b.bits = part_some b.first b.bits i.first i.bits k p.part p.key p.apart in
    let part : IsPart c.high.result.first c.high.result.bits i.first i.bits =
    rw (c.high.ensures.first, c.high.ensures.bits)
    (IsPart-in_high b.first b.bits i.first i.bits k p.part p.key p.apart (omega arith)) in
    let key : IsIn c.high.result.first c.high.result.bits c.args.key =
    rw (c.high.ensures.first, c.high.ensures.bits)
    (IsIn-high b.first b.bits k some c.requires.key (omega (arith, c.addr.ensures.value))) in
    (omega arith, (part, (key, c.requires.apart)))

pub returns-else-inner-middle-clause-high : goal.returns-else-inner-middle-clause-high
returns-else-inner-middle-clause-high t c = λ side.
    let b = c.args.self in
    let i = c.args.inner in
    let k = c.args.key in
    let p = c.requires in
    IsPart-in_high b.first b.bits i.first i.bits k p.part p.key p.apart (omega arith)

pub returns-then-inner-middle-2-clause-low : goal.returns-then-inner-middle-2-clause-low
returns-then-inner-middle-2-clause-low t c = λ side.
    let b = c.args.self in
    let i = c.args.inner in
    let k = c.args.key in
    let p = c.requires in
    IsPart-in_low b.first b.bits i.first i.bits k p.part p.key p.apart (omega arith)
