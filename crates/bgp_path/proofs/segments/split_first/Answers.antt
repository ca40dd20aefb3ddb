use Rattle.std.proofs.Common.{refl, sym, ◌∙◌, ◌+◌, ◌*◌, length, get_or, arith}
use Rattle.std.proofs.lemmas.Bool.{eqb-true}
use Rattle.bgp_attr.specs.Paths.{width_of}
use Rattle.bgp_path.proofs.SplitsLemmas.{BeginsWith-front, front_le_length, positive_from_test, HasNoSegment-empty}
use Rattle.bgp_path.proofs.segments.split_first.Goals as goal

pub bounds-path-1 : goal.bounds-path-1
bounds-path-1 c =
    let some = positive_from_test (length c.args.path.now) (sym c.is_empty.ensures ∙ c.if-is_empty.false) in
    omega (arith, front_le_length (width_of c.args.wide) c.args.path.now c.requires some)

pub split_at-requires : goal.split_at-requires
split_at-requires c =
    let some = positive_from_test (length c.args.path.now) (sym c.is_empty.ensures ∙ c.if-is_empty.false) in
    rw (c.width.ensures, c.from.ensures) (front_le_length (width_of c.args.wide) c.args.path.now c.requires some)

pub returns-clause-splits : goal.returns-clause-splits
returns-clause-splits c =
    let some = positive_from_test (length c.args.path.now) (sym c.is_empty.ensures ∙ c.if-is_empty.false) in
    rw (c.split_at-2.ensures.back, c.split_at.ensures.front, c.split_at.ensures.back, c.width.ensures, c.from.ensures)
    (BeginsWith-front (width_of c.args.wide) c.args.path.now (2 + width_of c.args.wide * get_or c.args.path.now 1 0) c.requires some refl)

pub returns-then-is_empty-clause-splits : goal.returns-then-is_empty-clause-splits
returns-then-is_empty-clause-splits c =
    HasNoSegment-empty (width_of c.args.wide) c.args.path.now (eqb-true (length c.args.path.now) 0 (sym c.is_empty.ensures ∙ c.if-is_empty.true))
