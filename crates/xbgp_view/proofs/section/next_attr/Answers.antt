use Rattle.std.proofs.Common.{ap}
use Rattle.xbgp_view.specs.Indexes.{entries_of}
use Rattle.xbgp_view.proofs.section.next_attr.Goals as goal

pub returns-in-Some-Err-clause-end : goal.returns-in-Some-Err-clause-end
returns-in-Some-Err-clause-end c = ap entries_of (rw c.in-Some-Err.field-0-is at c.in-Some-Err.ensures.item)

pub returns-in-None-clause-end : goal.returns-in-None-clause-end
returns-in-None-clause-end c = ap entries_of c.in-None.ensures.end.0
