use Rattle.xb_words.proofs.CutLemmas.{concat-cut, IsItem-cut, size-cut-rest, cut-concat}
use Rattle.xb_wire.specs.Messages.{message_size}
use Rattle.xb_wire.proofs.MessageLemmas.{message_size_is_size, message_size_is_local, message_size_is_stable}
use Rattle.xb_wire.proofs.laws.one_split.Goals as goal

pub returns-clause-joins : goal.returns-clause-joins
returns-clause-joins c = concat-cut message_size

pub returns-clause-whole : goal.returns-clause-whole
returns-clause-whole c = IsItem-cut message_size message_size_is_size message_size_is_local

pub returns-clause-ends : goal.returns-clause-ends
returns-clause-ends c = size-cut-rest message_size message_size_is_size

pub returns-clause-only : goal.returns-clause-only
returns-clause-only c = cut-concat message_size message_size_is_size message_size_is_stable
