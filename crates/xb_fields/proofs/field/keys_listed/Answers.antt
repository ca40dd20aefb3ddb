use Rattle.std.proofs.Common.{◌∙◌}
use Rattle.xb_fields.proofs.ValueLemmas.{list_all-keys_listed}
use Rattle.xb_fields.proofs.field.keys_listed.Goals as goal

pub returns : goal.returns
returns c = c.all_listed.ensures ∙ list_all-keys_listed c.args.listed.now c.args.table.now
