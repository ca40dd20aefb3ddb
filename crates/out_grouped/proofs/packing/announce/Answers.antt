use Rattle.std.proofs.Common.{ℕ, List, ◌≤◌, length, sym, subst}
use Rattle.xb_wire.specs.declared.numbers.TheConstants.{MAX_SECTION}
use Rattle.out_grouped.proofs.SendingLemmas.{section-short}
use Rattle.out_grouped.proofs.packing.announce.Goals as goal

pub announce-packer-requires-clause-section : goal.announce-packer-requires-clause-section
announce-packer-requires-clause-section c =
    subst (λ (s : List ℕ). length s ≤ MAX_SECTION) (sym c.section_at.ensures)
    (section-short c.args.entries.now.entries c.args.first c.requires.sound (sym c.requires.first))
