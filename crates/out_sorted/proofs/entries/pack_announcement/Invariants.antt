use Rattle.std.proofs.Common.{◌≡◌, length}
use Rattle.bgp_write.specs.Packers.{packed_so_far, buffer_of, reference_of}
use Rattle.bgp_write.specs.Packings.{announcing}
use Rattle.bgp_write.specs.Pending.{section_of}
use Rattle.out_sorted.specs.Slots.{adv_in, is_fresh, is_gone, keys_where, Keeps}
use Rattle.out_sorted.specs.Sending.{announcement_from}
use Rattle.out_sorted.specs.Waits.{Has}
use Rattle.out_sorted.proofs.entries.pack_announcement.Given as goal

-- the message of what is packed and what is left is the one of all
abbrev pub invariant-prefixes : goal.invariant-prefixes
invariant-prefixes l = record {
  keeps : Keeps is_gone l.initial.entries.entries l.entries.entries;
  waits : Has l.fresh (keys_where is_fresh l.entries.entries);
  shape : packed_so_far l.packer
      ≡ record (announcing (section_of (adv_in l.initial.entries.entries) l.first)) {
        prefixes = (packed_so_far l.packer).prefixes;
      };
  whole : announcement_from (section_of (adv_in l.initial.entries.entries) l.first)
      (packed_so_far l.packer).prefixes l.entries.entries
      ≡ announcement_from (section_of (adv_in l.initial.entries.entries) l.first)
      (packed_so_far l.initial.packer).prefixes l.initial.entries.entries;
  same_reference : reference_of l.packer ≡ reference_of l.initial.packer;
  capacity : (buffer_of l.packer).capacity ≡ (buffer_of l.initial.packer).capacity;
}

abbrev pub decreases-prefixes : goal.decreases-prefixes
decreases-prefixes l = length (keys_where is_fresh l.entries.entries)
