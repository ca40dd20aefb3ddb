use Rattle.std.proofs.Common.{◌≡◌, [], length}
use Rattle.bgp_write.specs.Packers.{packed_so_far, buffer_of, reference_of}
use Rattle.bgp_write.specs.Packings.{announcing}
use Rattle.out_grouped.specs.Slots.{is_fresh, keys_where, waits_with, Keeps}
use Rattle.out_grouped.specs.Waits.{Has}
use Rattle.out_grouped.specs.Sending.{announcement_from}
use Rattle.out_grouped.proofs.packing.pack_group.Given as goal

-- the message of what is packed and what is left is the one of all
abbrev pub invariant-prefixes : goal.invariant-prefixes
invariant-prefixes l =
    let section = (packed_so_far l.initial.packer).section in
    record {
      keeps : Keeps (waits_with section) l.initial.entries.entries l.entries.entries;
      waits : Has l.fresh (keys_where is_fresh l.entries.entries);
      group : l.group.keys ≡ keys_where (waits_with section) l.entries.entries;
      shape : packed_so_far l.packer ≡ record (announcing section) { prefixes = (packed_so_far l.packer).prefixes };
      whole : announcement_from section (packed_so_far l.packer).prefixes l.entries.entries
          ≡ announcement_from section [] l.initial.entries.entries;
      same_reference : reference_of l.packer ≡ reference_of l.initial.packer;
      capacity : (buffer_of l.packer).capacity ≡ (buffer_of l.initial.packer).capacity;
    }

abbrev pub decreases-prefixes : goal.decreases-prefixes
decreases-prefixes l = length l.group.keys
