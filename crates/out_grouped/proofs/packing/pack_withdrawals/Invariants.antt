use Rattle.std.proofs.Common.{◌≡◌, [], Some, length}
use Rattle.xb_words.specs.Table.{first_of}
use Rattle.bgp_write.specs.Packers.{packed_so_far, buffer_of, reference_of}
use Rattle.bgp_write.specs.Packings.{withdrawing}
use Rattle.out_grouped.specs.Slots.{is_gone, keys_where, Keeps}
use Rattle.out_grouped.specs.Waits.{Has}
use Rattle.out_grouped.specs.Sending.{withdrawal_from}
use Rattle.out_grouped.proofs.packing.pack_withdrawals.Given as goal

-- the message of what is packed and what is left is the one of all
abbrev pub invariant-prefixes : goal.invariant-prefixes
invariant-prefixes l = record {
  keeps : Keeps is_gone l.initial.entries.entries l.entries.entries;
  waits : Has l.gone (keys_where is_gone l.entries.entries);
  first : first_of (keys_where is_gone l.entries.entries) ≡ Some l.left;
  shape : packed_so_far l.packer ≡ record withdrawing { prefixes = (packed_so_far l.packer).prefixes };
  whole : withdrawal_from (packed_so_far l.packer).prefixes l.entries.entries
      ≡ withdrawal_from [] l.initial.entries.entries;
  same_reference : reference_of l.packer ≡ reference_of l.initial.packer;
  capacity : (buffer_of l.packer).capacity ≡ (buffer_of l.initial.packer).capacity;
}

abbrev pub decreases-prefixes : goal.decreases-prefixes
decreases-prefixes l = length (keys_where is_gone l.entries.entries)
