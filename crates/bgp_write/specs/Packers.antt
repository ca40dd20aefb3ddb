-- What is seen of a packer.
use Rattle.std.specs.Prelude.{ℕ}
use Rattle.xb_values.specs.Buffers.{Buffer}
use Rattle.bgp_write.specs.Packings.{Packed, packed_in}
use Rattle.bgp_write.specs.declared.packer.Packer.{Packer}

-- what is packed so far
abbrev pub packed_so_far : Packer → Packed
packed_so_far p = packed_in p.withdraws p.start p.out.now.octets

-- the buffer that it borrows, and the ghost name of that borrow
abbrev pub buffer_of : Packer → Buffer
buffer_of p = p.out.now

abbrev pub reference_of : Packer → ℕ
reference_of p = p.out.ghost_name
