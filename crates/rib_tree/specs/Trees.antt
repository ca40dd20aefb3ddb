-- What contracts see of the nodes of a tree, and how entries are spread over them (for the private functions).
use Rattle.std.specs.Prelude.{ℕ, ◌+◌, ◌-◌, ◌^◌, ◌<◌, List, ◌++◌, nat_lt, if◌then◌else◌}
use Rattle.std.specs.List.{AllByRecursion}
use Rattle.xb_words.specs.Table.{IsRising}
use Rattle.xb_values.specs.Prefixes.{Prefix, prefix_cmp}
use Rattle.rib_tree.specs.Blocks.{IsIn, IsPart}
use Rattle.rib_tree.specs.declared.node.Node.{Node, Leaf, Fork'}

-- the entries of a node and of all below it, in order
abbrev pub entries_of : {V : Type 0} → Node V → List (Prefix × V)
entries_of (Leaf page) = page.items
entries_of (Fork' p block low high) = entries_of low ++ entries_of high

-- all entries are in a block of addresses
abbrev pub AllIn : {V : Type 0} → ℕ → ℕ → List (Prefix × V) → Type 0
AllIn first bits es = AllByRecursion (λ e. IsIn first bits e.0) es

-- a node is a tree with addresses of a block: a leaf has entries of the block by rising prefix, and a fork has a block
-- of its own, which is a part of it, and trees of the lower and of the upper half of that
abbrev pub IsTree : {V : Type 0} → ℕ → ℕ → Node V → Type 0
IsTree first bits (Leaf page) = IsRising prefix_cmp page.items × AllIn first bits page.items
IsTree first bits (Fork' p block low high) =
    (0 < block.bits)
    × IsPart first bits block.first block.bits
    × IsTree block.first (block.bits - 1) low
    × IsTree (block.first + 2 ^ (block.bits - 1)) (block.bits - 1) high

-- how many nodes are on the path to a prefix
abbrev pub nodes_to : {V : Type 0} → Prefix → Node V → ℕ
nodes_to key (Leaf page) = 1
nodes_to key (Fork' p block low high) =
    1 + (if nat_lt key.addr (block.first + 2 ^ (block.bits - 1)) then nodes_to key low else nodes_to key high)

-- an entry of a prefix can go into a leaf, or below a fork
abbrev pub HasRoom : {V : Type 0} → Prefix → Node V → Type 0
HasRoom key (Leaf page) = Unit {0}
HasRoom key (Fork' p block low high) = IsIn block.first block.bits key
