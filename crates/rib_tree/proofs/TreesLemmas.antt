-- What the calls on the tree of a block of addresses are on the trees of its halves.
use Rattle.std.proofs.Common.{◌≡◌, ◌<◌, ◌≤◌, ◌+◌, ◌-◌, ◌^◌, ℕ, inl, inr, List, [], ◌∷◌, ◌++◌, Some, None, refl}
use Rattle.std.specs.Prelude.{Result, Ok, Err, OnOk, OnErr, nat_lt}
use Rattle.std.proofs.lemmas.Bool.{cases_Bool, cases_lt}
use Rattle.xb_words.proofs.ListLemmas.{AllByRecursion-left, AllByRecursion-right}
use Rattle.std.specs.List.Sorted.{IsStrictlySortedBy}
use Rattle.std.proofs.Common.{arith}
use Rattle.std.specs.List.{AllByRecursion}
use Rattle.std.specs.Option.{option_or}
use Rattle.std.specs.declared.cmp.Ordering.TheVariants.{Less, Greater}
use Rattle.xb_words.specs.Table.{value_at, with_value, without, entry_after, first_of, IsRising}
use Rattle.xb_words.proofs.TableSplitLemmas.{Each}
use Rattle.xb_words.proofs.TableLemmas.{AllByRecursion-with_value, AllByRecursion-without}
use Rattle.xb_words.proofs.TableLemmas.{IsRising-with_value, IsRising-without}
use Rattle.xb_values.specs.Prefixes.{Prefix, prefix_cmp}
use Rattle.xb_values.proofs.PrefixLemmas.{prefix_total}
use Rattle.rib_tree.specs.declared.node.Node.{Node, Leaf, Fork'}
use Rattle.rib_tree.specs.Pages.{AllBelow, AllFrom}
use Rattle.rib_tree.specs.Blocks.{IsIn, IsPart}
use Rattle.rib_tree.specs.Trees.{entries_of, nodes_to, AllIn, IsTree}
use Rattle.rib_tree.proofs.BlockLemmas.{two_halves, part_bits, part_least, part_most}
use Rattle.rib_tree.proofs.BlockLemmas.{IsIn-low, IsIn-high, IsPart-self, IsPart-low, IsPart-high, IsPart-trans}
use Rattle.rib_tree.proofs.AddressLemmas.{before_by_address, after_by_address}
use Rattle.rib_tree.proofs.AppendLemmas as append

rising_none : (V : Type 0) → IsRising {X = V} prefix_cmp []
unfolding IsStrictlySortedBy
rising_none V = tt

module _ {V : Type 0} where
  all_wider : (first bits from size : ℕ) (es : List (Prefix × V)) → first ≤ from → from + 2 ^ size ≤ first + 2 ^ bits
      → AllIn from size es → AllIn first bits es
  all_wider first bits from size [] low high a = tt
  all_wider first bits from size (e ∷ es) low high a = (
    record { least = omega (arith, a.0.least); most = omega (arith, a.0.most) },
    all_wider first bits from size es low high a.1,
  )

  -- the entries of the lower half are in the block
  pub AllIn-low : (first bits : ℕ) (es : List (Prefix × V)) → 0 < bits → AllIn first (bits - 1) es → AllIn first bits es
  AllIn-low first bits es some a =
      all_wider first bits first (bits - 1) es (omega arith) (omega (arith, two_halves bits some)) a

  -- so are those of the upper half
  pub AllIn-high : (first bits : ℕ) (es : List (Prefix × V)) → 0 < bits → AllIn (first + 2 ^ (bits - 1)) (bits - 1) es
      → AllIn first bits es
  AllIn-high first bits es some a =
      all_wider first bits (first + 2 ^ (bits - 1)) (bits - 1) es (omega arith) (omega (arith, two_halves bits some)) a

  -- all entries of the tree of a block are in the block
  pub all_in : (first bits : ℕ) (t : Node V) → IsTree first bits t → AllIn first bits (entries_of t)
  all_in first bits (Leaf page) tree = tree.1
  all_in first bits (Fork' p block low high) tree =
      all_wider first bits block.first block.bits (entries_of low ++ entries_of high)
      (part_least first bits block.first block.bits tree.1) (part_most first bits block.first block.bits tree.1)
      (append.AllByRecursion-append (λ (e : Prefix × V). IsIn block.first block.bits e.0)
      (entries_of low) (entries_of high)
      (AllIn-low block.first block.bits (entries_of low) tree.0 (all_in block.first (block.bits - 1) low tree.2))
      (AllIn-high block.first block.bits (entries_of high) tree.0
      (all_in (block.first + 2 ^ (block.bits - 1)) (block.bits - 1) high tree.3)))

  each_after : (k : Prefix) (first bits : ℕ) (es : List (Prefix × V)) → k.addr < first → AllIn first bits es
      → Each prefix_cmp prefix_total Less k es
  each_after k first bits [] below a = tt
  each_after k first bits (e ∷ es) below a =
      (before_by_address k e.0 (omega (arith, a.0.least)), each_after k first bits es below a.1)

  each_before : (k : Prefix) (first bits : ℕ) (es : List (Prefix × V)) → first + 2 ^ bits ≤ k.addr → AllIn first bits es
      → Each prefix_cmp prefix_total Greater k es
  each_before k first bits [] from a = tt
  each_before k first bits (e ∷ es) from a =
      (after_by_address k e.0 (omega (arith, a.0.most)), each_before k first bits es from a.1)

  all_before : (first bits from size : ℕ) (ls es : List (Prefix × V)) → first + 2 ^ bits ≤ from → AllIn first bits ls
      → AllIn from size es → AllByRecursion (λ (l : Prefix × V). Each prefix_cmp prefix_total Less l.0 es) ls
  all_before first bits from size [] es apart a b = tt
  all_before first bits from size (l ∷ ls) es apart a b = (
    each_after l.0 from size es (omega (arith, a.0.most)) b,
    all_before first bits from size ls es apart a.1 b,
  )

  -- the entries of a tree are by rising prefix
  pub tree_rises : (first bits : ℕ) (t : Node V) → IsTree first bits t → IsRising prefix_cmp (entries_of t)
  tree_rises first bits (Leaf page) tree = tree.0
  tree_rises first bits (Fork' p block low high) tree =
      append.IsRising-append prefix_cmp prefix_total (entries_of low) (entries_of high)
      (tree_rises block.first (block.bits - 1) low tree.2)
      (tree_rises (block.first + 2 ^ (block.bits - 1)) (block.bits - 1) high tree.3)
      (all_before block.first (block.bits - 1) (block.first + 2 ^ (block.bits - 1)) (block.bits - 1)
      (entries_of low) (entries_of high) (omega arith)
      (all_in block.first (block.bits - 1) low tree.2)
      (all_in (block.first + 2 ^ (block.bits - 1)) (block.bits - 1) high tree.3))

  -- the tree of a part of a block is one of the block
  pub IsTree-wider : (first bits from size : ℕ) (t : Node V) → IsPart first bits from size → IsTree from size t
      → IsTree first bits t
  IsTree-wider first bits from size (Leaf page) part tree = (
    tree.0,
    all_wider first bits from size page.items (part_least first bits from size part)
        (part_most first bits from size part) tree.1,
  )
  IsTree-wider first bits from size (Fork' p block low high) part tree =
      (tree.0, IsPart-trans first bits from size block.first block.bits part tree.1, tree.2, tree.3)

  -- so is that of a half of a part
  pub IsTree-low : (first bits from size : ℕ) (t : Node V) → 0 < size → IsPart first bits from size
      → IsTree from (size - 1) t → IsTree first bits t
  IsTree-low first bits from size t some part tree =
      IsTree-wider first bits from (size - 1) t
      (IsPart-trans first bits from size from (size - 1) part
      (IsPart-low from size from (size - 1) some (IsPart-self from (size - 1)))) tree

  pub IsTree-high : (first bits from size : ℕ) (t : Node V) → 0 < size → IsPart first bits from size
      → IsTree (from + 2 ^ (size - 1)) (size - 1) t → IsTree first bits t
  IsTree-high first bits from size t some part tree =
      IsTree-wider first bits (from + 2 ^ (size - 1)) (size - 1) t
      (IsPart-trans first bits from size (from + 2 ^ (size - 1)) (size - 1) part
      (IsPart-high from size (from + 2 ^ (size - 1)) (size - 1) some
      (IsPart-self (from + 2 ^ (size - 1)) (size - 1)))) tree

  value_at-apart : (first bits : ℕ) (es : List (Prefix × V)) (k : Prefix) → AllIn first bits es
      → (IsIn first bits k → ⊥) → value_at prefix_cmp es k ≡ None
  value_at-apart first bits [] k all apart = refl
  value_at-apart first bits (e ∷ es) k all apart = elim (cases_lt k.addr first) [
    | inl below ↦ rw (before_by_address k e.0 (omega (arith, all.0.least)))
        (value_at-apart first bits es k all.1 apart)
    | inr from ↦ elim (cases_lt k.addr (first + 2 ^ bits)) [
      | inl to ↦ absurd (apart (record { least = from; most = to }))
      | inr above ↦ rw (after_by_address k e.0 (omega (arith, all.0.most)))
          (value_at-apart first bits es k all.1 apart)
    ]
  ]

  module _ (first bits : ℕ) (low high : Node V) (k : Prefix) where
    -- a prefix of the lower half is looked up there
    pub value_at-low : IsTree (first + 2 ^ (bits - 1)) (bits - 1) high → k.addr < first + 2 ^ (bits - 1)
        → value_at prefix_cmp (entries_of low ++ entries_of high) k ≡ value_at prefix_cmp (entries_of low) k
    value_at-low tree lower =
        append.value_at-before prefix_cmp prefix_total k (entries_of low) (entries_of high)
        (each_after k (first + 2 ^ (bits - 1)) (bits - 1) (entries_of high) lower (all_in _ _ high tree))

    -- one of the upper half is looked up there
    pub value_at-high : IsTree first (bits - 1) low → first + 2 ^ (bits - 1) ≤ k.addr
        → value_at prefix_cmp (entries_of low ++ entries_of high) k ≡ value_at prefix_cmp (entries_of high) k
    value_at-high tree upper =
        append.value_at-past prefix_cmp prefix_total k (entries_of low) (entries_of high)
        (each_before k first (bits - 1) (entries_of low) upper (all_in _ _ low tree))

    pub with_value-low : (v : V) → IsTree (first + 2 ^ (bits - 1)) (bits - 1) high → k.addr < first + 2 ^ (bits - 1)
        → with_value prefix_cmp (entries_of low ++ entries_of high) k v
        ≡ with_value prefix_cmp (entries_of low) k v ++ entries_of high
    with_value-low v tree lower =
        append.with_value-before prefix_cmp prefix_total k v (entries_of low) (entries_of high)
        (each_after k (first + 2 ^ (bits - 1)) (bits - 1) (entries_of high) lower (all_in _ _ high tree))

    pub with_value-high : (v : V) → IsTree first (bits - 1) low → first + 2 ^ (bits - 1) ≤ k.addr
        → with_value prefix_cmp (entries_of low ++ entries_of high) k v
        ≡ entries_of low ++ with_value prefix_cmp (entries_of high) k v
    with_value-high v tree upper =
        append.with_value-past prefix_cmp prefix_total k v (entries_of low) (entries_of high)
        (each_before k first (bits - 1) (entries_of low) upper (all_in _ _ low tree))

    pub without-low : IsRising prefix_cmp (entries_of low ++ entries_of high)
        → IsTree (first + 2 ^ (bits - 1)) (bits - 1) high → k.addr < first + 2 ^ (bits - 1)
        → without prefix_cmp (entries_of low ++ entries_of high) k
        ≡ without prefix_cmp (entries_of low) k ++ entries_of high
    without-low rising tree lower =
        append.without-before prefix_cmp prefix_total k (entries_of low) (entries_of high)
        (each_after k (first + 2 ^ (bits - 1)) (bits - 1) (entries_of high) lower (all_in _ _ high tree)) rising

    pub without-high : IsTree first (bits - 1) low → first + 2 ^ (bits - 1) ≤ k.addr
        → without prefix_cmp (entries_of low ++ entries_of high) k
        ≡ entries_of low ++ without prefix_cmp (entries_of high) k
    without-high tree upper =
        append.without-past prefix_cmp prefix_total k (entries_of low) (entries_of high)
        (each_before k first (bits - 1) (entries_of low) upper (all_in _ _ low tree))

    pub entry_after-low : IsTree (first + 2 ^ (bits - 1)) (bits - 1) high → k.addr < first + 2 ^ (bits - 1)
        → entry_after prefix_cmp (entries_of low ++ entries_of high) (Some k)
        ≡ option_or (entry_after prefix_cmp (entries_of low) (Some k)) (first_of (entries_of high))
    entry_after-low tree lower =
        append.entry_after-before prefix_cmp prefix_total k (entries_of low) (entries_of high)
        (each_after k (first + 2 ^ (bits - 1)) (bits - 1) (entries_of high) lower (all_in _ _ high tree))

    pub entry_after-high : IsTree first (bits - 1) low → first + 2 ^ (bits - 1) ≤ k.addr
        → entry_after prefix_cmp (entries_of low ++ entries_of high) (Some k)
        ≡ entry_after prefix_cmp (entries_of high) (Some k)
    entry_after-high tree upper =
        append.entry_after-past prefix_cmp prefix_total k (entries_of low) (entries_of high)
        (each_before k first (bits - 1) (entries_of low) upper (all_in _ _ low tree))

  -- a prefix outside the block of a fork is not below it
  pub fork_absent : (first bits : ℕ) (low high : Node V) (k : Prefix) → 0 < bits → IsTree first (bits - 1) low
      → IsTree (first + 2 ^ (bits - 1)) (bits - 1) high → (IsIn first bits k → ⊥)
      → value_at prefix_cmp (entries_of low ++ entries_of high) k ≡ None
  fork_absent first bits low high k some below above apart =
      value_at-apart first bits (entries_of low ++ entries_of high) k
      (append.AllByRecursion-append (λ (e : Prefix × V). IsIn first bits e.0) (entries_of low) (entries_of high)
      (AllIn-low first bits (entries_of low) some (all_in first (bits - 1) low below))
      (AllIn-high first bits (entries_of high) some (all_in (first + 2 ^ (bits - 1)) (bits - 1) high above))) apart

  -- the first entry is that of the lower half, if it has one
  pub first_of_halves : (low high : Node V) → first_of (entries_of low ++ entries_of high)
      ≡ option_or (first_of (entries_of low)) (first_of (entries_of high))
  first_of_halves low high = append.first_of-append (entries_of low) (entries_of high)

  -- no entries are a page of any block
  pub page_of_none : (first bits : ℕ) (es : List (Prefix × V)) → es ≡ [] → IsRising prefix_cmp es × AllIn first bits es
  page_of_none first bits [] none = (rising_none V, tt)
  page_of_none first bits (e ∷ es) none = absurd (cc none)

  -- a page keeps its order and its block after a write
  pub page_with : (first bits : ℕ) (es : List (Prefix × V)) (k : Prefix) (v : V) → IsRising prefix_cmp es
      → AllIn first bits es → IsIn first bits k
      → IsRising prefix_cmp (with_value prefix_cmp es k v) × AllIn first bits (with_value prefix_cmp es k v)
  page_with first bits es k v rising within key = (
    IsRising-with_value prefix_cmp prefix_total es k v rising,
    AllByRecursion-with_value prefix_cmp (λ (e : Prefix × V). IsIn first bits e.0) es k v key (λ e same h. h) within,
  )

  -- the same of a write that may find no memory
  pub page_put : {T E : Type 0} (r : Result T E) (first bits : ℕ) (es new : List (Prefix × V)) (k : Prefix) (v : V)
      → OnOk r (new ≡ with_value prefix_cmp es k v) → OnErr r (new ≡ es) → IsRising prefix_cmp es → AllIn first bits es
      → IsIn first bits k → IsRising prefix_cmp new × AllIn first bits new
  page_put (Ok x) first bits es new k v ok err rising within key = rw ok (page_with first bits es k v rising within key)
  page_put (Err x) first bits es new k v ok err rising within key = rw err (rising, within)

  -- and after a removal
  pub page_without : (first bits : ℕ) (es : List (Prefix × V)) (k : Prefix) → IsRising prefix_cmp es
      → AllIn first bits es
      → IsRising prefix_cmp (without prefix_cmp es k) × AllIn first bits (without prefix_cmp es k)
  page_without first bits es k rising within = (
    IsRising-without prefix_cmp prefix_total es k rising,
    AllByRecursion-without prefix_cmp (λ (e : Prefix × V). IsIn first bits e.0) es k within,
  )

  -- the pages of a cut at the middle are of the halves
  pub AllIn-below : (first bits : ℕ) (es : List (Prefix × V)) → AllIn first bits es
      → AllBelow (first + 2 ^ (bits - 1)) es → AllIn first (bits - 1) es
  AllIn-below first bits [] within below = tt
  AllIn-below first bits (e ∷ es) within below =
      (record { least = within.0.least; most = below.0 }, AllIn-below first bits es within.1 below.1)

  pub AllIn-from : (first bits : ℕ) (es : List (Prefix × V)) → 0 < bits → AllIn first bits es
      → AllFrom (first + 2 ^ (bits - 1)) es → AllIn (first + 2 ^ (bits - 1)) (bits - 1) es
  AllIn-from first bits [] some within from = tt
  AllIn-from first bits (e ∷ es) some within from = (
    record { least = from.0; most = omega (arith, within.0.most, two_halves bits some) },
    AllIn-from first bits es some within.1 from.1,
  )

  -- a page that was cut at the middle has two parts, of the halves
  pub cut-low : (first bits : ℕ) (es ls rs : List (Prefix × V)) → ls ++ rs ≡ es → AllIn first bits es
      → AllBelow (first + 2 ^ (bits - 1)) ls → AllIn first (bits - 1) ls
  cut-low first bits es ls rs is within below =
      AllIn-below first bits ls
      (AllByRecursion-left (λ (e : Prefix × V). IsIn first bits e.0) ls rs (rw is within)) below

  pub cut-high : (first bits : ℕ) (es ls rs : List (Prefix × V)) → ls ++ rs ≡ es → 0 < bits → AllIn first bits es
      → AllFrom (first + 2 ^ (bits - 1)) rs → AllIn (first + 2 ^ (bits - 1)) (bits - 1) rs
  cut-high first bits es ls rs is some within from =
      AllIn-from first bits rs some
      (AllByRecursion-right (λ (e : Prefix × V). IsIn first bits e.0) ls rs (rw is within)) from

  -- a path has a node
  pub nodes_some : (k : Prefix) (t : Node V) → 1 ≤ nodes_to k t
  nodes_some k (Leaf page) = omega arith
  nodes_some k (Fork' p block low high) = omega arith

  -- and at most one more than the block has bits
  pub nodes_most : (first bits : ℕ) (k : Prefix) (t : Node V) → IsTree first bits t → nodes_to k t ≤ bits + 1
  nodes_most first bits k (Leaf page) tree = omega arith
  nodes_most first bits k (Fork' p block low high) tree =
      let fewer = part_bits first bits block.first block.bits tree.1 in
      elim (cases_Bool (nat_lt k.addr (block.first + 2 ^ (block.bits - 1)))) [
        | inl lower ↦ rw lower (omega (arith, fewer, tree.0, nodes_most block.first (block.bits - 1) k low tree.2))
        | inr upper ↦ rw upper (omega (
          arith,
          fewer,
          tree.0,
          nodes_most (block.first + 2 ^ (block.bits - 1)) (block.bits - 1) k high tree.3,
        ))
      ]

pub ruleset nodes = (nodes_some, nodes_most)

pub ruleset find_at = (value_at-low, value_at-high)

pub ruleset half = (IsTree-low, IsTree-high)

pub ruleset look_up = (find_at, half, nodes_some)

pub ruleset write = (find_at, with_value-low, with_value-high, IsIn-low, IsIn-high, part_bits)

pub ruleset walk = (first_of_halves, entry_after-low, entry_after-high, half)
