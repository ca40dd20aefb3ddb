-- What the calls on a node's tree are on the trees at its sides.
use Rattle.std.proofs.Common.{◌≡◌, ℕ, ◌<◌, Bool, true, false, List, [], ◌∷◌, ◌++◌, length, Option, Some, None, refl, sym, arith, length-append}
use Rattle.std.specs.declared.cmp.Ordering.TheVariants.{Less, Equal, Greater}
use Rattle.std.proofs.lemmas.Cmp.{nat_list_cmp_total}
use Rattle.std.proofs.lemmas.Map.Lookups.{exact_bytes}
use Rattle.xb_words.specs.Table.{value_at, with_value, without, entry_after, first_of, IsRising}
use Rattle.xbgp_maps.specs.declared.node.Node.{Node}
use Rattle.xbgp_maps.specs.Journals.{when_done}
use Rattle.xbgp_maps.specs.Mappings.{key_cmp}
use Rattle.xbgp_maps.specs.Trees.{entries_of, entries_below, entry_of, HaveWidth}
use Rattle.xb_words.proofs.ListLemmas.{AllByRecursion-left, AllByRecursion-right}
use Rattle.xb_words.proofs.TableSplitLemmas as middle

abbrev Entries : Type 0
Entries = List (List ℕ × List ℕ)

-- the left side has fewer entries than the node with its sides
pub smaller_left : (n : Node) → length (entries_of n.left) < length (entries_below n)
smaller_left n = omega (arith, length-append (entries_of n.left) (entry_of n ∷ entries_of n.right))

-- so has the right side
pub smaller_right : (n : Node) → length (entries_of n.right) < length (entries_below n)
smaller_right n = omega (arith, length-append (entries_of n.left) (entry_of n ∷ entries_of n.right))

-- the keys of the left side rise
pub left_rises : (n : Node) → IsRising key_cmp (entries_below n) → IsRising key_cmp (entries_of n.left)
left_rises n rising = middle.IsRising-left key_cmp nat_list_cmp_total (entries_of n.left) (entry_of n ∷ entries_of n.right) rising

-- so do those of the right side
pub right_rises : (n : Node) → IsRising key_cmp (entries_below n) → IsRising key_cmp (entries_of n.right)
right_rises n rising = middle.IsRising-right key_cmp nat_list_cmp_total (entries_of n.left) (entry_of n) (entries_of n.right) rising

-- a look-up of a lower key is one at the left
pub value_left : (n : Node) (q : List ℕ) → key_cmp q n.key.items ≡ Less → IsRising key_cmp (entries_below n) → value_at key_cmp (entries_below n) q ≡ value_at key_cmp (entries_of n.left) q
value_left n q less rising = middle.value_at-less key_cmp nat_list_cmp_total q (entries_of n.left) (entry_of n) (entries_of n.right) less rising

-- a look-up of the node's key
pub value_here : (n : Node) (q : List ℕ) → key_cmp q n.key.items ≡ Equal → IsRising key_cmp (entries_below n) → value_at key_cmp (entries_below n) q ≡ Some n.value.items
value_here n q same rising = middle.value_at-equal key_cmp nat_list_cmp_total q (entries_of n.left) (entry_of n) (entries_of n.right) same rising

-- a look-up of a greater key is one at the right
pub value_right : (n : Node) (q : List ℕ) → key_cmp q n.key.items ≡ Greater → IsRising key_cmp (entries_below n) → value_at key_cmp (entries_below n) q ≡ value_at key_cmp (entries_of n.right) q
value_right n q more rising = middle.value_at-greater key_cmp nat_list_cmp_total q (entries_of n.left) (entry_of n) (entries_of n.right) more rising

-- the entry after a lower key is one at the left, or the node's
pub after_left : (n : Node) (q : List ℕ) → key_cmp q n.key.items ≡ Less → entry_after key_cmp (entries_below n) (Some q) ≡ middle.or_entry (entry_after key_cmp (entries_of n.left) (Some q)) (entry_of n)
after_left n q less = middle.entry_after-less key_cmp nat_list_cmp_total q (entries_of n.left) (entry_of n) (entries_of n.right) less

-- the entry after the node's key is the first at the right
pub after_here : (n : Node) (q : List ℕ) → key_cmp q n.key.items ≡ Equal → IsRising key_cmp (entries_below n) → entry_after key_cmp (entries_below n) (Some q) ≡ entry_after key_cmp (entries_of n.right) (Some q)
after_here n q same rising = middle.entry_after-equal key_cmp nat_list_cmp_total q (entries_of n.left) (entry_of n) (entries_of n.right) same rising

-- the entry after a greater key is one at the right
pub after_right : (n : Node) (q : List ℕ) → key_cmp q n.key.items ≡ Greater → IsRising key_cmp (entries_below n) → entry_after key_cmp (entries_below n) (Some q) ≡ entry_after key_cmp (entries_of n.right) (Some q)
after_right n q more rising = middle.entry_after-greater key_cmp nat_list_cmp_total q (entries_of n.left) (entry_of n) (entries_of n.right) more rising

first_cut : (ls : Entries) (e : List ℕ × List ℕ) (rs : Entries) → first_of (ls ++ e ∷ rs) ≡ middle.or_entry (first_of ls) e
first_cut [] e rs = refl
first_cut (l ∷ ls) e rs = refl

-- the first entry is the first at the left, or the node's
pub first_below : (n : Node) → first_of (entries_below n) ≡ middle.or_entry (first_of (entries_of n.left)) (entry_of n)
first_below n = first_cut (entries_of n.left) (entry_of n) (entries_of n.right)

-- an entry that was found, or else another one
abbrev pub or_found : Option (List ℕ × List ℕ) → Option (List ℕ × List ℕ) → Option (List ℕ × List ℕ)
or_found None other = other
or_found (Some e) other = Some e

-- with no other one it is what was found
pub found_or_none : (found : Option (List ℕ × List ℕ)) → or_found found None ≡ found
found_or_none None = refl
found_or_none (Some e) = refl

found_or_entry : (found other : Option (List ℕ × List ℕ)) (e : List ℕ × List ℕ) → or_found (middle.or_entry found e) other ≡ or_found found (Some e)
found_or_entry None other e = refl
found_or_entry (Some f) other e = refl

-- the entry after a lower key, or another one, is one at the left, or the node's
pub found_left : (n : Node) (q : List ℕ) (other : Option (List ℕ × List ℕ)) → key_cmp q n.key.items ≡ Less
    → or_found (entry_after key_cmp (entries_below n) (Some q)) other ≡ or_found (entry_after key_cmp (entries_of n.left) (Some q)) (Some (entry_of n))
found_left n q other less = rw (after_left n q less) (found_or_entry (entry_after key_cmp (entries_of n.left) (Some q)) other (entry_of n))

-- the values at the left have the width
pub values_left : (n : Node) (w : ℕ) → HaveWidth w (entries_below n) → HaveWidth w (entries_of n.left)
values_left n w a = record { all = AllByRecursion-left (λ e. length e.1 ≡ w) (entries_of n.left) (entry_of n ∷ entries_of n.right) a.all }

-- so have those at the right
pub values_right : (n : Node) (w : ℕ) → HaveWidth w (entries_below n) → HaveWidth w (entries_of n.right)
values_right n w a = record { all = (AllByRecursion-right (λ e. length e.1 ≡ w) (entries_of n.left) (entry_of n ∷ entries_of n.right) a.all).1 }

-- so has the node's
pub values_here : (n : Node) (w : ℕ) → HaveWidth w (entries_below n) → length n.value.items ≡ w
values_here n w a = (AllByRecursion-right (λ e. length e.1 ≡ w) (entries_of n.left) (entry_of n ∷ entries_of n.right) a.all).0

-- a lower key is written at the left
pub with_left : (n : Node) (q v : List ℕ) → key_cmp q n.key.items ≡ Less → with_value key_cmp (entries_below n) q v ≡ with_value key_cmp (entries_of n.left) q v ++ entry_of n ∷ entries_of n.right
with_left n q v less = middle.with_value-less key_cmp nat_list_cmp_total q v (entries_of n.left) (entry_of n) (entries_of n.right) less

-- the node's key is written at the node
pub with_here : (n : Node) (q v : List ℕ) → key_cmp q n.key.items ≡ Equal → IsRising key_cmp (entries_below n) → with_value key_cmp (entries_below n) q v ≡ entries_of n.left ++ (n.key.items, v) ∷ entries_of n.right
with_here n q v same rising = middle.with_value-equal key_cmp nat_list_cmp_total q v (entries_of n.left) (entry_of n) (entries_of n.right) same rising

-- a greater key is written at the right
pub with_right : (n : Node) (q v : List ℕ) → key_cmp q n.key.items ≡ Greater → IsRising key_cmp (entries_below n) → with_value key_cmp (entries_below n) q v ≡ entries_of n.left ++ entry_of n ∷ with_value key_cmp (entries_of n.right) q v
with_right n q v more rising = middle.with_value-greater key_cmp nat_list_cmp_total q v (entries_of n.left) (entry_of n) (entries_of n.right) more rising

-- a value is replaced at the left, if the key is there
pub over_left : (n : Node) (q v : List ℕ) (there : Bool) → key_cmp q n.key.items ≡ Less → when_done there (with_value key_cmp (entries_below n) q v) (entries_below n) ≡ when_done there (with_value key_cmp (entries_of n.left) q v) (entries_of n.left) ++ entry_of n ∷ entries_of n.right
over_left n q v true less = with_left n q v less
over_left n q v false less = refl

-- a value is replaced at the right, if the key is there
pub over_right : (n : Node) (q v : List ℕ) (there : Bool) → key_cmp q n.key.items ≡ Greater → IsRising key_cmp (entries_below n) → when_done there (with_value key_cmp (entries_below n) q v) (entries_below n) ≡ entries_of n.left ++ entry_of n ∷ when_done there (with_value key_cmp (entries_of n.right) q v) (entries_of n.right)
over_right n q v true more rising = with_right n q v more rising
over_right n q v false more rising = refl

-- a lower key is removed at the left
pub without_left : (n : Node) (q : List ℕ) → key_cmp q n.key.items ≡ Less → IsRising key_cmp (entries_below n) → without key_cmp (entries_below n) q ≡ without key_cmp (entries_of n.left) q ++ entry_of n ∷ entries_of n.right
without_left n q less rising = middle.without-less key_cmp nat_list_cmp_total q (entries_of n.left) (entry_of n) (entries_of n.right) less rising

-- the node's key is removed with its node
pub without_here : (n : Node) (q : List ℕ) → key_cmp q n.key.items ≡ Equal → IsRising key_cmp (entries_below n) → without key_cmp (entries_below n) q ≡ entries_of n.left ++ entries_of n.right
without_here n q same rising = middle.without-equal key_cmp nat_list_cmp_total q (entries_of n.left) (entry_of n) (entries_of n.right) same rising

-- a greater key is removed at the right
pub without_right : (n : Node) (q : List ℕ) → key_cmp q n.key.items ≡ Greater → IsRising key_cmp (entries_below n) → without key_cmp (entries_below n) q ≡ entries_of n.left ++ entry_of n ∷ without key_cmp (entries_of n.right) q
without_right n q more rising = middle.without-greater key_cmp nat_list_cmp_total q (entries_of n.left) (entry_of n) (entries_of n.right) more rising

-- two keys of one order are the same octets
pub same_key : (n : Node) (q : List ℕ) → key_cmp q n.key.items ≡ Equal → n.key.items ≡ q
same_key n q same = sym (exact_bytes q n.key.items same)

-- what each call needs at the sides of a node, and what it does there
pub ruleset sides = (smaller_left, smaller_right, left_rises, right_rises)

pub ruleset look_up = (sides, value_left, value_here, value_right)

pub ruleset walk = (sides, first_below, after_left, after_here, after_right, found_or_none, found_left)

pub ruleset write = (look_up, with_left, with_here, with_right)

pub ruleset over = (look_up, with_here, over_left, over_right)

pub ruleset removal = (look_up, without_left, without_here, without_right, same_key)
