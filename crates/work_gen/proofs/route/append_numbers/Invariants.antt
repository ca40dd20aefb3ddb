use Rattle.std.proofs.Common.{◌≡◌, ◌+◌, ◌-◌, ◌*◌, ◌++◌, length, flat_map}
use Rattle.xb_words.specs.Octets.{two_octets}
use Rattle.work_gen.specs.Work.{as_numbers}
use Rattle.work_gen.proofs.route.append_numbers.Given as goal

-- the octets so far and those of the numbers that are still drawn
abbrev pub invariant-numbers : goal.invariant-numbers
invariant-numbers l =
    record {
      len : length l.path.items ≡ length l.initial.path.items + 2 * l._drawn;
      numbers :
          l.path.items ++ flat_map two_octets (as_numbers (l.count - l._drawn) l.generator.x).value
          ≡ l.initial.path.items ++ flat_map two_octets (as_numbers l.count l.initial.generator.x).value;
      next : (as_numbers (l.count - l._drawn) l.generator.x).x ≡ (as_numbers l.count l.initial.generator.x).x;
    }
