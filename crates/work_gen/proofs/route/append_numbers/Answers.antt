use Rattle.std.proofs.Common.{◌≡◌, ◌+◌, ◌<◌, ◌++◌, ◌∙◌, arith, length-append}
use Rattle.xb_words.specs.Octets.{two_octets}
use Rattle.work_gen.proofs.WorkLemmas.{as_numbers-appended, as_numbers-next}
use Rattle.work_gen.proofs.route.append_numbers.Goals as goal

pub numbers-preserved : goal.numbers-preserved
numbers-preserved c =
    let i = c.numbers._drawn in
    let n = c.args.count in
    let before = c.numbers.path.items in
    let below : i < n = omega arith in
    let appended : c.append.new.octets.items ≡ before ++ two_octets (1 + c.draw.result) = cc in
    record {
      len = rw appended (omega (arith, length-append before (two_octets (1 + c.draw.result)), c.numbers.invariant.len));
      numbers = rw appended
          (as_numbers-appended before n i c.numbers.generator.x c.draw.result c.draw.new.self.x below c.draw.ensures.value c.draw.ensures.next
          ∙ c.numbers.invariant.numbers);
      next = as_numbers-next n i c.numbers.generator.x c.draw.new.self.x below c.draw.ensures.next ∙ c.numbers.invariant.next;
    }
