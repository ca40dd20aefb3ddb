use Rattle.std.proofs.Common.{◌≡◌, ◌++◌, List, ℕ, length, flat_map, ap, ◌∙◌, arith, length-append}
use Rattle.xb_words.specs.Octets.{two_octets}
use Rattle.work_gen.specs.Work.{as_numbers, drawn_numbers, path_numbers, path_value}
use Rattle.work_gen.proofs.WorkLemmas.{length-as_numbers, length-flat_map-two_octets, path_front-path_value}
use Rattle.work_gen.proofs.WorkLemmas.{length-path_front}
use Rattle.work_gen.proofs.route.draw_path.Goals as goal

pub returns-clause-value : goal.returns-clause-value
unfolding drawn_numbers
returns-clause-value c =
    let n = c.draw-count.result in
    let y = c.draw-count.new.self.x in
    let ns = (as_numbers n y).value in
    let drawn : ns ≡ (drawn_numbers c.args.generator.now.x).value = rw (c.draw-count.ensures.value, c.draw-count.ensures.next) in
    c.append_numbers.ensures.numbers ∙ ap (λ (s : List ℕ). s ++ flat_map two_octets ns) c.path_front-path.ensures
    ∙ path_front-path_value c.args.peer n ns (length-as_numbers n y)
    ∙ ap (λ (m : List ℕ). path_value (path_numbers c.args.peer m)) drawn

pub returns-clause-short : goal.returns-clause-short
returns-clause-short c =
    let n = c.draw-count.result in
    let y = c.draw-count.new.self.x in
    let ns = (as_numbers n y).value in
    omega (
      arith,
      ap length c.append_numbers.ensures.numbers,
      ap length c.path_front-path.ensures,
      length-append c.path_front-path.result.items (flat_map two_octets ns),
      length-flat_map-two_octets ns,
      length-as_numbers n y,
      length-path_front c.args.peer n,
      c.draw-count.ensures.small,
    )
