use Rattle.std.proofs.Common.{◌≡◌, ◌≤◌, ℕ, List, Option, refl, ap, ◌∙◌, length, take, true, arith, unwrap_or}
use Rattle.bgp_attr.specs.Paths.{path_ok}
use Rattle.bgp_path.specs.Fronts.{WritesFront}
use Rattle.bgp_path.specs.Widths.{narrow_path}
use Rattle.spk_native.proofs.NarrowLemmas.{length-narrow_path, take-written}
use Rattle.spk_native.proofs.narrow.narrow_path_of.Goals as goal

-- the text that was written
narrowed : (written : Option ℕ) (old new value : List ℕ) (n : ℕ) → WritesFront written old new (narrow_path value)
    → path_ok 4 value ≡ true → length value ≤ length old → n ≡ unwrap_or written 0 → take n new ≡ narrow_path value
narrowed written old new value n w ok fits e =
    take-written written old new (narrow_path value) n (length old) w refl
    (omega (arith, length-narrow_path value ok, fits)) e

pub new-requires : goal.new-requires
new-requires c =
    let v = c.value.result.now in
    let same = c.value.ensures.value in
    let ok = ap (path_ok 4) same ∙ c.requires.path in
    let text = narrowed c.narrow_into.result c.args.room.now c.narrow_into.new.out v c.unwrap_or-len.result
    c.narrow_into.ensures.written ok (omega (arith, ap length same, c.requires.room)) c.unwrap_or-len.ensures in
    omega (arith, ap length text, length-narrow_path v ok, c.value.ensures.bound)

pub returns : goal.returns
returns c =
    let v = c.value.result.now in
    let same = c.value.ensures.value in
    let text = narrowed c.narrow_into.result c.args.room.now c.narrow_into.new.out v c.unwrap_or-len.result
    c.narrow_into.ensures.written (ap (path_ok 4) same ∙ c.requires.path)
    (omega (arith, ap length same, c.requires.room)) c.unwrap_or-len.ensures in
    c.new.ensures
    ∙ ap (λ t. record { flags = c.flags.result; value = t }) (text ∙ ap narrow_path same)
    ∙ ap (λ f. record { flags = f; value = narrow_path c.args.path.now.value }) c.flags.ensures
