use Rattle.std.proofs.Common.{◌≡◌, ◌∙◌, ap, sym, arith, length, nat_le}
use Rattle.std.specs.Prelude.{is_some, not}
use Rattle.xb_wire.specs.declared.numbers.TheConstants.{MAX_MESSAGE}
use Rattle.xbgp_view.specs.Views.{code_from}
use Rattle.std.proofs.lemmas.Bool.{le-leb, lt-leb}
use Rattle.bgp_attr.specs.Routes.{canon}
use Rattle.spk_native.specs.Receipt.{without_narrow}
use Rattle.spk_native.proofs.ReceiptLemmas.{length-without_narrow}
use Rattle.spk_native.proofs.UsualLemmas.{MatchBool-same, without_narrow-code_from}
use Rattle.spk_native.proofs.receipt.drop_narrow.Goals as goal

-- without both the route stays as it is
stays : (c : goal.After-section_len) → without_narrow c.args.route.now.route ≡ c.args.route.now.route
stays c =
    let r = c.args.route.now.route in
    without_narrow-code_from r (ap is_some (sym (c.code_from.ensures.value ∙ ap (code_from r) c.from.ensures))
    ∙ c.is_none.ensures ∙ ap not c.if-is_none.true)

pub returns-then-is_none-clause-fits : goal.returns-then-is_none-clause-fits
returns-then-is_none-clause-fits c =
    ap (λ n. nat_le n MAX_MESSAGE) c.section_len.ensures.value
    ∙ ap (λ r. nat_le (length (canon r)) MAX_MESSAGE) (sym (stays c))

pub returns-then-is_none-clause-after : goal.returns-then-is_none-clause-after
returns-then-is_none-clause-after c =
    MatchBool-same (nat_le c.section_len.result 4096) c.args.route.now _
    (ap (λ r. record { route = r; kept = c.args.route.now.kept }) (sym (stays c)))

pub overflow_sub-section_len : goal.overflow_sub-section_len
overflow_sub-section_len c =
    let all = length-without_narrow c.args.route.now.route c.entry_len.ensures.shape in
    omega (arith, all, c.section_len-2.ensures.value, c.entry_len.ensures.value, c.entry_len-2.ensures.value)

pub returns-then-section_len-gone-gt-MAX_MESSAGE-clause-fits :
    goal.returns-then-section_len-gone-gt-MAX_MESSAGE-clause-fits
returns-then-section_len-gone-gt-MAX_MESSAGE-clause-fits c =
    let r = c.args.route.now.route in
    let all = length-without_narrow r c.entry_len.ensures.shape in
    sym (lt-leb (length (canon (without_narrow r))) 4096
    (omega (
      arith,
      all,
      c.section_len-2.ensures.value,
      c.entry_len.ensures.value,
      c.entry_len-2.ensures.value,
      c.if-section_len-gone-gt-MAX_MESSAGE.true,
    )))

pub returns-clause-fits : goal.returns-clause-fits
returns-clause-fits c =
    let r = c.args.route.now.route in
    let all = length-without_narrow r c.entry_len.ensures.shape in
    sym (le-leb (length (canon (without_narrow r))) 4096
    (omega (
      arith,
      all,
      c.section_len-2.ensures.value,
      c.entry_len.ensures.value,
      c.entry_len-2.ensures.value,
      c.if-section_len-gone-gt-MAX_MESSAGE.false,
    )))
