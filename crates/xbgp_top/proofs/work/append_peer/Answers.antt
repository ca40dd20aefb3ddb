use Rattle.std.proofs.Common.{rules, refl}
use Rattle.xbgp_top.proofs.WorkLemmas.{IsLonger, longer, room_for}
use Rattle.xbgp_top.proofs.work.append_peer.Goals as goal

pub append_decimal-requires-3 : goal.append_decimal-requires-3
append_decimal-requires-3 c =
    let text = c.args.text.now in
    let word : IsLonger text 5 c.append.new.self =
    longer text text c.append.new.self _ 0 5 c.append.ensures (search rules) (search rules, refl) in
    let peer : IsLonger text 25 c.append_decimal.new.out =
    longer text c.append.new.self c.append_decimal.new.out _ 5 20 c.append_decimal.ensures.appended
    c.append_decimal.ensures.short word in
    let space : IsLonger text 26 c.append-2.new.self =
    longer text c.append_decimal.new.out c.append-2.new.self _ 25 1 c.append-2.ensures (search rules) peer in
    let advertised : IsLonger text 46 c.append_decimal-2.new.out =
    longer text c.append-2.new.self c.append_decimal-2.new.out _ 26 20 c.append_decimal-2.ensures.appended
    c.append_decimal-2.ensures.short space in
    let other : IsLonger text 47 c.append-3.new.self =
    longer text c.append_decimal-2.new.out c.append-3.new.self _ 46 1 c.append-3.ensures (search rules) advertised in
    room_for text c.append-3.new.self 47 20 68 other (search rules) c.requires

pub append-requires-4 : goal.append-requires-4
append-requires-4 c =
    let text = c.args.text.now in
    let word : IsLonger text 5 c.append.new.self =
    longer text text c.append.new.self _ 0 5 c.append.ensures (search rules) (search rules, refl) in
    let peer : IsLonger text 25 c.append_decimal.new.out =
    longer text c.append.new.self c.append_decimal.new.out _ 5 20 c.append_decimal.ensures.appended
    c.append_decimal.ensures.short word in
    let space : IsLonger text 26 c.append-2.new.self =
    longer text c.append_decimal.new.out c.append-2.new.self _ 25 1 c.append-2.ensures (search rules) peer in
    let advertised : IsLonger text 46 c.append_decimal-2.new.out =
    longer text c.append-2.new.self c.append_decimal-2.new.out _ 26 20 c.append_decimal-2.ensures.appended
    c.append_decimal-2.ensures.short space in
    let other : IsLonger text 47 c.append-3.new.self =
    longer text c.append_decimal-2.new.out c.append-3.new.self _ 46 1 c.append-3.ensures (search rules) advertised in
    let octets : IsLonger text 67 c.append_decimal-3.new.out =
    longer text c.append-3.new.self c.append_decimal-3.new.out _ 47 20 c.append_decimal-3.ensures.appended
    c.append_decimal-3.ensures.short other in
    room_for text c.append_decimal-3.new.out 67 1 68 octets (search rules) c.requires

pub returns-clause-grown : goal.returns-clause-grown
returns-clause-grown c =
    let text = c.args.text.now in
    let word : IsLonger text 5 c.append.new.self =
    longer text text c.append.new.self _ 0 5 c.append.ensures (search rules) (search rules, refl) in
    let peer : IsLonger text 25 c.append_decimal.new.out =
    longer text c.append.new.self c.append_decimal.new.out _ 5 20 c.append_decimal.ensures.appended
    c.append_decimal.ensures.short word in
    let space : IsLonger text 26 c.append-2.new.self =
    longer text c.append_decimal.new.out c.append-2.new.self _ 25 1 c.append-2.ensures (search rules) peer in
    let advertised : IsLonger text 46 c.append_decimal-2.new.out =
    longer text c.append-2.new.self c.append_decimal-2.new.out _ 26 20 c.append_decimal-2.ensures.appended
    c.append_decimal-2.ensures.short space in
    let other : IsLonger text 47 c.append-3.new.self =
    longer text c.append_decimal-2.new.out c.append-3.new.self _ 46 1 c.append-3.ensures (search rules) advertised in
    let octets : IsLonger text 67 c.append_decimal-3.new.out =
    longer text c.append-3.new.self c.append_decimal-3.new.out _ 47 20 c.append_decimal-3.ensures.appended
    c.append_decimal-3.ensures.short other in
    let end : IsLonger text 68 c.append-4.new.self =
    longer text c.append_decimal-3.new.out c.append-4.new.self _ 67 1 c.append-4.ensures (search rules) octets in
    end.0
