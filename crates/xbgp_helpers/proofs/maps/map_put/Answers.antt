use Rattle.std.proofs.Common.{◌∙◌, ap}
use Rattle.bpf_mem.specs.Memory.{octets_at}
use Rattle.xbgp_helpers.proofs.MapsLemmas.{map_put-counted, map_put-no_value}
use Rattle.xbgp_helpers.proofs.maps.map_put.Goals as goal

pub returns-in_err-value-clause-maps : goal.returns-in_err-value-clause-maps
returns-in_err-value-clause-maps c =
    let a = c.args in
    let key = c.in_ok-key.ensures.value ∙ ap (octets_at a.memory.now a.key) c.from.ensures in
    let none = c.in_err-value.ensures.value ∙ ap (octets_at a.memory.now a.src) c.from-2.ensures in
    map_put-no_value a.maps.now a.map a.key a.src a.memory.now c.in_ok-shape.shape c.in_ok-key.key.now
    c.in_ok-shape.ensures.shape key none

pub returns-in-Done-clause-maps : goal.returns-in-Done-clause-maps
returns-in-Done-clause-maps c =
    let a = c.args in
    let key = c.in_ok-key.ensures.value ∙ ap (octets_at a.memory.now a.key) c.from.ensures in
    let value = c.in_ok-value.ensures.value ∙ ap (octets_at a.memory.now a.src) c.from-2.ensures in
    map_put-counted a.maps.now a.map a.key a.src a.memory.now c.in_ok-shape.shape c.in_ok-key.key.now
    c.in_ok-shape.ensures.shape key c.put.new.self c.in_ok-value.value.now c.put.result value c.put.ensures.answer
    c.put.ensures.after

pub returns-in-Full-clause-maps : goal.returns-in-Full-clause-maps
returns-in-Full-clause-maps c =
    let a = c.args in
    let key = c.in_ok-key.ensures.value ∙ ap (octets_at a.memory.now a.key) c.from.ensures in
    let value = c.in_ok-value.ensures.value ∙ ap (octets_at a.memory.now a.src) c.from-2.ensures in
    map_put-counted a.maps.now a.map a.key a.src a.memory.now c.in_ok-shape.shape c.in_ok-key.key.now
    c.in_ok-shape.ensures.shape key c.put.new.self c.in_ok-value.value.now c.put.result value c.put.ensures.answer
    c.put.ensures.after

pub returns-in-Budget-clause-maps : goal.returns-in-Budget-clause-maps
returns-in-Budget-clause-maps c =
    let a = c.args in
    let key = c.in_ok-key.ensures.value ∙ ap (octets_at a.memory.now a.key) c.from.ensures in
    let value = c.in_ok-value.ensures.value ∙ ap (octets_at a.memory.now a.src) c.from-2.ensures in
    map_put-counted a.maps.now a.map a.key a.src a.memory.now c.in_ok-shape.shape c.in_ok-key.key.now
    c.in_ok-shape.ensures.shape key c.put.new.self c.in_ok-value.value.now c.put.result value c.put.ensures.answer
    c.put.ensures.after
