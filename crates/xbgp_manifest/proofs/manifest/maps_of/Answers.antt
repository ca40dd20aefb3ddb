use Rattle.xb_fields.proofs.OutcomeLemmas.{gives-fault, gives-error}
use Rattle.xb_fields.specs.Outcomes.{field_fault}
use Rattle.xbgp_manifest.specs.Manifests.{maps_of}
use Rattle.xbgp_manifest.proofs.ManifestLemmas.{length-maps}
use Rattle.xbgp_manifest.proofs.manifest.maps_of.Goals as goal

pub returns-in_err-check_keys : goal.returns-in_err-check_keys
unfolding maps_of
returns-in_err-check_keys c = gives-fault c.from_residual.result _ c.in_err-check_keys.field-0.0 c.from_residual.ensures.1 (rw (← c.in_err-check_keys.ensures))

pub returns-in_err-required_number : goal.returns-in_err-required_number
unfolding maps_of
returns-in_err-required_number c =
    gives-fault c.from_residual-in_err-required_number.result _ c.in_err-required_number.field-0.0 c.from_residual-in_err-required_number.ensures.1
    (rw (← c.in_ok-check_keys.ensures, ← c.in_err-required_number.ensures.value))

pub returns-in_err-optional_list : goal.returns-in_err-optional_list
unfolding maps_of
returns-in_err-optional_list c =
    gives-fault c.from_residual-in_err-optional_list.result _ c.in_err-optional_list.field-0.0 c.from_residual-in_err-optional_list.ensures.1
    (rw (← c.in_ok-check_keys.ensures, ← c.in_ok-required_number.ensures.value, ← c.in_err-optional_list.ensures.values))

pub returns-in_err-maps : goal.returns-in_err-maps
unfolding maps_of
returns-in_err-maps c =
    gives-error field_fault c.from_residual-in_err-maps.result c.in_err-maps.field-0.0 _ _ c.from_residual-in_err-maps.ensures.1 c.in_err-maps.ensures
    (λ bad below. rw (← c.in_ok-check_keys.ensures, ← c.in_ok-required_number.ensures.value, ← c.in_ok-optional_list.ensures.values, below))

pub check_room-requires : goal.check_room-requires
check_room-requires c = length-maps c.in_ok-optional_list.field-0.now _ c.in_ok-optional_list.ensures.count c.in_ok-maps.ensures

pub returns-in_err-check_room : goal.returns-in_err-check_room
unfolding maps_of
returns-in_err-check_room c =
    gives-fault c.from_residual-in_err-check_room.result _ c.in_err-check_room.field-0.0 c.from_residual-in_err-check_room.ensures.1
    (rw (← c.in_ok-check_keys.ensures, ← c.in_ok-required_number.ensures.value, ← c.in_ok-optional_list.ensures.values, c.in_ok-maps.ensures, ← c.in_err-check_room.ensures))

pub returns : goal.returns
unfolding maps_of
returns c =
    rw (← c.in_ok-check_keys.ensures, ← c.in_ok-required_number.ensures.value, ← c.in_ok-optional_list.ensures.values, c.in_ok-maps.ensures, ← c.in_ok-check_room.ensures)
