-- Worked rows, by evaluation: routes that are received, and sections that are sent, in two octets an AS number.
use Rattle.std.proofs.Common.{◌≡◌, refl, ℕ, true, false, List, [], ◌++◌, Some, None}
use Rattle.std.specs.Prelude.{codes}
use Rattle.xb_words.specs.Cut.{cut}
use Rattle.xb_values.specs.Readers.{read_hex}
use Rattle.bgp_attr.specs.Routes.{canon, route_of}
use Rattle.bgp_path.specs.Widths.{wide_path, narrow_path, merge}
use Rattle.spk_native.specs.Export.{native_section}
use Rattle.spk_native.specs.Receipt.{inflow, narrow, wire}

abbrev octets : List ℕ → List ℕ
octets text = elim (read_hex text) [ None ↦ [] | Some s ↦ s ]

-- without codes 17 and 18 AS_PATH and AGGREGATOR are widened
widened :
    canon (inflow (route_of (octets (codes "400101004002040201fde9400304c0000201"))) false)
    ≡ octets (codes "4001010040020602010000fde9400304c0000201")
unfolding cut wide_path merge inflow
widened = refl

aggregator_widened :
    canon (inflow (route_of (octets (codes "400101004002040201fde9400304c0000201e0070600070a000002"))) false)
    ≡ octets (codes "4001010040020602010000fde9400304c0000201e00708000000070a000002")
unfolding cut wide_path merge inflow
aggregator_widened = refl

-- both codes count
joined :
    canon (inflow (route_of (octets (codes "400101004002060202fde95ba0400304c0000201c007065ba00a000002c0110602010003"
    ++ codes "0d40c0120800030d400a000001"))) false)
    ≡ octets (codes "4001010040020c02010000fde9020100030d40400304c0000201c0070800030d400a0000"
    ++ codes "01")
unfolding cut wide_path merge inflow
joined = refl

-- an AGGREGATOR of another AS than 23456 beside a good code 18: neither code counts
aggregated_since :
    canon (inflow (route_of (octets (codes "400101004002060202fde95ba0400304c0000201c0070600070a000002c0110602010003"
    ++ codes "0d40c0120800030d400a000001"))) false)
    ≡ octets (codes "4001010040020a02020000fde900005ba0400304c0000201c00708000000070a000002")
unfolding cut wide_path merge inflow
aggregated_since = refl

-- without a code 18 a good code 17 counts whatever AGGREGATOR says
code_17_alone :
    canon (inflow (route_of (octets (codes "400101004002060202fde95ba0400304c0000201c0070600070a000002c0110602010003"
    ++ codes "0d40"))) false)
    ≡ octets (codes "4001010040020c02010000fde9020100030d40400304c0000201c00708000000070a0000"
    ++ codes "02")
unfolding cut wide_path merge inflow
code_17_alone = refl

-- codes 17 and 18 with other flags do not count
bad_flags :
    canon (inflow (route_of (octets (codes "400101004002060202fde95ba0400304c0000201c007065ba00a00000280110602010003"
    ++ codes "0d4080120800030d400a000001"))) false)
    ≡ octets (codes "4001010040020a02020000fde900005ba0400304c0000201c0070800005ba00a000002")
unfolding cut wide_path merge inflow
bad_flags = refl

-- a code 18 of another length does not count
bad_length :
    canon (inflow (route_of (octets (codes "400101004002060202fde95ba0400304c0000201c0070600070a000002c0110602010003"
    ++ codes "0d40c0120700030d400a0000"))) false)
    ≡ octets (codes "4001010040020c02010000fde9020100030d40400304c0000201c00708000000070a0000"
    ++ codes "02")
unfolding cut wide_path merge inflow
bad_length = refl

-- in a session of four octets both codes are left out, and nothing else changes
in_wide :
    canon (inflow (route_of (octets (codes "4001010040020602010000fde9400304c0000201c01106020100030d40c0120800030d40"
    ++ codes "0a000001"))) true)
    ≡ octets (codes "4001010040020602010000fde9400304c0000201")
unfolding cut wide_path merge inflow
in_wide = refl

-- a section that two octets can say, and what it becomes if it is received again
narrow_stays :
    wire (octets (codes "4001010040020a02020000fde80000fde9400304c00002fe")) false
    ≡ octets (codes "400101004002060202fde8fde9400304c00002fe")
unfolding cut narrow_path narrow
narrow_stays = refl

narrow_stays_again :
    inflow (narrow (route_of (octets (codes "4001010040020a02020000fde80000fde9400304c00002fe")))) false
    ≡ route_of (octets (codes "4001010040020a02020000fde80000fde9400304c00002fe"))
unfolding cut wide_path narrow_path merge inflow narrow
narrow_stays_again = refl

-- a number that two octets cannot hold
path_beside :
    wire (octets (codes "4001010040020a02020000fde800030d40400304c00002fe")) false
    ≡ octets (codes "400101004002060202fde85ba0400304c00002fec0110a02020000fde800030d40")
unfolding cut narrow_path narrow
path_beside = refl

path_beside_again :
    inflow (narrow (route_of (octets (codes "4001010040020a02020000fde800030d40400304c00002fe")))) false
    ≡ route_of (octets (codes "4001010040020a02020000fde800030d40400304c00002fe"))
unfolding cut wide_path narrow_path merge inflow narrow
path_beside_again = refl

aggregator_beside :
    wire (octets (codes "4001010040020602010000fde8400304c00002fec0070800030d400a000001")) false
    ≡ octets (codes "400101004002040201fde8400304c00002fec007065ba00a000001c0120800030d400a00"
    ++ codes "0001")
unfolding cut narrow_path narrow
aggregator_beside = refl

aggregator_beside_again :
    inflow (narrow (route_of (octets (codes "4001010040020602010000fde8400304c00002fec0070800030d400a000001")))) false
    ≡ route_of (octets (codes "4001010040020602010000fde8400304c00002fec0070800030d400a000001"))
unfolding cut wide_path narrow_path merge inflow narrow
aggregator_beside_again = refl

both_beside :
    wire (octets (codes "4001010040020a010200030d400000fde8400304c00002fee00708ffffffff0a000001")) false
    ≡ octets (codes "4001010040020601025ba0fde8400304c00002fee007065ba00a000001c0110a01020003"
    ++ codes "0d400000fde8c01208ffffffff0a000001")
unfolding cut narrow_path narrow
both_beside = refl

both_beside_again :
    inflow
    (narrow (route_of (octets (codes "4001010040020a010200030d400000fde8400304c00002fee00708ffffffff0a000001"))))
    false
    ≡ route_of (octets (codes "4001010040020a010200030d400000fde8400304c00002fee00708ffffffff0a000001"))
unfolding cut wide_path narrow_path merge inflow narrow
both_beside_again = refl

empty_path :
    wire (octets (codes "40010100400200400304c00002fec00708000000070a000001")) false
    ≡ octets (codes "40010100400200400304c00002fec0070600070a000001")
unfolding cut narrow_path narrow
empty_path = refl

empty_path_again :
    inflow (narrow (route_of (octets (codes "40010100400200400304c00002fec00708000000070a000001")))) false
    ≡ route_of (octets (codes "40010100400200400304c00002fec00708000000070a000001"))
unfolding cut wide_path narrow_path merge inflow narrow
empty_path_again = refl

-- a peer is not sent a code 17, nor an unknown attribute that is not transitive
sent :
    native_section (route_of (octets (codes "40010100400200400304c0000201c01106020100030d40806301aac06401bb")))
    ≡ octets (codes "40010100400200400304c0000201c06401bb")
unfolding cut
sent = refl
