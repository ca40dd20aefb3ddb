use Rattle.test_tables.proofs.OwnersLemmas.{lives_interned, lives_shared}
use Rattle.test_tables.proofs.shared.another_route_has_another_record.Goals as goal

-- the record was interned, and got one more owner
pub release_two-requires : goal.release_two-requires
release_two-requires g c =
    lives_shared _ _ _ (lives_interned _ _ _ _ c.in_ok-other.ensures.ok) c.share.ensures.owner
